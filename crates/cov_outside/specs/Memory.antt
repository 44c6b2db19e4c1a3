-- What the objects in memory say of their bytes, files and faults.
use Rattle.std.specs.Prelude.{ℕ, List, Option}
use Rattle.cov_outside.specs.Stores.{CallLog, last_file}
use Rattle.cov_outside.specs.declared.memory.MemSource.{MemSource}
use Rattle.cov_outside.specs.declared.memory.MemSink.{MemSink}
use Rattle.cov_outside.specs.declared.memory.MemFolder.{MemFolder}
use Rattle.cov_outside.specs.declared.sure.SureSource.{SureSource}
use Rattle.cov_outside.specs.declared.sure.SureSink.{SureSink}
use Rattle.cov_outside.specs.declared.sure.SureFolder.{SureFolder}

-- the bytes that no read took yet
abbrev pub source_remaining : MemSource → List ℕ
source_remaining m = m.remaining

-- the source's calls, with their faults
abbrev pub source_log : MemSource → CallLog
source_log m = m.calls

-- the bytes written
abbrev pub sink_written : MemSink → List ℕ
sink_written m = m.written

-- the sink's calls, with their faults
abbrev pub sink_log : MemSink → CallLog
sink_log m = m.calls

-- how often memory was wanting
abbrev pub sink_wants : MemSink → ℕ
sink_wants m = m.wants

-- the files by name
abbrev pub folder_files : MemFolder → List ℕ → Option (List ℕ)
folder_files m = last_file m.files

-- the folder's calls, with their faults
abbrev pub folder_log : MemFolder → CallLog
folder_log m = m.calls

-- the bytes that no read took yet
abbrev pub sure_remaining : SureSource → List ℕ
sure_remaining s = s.remaining

-- the bytes written
abbrev pub sure_written : SureSink → List ℕ
sure_written s = s.written

-- how often memory was wanting
abbrev pub sure_wants : SureSink → ℕ
sure_wants s = s.wants

-- the files by name
abbrev pub sure_files : SureFolder → List ℕ → Option (List ℕ)
sure_files s = last_file s.files
