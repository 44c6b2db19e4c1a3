-- The outside where nothing fails.
use Rattle.std.specs.Prelude.{Some}
use Rattle.cov_outside.specs.Memory.{sure_files, sure_remaining, sure_wants, sure_written}
use Rattle.cov_outside.specs.declared.sure.SureSource.{SureSource}
use Rattle.cov_outside.specs.declared.sure.SureSink.{SureSink}
use Rattle.cov_outside.specs.declared.sure.SureFolder.{SureFolder}
use Rattle.cov_program.specs.Outside.{Outside}

-- all of it is told, and no fault was counted
abbrev pub sure_outside : SureSource → SureSink → SureFolder → Outside
sure_outside input out folder = record {
  files = Some (sure_files folder);
  input = Some (sure_remaining input);
  output = Some (sure_written out);
  folder_faults = 0;
  input_faults = 0;
  output_faults = 0;
  output_wants = sure_wants out;
}
