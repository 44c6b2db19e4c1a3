-- The faults of files of notes and data in words, as messages have them, and their places.
use Rattle.std.specs.Prelude.{ℕ, List, codes}
use Rattle.gcov_records.specs.declared.fault.FileFault.{FileFault}
use Rattle.gcov_records.specs.declared.fault.FileFault.TheVariants as fault

-- the words of a fault
abbrev pub words : FileFault → List ℕ
words (fault.Short at) = codes "short"
words (fault.Magic at) = codes "magic"
words (fault.Version at) = codes "version"
words (fault.Tag at) = codes "tag"
words (fault.Length at) = codes "length"
words (fault.Text at) = codes "text"
words (fault.Order at) = codes "order"
words (fault.Net at) = codes "net"
words (fault.Number at) = codes "number"
words (fault.Extra at) = codes "extra"

-- its place
abbrev pub place : FileFault → ℕ
place (fault.Short at) = at
place (fault.Magic at) = at
place (fault.Version at) = at
place (fault.Tag at) = at
place (fault.Length at) = at
place (fault.Text at) = at
place (fault.Order at) = at
place (fault.Net at) = at
place (fault.Number at) = at
place (fault.Extra at) = at
