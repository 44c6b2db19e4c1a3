-- The places that faults tell.
use Rattle.std.specs.Prelude.{ℕ}
use Rattle.gcov_records.specs.declared.fault.FileFault.{FileFault}
use Rattle.gcov_records.specs.declared.fault.FileFault.TheVariants as fault

-- the place of a fault
abbrev pub place_of : FileFault → ℕ
place_of (fault.Short n) = n
place_of (fault.Magic n) = n
place_of (fault.Version n) = n
place_of (fault.Tag n) = n
place_of (fault.Length n) = n
place_of (fault.Text n) = n
place_of (fault.Order n) = n
place_of (fault.Net n) = n
place_of (fault.Number n) = n
place_of (fault.Extra n) = n
