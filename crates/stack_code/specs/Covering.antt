-- The modes of a code.
use Rattle.std.specs.Prelude.{Bool, true, false}
use Rattle.stack_code.specs.declared.shape.Mode.{Mode}
use Rattle.stack_code.specs.declared.shape.Mode.TheVariants as mode

-- a code of this mode counts what its runs do
abbrev pub is_covered : Mode → Bool
is_covered mode.Plain = false
is_covered mode.Covered = true
