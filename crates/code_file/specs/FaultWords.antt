-- The faults of a code file in words, as messages have them, and their places.
use Rattle.std.specs.Prelude.{ℕ, List, codes}
use Rattle.code_file.specs.declared.fault.CodeFault.{CodeFault}
use Rattle.code_file.specs.declared.fault.CodeFault.TheVariants as fault

-- the words of a fault
abbrev pub words : CodeFault → List ℕ
words (fault.Short at) = codes "short"
words (fault.Magic at) = codes "magic"
words (fault.Version at) = codes "version"
words (fault.Field at) = codes "field"
words (fault.Opcode at) = codes "opcode"
words (fault.Jump at) = codes "jump"
words (fault.BackJump at) = codes "back jump"
words (fault.Depth at) = codes "depth"
words (fault.Cell at) = codes "cell"
words (fault.Counter at) = codes "counter"
words (fault.Row at) = codes "row"
words (fault.Extra at) = codes "extra"

-- its place
abbrev pub place : CodeFault → ℕ
place (fault.Short at) = at
place (fault.Magic at) = at
place (fault.Version at) = at
place (fault.Field at) = at
place (fault.Opcode at) = at
place (fault.Jump at) = at
place (fault.BackJump at) = at
place (fault.Depth at) = at
place (fault.Cell at) = at
place (fault.Counter at) = at
place (fault.Row at) = at
place (fault.Extra at) = at
