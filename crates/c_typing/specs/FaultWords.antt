-- The faults of names and types in words.
use Rattle.std.specs.Prelude.{ℕ, List, codes}
use Rattle.c_typing.specs.declared.fault.TypeFault.{TypeFault}
use Rattle.c_typing.specs.declared.fault.TypeFault.TheVariants as fault

-- the words of a fault, as messages have them
abbrev pub words : TypeFault → List ℕ
words (fault.Unknown place) = codes "unknown"
words (fault.Redeclared place) = codes "redeclared"
words (fault.NoBody place) = codes "no body"
words (fault.ArgCount place) = codes "arg count"
words (fault.NotAFunction place) = codes "not a function"
words (fault.NotAnArray place) = codes "not an array"
words (fault.NotAVariable place) = codes "not a variable"
words (fault.ArrayValue place) = codes "array value"
words (fault.VoidValue place) = codes "void value"
words (fault.BadCase place) = codes "bad case"
words (fault.NotConstant place) = codes "not constant"
words (fault.TwiceCase place) = codes "twice case"
words (fault.OutsideLoop place) = codes "outside loop"
words (fault.ArraySize place) = codes "array size"
words (fault.TooManyParameters place) = codes "too many parameters"
words (fault.NoMain place) = codes "no main"

-- the place of a fault
abbrev pub place : TypeFault → ℕ
place (fault.Unknown p) = p
place (fault.Redeclared p) = p
place (fault.NoBody p) = p
place (fault.ArgCount p) = p
place (fault.NotAFunction p) = p
place (fault.NotAnArray p) = p
place (fault.NotAVariable p) = p
place (fault.ArrayValue p) = p
place (fault.VoidValue p) = p
place (fault.BadCase p) = p
place (fault.NotConstant p) = p
place (fault.TwiceCase p) = p
place (fault.OutsideLoop p) = p
place (fault.ArraySize p) = p
place (fault.TooManyParameters p) = p
place (fault.NoMain p) = p
