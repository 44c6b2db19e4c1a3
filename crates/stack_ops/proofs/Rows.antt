-- Worked rows of the table of operations.
use Rattle.std.proofs.Common.{◌≡◌, ℤ, pos, negsuc, List, [], ◌∷◌, refl}
use Rattle.int_ops.specs.declared.types.IntType.TheVariants as type
use Rattle.stack_ops.specs.declared.endings.Trap.TheVariants as trap
use Rattle.stack_ops.specs.declared.operation.Op.TheVariants as op
use Rattle.stack_ops.specs.Effect.{State, Goes, Traps, Stuck, effect}

-- these operands, the top first, three cells, two globals, the byte 97 to be read, and room for one byte
abbrev on : List ℤ → State
on operands =
    record { operands = operands; cells = pos 10 ∷ pos 20 ∷ pos 30 ∷ []; globals = pos 50 ∷ pos 60 ∷ []; input = 97 ∷ []; output = []; limit = 1 }

effect-Push : effect (op.Push (pos 5)) (on []) ≡ Goes (on (pos 5 ∷ []))
effect-Push = refl

effect-Over : effect op.Over (on (pos 6 ∷ pos 5 ∷ [])) ≡ Goes (on (pos 5 ∷ pos 6 ∷ pos 5 ∷ []))
effect-Over = refl

-- one operand is no two
effect-Swap : effect op.Swap (on (pos 5 ∷ [])) ≡ Stuck
effect-Swap = refl

effect-Convert : effect (op.Convert type.UnsignedChar) (on (negsuc 0 ∷ [])) ≡ Goes (on (pos 255 ∷ []))
effect-Convert = refl

effect-LoadGlobal : effect (op.LoadGlobal 1) (on []) ≡ Goes (on (pos 60 ∷ []))
effect-LoadGlobal = refl

-- there is no third global
effect-LoadGlobal-outside : effect (op.LoadGlobal 2) (on []) ≡ Stuck
effect-LoadGlobal-outside = refl

effect-CheckIndex : effect (op.CheckIndex 3 9) (on (pos 2 ∷ [])) ≡ Goes (on (pos 2 ∷ []))
effect-CheckIndex = refl

effect-CheckIndex-length : effect (op.CheckIndex 3 9) (on (pos 3 ∷ [])) ≡ Traps trap.BadIndex 9
effect-CheckIndex-length = refl

-- the index 1 of an array that begins at cell 1 is cell 2
effect-StoreLocalAt : effect (op.StoreLocalAt 1 2) (on (pos 7 ∷ pos 1 ∷ [])) ≡ Goes (record (on (pos 7 ∷ [])) { cells = pos 10 ∷ pos 20 ∷ pos 7 ∷ [] })
effect-StoreLocalAt = refl

effect-LoadLocalAt-below : effect (op.LoadLocalAt 1 2) (on (negsuc 0 ∷ [])) ≡ Traps trap.BadIndex 0
effect-LoadLocalAt-below = refl

-- 3 - 5 is -2
effect-Sub : effect (op.Sub type.Int 9) (on (pos 5 ∷ pos 3 ∷ [])) ≡ Goes (on (negsuc 1 ∷ []))
effect-Sub = refl

effect-Div-zero : effect (op.Div type.Int 9) (on (pos 0 ∷ pos 3 ∷ [])) ≡ Traps trap.DivideByZero 9
effect-Div-zero = refl

effect-GetChar : effect op.GetChar (on []) ≡ Goes (record (on (pos 97 ∷ [])) { input = [] })
effect-GetChar = refl

effect-GetChar-end : effect op.GetChar (record (on []) { input = [] }) ≡ Goes (record (on (negsuc 0 ∷ [])) { input = [] })
effect-GetChar-end = refl

effect-PutChar : effect (op.PutChar 4) (on (pos 321 ∷ [])) ≡ Goes (record (on (pos 65 ∷ [])) { output = 65 ∷ [] })
effect-PutChar = refl

-- -1 modulo 256 is 255
effect-PutChar-below : effect (op.PutChar 4) (on (negsuc 0 ∷ [])) ≡ Goes (record (on (pos 255 ∷ [])) { output = 255 ∷ [] })
effect-PutChar-below = refl

effect-PutChar-full : effect (op.PutChar 4) (record (on (pos 321 ∷ [])) { output = 65 ∷ [] }) ≡ Traps trap.OutputLimit 4
effect-PutChar-full = refl
