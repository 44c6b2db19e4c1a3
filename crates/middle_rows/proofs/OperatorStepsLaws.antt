-- What one step of an operator on two operands says of the operator.
use Rattle.std.proofs.Common.{◌≡◌, ℕ, ℤ, to_z, of_z, List, [], ◌∷◌, Ok, Err, refl, sym, ap, ◌∙◌, arith}
use Rattle.std.specs.Int.{w128}
use Rattle.std.proofs.lemmas.Int.{ints}
use Rattle.int_ops.specs.declared.types.IntType.{IntType}
use Rattle.int_ops.specs.declared.operators.BinOp.{BinOp}
use Rattle.int_ops.specs.declared.operators.BinOp.TheVariants as bin_op
use Rattle.int_ops.specs.Apply.{Answer, binary}
use Rattle.int_ops.specs.Ranges.{IsNumber}
use Rattle.stack_ops.specs.declared.endings.Trap.{Trap}
use Rattle.stack_ops.specs.declared.operation.Op.{Op}
use Rattle.stack_ops.specs.Effect.{State, Goes, Traps, answers, on_two, row, effect}
use Rattle.middle_rows.specs.OperatorSteps.{operation, with_its_trap}

-- a number of the machine that is held at 128 bits is itself
pub held : (n : ℤ) → IsNumber n → to_z w128 (of_z w128 n) ≡ n
held n h = omega (arith, ints)

-- an operator's operation is its row of the table
on_both : (o : BinOp) (t : IntType) (operands : List ℤ) (s : State) → row (operation o t) operands s ≡ on_two (binary o t) 0 operands s
on_both bin_op.Mul t operands s = refl
on_both bin_op.Div t operands s = refl
on_both bin_op.Rem t operands s = refl
on_both bin_op.Add t operands s = refl
on_both bin_op.Sub t operands s = refl
on_both bin_op.Shl t operands s = refl
on_both bin_op.Shr t operands s = refl
on_both bin_op.Less t operands s = refl
on_both bin_op.Greater t operands s = refl
on_both bin_op.LessEqual t operands s = refl
on_both bin_op.GreaterEqual t operands s = refl
on_both bin_op.Equal t operands s = refl
on_both bin_op.NotEqual t operands s = refl
on_both bin_op.And t operands s = refl
on_both bin_op.Xor t operands s = refl
on_both bin_op.Or t operands s = refl

-- the step is that of the operator's answer
stepped : (p : Op) (o : BinOp) (t : IntType) (s : State) {left right : ℤ} → p ≡ operation o t → s.operands ≡ right ∷ left ∷ []
    → effect p s ≡ answers (binary o t left right) 0 [] s
stepped p o t s e f =
    ap (λ p. effect p s) e ∙ (on_both o t s.operands s ∙ ap (λ operands. on_two (binary o t) 0 operands s) f)

given : (answer : Answer) (s : State) {new : State} {n : ℤ} {rest : List ℤ} → answers answer 0 [] s ≡ Goes new → new.operands ≡ n ∷ rest
    → with_its_trap answer ≡ Ok n
given (Ok m) s e f = cc
given (Err why) s e f = cc

stopped : (answer : Answer) (s : State) {why : Trap} {line : ℕ} → answers answer 0 [] s ≡ Traps why line → with_its_trap answer ≡ Err why
stopped (Ok m) s e = cc
stopped (Err other) s e = cc

-- where the run goes on, the top is the operator's number
pub gave : (p : Op) (o : BinOp) (t : IntType) (s : State) {left right n : ℤ} {new : State} {rest : List ℤ} → p ≡ operation o t
    → s.operands ≡ right ∷ left ∷ [] → effect p s ≡ Goes new → new.operands ≡ n ∷ rest → with_its_trap (binary o t left right) ≡ Ok n
gave p o t s {left = left} {right = right} e f g h = given (binary o t left right) s (sym (stepped p o t s e f) ∙ g) h

-- where it traps, the trap is the operator's
pub trapped : (p : Op) (o : BinOp) (t : IntType) (s : State) {left right : ℤ} {why : Trap} {line : ℕ} → p ≡ operation o t
    → s.operands ≡ right ∷ left ∷ [] → effect p s ≡ Traps why line → with_its_trap (binary o t left right) ≡ Err why
trapped p o t s {left = left} {right = right} e f g = stopped (binary o t left right) s (sym (stepped p o t s e f) ∙ g)
