-- Steps that came to a result.
use Rattle.std.proofs.Common.{◌≡◌, ◌⊎◌, inl, inr}
use Rattle.std.specs.Prelude.{Result, Ok, Err}
use Rattle.cov_answers.specs.declared.answers.End.{End}
use Rattle.command_steps.specs.Steps.{Then}

-- what the others come to with what these steps made, both come to
pub then_next : {A B : Type 0} → (first : Result A End → Type 0) (next : A → Result B End → Type 0) (a : A)
    (result : Result B End) → first (Ok a) → next a result → Then first next result
then_next first next a (Ok b) f n = (a, f, n)
then_next first next a (Err end) f n = inr (a, f, n)
