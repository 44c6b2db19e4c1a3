-- Steps that came to a result as it is seen.
use Rattle.std.proofs.Common.{◌≡◌, inr, subst}
use Rattle.std.specs.Prelude.{Option, Result, Ok, Err}
use Rattle.cov_outside.specs.Outside.{Files}
use Rattle.cov_answers.specs.declared.answers.End.{End}
use Rattle.command_steps.specs.Steps.{Then, Comes}

-- what the others come to with what these steps made, both come to
pub comes_next : {X A B : Type 0} → (view : X → B) (first : Result A End → Type 0) (next : A → Result B End → Type 0)
    (a : A) (result : Result X End) → first (Ok a) → Comes view (next a) result → Comes view (Then first next) result
comes_next view first next a (Ok x) f n = (a, f, n)
comes_next view first next a (Err end) f n = inr (a, f, n)

-- the same where the others are of the files as they still are
pub comes_on : {X A B : Type 0} → (view : X → B) (files now : Option Files) (first : Result A End → Type 0)
    (next : Option Files → A → Result B End → Type 0) (a : A) (result : Result X End) → now ≡ files → first (Ok a)
    → Comes view (next now a) result → Comes view (Then first (next files)) result
comes_on view files now first next a result same f n =
    comes_next view first (next files) a result f (subst (λ fs. Comes view (next fs a) result) same n)
