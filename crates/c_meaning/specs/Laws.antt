-- Laws of the meaning.
use Rattle.std.specs.Prelude.{◌≡◌, ◌≢◌, ℕ, ◌+◌, List}
use Rattle.c_tree.specs.Typed.{Typed}
use Rattle.stack_ops.specs.declared.endings.Outcome.TheVariants as outcome
use Rattle.c_meaning.specs.Meaning.{meaning}

-- A run that isn't out of turns is the same with more turns.
abbrev pub SpareTurns : Type 0
SpareTurns =
    (source : Typed) (input : List ℕ) (turns more : ℕ) → (meaning source input turns).ending ≢ outcome.OutOfTurns
    → meaning source input (turns + more) ≡ meaning source input turns
