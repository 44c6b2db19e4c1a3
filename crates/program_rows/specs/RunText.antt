-- What the run of a text is.
use Rattle.std.specs.Prelude.{◌≡◌, ℕ, List}
use Rattle.c_tree.specs.Typed.{Typed}
use Rattle.c_meaning.specs.Meaning.{meaning}
use Rattle.source_graphs.specs.SourceGraphs.{IsSourceOf}
use Rattle.stack_ops.specs.declared.endings.Outcome.{Outcome}

-- The output and the ending are those that the text means as a C source, on the input and with so many turns.
pub record IsRunOf (text : List ℕ) (turns : ℕ) (input output : List ℕ) (outcome : Outcome) : Type 0 where
  pub source : Typed
  pub is_source : IsSourceOf text source
  pub output_is : output ≡ (meaning source input turns).output
  pub ending : outcome ≡ (meaning source input turns).ending
