-- Sources that commands load and compile.
use Rattle.std.specs.Prelude.{ℕ, List, Result, Ok, Err}
use Rattle.cov_base.specs.declared.refusal.Refusal.TheVariants as refusal
use Rattle.stack_ops.specs.Code.{CodeValue}
use Rattle.stack_code.specs.declared.shape.EmitFault.TheVariants as emit_fault
use Rattle.source_graphs.specs.SourceGraphs.{RefusesSource}
use Rattle.source_code.specs.Renders.{Renders}
use Rattle.covered_code.specs.declared.covered.CodeFault.TheVariants as code_fault
use Rattle.covered_code.specs.declared.covered.Covered.{Covered}
use Rattle.covered_code.specs.RendersCovered.{RefusesCovered, IsCovered}
use Rattle.cov_answers.specs.declared.answers.End.{End}
use Rattle.cov_answers.specs.declared.answers.End.TheVariants as answer
use Rattle.cov_answers.specs.declared.answers.SourceFault.TheVariants as source_fault

-- A text is compiled to a code that counts, and its notes; or the fault stands for which it has none.
abbrev pub Compiles : List ℕ → ℕ → Result Covered End → Type 0
Compiles text limit (Ok covered) = IsCovered text limit covered
Compiles text limit (Err (answer.SourceRefused (source_fault.NotAccepted found))) =
    RefusesCovered text limit (refusal.Refused (code_fault.Source found))
Compiles text limit (Err (answer.SourceRefused (source_fault.TablesTooLarge n))) =
    RefusesCovered text limit (refusal.Refused (code_fault.Emit (emit_fault.TablesTooLarge n)))
Compiles text limit (Err answer.NoMemory) = Unit {0}
Compiles text limit (Err end) = ⊥

-- A text is compiled to a code that doesn't count; or the fault stands for which it has none.
abbrev pub CompilesPlain : List ℕ → Result CodeValue End → Type 0
CompilesPlain text (Ok code) = Renders text code
CompilesPlain text (Err (answer.SourceRefused (source_fault.NotAccepted found))) =
    RefusesSource text (refusal.Refused found)
CompilesPlain text (Err answer.NoMemory) = Unit {0}
CompilesPlain text (Err end) = ⊥
