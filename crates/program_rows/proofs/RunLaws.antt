-- The run of a code that renders a text is what the text means.
use Rattle.std.proofs.Common.{ℕ, List, ◌∙◌}
use Rattle.cov_base.specs.declared.refusal.Refusal.TheVariants as refusal
use Rattle.stack_ops.specs.declared.endings.Outcome.{Outcome}
use Rattle.stack_ops.specs.Code.{CodeValue}
use Rattle.code_runs.specs.CodeRun.{Ran, CodeRun}
use Rattle.source_graphs.specs.SourceGraphs.{RefusesSource}
use Rattle.source_code.specs.Renders.{Renders, RunsAs}
use Rattle.stack_machine.specs.Machine.{MachineValue, Shows}
use Rattle.program_rows.specs.RunText.{IsRunOf}

-- what each run of the code shows is the run of the text
pub runs : {text : List ℕ} {code : CodeValue} {input : List ℕ} {turns : ℕ} {answer : Outcome} {m : MachineValue}
    → Renders text code → ((ran : Ran) → CodeRun code input turns ran → Shows ran answer m)
    → IsRunOf text turns input m.output answer
runs {input = input} {turns = turns} r only =
    let same : RunsAs r.source _ input turns = r.runs input turns in
    let shown = only same.ran same.comes in
    record {
      source = r.source;
      is_source = r.is_source;
      output_is = shown.output ∙ same.output;
      ending = shown.ending ∙ same.ending;
    }

-- memory ran out
pub memory : {text : List ℕ} → RefusesSource text refusal.NoMemory
memory = RefusesSource.no_memory
