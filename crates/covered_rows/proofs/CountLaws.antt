-- The run of a code that renders a text counts what the text's walks pass.
use Rattle.std.proofs.Common.{◌≡◌, ℕ, List, ◌∙◌, subst, ap}
use Rattle.std.specs.Prelude.{slice_get}
use Rattle.cov_base.specs.Net.{NetValue}
use Rattle.cov_base.specs.Walks.{Walk}
use Rattle.cov_base.specs.declared.refusal.Refusal.TheVariants as refusal
use Rattle.stack_ops.specs.declared.endings.Outcome.{Outcome}
use Rattle.stack_ops.specs.Code.{CodeValue}
use Rattle.code_runs.specs.CodeRun.{Tally, Ran, CodeRun}
use Rattle.c_lower.specs.Lowered.{unit_of}
use Rattle.flow_graph.specs.Nets.{pruned}
use Rattle.flow_graph.specs.WalkRun.{IsClosed}
use Rattle.source_code.specs.Renders.{RunsAs}
use Rattle.stack_machine.specs.Machine.{MachineValue, Shows}
use Rattle.covered_code.specs.RendersCovered.{CountsWalks, CountsAs, RendersCovered, RefusesCovered}
use Rattle.covered_code.specs.RendersCovered as covered
use Rattle.covered_rows.specs.CountText.{tally_of, IsCountedRun}

-- what a tally with the same counters and words has counted
same_counts : (limit : ℕ) (net : NetValue) (i : ℕ) (walks : List Walk) (t : Tally) (m : MachineValue)
    → m.counters ≡ t.counters → m.words ≡ t.words → CountsWalks limit net i walks t
    → CountsWalks limit net i walks (tally_of m)
same_counts limit net i walks t m cs ws h = record {
  counters = ap (λ (l : List (List ℕ)). slice_get l i) cs ∙ h.counters;
  primes = h.primes;
  primes_are = h.primes_are;
  words = ap (λ (l : List (List ℕ)). slice_get l i) ws ∙ h.words;
}

-- what each run of the code shows is the run of the text
pub counts : {text : List ℕ} {limit : ℕ} {code : CodeValue} {input : List ℕ} {turns : ℕ} {answer : Outcome}
    {m : MachineValue} → RendersCovered text limit code
    → ((ran : Ran) → CodeRun code input turns ran → Shows ran answer m)
    → IsCountedRun text limit turns input answer m
counts {limit = limit} {input = input} {turns = turns} {m = m} r only =
    let same : RunsAs r.source _ input turns = r.runs input turns in
    let shown = only same.ran same.comes in
    let tells : CountsAs limit (pruned (unit_of r.source)) _ input turns = r.counts input turns in
    let told = only tells.ran tells.comes in
    record {
      source = r.source;
      is_source = r.is_source;
      output_is = shown.output ∙ same.output;
      ending = shown.ending ∙ same.ending;
      walked = tells.walked;
      walks = tells.walks;
      counted = λ closed i g at.
          same_counts limit _ i tells.walked.walks tells.ran.tally m told.counters told.words
          (tells.counted (subst IsClosed told.ending closed) i g at);
    }

-- memory ran out
pub memory : {text : List ℕ} {limit : ℕ} → RefusesCovered text limit refusal.NoMemory
memory = covered.no_memory
