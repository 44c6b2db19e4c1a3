-- What a run leaves.
use Rattle.std.proofs.Common.{◌≡◌, sym, ap, ap₂, ◌∙◌, ℕ, List, ◌++◌, None, Ok, Err}
use Rattle.cov_base.specs.declared.refusal.Refusal.{Refusal}
use Rattle.cov_base.specs.declared.refusal.Refusal.TheVariants as refusal
use Rattle.stack_ops.specs.declared.endings.Outcome.{Outcome}
use Rattle.stack_ops.specs.Code.{CodeValue}
use Rattle.code_runs.specs.CodeRun.{Ran}
use Rattle.stack_machine.specs.Machine.{MachineValue, Shows}
use Rattle.gcda_format.specs.Data.{DataValue}
use Rattle.run_merge.specs.declared.merging.MergeFault.{MergeFault}
use Rattle.run_counts.specs.Texts.{is_closed, run_text}
use Rattle.run_counts.specs.Counts.{data_of, counts_of}
use Rattle.run_counts.specs.Runs.{fault_where, added_where, MergesWhere, Tells}

-- the data of a machine are those of the run that it shows
pub data_is : (c : CodeValue) (ran : Ran) (m : MachineValue) (ending : Outcome) → m.code ≡ c → Shows ran ending m
    → data_of m.code m.counters m.words ≡ counts_of c ran.tally
data_is c ran m ending code s =
    ap (λ (x : CodeValue). data_of x m.counters m.words) code
    ∙ ap₂ (λ (cs ws : List (List ℕ)). data_of c cs ws) s.counters s.words

-- a run that was merged where it is closed, and whose text stands behind that before
pub tells_ok : (c : CodeValue) (name : List ℕ) (ran : Ran) (m : MachineValue) (ending : Outcome) (old new : DataValue)
    (before text after : List ℕ) → m.code ≡ c → Shows ran ending m
    → fault_where (is_closed ending) old (data_of m.code m.counters m.words) ≡ None
    → new ≡ added_where (is_closed ending) old (data_of m.code m.counters m.words)
    → text ≡ run_text name ending m.output → after ≡ before ++ text
    → Tells c name ran (record { counts = old; text = before }) (record { counts = new; text = after }) (Ok ending)
tells_ok c name ran m ending old new before text after code s none new_is text_is after_is =
    let same = data_is c ran m ending code s in
    let counts : new ≡ added_where (is_closed ran.ending) old (counts_of c ran.tally) =
    new_is ∙ ap₂ (λ (e : Outcome) (d : DataValue). added_where (is_closed e) old d) s.ending same in
    let texts : after ≡ before ++ run_text name ran.ending ran.output =
    after_is ∙ ap (λ (t : List ℕ). before ++ t) (text_is
    ∙ ap₂ (λ (e : Outcome) (o : List ℕ). run_text name e o) s.ending s.output) in (
      s.ending,
      sym (ap₂ (λ (e : Outcome) (d : DataValue). fault_where (is_closed e) old d) s.ending same) ∙ none,
      ap₂ (λ (d : DataValue) (t : List ℕ). record { counts = d; text = t }) counts texts,
    )

-- a run that couldn't be merged
pub tells_err : (c : CodeValue) (name : List ℕ) (ran : Ran) (m : MachineValue) (ending : Outcome) (old new : DataValue)
    (before after : List ℕ) (why : Refusal MergeFault) → m.code ≡ c → Shows ran ending m
    → MergesWhere {T = Unit {0}} (is_closed ending) old (data_of m.code m.counters m.words) new (Err why)
    → after ≡ before
    → Tells c name ran (record { counts = old; text = before }) (record { counts = new; text = after }) (Err why)
tells_err c name ran m ending old new before after (refusal.Refused fault) code s h same = (
  sym (ap₂ (λ (e : Outcome) (d : DataValue). fault_where (is_closed e) old d) s.ending
      (data_is c ran m ending code s)) ∙ h.0,
  ap₂ (λ (d : DataValue) (t : List ℕ). record { counts = d; text = t }) h.1 same,
)
tells_err c name ran m ending old new before after refusal.NoMemory code s h same =
    ap₂ (λ (d : DataValue) (t : List ℕ). record { counts = d; text = t }) h same
