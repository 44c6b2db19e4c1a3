-- The laws of codes by the layout.
use Rattle.std.proofs.Common.{◌≡◌, sym, subst, ◌∙◌, ℕ, ◌<◌, List, [], ◌∷◌, length, Option, Some, None}
use Rattle.std.specs.Prelude.{slice_get}
use Rattle.std.proofs.lemmas.Option.{same_Some}
use Rattle.stack_ops.specs.declared.operation.Op.{Op}
use Rattle.stack_ops.specs.Code.{FunctionValue}
use Rattle.flow_graph.specs.Graph.{Graph}
use Rattle.stack_code.specs.Checked.{IsCodeOf, Marks}
use Rattle.stack_code.specs.Emits.{LaidOut, Carries, AreMarks}
use Rattle.stack_code.specs.Laws.{EmittedCodeFollows, LaidCodeIsEmitted, LaidCodePasses}
use Rattle.stack_code.specs.Laying.{starts}
use Rattle.stack_code.proofs.Aims.{well_aimed}
use Rattle.stack_code.proofs.KeptBlocks.{typed, targets_ahead}
use Rattle.stack_code.proofs.LaidLaws.{laid_out}
use Rattle.stack_code.proofs.LedBlocks.{all_led}
use Rattle.stack_code.proofs.Levels.{levels}
use Rattle.stack_code.proofs.Simulation.{emission}
use Rattle.stack_code.proofs.Unbroken.{LedTo, unbroken}

pub emitted_follows : EmittedCodeFollows
emitted_follows marks u c e made input turns walked run =
    let h = emission marks u c e (λ i k g b at there. well_aimed g (made i g at) k b there) input turns walked run in
    record { ran = h.0; comes = h.1; agrees = h.2 }

-- where each block of a graph begins, where the graph is there
abbrev starts_in : (ℕ → ℕ → List Op) → Option Graph → ℕ → ℕ
starts_in m None b = 0
starts_in m (Some g) b = starts m g b

pub laid_emits : LaidCodeIsEmitted
laid_emits marks u c unit are = record {
  main = unit.main;
  globals = unit.globals;
  start = λ i. starts_in (marks i) (slice_get u.graphs i);
  functions = λ i g at. (let f = unit.functions i g at in (f.0, f.1, carried i g f.0 at f.2));
  are_marks = are.are_marks;
  exit = are.exit;
}
  where
    carried : (i : ℕ) (g : Graph) (f : FunctionValue) → slice_get u.graphs i ≡ Some g → IsCodeOf (marks i) g f
        → Carries (starts_in (marks i) (slice_get u.graphs i)) (marks i) g f
    carried i g f at is = subst (λ o. Carries (starts_in (marks i) o) (marks i) g f) (sym at) (record {
      params = is.params;
      cells = is.cells;
      gives = is.gives;
      laid = subst (λ ops. LaidOut (starts (marks i) g) (marks i) g ops) (sym is.ops) (laid_out (marks i) g);
    })

marks_only : (f : FunctionValue) (os : List Op) → Marks f os → AreMarks os
marks_only f [] h = tt
marks_only f (o ∷ os) h = (h.0.mark, marks_only f os h.1)

pub laid_passes : LaidCodePasses
laid_passes marks u c unit i g f there here orderly marked deep =
    let h = unit.functions i g there in
    let is : IsCodeOf (marks i) g f = subst (λ k. IsCodeOf (marks i) g k) (same_Some h.0 f (sym h.1 ∙ here)) h.2 in
    unbroken c f (levels u g orderly.steady (marks i)) (typed u g (marks i) orderly marks c unit f is marked deep)
    (subst (λ (ops : List Op). (n : ℕ) → n < length ops → LedTo ops n) (sym is.ops)
    (all_led u g (marks i) orderly (λ a b. marks_only f (marks i a b) (marked a b))
    (targets_ahead u g (marks i) orderly marks c unit f is marked deep)))
