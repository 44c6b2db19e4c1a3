-- The pruned graphs of a sound source that lowering and pruning don't refuse are within the limits of a code.
use Rattle.std.proofs.Common.{◌≡◌, refl, subst, ℕ, zero, suc, ◌+◌, ◌-◌, ◌≤◌, List, [], ◌∷◌}
use Rattle.std.proofs.Common.{true, false, length, Some, None, slice_get, ltb-false}
use Rattle.std.proofs.lemmas.Option.{same_Some, none-some, slice_get_within, get_or_from_slice_get}
use Rattle.cov_base.proofs.NetLaws.{option_or-None, cond-None}
use Rattle.cov_base.specs.Limits.{parameter_limit}
use Rattle.code_runs.specs.Limits.{cell_limit}
use Rattle.c_tree.specs.Typed.{TypedFunction, Typed}
use Rattle.c_tree.specs.Sound.{Each, Sound}
use Rattle.stack_ops.specs.declared.operation.Op.{Op}
use Rattle.stack_ops.specs.declared.operation.Op.TheVariants as op
use Rattle.stack_ops.specs.Shapes.{takes, gives, is_step, HasNumber}
use Rattle.code_runs.specs.CodeChecks.{is_number, number_there}
use Rattle.flow_graph.specs.Graph.{Block, Graph}
use Rattle.flow_graph.specs.Nets.{pruned_graph, pruned}
use Rattle.fake_arcs.specs.Size.{size_fault, graphs_fault}
use Rattle.fake_arcs.specs.Tidy.{IsTidy}
use Rattle.fake_arcs.proofs.Tidied.{graphs_tidy}
use Rattle.c_lower.specs.Lowered.{graph_of, unit_of}
use Rattle.c_lower.specs.Refusals.{lower_fault, globals_fault, frames_fault, frame_fault}
use Rattle.lower_agrees.proofs.Calls.{graph_found}
use Rattle.prune_agrees.proofs.Made.{lowered_made}
use Rattle.operand_depths.specs.Depths.{Leaves}
use Rattle.operand_depths.proofs.Pruned.{pruned_steady}
use Rattle.prune_agrees.proofs.Made.{function_made}
use Rattle.orderly_units.specs.Laws.{HasNumbers, IsWithin, LimitsHold}
use Rattle.orderly_units.proofs.CaseNumbers.{told_number, of_type}
use Rattle.orderly_units.proofs.OrderlySources.{of_function, sound_function, well}
use Rattle.orderly_units.proofs.PrunedGraphs.{pruned_numbers}

-- what each member has at its place, each has
each_from : {A : Type 0} (P : A → Type 0) (xs : List A) → ((k : ℕ) (x : A) → slice_get xs k ≡ Some x → P x) → Each P xs
each_from P [] h = tt
each_from P (x ∷ xs) h = (h 0 x refl, each_from P xs (λ k. h (suc k)))

-- no frame is too large
frame_within : (k : ℕ) (fs : List TypedFunction) → frames_fault k fs ≡ None → (i : ℕ) (f : TypedFunction)
    → slice_get fs i ≡ Some f → f.cells ≤ cell_limit
frame_within k [] e i f at = absurd (none-some f at)
frame_within k (g ∷ fs) e zero f at =
    let both = option_or-None (frame_fault k g) (frames_fault (suc k) fs) e in
    subst (λ (f : TypedFunction). f.cells ≤ cell_limit) (same_Some g f at)
    (ltb-false cell_limit g.cells (cond-None _ _ both.0))
frame_within k (g ∷ fs) e (suc i) f at =
    frame_within (suc k) fs (option_or-None (frame_fault k g) (frames_fault (suc k) fs) e).1 i f at

-- the number of an operation that acts on the lists alone
step_number : (o : Op) → is_step o ≡ true → HasNumber o → number_there o ≡ true
step_number (op.Push n) step h = told_number n h
step_number (op.CaseJump n to) step h = absurd (let never : false ≡ true = step in cc)
step_number _ step h = refl

leaves_numbers : (globals cells depth : ℕ) (ops : List Op) (after : ℕ) → Leaves globals cells depth ops after
    → Each (λ o. number_there o ≡ true) ops
leaves_numbers globals cells depth [] after h = tt
leaves_numbers globals cells depth (o ∷ ops) after h =
    (step_number o h.0.step h.0.number, leaves_numbers globals cells (depth - takes o + gives o) ops after h.1)

module _ (source : Typed) (sound : Sound source) (lowers : lower_fault source ≡ None)
    (fits : size_fault (unit_of source) ≡ None) where
  cells_within : (i : ℕ) (f : TypedFunction) → slice_get source.functions i ≡ Some f → f.cells ≤ cell_limit
  cells_within =
      frame_within 0 source.functions
      (option_or-None (globals_fault (length source.globals)) (frames_fault 0 source.functions) lowers).1

  tidy : (i : ℕ) (g : Graph) → slice_get (pruned (unit_of source)).graphs i ≡ Some g → IsTidy g
  tidy i g at =
      let gs : List Graph = (pruned (unit_of source)).graphs in
      let each = graphs_tidy 0 (unit_of source).graphs
      (option_or-None (graphs_fault 0 (unit_of source).graphs) _ fits).0 (lowered_made source sound) in
      subst IsTidy (get_or_from_slice_get gs i g g at) (each i g (slice_get_within gs i g at))

  numbers_within : (i : ℕ) (f : TypedFunction) → slice_get source.functions i ≡ Some f → (k : ℕ) (b : Block)
      → slice_get (pruned_graph (graph_of f)).blocks k ≡ Some b → HasNumbers b
  numbers_within i f at k b there =
      let steady = pruned_steady source sound (graph_of f)
      (record { function = i; there = graph_found source.functions i f at }) in
      let runs = steady.blocks k b there in record {
        operations = leaves_numbers _ _ _ b.ops runs.after runs.operations;
        cases = pruned_numbers (graph_of f) (function_made source sound i f at) (well source sound i f at) k b there;
      }

  graph_within : (i : ℕ) (g : Graph) → slice_get (pruned (unit_of source)).graphs i ≡ Some g → IsWithin g
  graph_within i g at =
      let f = of_function source sound i g at in
      let good = tidy i g at in record {
        params = subst (λ (g : Graph). g.params ≤ parameter_limit) f.same
            (sound_function source sound i f.text f.there).params;
        cells = subst (λ (g : Graph). g.cells ≤ cell_limit) f.same (cells_within i f.text f.there);
        few = good.few;
        arcs = good.arcs;
        numbers = subst (λ (g : Graph). (k : ℕ) (b : Block) → slice_get g.blocks k ≡ Some b → HasNumbers b) f.same
            (numbers_within i f.text f.there);
      }

  pub source_within : LimitsHold (pruned (unit_of source))
  source_within = record {
    globals = ltb-false _ _ (cond-None _ _ (option_or-None (globals_fault (length source.globals))
        (frames_fault 0 source.functions) lowers).0);
    numbers = each_from (λ n. is_number n ≡ true) source.globals
        (λ k n at. of_type (sound.global_types k) n (sound.globals k n at));
    size = ltb-false _ _ (cond-None _ _ (option_or-None (graphs_fault 0 (unit_of source).graphs) _ fits).1);
    each = graph_within;
  }
