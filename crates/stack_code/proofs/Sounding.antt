-- The code of an orderly unit is sound.
use Rattle.std.proofs.Common.{◌≡◌, sym, ap, subst, ◌∙◌, ℕ, ◌<◌, List, length, Some, arith}
use Rattle.std.specs.Prelude.{slice_get}
use Rattle.std.proofs.lemmas.Option.{same_Some, slice_get_within}
use Rattle.stack_ops.specs.declared.operation.Op.{Op}
use Rattle.stack_ops.specs.Code.{FunctionValue, CodeValue}
use Rattle.code_runs.specs.Sound.{Kept}
use Rattle.flow_graph.specs.Graph.{GraphUnit}
use Rattle.stack_code.specs.Checked.{IsCodeOf, IsUnitCode}
use Rattle.stack_code.specs.Laws.{SuitsUnit, LaidCodeIsSound, IsCounted}
use Rattle.stack_code.specs.Orderly.{IsOrderly, IsOrderlyUnit, IsDeepEnough}
use Rattle.stack_code.proofs.Deep.{counted_enough}
use Rattle.stack_code.proofs.KeptBlocks.{typed}
use Rattle.stack_code.proofs.Levels.{levels, there_is}

function_kept : (marks : ℕ → ℕ → ℕ → List Op) (u : GraphUnit) (c : CodeValue) → IsUnitCode marks u c
    → IsOrderlyUnit u → SuitsUnit marks u c → (i : ℕ) (f : FunctionValue) → slice_get c.functions i ≡ Some f → Kept c f
function_kept marks u c unit orderly suits i f at =
    let lt : i < length c.functions = slice_get_within c.functions i f at in
    let many = unit.count in
    let g = there_is u.graphs i (omega (arith, lt, many)) in
    let h = unit.functions i g.0 g.1 in
    let is : IsCodeOf (marks i) g.0 f = subst (λ k. IsCodeOf (marks i) g.0 k) (same_Some h.0 f (sym h.1 ∙ at)) h.2 in
    let o : IsOrderly u g.0 = orderly.each i g.0 g.1 in
    let e : IsCounted u g.0 o = counted_enough u g.0 o in
    let low = orderly.params i g.0 g.1 in let p = is.params in let n = is.cells in record {
      params = omega (arith, low, p, n);
      depths = levels u g.0 o.steady (marks i);
      typed = typed u g.0 (marks i) o marks c unit f is (suits.marked i f at)
          (subst (λ d. IsDeepEnough u g.0 o.steady d) (sym (suits.depth i g.0 f g.1 at)) e.enough);
    }

pub laid_sound : LaidCodeIsSound
laid_sound marks u c unit orderly suits =
    let h = unit.functions u.main orderly.main orderly.there in record {
      main = h.0;
      there = ap (slice_get c.functions) unit.main ∙ h.1;
      bare = h.2.params ∙ orderly.bare;
      gives = h.2.gives ∙ orderly.gives;
      each = function_kept marks u c unit orderly suits;
    }
