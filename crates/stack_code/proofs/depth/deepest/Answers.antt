use Rattle.std.proofs.Common.{◌≡◌, ◌+◌, ◌*◌, ◌≤◌, refl, ap, subst, ◌∙◌, ℕ, List, length, get_or, arith}
use Rattle.std.specs.Prelude.{max}
use Rattle.stack_ops.specs.declared.operation.Op.{Op}
use Rattle.flow_graph.specs.Graph.{Ending, Block}
use Rattle.flow_graph.specs.GraphView.{ending_view}
use Rattle.lower_agrees.specs.Agreement.{is_back}
use Rattle.stack_code.specs.Deepest.{most_in, left, far, led_on, with_depths}
use Rattle.stack_code.proofs.HeightLaws.{low_step, deepest_step}
use Rattle.stack_code.proofs.depth.deepest.Goals as goal

pub loop-block-preserved : goal.loop-block-preserved
loop-block-preserved c =
    let table : List ℕ = c.loop-block.table in
    let graphs = c.args.graphs.now in
    let blocks : List Block = c.args.blocks.now in
    let b : Block = c.block-item.result in
    let there : Block = get_or blocks c.loop-block.block-index b in
    let d : ℕ = get_or table c.loop-block.number 0 in
    let h = c.heights_of-heights.ensures in
    let ops : c.deref.result.now ≡ there.ops =
    c.deref.ensures.value ∙ ap (λ (x : Block). x.ops) c.block.view_is ∙ ap (λ (x : Block). x.ops) c.block-item.is in
    let end : ending_view c.block.inside.end ≡ there.end =
    ap (λ (x : Block). x.end) c.block.view_is ∙ ap (λ (x : Block). x.end) c.block-item.is in
    let most : c.heights_of-heights.result.most ≡ most_in d there.ops =
    h.most ∙ ap (λ (os : List Op). most_in d os) ops in
    let behind : c.heights_of-heights.result.left ≡ left d there.ops =
    h.left ∙ ap (λ (os : List Op). left d os) ops in
    let led : c.lead_on.new.table ≡ with_depths (led_on (is_back there.end) there.end)
    (far graphs there.end c.heights_of-heights.result.left) table =
    c.lead_on.ensures
    ∙ ap (λ (e : Ending). with_depths (led_on (is_back e) e) (far graphs e c.heights_of-heights.result.left) table)
    end in
    let n = c.loop-block.invariant.number in
    record {
      number = omega (arith, n);
      long = c.lead_on.auto.table ∙ c.loop-block.invariant.long;
      most = deepest_step graphs blocks b c.loop-block.block-index c.loop-block.number (c.loop-block.number + 1)
          c.loop-block.most c.max-most.result _ table c.lead_on.new.table c.loop-block-test.true (omega arith)
          (c.max-most.ensures ∙ ap (λ (k : ℕ). max c.loop-block.most k) most)
          (led ∙ ap (λ (k : ℕ). with_depths (led_on (is_back there.end) there.end) (far graphs there.end k) table)
          behind)
          c.loop-block.invariant.most;
      low = low_step graphs blocks b c.loop-block.block-index d c.heights_of-heights.result.left c.loop-block.number
          table c.lead_on.new.table c.loop-block-test.true
          (subst (λ (os : List Op). c.heights_of-heights.result.left ≤ d + 3 * length os) ops h.low) refl led
          c.loop-block.invariant.low;
    }
