use Rattle.std.proofs.Common.{arith, ap, subst, ◌∙◌}
use Rattle.flow_graph.specs.Nets.{blocks_size}
use Rattle.fake_arcs.specs.Size.{counted}
use Rattle.fake_arcs.specs.Counts.{arcs_in}
use Rattle.fake_arcs.specs.Marking.{AreReached}
use Rattle.fake_arcs.specs.Numbers.{number_behind, number_by, kept_by}
use Rattle.fake_arcs.proofs.Sums.{too_many_blocks, too_many_arcs, measured}
use Rattle.fake_arcs.proofs.pruning.measure.Goals as goal

pub returns-then-blocks : goal.returns-then-blocks
returns-then-blocks c =
    too_many_blocks c.args.function c.args.graph.now c.in_ok-marks.marks.items c.count_marks.result
    c.saturating_add-blocks.result
    (subst (λ b. AreReached b c.in_ok-marks.marks.items) (c.deref.ensures.value ∙ ap (λ g. g.blocks) c.graph.view_is)
    c.in_ok-marks.ensures)
    (c.count_marks.ensures ∙ ap (number_behind 2) c.deref-2.ensures.value) c.saturating_add-blocks.ensures
    c.if-blocks.true

pub returns-then-arcs : goal.returns-then-arcs
returns-then-arcs c =
    let few = c.if-blocks.false in
    let sum = c.saturating_add-blocks.ensures in
    too_many_arcs c.args.function c.args.graph.now c.in_ok-marks.marks.items c.count_marks.result
    c.in_ok-counts.counts.arcs c.saturating_add-arcs.result
    (subst (λ b. AreReached b c.in_ok-marks.marks.items) (c.deref.ensures.value ∙ ap (λ g. g.blocks) c.graph.view_is)
    c.in_ok-marks.ensures)
    (c.count_marks.ensures ∙ ap (number_behind 2) c.deref-2.ensures.value) (omega (arith, few, sum))
    (c.in_ok-counts.ensures.arcs ∙ ap (λ m. counted (arcs_in (kept_by (number_by m) m c.deref-3.result.now)))
    c.in_ok-numbers.ensures
    ∙ ap (λ b. counted (arcs_in (kept_by (number_by c.in_ok-marks.marks.items) c.in_ok-marks.marks.items b)))
    (c.deref-3.ensures.value ∙ ap (λ g. g.blocks) c.graph.view_is))
    c.saturating_add-arcs.ensures c.if-arcs.true

pub returns : goal.returns
returns c =
    let few = c.if-blocks.false in
    let sum = c.saturating_add-blocks.ensures in
    measured c.args.function c.args.graph.now c.in_ok-marks.marks.items c.count_marks.result c.in_ok-counts.counts.arcs
    c.saturating_add-arcs.result c.in_ok-counts.counts.size c.saturating_add.result
    (subst (λ b. AreReached b c.in_ok-marks.marks.items) (c.deref.ensures.value ∙ ap (λ g. g.blocks) c.graph.view_is)
    c.in_ok-marks.ensures)
    (c.count_marks.ensures ∙ ap (number_behind 2) c.deref-2.ensures.value) (omega (arith, few, sum))
    (c.in_ok-counts.ensures.arcs ∙ ap (λ m. counted (arcs_in (kept_by (number_by m) m c.deref-3.result.now)))
    c.in_ok-numbers.ensures
    ∙ ap (λ b. counted (arcs_in (kept_by (number_by c.in_ok-marks.marks.items) c.in_ok-marks.marks.items b)))
    (c.deref-3.ensures.value ∙ ap (λ g. g.blocks) c.graph.view_is))
    c.saturating_add-arcs.ensures c.if-arcs.false
    (c.in_ok-counts.ensures.size ∙ ap (λ m. counted (blocks_size (kept_by (number_by m) m c.deref-3.result.now)))
    c.in_ok-numbers.ensures
    ∙ ap (λ b. counted (blocks_size (kept_by (number_by c.in_ok-marks.marks.items) c.in_ok-marks.marks.items b)))
    (c.deref-3.ensures.value ∙ ap (λ g. g.blocks) c.graph.view_is))
    c.saturating_add.ensures
