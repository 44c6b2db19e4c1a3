use Rattle.std.proofs.Common.{◌≡◌, ◌+◌, ◌∙◌, ℕ, List, length, sym, subst, ap, rules}
use Rattle.span_tree.specs.Circulation.{Determine}
use Rattle.span_tree.proofs.Counts.{off_length}
use Rattle.arc_counters.proofs.OffLaws.{offs_within, offs_small, off_of, off_determine}
use Rattle.arc_counters.specs.Plan.{counter_from}
use Rattle.arc_counters.proofs.plan.number.Goals as goal

pub counters_of-requires-clause-within : goal.counters_of-requires-clause-within
counters_of-requires-clause-within c = offs_within c.args.tree.now _ c.deref.result.now
    (c.deref.ensures.value ∙ c.in_ok-off.ensures.off)

pub counters_of-requires-clause-small : goal.counters_of-requires-clause-small
counters_of-requires-clause-small c = offs_small c.args.net.now c.args.tree.now c.arcs-arcs.result.now
    c.deref.result.now c.arcs-arcs.ensures.net c.arcs-arcs.ensures.value
    (c.deref.ensures.value ∙ c.in_ok-off.ensures.off)

pub invariant_of-result : goal.invariant_of-result
invariant_of-result c = record {
  counters_are = λ i. c.in_ok-counters.ensures i ∙ ap (λ l. counter_from 0 l i) c.deref.ensures.value;
  small = offs_small c.args.net.now c.args.tree.now c.arcs-arcs.result.now c.in_ok-off.off.items
      c.arcs-arcs.ensures.net c.arcs-arcs.ensures.value c.in_ok-off.ensures.off;
}

pub returns-clause-many : goal.returns-clause-many
returns-clause-many c =
    subst (λ (p : List ℕ). length p + c.args.net.now.blocks ≡ length c.args.net.now.arcs + 2)
    (sym (off_of c.args.net.now c.args.tree.now c.arcs-arcs.result.now c.in_ok-off.off.items c.requires
    c.arcs-arcs.ensures.value c.in_ok-off.ensures.off))
    (off_length c.args.net.now c.arcs-arcs.ensures.net)

pub returns-clause-determine : goal.returns-clause-determine
returns-clause-determine c =
    subst (λ p. Determine p c.args.net.now)
    (sym (off_of c.args.net.now c.args.tree.now c.arcs-arcs.result.now c.in_ok-off.off.items c.requires
    c.arcs-arcs.ensures.value c.in_ok-off.ensures.off))
    (off_determine c.args.net.now c.arcs-arcs.ensures.net)
