use Rattle.std.proofs.Common.{◌≡◌, ℕ, Option, ◌+◌, ◌*◌, ◌^◌, ◌<◌, ◌≤◌, List, length, get_or, drop, sym, subst, ap, ◌∙◌, arith}
use Rattle.cov_base.specs.declared.net.ArcKind.TheVariants.{Real}
use Rattle.cov_base.specs.declared.net.FlowArc.{FlowArc}
use Rattle.report_parts.specs.CountSteps.{count_or_zero, add_arc, add_arcs}
use Rattle.report_parts.proofs.CountLaws.{arc_within, all_added_more, arc_room}
use Rattle.report_parts.proofs.counts.add_arcs.Goals as goal

abbrev none : FlowArc
none = record { from = 0; to = 0; kind = Real }

pub add_arc-requires-clause-from : goal.add_arc-requires-clause-from
add_arc-requires-clause-from c =
    let P : List FlowArc → Type 0 = λ arcs. (get_or arcs c.loop-i.i none).from < c.args.net.now.blocks in
    let value = c.arcs-arc-items.ensures.value in
    subst P (sym value) (arc_within c.args.net.now c.arcs-arc-items.ensures.net c.loop-i.i none (omega (arith, c.loop-i-test.true, ap length value))).0

pub add_arc-requires-clause-to : goal.add_arc-requires-clause-to
add_arc-requires-clause-to c =
    let P : List FlowArc → Type 0 = λ arcs. (get_or arcs c.loop-i.i none).to < c.args.net.now.blocks in
    let value = c.arcs-arc-items.ensures.value in
    subst P (sym value) (arc_within c.args.net.now c.arcs-arc-items.ensures.net c.loop-i.i none (omega (arith, c.loop-i-test.true, ap length value))).1

pub loop-i-preserved : goal.loop-i-preserved
loop-i-preserved c =
    let net = c.args.net.now in
    let numbers = c.args.numbers.now in
    let counts = c.loop-i.counts in
    let i = c.loop-i.i in
    let value = c.arcs-arc-items.ensures.value in
    let n = get_or numbers i 0 in
    let arc = get_or net.arcs i none in
    let in_arcs : i < length net.arcs = omega (arith, c.loop-i-test.true, ap length value) in
    let in_numbers : i < length numbers = omega (arith, c.requires.long) in
    let is_next : c.add_arc.new.counts ≡ add_arc net arc n counts =
    c.add_arc.ensures ∙ ap (λ arcs. add_arc net (get_or arcs i none) n counts) value in
    let small : n ≤ 2 ^ 80 = c.requires.small i 0 in_numbers in
    record {
      left = ap (add_arcs net (drop (i + 1) net.arcs) (drop (i + 1) numbers)) is_next
          ∙ sym (all_added_more net net.arcs numbers counts i none in_arcs in_numbers)
          ∙ c.loop-i.invariant.left;
      room = λ line.
          let P : List (Option ℕ) → Type 0 = λ cs. count_or_zero cs line ≤ count_or_zero c.args.counts.now line + (i + 1) * 2 ^ 80 in
          subst P (sym is_next) (arc_room net c.arcs-arc-items.ensures.net arc n counts c.args.counts.now i line
          (arc_within net c.arcs-arc-items.ensures.net i none in_arcs).1 small (c.loop-i.invariant.room line));
    }
