use Rattle.std.proofs.Common.{◌+◌, get_or, drop, sym, ap, ◌∙◌}
use Rattle.std.proofs.lemmas.List.{at_drop_more}
use Rattle.report_parts.specs.CountSteps.{add_to_lines, count_or_zero}
use Rattle.report_parts.proofs.CountLaws.{fresh_more}
use Rattle.report_parts.proofs.counts.add_to_lines.Goals as goal

pub loop-line-preserved : goal.loop-line-preserved
loop-line-preserved c =
    let lines = c.args.lines.now in
    let i = c.loop-line.line-index in
    record {
      left = ap (add_to_lines c.args.count c.args.others.now (drop (i + 1) lines)) c.add.ensures
          ∙ sym (at_drop_more (λ ls. add_to_lines c.args.count c.args.others.now ls c.loop-line.counts) lines i 0 c.loop-line-test.true)
          ∙ c.loop-line.invariant.left;
      fresh = λ k more within.
          ap (λ counts. count_or_zero counts (get_or lines k 0)) c.add.ensures
          ∙ fresh_more c.args.count c.args.others.now lines c.loop-line.counts c.args.counts.now i c.requires.ascend c.loop-line.invariant.fresh k more within;
    }
