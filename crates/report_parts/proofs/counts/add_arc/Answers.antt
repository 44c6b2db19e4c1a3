use Rattle.std.proofs.Common.{◌≡◌, true, sym, subst}
use Rattle.cov_base.specs.Net.{ascends}
use Rattle.report_parts.proofs.CountLaws.{lines_ascend}
use Rattle.report_parts.proofs.counts.add_arc.Goals as goal

pub add_to_lines-requires-clause-ascend : goal.add_to_lines-requires-clause-ascend
add_to_lines-requires-clause-ascend c =
    subst (λ lines. ascends 0 lines ≡ true) (sym c.lines-2.ensures.value) (lines_ascend c.args.net.now c.lines-2.ensures.net c.args.arc.now.to c.requires.to)
