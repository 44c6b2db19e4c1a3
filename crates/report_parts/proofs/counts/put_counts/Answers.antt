use Rattle.std.proofs.Common.{length, ap, ◌∙◌}
use Rattle.report_parts.specs.CountSteps.{count_or_zero, begin_functions}
use Rattle.report_parts.proofs.CountLaws.{begun_zero}
use Rattle.report_parts.proofs.counts.put_counts.Goals as goal

pub add_functions-requires-clause-fresh : goal.add_functions-requires-clause-fresh
add_functions-requires-clause-fresh c line =
    ap (λ cs. count_or_zero cs line) (c.begin_functions.ensures ∙ ap (begin_functions c.args.functions.now) c.requires.none)
    ∙ begun_zero c.args.functions.now (length c.args.counts.now) line
