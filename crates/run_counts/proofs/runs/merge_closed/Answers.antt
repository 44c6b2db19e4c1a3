use Rattle.std.proofs.Common.{sym, subst}
use Rattle.gcda_format.specs.Data.{IsData}
use Rattle.run_merge.specs.Merging.{HasFew}
use Rattle.run_counts.proofs.MergeLaws.{added_data, added_few}
use Rattle.run_counts.proofs.runs.merge_closed.Goals as goal

pub returns-in-Ok-clause-file : goal.returns-in-Ok-clause-file
returns-in-Ok-clause-file c = λ is.
    subst IsData (sym c.in-Ok.ensures.1)
    (added_data c.args.counts.now c.in_ok-run.run' c.in-Ok.ensures.0 c.in_ok-run.ensures.longs is)

pub returns-in-Ok-clause-few : goal.returns-in-Ok-clause-few
returns-in-Ok-clause-few c =
    subst HasFew (sym c.in-Ok.ensures.1)
    (added_few c.args.counts.now c.in_ok-run.run' c.in-Ok.ensures.0 c.requires.old_few)
