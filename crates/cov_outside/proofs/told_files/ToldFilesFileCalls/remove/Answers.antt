use Rattle.std.proofs.Common.{ap, ◌∙◌}
use Rattle.std.specs.Prelude.{None}
use Rattle.cov_outside.specs.Outside.{Files}
use Rattle.cov_outside.specs.Changes.{files_after}
use Rattle.cov_outside.specs.declared.change_log.ChangeLog.{ChangeLog}
use Rattle.cov_outside.proofs.ChangeLaws.{kept_by_change}
use Rattle.cov_outside.proofs.told_files.ToldFilesFileCalls.remove.Goals as goal

pub returns-clause-removes : goal.returns-clause-removes
returns-clause-removes c other apart =
    let of_log : ChangeLog → Files = λ l. files_after l.changes.items in
    kept_by_change c.args.name.now None c.change.result _ _ c.change.ensures.ok c.change.ensures.err other apart
    ∙ ap (λ l. of_log l other) c.call.ensures.files
