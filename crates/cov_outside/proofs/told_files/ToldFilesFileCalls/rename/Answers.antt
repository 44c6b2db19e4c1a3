use Rattle.std.proofs.Common.{subst}
use Rattle.cov_outside.specs.Outside.{Files}
use Rattle.cov_outside.specs.FileCalls.{Renames}
use Rattle.cov_outside.specs.Changes.{files_after}
use Rattle.cov_outside.specs.declared.change_log.ChangeLog.{ChangeLog}
use Rattle.cov_outside.proofs.ChangeLaws.{renamed_by_change}
use Rattle.cov_outside.proofs.told_files.ToldFilesFileCalls.rename.Goals as goal

pub returns-clause-renames : goal.returns-clause-renames
returns-clause-renames c =
    let of_log : ChangeLog → Files = λ l. files_after l.changes.items in
    subst (λ l. Renames c.args.from.now c.args.to.now c.change.result (of_log l) (of_log c.change.new.self))
    c.call.ensures.files
    (renamed_by_change c.args.from.now c.args.to.now _ c.change.result _ _ c.in_ok-bytes.ensures.ok
    c.change.ensures.ok c.change.ensures.err)
