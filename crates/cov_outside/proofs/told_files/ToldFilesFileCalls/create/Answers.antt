use Rattle.std.proofs.Common.{rules, [], ap, ◌∙◌}
use Rattle.std.specs.Prelude.{Some}
use Rattle.cov_outside.specs.Outside.{Files}
use Rattle.cov_outside.specs.Changes.{changed, files_after}
use Rattle.cov_outside.specs.declared.change_log.ChangeLog.{ChangeLog}
use Rattle.cov_outside.proofs.ChangeLaws.{changed_puts}
use Rattle.cov_outside.proofs.told_files.ToldFilesFileCalls.create.Goals as goal

pub returns-clause-creates : goal.returns-clause-creates
returns-clause-creates c =
    let name = c.args.name.now in
    let of_log : ChangeLog → Files = λ l. files_after l.changes.items in (
      search rules,
      changed_puts name [] _ _
          (c.in_ok-change.ensures.ok
          ∙ (ap (λ bytes. changed name (Some bytes) name (of_log c.call.new.self.files)) c.new.ensures.items
          ∙ ap (λ l. changed name (Some []) name (of_log l)) c.call.ensures.files)),
    )
