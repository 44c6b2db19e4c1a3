use Rattle.std.proofs.Common.{rules, ap, string_bytes}
use Rattle.cov_outside.specs.Outside.{Files}
use Rattle.cov_outside.specs.Changes.{files_after}
use Rattle.cov_outside.specs.declared.change_log.ChangeLog.{ChangeLog}
use Rattle.cov_outside.proofs.ChangeLaws.{written}
use Rattle.cov_outside.proofs.told_files.ToldFilesFileCalls.write.Goals as goal

pub returns-clause-appends : goal.returns-clause-appends
returns-clause-appends c old is =
    let of_log : ChangeLog → Files = λ l. files_after l.changes.items in
    written (of_log c.args.self.now.files) (of_log c.call.new.self.files) _ c.as_str-name.result.now
    (string_bytes c.args.file.now.name) c.args.piece.now old c.in-Some.bytes.items c.extend_from_slice.new.self.items
    (ap of_log c.call.ensures.files) (search rules) is (search rules) (search rules) c.in_ok-change.ensures.ok
