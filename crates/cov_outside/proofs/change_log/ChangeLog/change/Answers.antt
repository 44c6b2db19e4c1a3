use Rattle.std.proofs.Common.{rules}
use Rattle.cov_outside.proofs.ChangeLaws.{files_after-push}
use Rattle.cov_outside.proofs.change_log.ChangeLog.change.Goals as goal

pub returns-clause-ok : goal.returns-clause-ok
returns-clause-ok c =
    files_after-push c.args.self.now.changes.items c.push.new.self.items c.in_ok-name.name c.args.bytes
    c.in_ok-gone.gone c.args.name.now c.args.gone.now (search rules) (search rules) (search rules)
