use Rattle.std.proofs.Common.{rules}
use Rattle.cov_outside.proofs.Files.{plain_files-push}
use Rattle.cov_outside.proofs.named_files.NamedFiles.replace.Goals as goal

pub returns-clause-replaces : goal.returns-clause-replaces
returns-clause-replaces c =
    plain_files-push c.self.inside.files.items c.push.new.self.items c.args.self.now c.in_ok-name.name c.in_ok-bytes.bytes c.args.name.now c.args.bytes.now (search rules) c.self.view_is (search rules) (search rules)
