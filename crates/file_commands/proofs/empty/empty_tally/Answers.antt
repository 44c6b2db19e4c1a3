use Rattle.std.proofs.Common.{rules}
use Rattle.file_commands.proofs.UnrunLaws.{all_of}
use Rattle.file_commands.proofs.empty.empty_tally.Goals as goal

pub returns-clause-of : goal.returns-clause-of
returns-clause-of c = all_of _ _ _ (search rules)
