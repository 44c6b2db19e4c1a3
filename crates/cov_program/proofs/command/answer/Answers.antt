-- The command that words are is within its limits.
use Rattle.cov_program.proofs.WithinLaws.{read_within}
use Rattle.cov_program.proofs.command.answer.Goals as goal

pub act-requires : goal.act-requires
act-requires g c = read_within _ _ c.in-Ok.ensures
