-- A source's name ends in `.c`.
use Rattle.cov_program.proofs.NameLaws.{named}
use Rattle.cov_program.proofs.command.stem_of.Goals as goal

pub returns-in-None : goal.returns-in-None
returns-in-None c = absurd (c.in-None.ensures.cases _ (named c.args.source.now c.requires))
