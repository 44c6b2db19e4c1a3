use Rattle.cov_words.specs.Syntax.{run_app}
use Rattle.cov_words.proofs.SyntaxLaws.{one_more}
use Rattle.cov_words.proofs.syntax.run.Goals as goal

pub returns : goal.returns
unfolding run_app
returns c = one_more _ _ _ _ _ c.in_ok-command.ensures c.word.ensures.local (one_more _ _ _ _ _ c.in_ok-arg.ensures c.option.ensures.local c.bare.ensures c.option.ensures.rule) c.word.ensures.rule
