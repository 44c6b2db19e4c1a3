use Rattle.cov_words.specs.Syntax.{build_app}
use Rattle.cov_words.proofs.SyntaxLaws.{one_more}
use Rattle.cov_words.proofs.syntax.build.Goals as goal

pub returns : goal.returns
unfolding build_app
returns c = one_more _ _ _ _ _ c.in_ok-command.ensures c.word.ensures.local (one_more _ _ _ _ _ c.in_ok-arg-2.ensures c.option.ensures.local (one_more _ _ _ _ _ c.in_ok-arg.ensures c.flag.ensures.local c.bare.ensures c.flag.ensures.rule) c.option.ensures.rule) c.word.ensures.rule
