use Rattle.cov_words.specs.Syntax.{cover_app}
use Rattle.cov_words.proofs.SyntaxLaws.{one_more}
use Rattle.cov_words.proofs.syntax.cover.Goals as goal

pub returns : goal.returns
unfolding cover_app
returns c = one_more _ _ _ _ _ c.in_ok-command.ensures c.words.ensures.local (one_more _ _ _ _ _ c.in_ok-arg-3.ensures c.word.ensures.local (one_more _ _ _ _ _ c.in_ok-arg-2.ensures c.option-2.ensures.local (one_more _ _ _ _ _ c.in_ok-arg.ensures c.option.ensures.local c.bare.ensures c.option.ensures.rule) c.option-2.ensures.rule) c.word.ensures.rule) c.words.ensures.rule
