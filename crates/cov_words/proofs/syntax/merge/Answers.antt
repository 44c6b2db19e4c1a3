use Rattle.cov_words.specs.Syntax.{merge_app}
use Rattle.cov_words.proofs.SyntaxLaws.{one_more}
use Rattle.cov_words.proofs.syntax.merge.Goals as goal

pub returns : goal.returns
unfolding merge_app
returns c = one_more _ _ _ _ _ c.in_ok-command.ensures c.word-3.ensures.local (one_more _ _ _ _ _ c.in_ok-arg-2.ensures c.word-2.ensures.local (one_more _ _ _ _ _ c.in_ok-arg.ensures c.word.ensures.local c.bare.ensures c.word.ensures.rule) c.word-2.ensures.rule) c.word-3.ensures.rule
