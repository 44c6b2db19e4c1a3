use Rattle.cov_words.specs.Syntax.{report_app}
use Rattle.cov_words.proofs.SyntaxLaws.{one_more}
use Rattle.cov_words.proofs.syntax.report.Goals as goal

pub returns : goal.returns
unfolding report_app
returns c = one_more _ _ _ _ _ c.in_ok-command.ensures c.word.ensures.local c.bare.ensures c.word.ensures.rule
