use Rattle.word_rules.proofs.Spelling.{begin_read, pass_read}
use Rattle.word_rules.proofs.laws.spelling.Goals as goal

pub returns-clause-begin : goal.returns-clause-begin
returns-clause-begin c = begin_read

pub returns-clause-pass : goal.returns-clause-pass
returns-clause-pass c = pass_read
