use Rattle.cov_words.proofs.ReadingLaws.{first_conditions, other_conditions}
use Rattle.cov_words.proofs.reader.is_conditions.Goals as goal

pub returns-then-eq : goal.returns-then-eq
returns-then-eq c = first_conditions c.args.word.now c.eq.result c.eq.ensures c.if-eq.true

pub returns-else-eq : goal.returns-else-eq
returns-else-eq c =
    other_conditions c.args.word.now c.eq.result c.eq-else-eq.result c.eq.ensures c.if-eq.false c.eq-else-eq.ensures
