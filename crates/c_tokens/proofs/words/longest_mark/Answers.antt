use Rattle.c_tokens.specs.Marks.{marks}
use Rattle.c_tokens.proofs.MarkLaws.{found_mark, found_within}
use Rattle.c_tokens.proofs.words.longest_mark.Goals as goal

pub returns-clause-longest : goal.returns-clause-longest
unfolding marks
returns-clause-longest c = found_mark c.args.text.now c.first_mark.result c.first_mark.ensures.value

pub returns-clause-within : goal.returns-clause-within
unfolding marks
returns-clause-within c = found_within c.args.text.now c.first_mark.result c.first_mark.ensures.value c.first_mark.ensures.within
