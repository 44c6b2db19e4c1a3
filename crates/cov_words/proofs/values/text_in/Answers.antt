use Rattle.clap.specs.Words.{found_of}
use Rattle.cov_words.proofs.ValueLaws.{text_some, text_none}
use Rattle.cov_words.proofs.values.text_in.Goals as goal

pub returns-in-Some : goal.returns-in-Some
returns-in-Some c = text_some (found_of c.args.matches.now) c.args.id.now c.in-Some.word.now c.in-Some.ensures

pub returns-in-None : goal.returns-in-None
returns-in-None c = text_none (found_of c.args.matches.now) c.args.id.now c.in-None.ensures
