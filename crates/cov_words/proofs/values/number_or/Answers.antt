use Rattle.std.proofs.Common.{◌∙◌}
use Rattle.clap.specs.Words.{found_of}
use Rattle.cov_words.proofs.ValueLaws.{number_some, number_none}
use Rattle.cov_words.proofs.values.number_or.Goals as goal

pub returns-in-Some-clause-number : goal.returns-in-Some-clause-number
returns-in-Some-clause-number c = c.number_in.ensures.number
    ∙ number_some (found_of c.args.matches.now) c.args.id.now c.in-Some.word.now c.args.most c.args.other c.in-Some.ensures

pub returns-in-None-clause-number : goal.returns-in-None-clause-number
returns-in-None-clause-number c =
    number_none (found_of c.args.matches.now) c.args.id.now c.args.most c.args.other c.in-None.ensures
