use Rattle.std.proofs.Common.{refl}
use Rattle.std.proofs.lemmas.Option.{slice_get_read}
use Rattle.c_parser.proofs.ParseLaws.{too_deep}
use Rattle.c_parser.proofs.parser.told_fault.Goals as goal

pub returns-in-Some : goal.returns-in-Some
returns-in-Some c =
    let found = slice_get_read c.args.tokens.now _ 256 c.in-Some.token.now refl c.in-Some.ensures.lookup.3.0
    c.in-Some.ensures.lookup.1 in
    too_deep c.requires.splits c.in-TooDeep.is c.requires.refused found c.max.ensures
