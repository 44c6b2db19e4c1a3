use Rattle.c_grammar.proofs.Formed.{derived_formed}
use Rattle.c_syntax.proofs.Closed.{sources}
use Rattle.c_parser.proofs.ParseLaws.{parsed}
use Rattle.c_parser.proofs.parser.parse.Goals as goal

pub returns-clause-ok : goal.returns-clause-ok
returns-clause-ok c = parsed c.in-Ok.ensures c.end_of.ensures

pub returns-clause-source : goal.returns-clause-source
returns-clause-source c = sources _ _ _ (parsed c.in-Ok.ensures c.end_of.ensures).derives

pub returns-clause-formed : goal.returns-clause-formed
returns-clause-formed c = λ l. derived_formed c.requires l (parsed c.in-Ok.ensures c.end_of.ensures).derives
