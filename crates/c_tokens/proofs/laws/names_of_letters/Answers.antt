use Rattle.c_tokens.proofs.NameLaws.{split_names}
use Rattle.c_tokens.proofs.laws.names_of_letters.Goals as goal

pub returns : goal.returns
returns c = λ text tokens s. split_names s
