use Rattle.c_tokens.specs.Literals.{suffixes}
use Rattle.c_tokens.proofs.literals.suffix_of.Goals as goal

pub returns : goal.returns
unfolding suffixes
returns c = c.look_up.ensures
