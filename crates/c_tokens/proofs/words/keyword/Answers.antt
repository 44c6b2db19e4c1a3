use Rattle.c_tokens.specs.Words.{keywords}
use Rattle.c_tokens.proofs.words.keyword.Goals as goal

pub returns : goal.returns
unfolding keywords
returns c = c.look_up.ensures
