use Rattle.c_tokens.specs.Words.{left_words}
use Rattle.c_tokens.proofs.words.left_word.Goals as goal

pub returns : goal.returns
unfolding left_words
returns c = c.look_up.ensures
