use Rattle.c_grammar.specs.Words.{type_lists}
use Rattle.c_grammar.proofs.type_names.base_at.Goals as goal

pub returns : goal.returns
unfolding type_lists
returns c = c.named_by.ensures
