use Rattle.std.proofs.Common.{◌∙◌, map}
use Rattle.c_tree.specs.TreeView.{param_view}
use Rattle.c_types.proofs.HeadLaws.{none_same}
use Rattle.c_types.proofs.heads.no_params.Goals as goal

pub returns : goal.returns
returns c = c.same_bases.ensures ∙ none_same (map (λ p. p.base) (map param_view c.args.params.now))
