use Rattle.c_tree.specs.TreeView.{tree_view}
use Rattle.c_types.proofs.SourceLaws.{sound_of}
use Rattle.c_types.proofs.sources.check.Goals as goal

pub returns-clause-sound : goal.returns-clause-sound
returns-clause-sound c = sound_of (tree_view c.args.tree.now) c.typed_form.result c.typed_form.ensures
