-- The law of the typed forms of sources.
use Rattle.std.specs.Prelude.{◌≡◌, []}
use Rattle.c_tree.specs.Tree.{Tree}
use Rattle.c_tree.specs.Formed.{IsTree}
use Rattle.c_tree.specs.Sound.{Sound}
use Rattle.c_typing.specs.Sources.{type_faults, typed_of}

-- What a tree that the grammar gives is typed as, where no fault of names and types stands in it, is sound.
abbrev pub TypedSound : Type 0
TypedSound = (tree : Tree) → IsTree tree → type_faults tree ≡ [] → Sound (typed_of tree)
