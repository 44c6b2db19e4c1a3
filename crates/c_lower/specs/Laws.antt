-- Laws of lowering.
use Rattle.std.specs.Prelude.{◌≡◌, ◌++◌, ◌∷◌, List, Some}
use Rattle.c_tree.specs.Typed.{TypedFunction}
use Rattle.flow_graph.specs.WalkRun.{block_at}
use Rattle.c_lower.specs.Items.{Name}
use Rattle.c_lower.specs.Lowered.{Named, named_blocks, number_from, block_of, graph_of}

-- In the graph of a function the block with the number of a name is the block of that name.
abbrev pub FoundByNumber : Type 0
FoundByNumber =
    (function : TypedFunction) (front : List Named) (block : Named) (rest : List Named) (name : Name)
    → named_blocks function ≡ front ++ block ∷ rest → block.name ≡ Some name
    → block_at (Some (graph_of function)) (number_from 2 (named_blocks function) name)
    ≡ Some (block_of (number_from 2 (named_blocks function)) block)
