use Rattle.std.proofs.Common.{◌≡◌, length, map}
use Rattle.std.specs.Prelude.{take}
use Rattle.c_tree.specs.TreeView.{outer_view}
use Rattle.c_typing.specs.Sources.{defined}
use Rattle.c_types.specs.Functions.{AreNumbers}
use Rattle.c_types.proofs.functions.numbers_of.Given as goal

abbrev pub invariant-loop-outer : goal.invariant-loop-outer
invariant-loop-outer l =
    AreNumbers (defined (map outer_view (take l.outer-index l.outers))) l.numbers.entries
    × (length (defined (map outer_view (take l.outer-index l.outers))) ≡ l.count)
