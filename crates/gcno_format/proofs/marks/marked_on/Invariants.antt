use Rattle.std.proofs.Common.{◌≡◌, ◌++◌, drop}
use Rattle.gcno_format.specs.Marks.{marked_from}
use Rattle.gcno_format.proofs.marks.marked_on.Given as goal

abbrev pub invariant-loop-index : goal.invariant-loop-index
invariant-loop-index l =
    l.marks.items ++ marked_from l.tree l.index (drop l.index l.arcs) ≡ marked_from l.tree 0 l.arcs
