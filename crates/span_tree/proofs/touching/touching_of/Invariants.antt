use Rattle.std.proofs.Common.{◌≡◌, drop}
use Rattle.span_tree.specs.Touching.{AreTouched}
use Rattle.span_tree.proofs.touching.touching_of.Given as goal

abbrev pub invariant-loop-arc : goal.invariant-loop-arc
invariant-loop-arc l = record {
  index : l.index ≡ l.arc-index;
  rows : AreTouched l.blocks l.index l.arcs (drop l.arc-index l.arcs) l.touching;
}
