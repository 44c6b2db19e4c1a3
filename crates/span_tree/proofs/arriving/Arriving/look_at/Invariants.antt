use Rattle.std.proofs.Common.{◌≡◌, drop}
use Rattle.span_tree.specs.Arriving.{looked_at}
use Rattle.span_tree.proofs.arriving.Arriving.look_at.Given as goal

abbrev pub invariant-loop-index : goal.invariant-loop-index
invariant-loop-index l = record {
  there : looked_at l.arcs l.block (drop l.index-index l.indices) l.self.there ≡ looked_at l.arcs l.block l.indices
      l.fn.self.there;
  room : l.self.room ≡ l.fn.self.room;
}
