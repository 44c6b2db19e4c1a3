use Rattle.std.proofs.Common.{◌≡◌, ◌-◌}
use Rattle.span_tree.specs.Tree.{after_blocks, arrivals}
use Rattle.span_tree.proofs.arriving.arrive.Given as goal

abbrev pub invariant-loop-place : goal.invariant-loop-place
invariant-loop-place l = record {
  room : l.arriving.room ≡ l.blocks;
  rest : after_blocks l.arcs (l.blocks - l.place) l.place l.arriving.there ≡ arrivals l.net;
}
