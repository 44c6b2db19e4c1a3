use Rattle.std.proofs.Common.{◌≡◌, ◌++◌, ◌+◌, ◌∷◌, drop}
use Rattle.flow_graph.specs.Nets.{real, arcs_from}
use Rattle.fake_arcs.proofs.nets.arcs_of.Given as goal

abbrev pub invariant-loop-block : goal.invariant-loop-block
invariant-loop-block l = record {
  number : l.number ≡ l.block-index + 2;
  arcs : l.arcs.items ++ arcs_from l.number (drop l.block-index l.blocks) ≡ real 0 2 ∷ arcs_from 2 l.blocks;
}
