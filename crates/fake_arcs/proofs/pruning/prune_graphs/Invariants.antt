use Rattle.std.proofs.Common.{◌≡◌, map, drop, None}
use Rattle.std.specs.Prelude.{take}
use Rattle.flow_graph.specs.Nets.{pruned_graph}
use Rattle.fake_arcs.specs.Size.{graphs_fault}
use Rattle.fake_arcs.proofs.pruning.prune_graphs.Given as goal

abbrev pub invariant-loop-graph : goal.invariant-loop-graph
invariant-loop-graph l = record {
  pruned : l.pruned.items ≡ map pruned_graph (take l.graph-index l.graphs);
  fault : graphs_fault l.graph-index (drop l.graph-index l.graphs) ≡ None;
}
