use Rattle.std.proofs.Common.{◌≡◌, ◌+◌, ◌≤◌, drop, map}
use Rattle.flow_graph.specs.Nets.{graphs_size, pruned_graph}
use Rattle.fake_arcs.specs.Size.{counted, graphs_fault}
use Rattle.fake_arcs.proofs.pruning.measure_all.Given as goal

abbrev pub invariant-loop-graph : goal.invariant-loop-graph
invariant-loop-graph l = record {
  function : l.function ≡ l.graph-index;
  fault : graphs_fault l.function (drop l.graph-index l.graphs) ≡ graphs_fault 0 l.graphs;
  size : counted (l.size + graphs_size (map pruned_graph (drop l.graph-index l.graphs)))
      ≡ counted (graphs_size (map pruned_graph l.graphs));
  small : l.size ≤ 18446744073709551615;
}
