use Rattle.std.proofs.Common.{◌≡◌, map}
use Rattle.std.specs.Prelude.{take}
use Rattle.flow_graph.specs.Nets.{net_of}
use Rattle.net_rows.proofs.unit_nets.nets_of.Given as goal

abbrev pub invariant-loop-graph : goal.invariant-loop-graph
invariant-loop-graph l = l.nets.items ≡ map net_of (take l.graph-index l.graph-items)
