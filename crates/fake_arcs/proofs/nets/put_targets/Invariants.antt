use Rattle.std.proofs.Common.{◌≡◌, ◌++◌, map, take}
use Rattle.flow_graph.specs.Nets.{real}
use Rattle.fake_arcs.proofs.nets.put_targets.Given as goal

abbrev pub invariant-loop-target : goal.invariant-loop-target
invariant-loop-target l = l.arcs.items ≡ l.fn.arcs.items ++ map (real l.number) (take l.target-index l.target-items)
