use Rattle.std.proofs.Common.{take}
use Rattle.covered_code.specs.Shapes.{AreMade}
use Rattle.covered_code.proofs.shapes.shapes_of.Given as goal

abbrev pub invariant-loop-graph : goal.invariant-loop-graph
invariant-loop-graph l = AreMade l.limit (take l.graph-index l.graphs) l.shapes.items
