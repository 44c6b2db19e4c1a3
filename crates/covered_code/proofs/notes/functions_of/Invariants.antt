use Rattle.std.proofs.Common.{◌≡◌, map, take}
use Rattle.std.specs.List.{All}
use Rattle.covered_code.specs.UnitNotes.{function_of, HasWord}
use Rattle.covered_code.proofs.notes.functions_of.Given as goal

abbrev pub invariant-loop-graph : goal.invariant-loop-graph
invariant-loop-graph l = record {
  value : l.functions.items ≡ map function_of (take l.graph-index l.graphs);
  words : All HasWord l.functions.items;
}
