use Rattle.std.proofs.Common.{◌≡◌, map, take, drop}
use Rattle.c_tree.specs.TypedView.{function_view}
use Rattle.c_lower.specs.Lowered.{graph_of}
use Rattle.c_lower.specs.Refusals.{frames_fault}
use Rattle.c_lower.proofs.lowering.lower_all.Given as goal

abbrev pub invariant-loop-f : goal.invariant-loop-f
invariant-loop-f l = record {
  number : l.number ≡ l.f-index;
  graphs : l.graphs.items ≡ map graph_of (map function_view (take l.f-index l.fs));
  fault : frames_fault l.number (map function_view (drop l.f-index l.fs)) ≡ frames_fault 0 (map function_view l.fs);
}
