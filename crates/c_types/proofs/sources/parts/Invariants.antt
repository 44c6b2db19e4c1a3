use Rattle.std.proofs.Common.{[], length, drop, map}
use Rattle.c_tree.specs.TypedView.{function_view}
use Rattle.c_values.proofs.ListLaws.{Left}
use Rattle.c_types.proofs.SourceLaws.{functions, numbers}
use Rattle.c_types.proofs.sources.parts.Given as goal

abbrev pub invariant-loop-outer : goal.invariant-loop-outer
invariant-loop-outer l = record {
  made : Left (functions l.functions) [] (record { here = l.fn.names; made = 0 }) l.outers
      (record { here = l.names; made = length l.made }) (drop l.outer-index l.outers) (map function_view l.made);
  numbers : Left (numbers l.functions) l.fn.numbers (record { here = l.fn.names; made = 0 }) l.outers
      (record { here = l.names; made = length l.made }) (drop l.outer-index l.outers) l.numbers;
}
