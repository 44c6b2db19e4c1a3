use Rattle.std.proofs.Common.{◌≡◌, ◌++◌, drop}
use Rattle.std.specs.Prelude.{flat_map}
use Rattle.gcno_format.specs.Spelling.{way_bytes}
use Rattle.gcno_format.proofs.arcs.put_ways.Given as goal

abbrev pub invariant-loop-arc : goal.invariant-loop-arc
invariant-loop-arc l =
    l.out.items ++ flat_map way_bytes (drop l.arc-index l.arcs) ≡ l.fn.out.items ++ flat_map way_bytes l.arcs
