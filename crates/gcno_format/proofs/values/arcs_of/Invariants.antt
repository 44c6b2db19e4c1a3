use Rattle.std.proofs.Common.{◌≡◌, take, map}
use Rattle.gcno_format.specs.Marks.{arc_of}
use Rattle.gcno_format.proofs.values.arcs_of.Given as goal

abbrev pub invariant-loop-arc : goal.invariant-loop-arc
invariant-loop-arc l = l.plain.items ≡ map arc_of (take l.arc-index l.arcs)
