use Rattle.std.proofs.Common.{◌≡◌, ◌++◌, drop}
use Rattle.report_parts.specs.Functions.{arc_lines}
use Rattle.report_parts.proofs.arcs.push_arcs.Given as goal

abbrev pub invariant-loop-index : goal.invariant-loop-index
invariant-loop-index l =
    l.out.items ++ arc_lines l.function (drop l.index l.function.net.arcs) (drop l.index l.function.counts)
    ≡ l.initial.out.items ++ arc_lines l.function l.function.net.arcs l.function.counts
