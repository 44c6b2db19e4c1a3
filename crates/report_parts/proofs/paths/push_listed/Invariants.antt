use Rattle.std.proofs.Common.{◌≡◌, ◌++◌, drop}
use Rattle.report_parts.specs.Functions.{path_lines}
use Rattle.report_parts.proofs.paths.push_listed.Given as goal

abbrev pub invariant-loop-k : goal.invariant-loop-k
invariant-loop-k l =
    l.out.items ++ path_lines l.bits l.k (drop l.k l.paths) ≡ l.initial.out.items ++ path_lines l.bits 0 l.paths
