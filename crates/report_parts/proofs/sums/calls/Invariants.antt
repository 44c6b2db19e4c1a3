use Rattle.std.proofs.Common.{◌≡◌, ◌+◌, ◌-◌, ◌≤◌}
use Rattle.std.specs.List.{count_by}
use Rattle.prime_paths.specs.Lister.{numbers}
use Rattle.report_parts.specs.Summary.{is_call, calls}
use Rattle.report_parts.proofs.sums.calls.Given as goal

abbrev pub invariant-loop-block : goal.invariant-loop-block
invariant-loop-block l = record {
  left : l.calls + count_by (is_call l.function.net.arcs) (numbers l.block (l.function.net.blocks - l.block))
      ≡ calls l.function;
  few : l.calls ≤ l.block;
}
