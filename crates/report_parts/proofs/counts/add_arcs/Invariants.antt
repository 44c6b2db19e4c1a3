use Rattle.std.proofs.Common.{◌≡◌, ℕ, ◌+◌, ◌*◌, ◌^◌, ◌≤◌, drop}
use Rattle.report_parts.specs.CountSteps.{count_or_zero, add_arcs}
use Rattle.report_parts.proofs.counts.add_arcs.Given as goal

abbrev pub invariant-loop-i : goal.invariant-loop-i
invariant-loop-i l = record {
  left : add_arcs l.net (drop l.i l.net.arcs) (drop l.i l.numbers) l.counts
      ≡ add_arcs l.net l.net.arcs l.numbers l.initial.counts;
  room : (line : ℕ) → count_or_zero l.counts line ≤ count_or_zero l.initial.counts line + l.i * 2 ^ 80;
}
