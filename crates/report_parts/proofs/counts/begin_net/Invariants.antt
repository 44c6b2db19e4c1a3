use Rattle.std.proofs.Common.{◌≡◌, drop}
use Rattle.report_parts.specs.CountSteps.{begin_all}
use Rattle.report_parts.proofs.counts.begin_net.Given as goal

abbrev pub invariant-loop-block : goal.invariant-loop-block
invariant-loop-block l = begin_all (drop l.block l.net.lines) l.counts ≡ begin_all l.net.lines l.initial.counts
