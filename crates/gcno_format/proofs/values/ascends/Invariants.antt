use Rattle.std.proofs.Common.{◌≡◌, drop}
use Rattle.cov_base.specs.Net.{ascends}
use Rattle.gcno_format.proofs.values.ascends.Given as goal

abbrev pub invariant-loop-line : goal.invariant-loop-line
invariant-loop-line l = ascends l.before (drop l.line-index l.lines) ≡ ascends 0 l.lines
