use Rattle.std.proofs.Common.{◌≤◌, length}
use Rattle.path_report.proofs.TallyLaws.{Behind, OfBehind, FirstBehind}
use Rattle.path_report.proofs.tallying.tally_functions.Given as goal

-- what holds from the function on holds of all
abbrev pub invariant-loop-k : goal.invariant-loop-k
invariant-loop-k l = record {
  tallied : Behind l.limit l.functions l.counts l.k l.tallies.items;
  of : OfBehind l.limit l.functions l.k l.tallies.items;
  first : FirstBehind l.limit l.functions l.counts l.k;
  within : l.k ≤ length l.counts;
}
