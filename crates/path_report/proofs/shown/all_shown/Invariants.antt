use Rattle.std.proofs.Common.{◌≡◌, ◌++◌, length, drop}
use Rattle.std.specs.List.{All}
use Rattle.path_report.specs.Report.{all_shown}
use Rattle.path_report.specs.Tallies.{AreOf}
use Rattle.report_parts.specs.Shown.{IsShown}
use Rattle.path_report.proofs.shown.all_shown.Given as goal

abbrev pub invariant-loop-k : goal.invariant-loop-k
invariant-loop-k l = record {
  value : l.all.items ++ all_shown (drop l.k l.functions) (drop l.k l.tallies) ≡ all_shown l.functions l.tallies;
  shown : All IsShown l.all.items;
  of : AreOf l.limit (drop l.k l.functions) (drop l.k l.tallies);
  same : length l.functions ≡ length l.tallies;
  long : length l.all.items ≡ l.k;
}
