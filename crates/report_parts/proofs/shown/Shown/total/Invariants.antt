use Rattle.std.proofs.Common.{◌≡◌, ◌+◌, ◌*◌, ◌^◌, ◌≤◌, drop}
use Rattle.report_parts.specs.ArcTests.{passes}
use Rattle.report_parts.specs.Shown.{total}
use Rattle.report_parts.proofs.shown.Shown.total.Given as goal

-- the sum so far and that of the arcs that are left, and how large the sum may be
abbrev pub invariant-loop-index : goal.invariant-loop-index
invariant-loop-index l = record {
  left : l.sum + total (passes l.test) (drop l.index l.self.net.arcs) (drop l.index l.self.counts)
      ≡ total (passes l.test) l.self.net.arcs l.self.counts;
  small : l.sum ≤ l.index * 2 ^ 80;
}
