use Rattle.std.proofs.Common.{◌≡◌, ◌≤◌, ◌+◌, false, not, take, cond}
use Rattle.std.specs.List.{fold, list_any, count_by}
use Rattle.cov_base.specs.Reach.{is_open, spread_along}
use Rattle.cov_base.proofs.reach.spread.Given as goal

abbrev pub invariant-loop-arc : goal.invariant-loop-arc
invariant-loop-arc l = record {
  after : l.marks ≡ fold spread_along l.initial.marks (take l.arc-index l.arcs);
  told : l.spreads ≡ list_any (is_open l.initial.marks) (take l.arc-index l.arcs);
  same : l.spreads ≡ false → l.marks ≡ l.initial.marks;
  fewer : count_by not l.marks + cond l.spreads 1 0 ≤ count_by not l.initial.marks;
}
