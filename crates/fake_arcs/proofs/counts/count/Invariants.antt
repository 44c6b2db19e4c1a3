use Rattle.std.proofs.Common.{◌≡◌, ◌+◌, ◌≤◌, drop}
use Rattle.flow_graph.specs.Nets.{blocks_size}
use Rattle.fake_arcs.specs.Size.{counted}
use Rattle.fake_arcs.specs.Counts.{arcs_in}
use Rattle.fake_arcs.specs.Numbers.{number_by, kept_by}
use Rattle.fake_arcs.proofs.counts.count.Given as goal

abbrev pub invariant-loop-place : goal.invariant-loop-place
invariant-loop-place l = record {
  arcs : counted (l.arcs + arcs_in (kept_by (number_by l.numbers) (drop l.place l.numbers) (drop l.place l.blocks)))
      ≡ counted (arcs_in (kept_by (number_by l.numbers) l.numbers l.blocks));
  size : counted (l.size + blocks_size (kept_by (number_by l.numbers) (drop l.place l.numbers) (drop l.place l.blocks)))
      ≡ counted (blocks_size (kept_by (number_by l.numbers) l.numbers l.blocks));
  arcs_small : l.arcs ≤ 18446744073709551615;
  size_small : l.size ≤ 18446744073709551615;
}
