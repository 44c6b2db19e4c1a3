use Rattle.std.proofs.Common.{◌≡◌, ◌+◌, ◌≤◌, drop}
use Rattle.fake_arcs.specs.Size.{counted}
use Rattle.stack_code.specs.UnitCode.{tables_size}
use Rattle.stack_code.proofs.units.tables_size.Given as goal

abbrev pub invariant-loop-shape : goal.invariant-loop-shape
invariant-loop-shape l = record {
  size : counted (l.size + tables_size (drop l.shape-index l.shapes)) ≡ counted (tables_size l.shapes);
  small : l.size ≤ 18446744073709551615;
}
