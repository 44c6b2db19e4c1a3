use Rattle.std.proofs.Common.{◌≡◌, ◌+◌, ◌*◌, ◌≤◌, drop}
use Rattle.std.specs.Prelude.{max}
use Rattle.stack_code.specs.Deepest.{most_in, left}
use Rattle.stack_code.proofs.depth.heights_of.Given as goal

abbrev pub invariant-loop-op : goal.invariant-loop-op
invariant-loop-op l = record {
  most : max l.most (most_in l.left (drop l.op-index l.ops)) ≡ most_in l.depth l.ops;
  rest : left l.left (drop l.op-index l.ops) ≡ left l.depth l.ops;
  high : l.left ≤ l.most;
  low : l.left ≤ l.depth + 3 * l.op-index;
}
