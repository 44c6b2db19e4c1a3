use Rattle.std.proofs.Common.{◌≡◌, ℕ, ◌*◌, ◌^◌, ◌<◌, ◌≤◌, drop}
use Rattle.std.specs.Prelude.{unsigned_abs}
use Rattle.std.specs.List.{All}
use Rattle.flow_solver.specs.Solving.{spread}
use Rattle.flow_solver.proofs.solver.spread.Given as goal

abbrev pub invariant-loop-index : goal.invariant-loop-index
invariant-loop-index l = record {
  rest : spread l.tree l.index (drop l.index l.arcs) l.left l.out ≡ spread l.tree 0 l.arcs l.fn.given l.fn.out;
  small : All (λ x. unsigned_abs x ≤ l.index * 2 ^ 65) l.out;
  counts : All (λ n. n < 2 ^ 63) l.left;
}
