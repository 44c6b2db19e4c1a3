use Rattle.std.proofs.Common.{◌≡◌, map, drop}
use Rattle.cov_base.specs.Net.{first_wrong_list}
use Rattle.cov_base.proofs.faults.first_wrong_list.Given as goal

abbrev pub invariant-loop-block : goal.invariant-loop-block
invariant-loop-block l =
    first_wrong_list l.block l.blocks (drop l.block (map (λ v. v.items) l.lines)) ≡ first_wrong_list 0 l.blocks (map (λ v. v.items) l.lines)
