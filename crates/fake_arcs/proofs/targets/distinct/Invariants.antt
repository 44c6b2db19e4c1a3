use Rattle.std.proofs.Common.{◌≡◌, map}
use Rattle.std.specs.Prelude.{take}
use Rattle.fake_arcs.proofs.targets.distinct.Given as goal

abbrev pub invariant-loop-case : goal.invariant-loop-case
invariant-loop-case l = l.found.items ≡ map (λ c. c.1) (take l.case-index l.cases)
