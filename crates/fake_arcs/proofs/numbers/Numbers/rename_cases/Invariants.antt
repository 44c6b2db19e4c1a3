use Rattle.std.proofs.Common.{◌≡◌, map}
use Rattle.std.specs.Prelude.{take}
use Rattle.fake_arcs.specs.Numbers.{number_by}
use Rattle.fake_arcs.proofs.numbers.Numbers.rename_cases.Given as goal

abbrev pub invariant-loop-case : goal.invariant-loop-case
invariant-loop-case l = l.renamed.items ≡ map (λ c. (c.0, number_by l.self c.1)) (take l.case-index l.cases)
