use Rattle.std.proofs.Common.{◌≡◌, drop}
use Rattle.code_file.specs.Reading.{placed_fault}
use Rattle.code_file.specs.Taking.{all_placed, FitAll}
use Rattle.code_file.proofs.placed_checks.values_fault.Given as goal

abbrev pub invariant-loop-k : goal.invariant-loop-k
invariant-loop-k l = record {
  fit : FitAll l.end (drop l.k l.functions) (drop l.k l.places);
  told : placed_fault l.code (all_placed (drop l.k l.functions) (drop l.k l.places))
      ≡ placed_fault l.code (all_placed l.functions l.places);
}
