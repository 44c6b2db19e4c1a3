use Rattle.std.proofs.Common.{◌≡◌, ◌++◌, drop}
use Rattle.c_tree.specs.Runs.{all_of}
use Rattle.c_lower.proofs.lowering.numbers_of.Given as goal

abbrev pub invariant-loop-run : goal.invariant-loop-run
invariant-loop-run l = l.numbers.items ++ all_of (drop l.run-index l.runs) ≡ all_of l.runs
