use Rattle.std.proofs.Common.{◌≡◌, drop}
use Rattle.run_command.specs.Ran.{past_paths}
use Rattle.run_command.proofs.kept.past_paths.Given as goal

abbrev pub invariant-loop-k : goal.invariant-loop-k
invariant-loop-k l = past_paths l.k (drop l.k l.functions) (drop l.k l.counts) ≡ past_paths 0 l.functions l.counts
