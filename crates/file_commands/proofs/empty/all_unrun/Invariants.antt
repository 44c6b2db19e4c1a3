use Rattle.file_commands.proofs.UnrunLaws.{Behind}
use Rattle.file_commands.proofs.empty.all_unrun.Given as goal

abbrev pub invariant-loop-function : goal.invariant-loop-function
invariant-loop-function l = Behind l.limit l.functions l.function-index l.tallies.items
