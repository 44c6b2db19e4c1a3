use Rattle.std.proofs.Common.{[], drop}
use Rattle.c_values.proofs.ListLaws.{Left}
use Rattle.c_types.proofs.HeadLaws.{parameters}
use Rattle.c_types.proofs.heads.parameters.Given as goal

abbrev pub invariant-loop-p : goal.invariant-loop-p
invariant-loop-p l = Left parameters [] l.fn.names l.params l.names (drop l.p-index l.params) []
