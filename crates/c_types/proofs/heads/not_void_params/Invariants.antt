use Rattle.std.proofs.Common.{[], drop}
use Rattle.c_values.proofs.ListLaws.{Left}
use Rattle.c_types.proofs.HeadLaws.{valued}
use Rattle.c_types.proofs.heads.not_void_params.Given as goal

abbrev pub invariant-loop-p : goal.invariant-loop-p
invariant-loop-p l = Left valued [] 0 l.params 0 (drop l.p-index l.params) []
