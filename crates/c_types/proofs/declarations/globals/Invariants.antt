use Rattle.std.proofs.Common.{drop}
use Rattle.c_values.proofs.ListLaws.{Left}
use Rattle.c_types.proofs.DeclLaws.{globals}
use Rattle.c_types.proofs.declarations.globals.Given as goal

abbrev pub invariant-loop-v : goal.invariant-loop-v
invariant-loop-v l = Left globals l.fn.numbers l.fn.names l.vars l.names (drop l.v-index l.vars) l.numbers
