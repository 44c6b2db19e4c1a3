use Rattle.std.proofs.Common.{[], drop, map}
use Rattle.c_tree.specs.TypedView.{typed_var_view}
use Rattle.c_values.proofs.ListLaws.{Left}
use Rattle.c_types.proofs.DeclLaws.{locals}
use Rattle.c_types.proofs.declarations.locals.Given as goal

abbrev pub invariant-loop-v : goal.invariant-loop-v
invariant-loop-v l = Left locals [] l.fn.names l.vars l.names (drop l.v-index l.vars) (map typed_var_view l.made)
