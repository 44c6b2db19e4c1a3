use Rattle.std.proofs.Common.{[], drop, map}
use Rattle.c_tree.specs.TypedView.{typed_expr_view}
use Rattle.c_values.proofs.ListLaws.{Left}
use Rattle.c_types.proofs.DeclLaws.{initialisers}
use Rattle.c_types.proofs.declarations.initialisers.Given as goal

abbrev pub invariant-loop-e : goal.invariant-loop-e
invariant-loop-e l =
    Left (initialisers l.t) [] l.names.scopes l.es l.names.scopes (drop l.e-index l.es) (map typed_expr_view l.made)
