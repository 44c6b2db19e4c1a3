use Rattle.std.proofs.Common.{◌+◌, ◌*◌, max, [], drop, map}
use Rattle.c_tree.specs.TreeView.{expr_view, exprs_of}
use Rattle.c_tree.specs.TypedView.{typed_expr_view}
use Rattle.c_tree.specs.Levels.{levels, args_levels}
use Rattle.c_values.proofs.ListLaws.{Left}
use Rattle.c_values.proofs.ArgLaws.{arguments}
use Rattle.c_values.proofs.expr.+expr.Given as goal

abbrev pub decreases-expr : goal.decreases-expr
decreases-expr l = 4 * levels (expr_view l.e.now)

abbrev pub decreases-value : goal.decreases-value
decreases-value l = 4 * levels (expr_view l.e.now) + 1

abbrev pub decreases-values : goal.decreases-values
decreases-values l = 4 * max (levels (expr_view l.l.now)) (levels (expr_view l.r.now)) + 2

abbrev pub decreases-both : goal.decreases-both
decreases-both l = 4 * max (levels (expr_view l.l.now)) (levels (expr_view l.r.now)) + 2

abbrev pub decreases-sides : goal.decreases-sides
decreases-sides l = 4 * max (levels (expr_view l.x.now)) (levels (expr_view l.y.now)) + 1

abbrev pub decreases-choice : goal.decreases-choice
decreases-choice l =
    4 * max (levels (expr_view l.c.now)) (max (levels (expr_view l.x.now)) (levels (expr_view l.y.now))) + 2

abbrev pub decreases-target : goal.decreases-target
decreases-target l = 4 * levels (expr_view l.e.now) + 1

abbrev pub decreases-assignment : goal.decreases-assignment
decreases-assignment l = 4 * max (levels (expr_view l.l.now)) (levels (expr_view l.r.now)) + 2

abbrev pub decreases-element : goal.decreases-element
decreases-element l = 4 * levels (expr_view l.index.now) + 2

abbrev pub decreases-call : goal.decreases-call
decreases-call l = 4 * args_levels (exprs_of (map expr_view l.args.now)) + 3

abbrev pub decreases-passed : goal.decreases-passed
decreases-passed l = 4 * args_levels (exprs_of (map expr_view l.args.now)) + 2

abbrev pub invariant-passed-loop-at : goal.invariant-passed-loop-at
invariant-passed-loop-at l =
    Left (arguments l.names.scopes) [] l.params l.args (drop l.at l.params) (drop l.at l.args)
    (map typed_expr_view l.passed)
