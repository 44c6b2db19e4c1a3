use Rattle.std.proofs.Common.{◌≡◌, ◌+◌, ◌*◌, Bool, List, map, drop}
use Rattle.c_tree.specs.TypedView.{typed_expr_view, typed_exprs_of}
use Rattle.c_lower.specs.Items.{Item, nodes, all_nodes, all_values}
use Rattle.c_lower.specs.Building.{made}
use Rattle.c_lower.proofs.+value.Given as goal

abbrev pub decreases-values::value : goal.decreases-values::value
decreases-values::value l = 4 * nodes (typed_expr_view l.e.now)

abbrev pub decreases-values::inner : goal.decreases-values::inner
decreases-values::inner l = 4 * nodes (typed_expr_view l.part.now) + 1

abbrev pub decreases-values::values : goal.decreases-values::values
decreases-values::values l = 4 * all_nodes (typed_exprs_of (map typed_expr_view l.es.now)) + 1

abbrev pub decreases-conditions::test : goal.decreases-conditions::test
decreases-conditions::test l = 4 * nodes (typed_expr_view l.e.now) + 1

abbrev pub decreases-conditions::enter : goal.decreases-conditions::enter
decreases-conditions::enter l = 4 * nodes (typed_expr_view l.e.now) + 2

abbrev pub decreases-conditions::sides : goal.decreases-conditions::sides
decreases-conditions::sides l = 4 * (nodes (typed_expr_view l.left.now) + nodes (typed_expr_view l.right.now)) + 2

abbrev pub decreases-conditions::choose : goal.decreases-conditions::choose
decreases-conditions::choose l = 4 * (nodes (typed_expr_view l.condition.now) + nodes (typed_expr_view l.second.now)
    + nodes (typed_expr_view l.third.now)) + 3

abbrev pub decreases-assignments::reach : goal.decreases-assignments::reach
decreases-assignments::reach l = 4 * nodes (typed_expr_view l.target.now) + 1

abbrev pub decreases-assignments::assign : goal.decreases-assignments::assign
decreases-assignments::assign l = 4 * (nodes (typed_expr_view l.target.now) + nodes (typed_expr_view l.part.now)) + 2

abbrev pub decreases-assignments::assign_with : goal.decreases-assignments::assign_with
decreases-assignments::assign_with l =
    4 * (nodes (typed_expr_view l.target.now) + nodes (typed_expr_view l.part.now)) + 2

abbrev pub decreases-assignments::step_before : goal.decreases-assignments::step_before
decreases-assignments::step_before l = 4 * nodes (typed_expr_view l.target.now) + 2

abbrev pub decreases-assignments::step_after : goal.decreases-assignments::step_after
decreases-assignments::step_after l = 4 * nodes (typed_expr_view l.target.now) + 2

abbrev pub invariant-values::values-loop-e : goal.invariant-values::values-loop-e
invariant-values::values-loop-e l = record {
  code : (gives : Bool) (rest : List Item)
      → made gives l.out (all_values (typed_exprs_of (map typed_expr_view (drop l.e-index l.es))) l.next rest)
      ≡ made gives l.fn.out (all_values (typed_exprs_of (map typed_expr_view l.es)) l.fn.next rest);
  next : l.next + all_nodes (typed_exprs_of (map typed_expr_view (drop l.e-index l.es)))
      ≡ l.fn.next + all_nodes (typed_exprs_of (map typed_expr_view l.es));
}
