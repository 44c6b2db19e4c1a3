use Rattle.std.proofs.Common.{rules, subst, ℕ, suc, ℤ, ◌∷◌, map, Some, OnOk, arith}
use Rattle.std.specs.Int.{w128}
use Rattle.std.proofs.lemmas.Int.{to_z-of_z}
use Rattle.stack_ops.specs.declared.operation.Op.TheVariants as op
use Rattle.c_tree.specs.TypedExpr.{TypedExpr}
use Rattle.c_tree.specs.TypedView.{typed_expr_view, typed_exprs_of}
use Rattle.c_lower.specs.Items.{Item, ways, index_of, all_values, called}
use Rattle.c_lower.specs.Building.{Puts}
use Rattle.c_lower.proofs.ViewLaws.{form_is, index_view, call_view, number_view}
use Rattle.c_lower.proofs.PartLaws.{part_below}
use Rattle.c_lower.proofs.PutsLaws.{then_puts}
use Rattle.c_lower.proofs.+value.Goals as goal

pub assignments::reach-returns-in_ok-inner-in-Index-clause-code : goal.assignments::reach-returns-in_ok-inner-in-Index-clause-code
assignments::reach-returns-in_ok-inner-in-Index-clause-code t c =
    subst (λ (e : TypedExpr). OnOk c.check_index.result (Puts c.args.out.now c.check_index.new.out
    (λ rest. index_of e c.args.next.now rest)))
    (form_is c.args.target.now _ _ c.in-Index.is (index_view _ _ _ _ _ _ c.get.ensures))
    (then_puts c.check_index.result _ _ _ _ _ c.in_ok-inner-in-Index.ensures.code c.check_index.ensures)

pub values::value-returns-in_ok-take_node-in-Number-clause-code : goal.values::value-returns-in_ok-take_node-in-Number-clause-code
values::value-returns-in_ok-take_node-in-Number-clause-code t c =
    subst (λ (e : TypedExpr). OnOk c.push.result (Puts c.args.out.now c.push.new.out
    (λ rest. (ways e c.args.next.now).value rest)))
    (form_is c.args.e.now _ _ c.in-Number.is (number_view _ _))
    (subst (λ (n : ℤ). OnOk c.push.result (Puts c.args.out.now c.push.new.out
    (λ rest. Item.Do (op.Push n) (Some c.args.e.now.line) ∷ rest)))
    (to_z-of_z w128 c.in-Number.number (search rules)) c.push.ensures)

pub values::value-returns-in_ok-values-in-Call-clause-code : goal.values::value-returns-in_ok-values-in-Call-clause-code
values::value-returns-in_ok-values-in-Call-clause-code t c =
    let args = typed_exprs_of (map typed_expr_view c.as_slice.result.now) in
    let line = c.args.e.now.line in
    let calls = then_puts c.call.result _ _ _ _ _ c.in_ok-values-in-Call.ensures.code c.call.ensures in
    subst (λ (e : TypedExpr). OnOk c.call.result (Puts c.args.out.now c.call.new.out
    (λ rest. (ways e c.args.next.now).value rest)))
    (form_is c.args.e.now _ _ c.in-Call.is (call_view _ _ _ c.as_slice.ensures))
    (subst (λ (m : ℕ). OnOk c.call.result (Puts c.args.out.now c.call.new.out
    (λ rest. all_values args (suc c.args.next.now) (called c.in-Call.callee line m rest))))
    c.in_ok-node-in-Call.ensures.number
    (subst (λ (m : ℕ). OnOk c.call.result (Puts c.args.out.now c.call.new.out
    (λ rest. all_values args m (called c.in-Call.callee line c.in_ok-node-in-Call.node rest))))
    c.in_ok-node-in-Call.ensures.next calls))

pub values::values-value-requires : goal.values::values-value-requires
values::values-value-requires t c =
    let less = part_below c.args.es.now c.loop-e.e-index c.e-item.result (omega arith) c.e-item.is in
    (omega (arith, less, c.decreases), tt)
