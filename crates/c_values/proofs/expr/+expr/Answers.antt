use Rattle.std.proofs.Common.{arith, [], sym, ap, subst, ◌∙◌, ◌+◌, ◌++◌, map, drop}
use Rattle.std.proofs.lemmas.Result.{err_from_is_err_and}
use Rattle.c_tree.specs.TreeView.{kind_view, expr_view, exprs_of}
use Rattle.c_tree.specs.TypedView.{typed_expr_view}
use Rattle.c_typing.specs.Names.{meaning}
use Rattle.c_typing.specs.TypedForms.{typed, typed_kind, typed_args, called}
use Rattle.c_typing.specs.ExprFaults.{count, kind_faults, call_faults, args_faults}
use Rattle.c_values.specs.Checks.{Checks, passed_first, args_view}
use Rattle.c_values.proofs.ArgLaws.{
  call_view,
  arguments,
  refused_call,
  call_made,
  refused_sides,
  arg_levels,
  refused_args,
  next_param,
  all_passed,
}
use Rattle.c_values.proofs.ListLaws.{goes_on, one_more, ended}
use Rattle.c_values.proofs.expr.+expr.Goals as goal

pub call-returns-in_err-callee : goal.call-returns-in_err-callee
call-returns-in_err-callee t c =
    let p = err_from_is_err_and c.from_residual.result c.from_residual.ensures.1 in
    let n = c.args.names.now.scopes in
    rw (p.1) (refused_call n (meaning n c.args.name.now) c.args.args.now c.args.at.0 (p.0) (rw (p.2) (c.in_err-callee.ensures)))

pub call-returns : goal.call-returns
call-returns t c =
    let n = c.args.names.now.scopes in
    rw c.call.ensures (call_made n (meaning n c.args.name.now) c.args.args.now (args_view c.in_ok-args.args) c.in_ok-callee.callee
    c.in_ok-callee.result c.in_ok-callee.params.now c.args.at.0 c.args.at.1 c.in_ok-callee.ensures.0 c.in_ok-callee.ensures.1
    c.in_ok-args.ensures.0 c.in_ok-args.ensures.1)

pub sides-returns-in_err-agree : goal.sides-returns-in_err-agree
sides-returns-in_err-agree t c =
    let p = err_from_is_err_and c.from_residual-in_err-agree.result c.from_residual-in_err-agree.ensures.1 in
    rw (p.1) (refused_sides c.args.names.now.scopes (expr_view c.args.x.now) (expr_view c.args.y.now)
    (typed_expr_view c.in_ok-first.first) (typed_expr_view c.in_ok-second.second) (p.0) c.in_ok-first.ensures c.in_ok-second.ensures
    (rw (p.2) (c.in_err-agree.ensures)))

pub expr-returns-in-Call : goal.expr-returns-in-Call
expr-returns-in-Call t c =
    let n = c.args.names.now.scopes in
    let e = c.args.e.now in
    let is = ap kind_view c.in-Call.is ∙ call_view c.in-Call.name c.in-Call.args in
    subst (λ k. Checks typed_expr_view (kind_faults n k e.place) (typed_kind n k e.place e.line) c.call.result) (sym is)
    (subst (λ xs. Checks typed_expr_view
    (call_faults (meaning n c.in-Call.name) (count (exprs_of (map expr_view xs))) e.place ++ args_faults n (exprs_of (map expr_view xs)))
    (called (meaning n c.in-Call.name) (typed_args n (exprs_of (map expr_view xs))) e.place e.line) c.call.result)
    c.as_slice.ensures c.call.ensures)

pub passed-value-requires : goal.passed-value-requires
passed-value-requires t c =
    let a = arg_levels c.args.args.now c.loop-at.at c.index-args-at.result (omega (arith, c.loop-at-test.true)) c.index-args-at.is in
    (omega (arith, a, c.decreases), tt)

pub passed-returns-in_err-arg : goal.passed-returns-in_err-arg
passed-returns-in_err-arg t c =
    let p = err_from_is_err_and c.from_residual.result c.from_residual.ensures.1 in
    rw (p.1) (refused_args c.args.names.now.scopes c.args.params.now (drop c.loop-at.at c.args.params.now) c.args.args.now
    c.loop-at.at c.index-args-at.result (map typed_expr_view c.loop-at.passed) (p.0) (omega (arith, c.loop-at-test.true))
    c.index-args-at.is c.loop-at.invariant (rw (p.2) (c.in_err-arg.ensures)))

pub passed-loop-at-preserved : goal.passed-loop-at-preserved
passed-loop-at-preserved t c =
    let n = c.args.names.now.scopes in
    let ps = c.args.params.now in
    goes_on (arguments n) [] ps (drop c.loop-at.at ps) (drop (c.loop-at.at + 1) ps) c.args.args.now c.loop-at.at c.index-args-at.result
    (map typed_expr_view c.loop-at.passed) (map typed_expr_view c.push.new.self) (omega (arith, c.loop-at-test.true)) c.index-args-at.is
    c.loop-at.invariant c.in_ok-arg.ensures.0
    (one_more typed_expr_view c.loop-at.passed c.push.new.self c.in_ok-passed.field-0
    (passed_first (drop c.loop-at.at ps) (typed n (expr_view c.index-args-at.result))) c.in_ok-push.ensures.ok
    (c.in_ok-passed.ensures ∙ ap (passed_first (drop c.loop-at.at ps)) c.in_ok-arg.ensures.1))
    (next_param ps c.loop-at.at)

pub passed-returns : goal.passed-returns
passed-returns t c =
    let n = c.args.names.now.scopes in
    let here = drop c.loop-at.at c.args.params.now in
    all_passed n c.args.params.now here c.args.args.now (map typed_expr_view c.loop-at.passed)
    (ended (arguments n) [] c.args.params.now here c.args.args.now c.loop-at.at (map typed_expr_view c.loop-at.passed)
    (omega (arith, c.loop-at-test.false)) c.loop-at.invariant)
