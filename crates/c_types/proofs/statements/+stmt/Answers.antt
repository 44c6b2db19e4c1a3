use Rattle.std.proofs.Common.{arith, sym, ap, subst, ◌∙◌, [], map, option_map}
use Rattle.std.proofs.lemmas.Result.{err_from_is_err_and}
use Rattle.c_tree.specs.TreeView.{expr_view, stmt_view, for_view, stmts_of, items_of}
use Rattle.c_tree.specs.TypedView.{typed_expr_view, typed_stmt_view, typed_stmts_of, typed_items_of}
use Rattle.c_typing.specs.StmtFaults.{no_labels}
use Rattle.c_values.specs.Checks.{Stands}
use Rattle.c_types.specs.StmtChecks.{inside_of, item_seen, typed_item_seen, typed_head_seen, typed_stmts_seen, typed_items_seen}
use Rattle.c_types.proofs.ScopeLaws.{stmt_open, all_open, head_open, items_open}
use Rattle.c_values.proofs.ListLaws.{refused_at, ended}
use Rattle.c_types.proofs.StmtLaws.{
  Among,
  statements,
  stmts_faults_are,
  stmts_are,
  stmts_end,
  switched_items,
  items_faults_are,
  items_are,
  items_end,
  one_stmt_levels,
  one_item_levels,
  nested_made,
  block_made,
  for_made,
  switch_refused,
  switch_made,
}
use Rattle.c_types.proofs.statements.+stmt.Goals as goal

pub nested-close-requires : goal.nested-close-requires
nested-close-requires t c =
    stmt_open c.open.new.self c.stmt.new.names (stmt_view c.args.s.now) c.in_ok-s.ensures.2 c.in_ok-open.ensures.within

pub nested-returns : goal.nested-returns
nested-returns t c =
    nested_made c.args.context.result (inside_of c.args.context) c.args.names.now c.open.new.self c.stmt.new.names
    c.close.new.self (stmt_view c.args.s.now) (typed_stmt_view c.in_ok-s.s) c.in_ok-open.ensures.opened c.in_ok-s.ensures
    c.close.ensures

pub block-close-requires : goal.block-close-requires
block-close-requires t c =
    all_open c.open.new.self c.stmts.new.names (stmts_of (map stmt_view c.as_slice.result.now)) c.in_ok-ss.ensures.2
    c.in_ok-open.ensures.within

pub block-returns : goal.block-returns
block-returns t c =
    block_made c.args.context.result (inside_of c.args.context) c.args.names.now c.open.new.self c.stmts.new.names
    c.close.new.self c.as_slice.result.now c.args.ss.now (typed_stmts_seen c.in_ok-ss.ss) (typed_stmt_view c.braces.result)
    c.as_slice.ensures c.in_ok-open.ensures.opened c.in_ok-ss.ensures c.close.ensures c.braces.ensures

pub for_loop-close-requires : goal.for_loop-close-requires
for_loop-close-requires t c =
    stmt_open c.for_head.new.names c.stmt.new.names (stmt_view c.args.s.now) c.in_ok-s.ensures.2
    (head_open c.open.new.self c.for_head.new.names (for_view c.args.head.now) c.in_ok-head.ensures.2
    c.in_ok-open.ensures.within)

pub for_loop-returns : goal.for_loop-returns
for_loop-returns t c =
    for_made c.args.context c.in_loop.result c.args.names.now c.open.new.self c.for_head.new.names c.stmt.new.names
    c.close.new.self (for_view c.args.head.now) (stmt_view c.args.s.now) (typed_head_seen c.in_ok-head.head)
    (typed_stmt_view c.in_ok-s.s) (typed_stmt_view c.in_ok-for_form.field-0) c.in_ok-open.ensures.opened
    c.in_ok-head.ensures c.in_loop.ensures c.in_ok-s.ensures c.close.ensures c.in_ok-for_form.ensures

pub switch-close-requires : goal.switch-close-requires
switch-close-requires t c =
    items_open c.open.new.self c.switch_items.new.names (items_of (map item_seen c.as_slice.result.now))
    c.in_ok-items.ensures.2 c.in_ok-open.ensures.within

pub switch-returns-in_err-items : goal.switch-returns-in_err-items
switch-returns-in_err-items t c =
    let p = err_from_is_err_and c.from_residual-in_err-items.result c.from_residual-in_err-items.ensures.1 in
    rw (p.1) (switch_refused c.args.context c.in_switch.result c.args.names.now c.open.new.self (expr_view c.args.e.now)
    (typed_expr_view c.in_ok-e.e) c.promoted_base-to.result c.as_slice.result.now c.args.items.now (p.0) c.in_ok-e.ensures
    c.promoted_base-to.ensures c.in_switch.ensures c.in_ok-open.ensures.opened c.as_slice.ensures
    (rw (p.2) (c.in_err-items.ensures)))

pub switch-returns : goal.switch-returns
switch-returns t c =
    switch_made c.args.context c.in_switch.result c.args.names.now c.open.new.self c.switch_items.new.names
    c.close.new.self (expr_view c.args.e.now) (typed_expr_view c.in_ok-e.e) (typed_expr_view c.in_ok-e-2.e)
    c.promoted_base-to.result c.as_slice.result.now c.args.items.now (typed_items_seen c.in_ok-items.items)
    (typed_stmt_view c.in_ok-switch_form.field-0) c.in_ok-e.ensures c.promoted_base-to.ensures c.in_ok-e-2.ensures
    c.in_switch.ensures c.in_ok-open.ensures.opened c.as_slice.ensures c.in_ok-items.ensures c.close.ensures
    c.in_ok-switch_form.ensures

pub stmts-stmt-requires : goal.stmts-stmt-requires
stmts-stmt-requires t c =
    let a = one_stmt_levels c.args.ss.now c.loop-s.s-index c.s-item.result (omega (arith, c.loop-s-test.true)) c.s-item.is in
    (omega (arith, a, c.decreases), tt)

pub stmts-returns-in_err-s : goal.stmts-returns-in_err-s
stmts-returns-in_err-s t c =
    let r = c.args.context.result in
    let i = inside_of c.args.context in
    let p = err_from_is_err_and c.from_residual.result c.from_residual.ensures.1 in
    rw (p.1) (subst (λ fs. Stands fs (p.0)) (stmts_faults_are r i c.args.names.now c.args.ss.now)
    (refused_at (statements r i) [] c.args.names.now c.loop-s.names c.args.ss.now c.loop-s.s-index c.s-item.result
    (map typed_stmt_view c.loop-s.made) (p.0) (omega (arith, c.loop-s-test.true)) c.s-item.is c.loop-s.invariant
    (rw (p.2) (c.in_err-s.ensures))))

pub stmts-returns : goal.stmts-returns
stmts-returns t c =
    let r = c.args.context.result in
    let i = inside_of c.args.context in
    let h = c.args.names.now in
    let ss = c.args.ss.now in
    let w = ended (statements r i) [] h c.loop-s.names ss c.loop-s.s-index (map typed_stmt_view c.loop-s.made)
    (omega (arith, c.loop-s-test.false)) c.loop-s.invariant in
    (sym (stmts_faults_are r i h ss) ∙ w.fine, ap typed_stmts_of w.made ∙ stmts_are r i h ss, w.ends ∙ stmts_end r i h ss)

pub switch_items-switch_item-requires : goal.switch_items-switch_item-requires
switch_items-switch_item-requires t c =
    let a = one_item_levels c.args.items.now c.loop-item.item-index c.item-item.result
    (omega (arith, c.loop-item-test.true)) c.item-item.is in
    (omega (arith, a, c.decreases), tt)

pub switch_items-returns-in_err-item : goal.switch_items-returns-in_err-item
switch_items-returns-in_err-item t c =
    let w = switched_items c.args.context.result (inside_of c.args.context) c.args.to in
    let start : Among = record { here = c.args.names.now; labels = no_labels } in
    let here : Among = record { here = c.loop-item.names; labels = c.loop-item.labels } in
    let p = err_from_is_err_and c.from_residual.result c.from_residual.ensures.1 in
    rw (p.1) (subst (λ fs. Stands fs (p.0))
    (items_faults_are c.args.context.result (inside_of c.args.context) c.args.to start c.args.items.now)
    (refused_at w [] start here c.args.items.now c.loop-item.item-index c.item-item.result
    (map typed_item_seen c.loop-item.made) (p.0) (omega (arith, c.loop-item-test.true)) c.item-item.is
    c.loop-item.invariant (rw (p.2) (c.in_err-item.ensures))))

pub switch_items-returns : goal.switch_items-returns
switch_items-returns t c =
    let r = c.args.context.result in
    let i = inside_of c.args.context in
    let start : Among = record { here = c.args.names.now; labels = no_labels } in
    let here : Among = record { here = c.loop-item.names; labels = c.loop-item.labels } in
    let is = c.args.items.now in
    let w = ended (switched_items r i c.args.to) [] start here is c.loop-item.item-index
    (map typed_item_seen c.loop-item.made) (omega (arith, c.loop-item-test.false)) c.loop-item.invariant in (
      sym (items_faults_are r i c.args.to start is) ∙ w.fine,
      ap typed_items_of w.made ∙ items_are r i c.args.to start is,
      ap (λ (a : Among). a.here) w.ends ∙ items_end r i c.args.to start is,
    )
