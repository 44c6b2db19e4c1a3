use Rattle.std.proofs.Common.{◌∙◌, sym, ap, subst, arith, OnOk, Option, Some, option_map}
use Rattle.c_tree.specs.declared.typed_stmt.TypedStmt.{TypedStmt as StmtHeld}
use Rattle.c_tree.specs.TypedStmt.{TypedStmt as Form}
use Rattle.c_tree.specs.TypedView.{typed_expr_view, typed_stmt_view, other_typed_of}
use Rattle.c_lower.specs.Items.{code}
use Rattle.c_lower.specs.Building.{Puts}
use Rattle.c_lower.specs.ExitView.{exit_view}
use Rattle.c_lower.proofs.PartLaws.{stmt_below, item_below}
use Rattle.c_lower.proofs.+statement.Goals as goal

pub statements::if_statement-returns-in-None-clause-code : goal.statements::if_statement-returns-in-None-clause-code
statements::if_statement-returns-in-None-clause-code t c =
    subst (λ (o : Option StmtHeld). OnOk c.if_alone.result (Puts c.args.out.now c.if_alone.new.out
    (λ rest. code (Form.If (typed_expr_view c.args.e.now) (typed_stmt_view c.args.first.now)
    (other_typed_of (option_map typed_stmt_view o))) c.args.next.now (exit_view c.args.exits.now.breaks)
    (exit_view c.args.exits.now.continues) rest)))
    (sym c.in-None.is) c.if_alone.ensures.code

pub statements::if_statement-returns-in-Some-clause-code : goal.statements::if_statement-returns-in-Some-clause-code
statements::if_statement-returns-in-Some-clause-code t c =
    subst (λ (o : Option StmtHeld). OnOk c.if_else.result (Puts c.args.out.now c.if_else.new.out
    (λ rest. code (Form.If (typed_expr_view c.args.e.now) (typed_stmt_view c.args.first.now)
    (other_typed_of (option_map typed_stmt_view o))) c.args.next.now (exit_view c.args.exits.now.breaks)
    (exit_view c.args.exits.now.continues) rest)))
    (ap Some c.get.ensures ∙ sym c.in-Some.is) c.if_else.ensures.code

pub statements::statements-statement-requires : goal.statements::statements-statement-requires
statements::statements-statement-requires t c =
    let less = stmt_below c.args.stmts.now c.loop-stmt.stmt-index c.stmt-item.result (omega arith) c.stmt-item.is in
    (omega (arith, less, c.decreases), tt)

pub switches::switch_items-switch_item-requires : goal.switches::switch_items-switch_item-requires
switches::switch_items-switch_item-requires t c =
    let less = item_below c.args.row.now c.loop-item.item-index c.item-item.result (omega arith) c.item-item.is in
    (omega (arith, less, c.decreases), tt)
