use Rattle.std.proofs.Common.{◌≡◌, sym, ap, ◌∙◌, None}
use Rattle.c_tree.specs.declared.stmt.Stmt.TheFolds.{fold-roll-Stmt}
use Rattle.c_tree.specs.declared.stmt.Stmt.TheOpen.{Stmt-F}
use Rattle.c_tree.specs.declared.stmt.Stmt.TheVariants.{rolls-If}
use Rattle.c_tree.specs.Stmt.{Stmt, SwitchItem, ForHead}
use Rattle.c_tree.specs.TreeView.{stmt_view, stmt_step, item_step, head_step}
use Rattle.c_tree.proofs.make_stmt.if_.Goals as goal

pub returns : goal.returns
returns c =
    let first : c.in_ok-new.field-0 ≡ c.args.first = c.in_ok-new.ensures in
    rw (sym first) (ap stmt_view (sym (rolls-If c.args.test c.in_ok-new.field-0 None))
    ∙ fold-roll-Stmt Stmt SwitchItem ForHead stmt_step item_step head_step (Stmt-F.If c.args.test c.in_ok-new.field-0 None))
