use Rattle.std.proofs.Common.{◌≡◌, sym, ap, ◌∙◌, Some}
use Rattle.c_tree.specs.declared.stmt.Stmt.TheFolds.{fold-roll-Stmt}
use Rattle.c_tree.specs.declared.stmt.Stmt.TheOpen.{Stmt-F}
use Rattle.c_tree.specs.declared.stmt.Stmt.TheVariants.{rolls-If}
use Rattle.c_tree.specs.Stmt.{Stmt, SwitchItem, ForHead}
use Rattle.c_tree.specs.TreeView.{stmt_view, stmt_step, item_step, head_step}
use Rattle.c_tree.proofs.make_stmt.if_else.Goals as goal

pub returns : goal.returns
returns c =
    let first : c.in_ok-first.first ≡ c.args.first = c.in_ok-first.ensures in
    let second : c.in_ok-second.second ≡ c.args.second = c.in_ok-second.ensures in
    rw (sym first, sym second) (ap stmt_view (sym (rolls-If c.args.test c.in_ok-first.first (Some c.in_ok-second.second)))
    ∙ fold-roll-Stmt Stmt SwitchItem ForHead stmt_step item_step head_step (Stmt-F.If c.args.test c.in_ok-first.first (Some c.in_ok-second.second)))
