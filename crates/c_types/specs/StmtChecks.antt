-- What the definitions see of statements, labels and items while they are checked.
use Rattle.std.specs.Prelude.{List, map, Option, option_map}
use Rattle.c_tree.specs.declared.stmt.Stmt.TheFolds.{fold-SwitchItem}
use Rattle.c_tree.specs.declared.stmt.SwitchItem.{SwitchItem as ItemHeld}
use Rattle.c_tree.specs.declared.typed_stmt.TypedStmt.{TypedStmt as TypedHeld}
use Rattle.c_tree.specs.declared.typed_stmt.TypedStmt.TheFolds.{fold-TypedForHead, fold-TypedSwitchItem}
use Rattle.c_tree.specs.declared.typed_stmt.TypedSwitchItem.{TypedSwitchItem as TypedItemHeld}
use Rattle.c_tree.specs.declared.typed_stmt.TypedForHead.{TypedForHead as TypedHeadHeld}
use Rattle.c_tree.specs.Stmt.{Stmt, ForHead, SwitchItem}
use Rattle.c_tree.specs.TreeView.{stmt_step, item_step, head_step}
use Rattle.c_tree.specs.TypedStmt.{TypedStmt, OtherTyped, TypedForHead, TypedStmts, TypedItem, TypedItems}
use Rattle.c_tree.specs.TypedView.{
  typed_stmt_view,
  typed_stmts_of,
  typed_items_of,
  other_typed_of,
  typed_stmt_step,
  typed_item_step,
  typed_head_step,
}
use Rattle.c_tree.specs.Sound.{Inside}
use Rattle.c_types.specs.declared.statements.Context.{Context}

-- whether `break` and `continue` may stand there
abbrev pub inside_of : Context → Inside
inside_of c = record { breaks = c.breaks; continues = c.continues }

-- a label or an item of a `switch`
abbrev pub item_seen : ItemHeld → SwitchItem
item_seen = fold-SwitchItem Stmt SwitchItem ForHead stmt_step item_step head_step

-- a typed label or item
abbrev pub typed_item_seen : TypedItemHeld → TypedItem
typed_item_seen = fold-TypedSwitchItem TypedStmt TypedItem TypedForHead typed_stmt_step typed_item_step typed_head_step

-- the typed parentheses of a `for`
abbrev pub typed_head_seen : TypedHeadHeld → TypedForHead
typed_head_seen = fold-TypedForHead TypedStmt TypedItem TypedForHead typed_stmt_step typed_item_step typed_head_step

-- a typed statement that may be left out
abbrev pub typed_other_seen : Option TypedHeld → OtherTyped
typed_other_seen s = other_typed_of (option_map typed_stmt_view s)

-- a list of typed statements
abbrev pub typed_stmts_seen : List TypedHeld → TypedStmts
typed_stmts_seen ss = typed_stmts_of (map typed_stmt_view ss)

-- a list of typed labels and items
abbrev pub typed_items_seen : List TypedItemHeld → TypedItems
typed_items_seen is = typed_items_of (map typed_item_seen is)
