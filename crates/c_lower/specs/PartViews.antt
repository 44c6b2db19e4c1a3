-- What the definitions see of the parts of the program's typed statements.
use Rattle.c_tree.specs.declared.typed_stmt.TypedForHead.{TypedForHead as HeadHeld, fold-TypedForHead}
use Rattle.c_tree.specs.declared.typed_stmt.TypedSwitchItem.{TypedSwitchItem as ItemHeld, fold-TypedSwitchItem}
use Rattle.c_tree.specs.TypedStmt.{TypedStmt, TypedForHead, TypedItem}
use Rattle.c_tree.specs.TypedView.{typed_stmt_step, typed_head_step, typed_item_step}

-- the parentheses of a `for` that the program holds
abbrev pub head_view : HeadHeld → TypedForHead
head_view = fold-TypedForHead TypedStmt TypedItem TypedForHead typed_stmt_step typed_item_step typed_head_step

-- the label or the item of a `switch` that the program holds
abbrev pub item_view : ItemHeld → TypedItem
item_view = fold-TypedSwitchItem TypedStmt TypedItem TypedForHead typed_stmt_step typed_item_step typed_head_step
