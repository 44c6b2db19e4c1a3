use Rattle.std.proofs.Common.{◌≡◌, ◌+◌, ◌*◌, ◌++◌, Bool, List, None, map, option_map, drop}
use Rattle.c_tree.specs.TypedView.{typed_stmt_view, typed_stmts_of, typed_items_of, other_typed_of}
use Rattle.c_lower.specs.Items.{Item, Name, codes_of, code_items, cases_of, default_of}
use Rattle.c_lower.specs.Items.{stmt_nodes, stmts_nodes, item_nodes, items_nodes, other_nodes}
use Rattle.c_lower.specs.Building.{made}
use Rattle.c_lower.specs.ExitView.{exit_view}
use Rattle.c_lower.specs.PartViews.{item_view, head_view}
use Rattle.c_lower.specs.Tables.{default_or}
use Rattle.c_lower.proofs.PartLaws.{first_of}
use Rattle.c_lower.proofs.+statement.Given as goal

abbrev pub decreases-statements::statement : goal.decreases-statements::statement
decreases-statements::statement l = 5 * stmt_nodes (typed_stmt_view l.s.now)

abbrev pub decreases-statements::statements : goal.decreases-statements::statements
decreases-statements::statements l = 5 * stmts_nodes (typed_stmts_of (map typed_stmt_view l.stmts.now)) + 1

abbrev pub decreases-statements::if_statement : goal.decreases-statements::if_statement
decreases-statements::if_statement l = 5 * (stmt_nodes (typed_stmt_view l.first.now)
    + other_nodes (other_typed_of (option_map typed_stmt_view l.other.now))) + 2

abbrev pub decreases-statements::if_alone : goal.decreases-statements::if_alone
decreases-statements::if_alone l = 5 * stmt_nodes (typed_stmt_view l.first.now) + 1

abbrev pub decreases-statements::if_else : goal.decreases-statements::if_else
decreases-statements::if_else l =
    5 * (stmt_nodes (typed_stmt_view l.first.now) + stmt_nodes (typed_stmt_view l.second.now)) + 1

abbrev pub decreases-loops::while_loop : goal.decreases-loops::while_loop
decreases-loops::while_loop l = 5 * stmt_nodes (typed_stmt_view l.body.now) + 1

abbrev pub decreases-loops::do_loop : goal.decreases-loops::do_loop
decreases-loops::do_loop l = 5 * stmt_nodes (typed_stmt_view l.body.now) + 1

abbrev pub decreases-loops::first_if : goal.decreases-loops::first_if
decreases-loops::first_if l = 5 * other_nodes (other_typed_of (option_map typed_stmt_view l.first.now)) + 1

abbrev pub decreases-loops::round : goal.decreases-loops::round
decreases-loops::round l = 5 * stmt_nodes (typed_stmt_view l.body.now) + 1

abbrev pub decreases-loops::for_loop : goal.decreases-loops::for_loop
decreases-loops::for_loop l =
    5 * (first_of (head_view l.head.now) + stmt_nodes (typed_stmt_view l.body.now)) + 2

abbrev pub decreases-switches::switch_item : goal.decreases-switches::switch_item
decreases-switches::switch_item l = 5 * item_nodes (item_view l.item.now) + 1

abbrev pub decreases-switches::switch_items : goal.decreases-switches::switch_items
decreases-switches::switch_items l = 5 * items_nodes (typed_items_of (map item_view l.row.now)) + 2

abbrev pub decreases-switches::arms : goal.decreases-switches::arms
decreases-switches::arms l = 5 * items_nodes (typed_items_of (map item_view l.row.now)) + 3

abbrev pub decreases-switches::switch : goal.decreases-switches::switch
decreases-switches::switch l = 5 * items_nodes (typed_items_of (map item_view l.row.now)) + 4

abbrev pub invariant-statements::statements-loop-stmt : goal.invariant-statements::statements-loop-stmt
invariant-statements::statements-loop-stmt l = record {
  code : (gives : Bool) (rest : List Item)
      → made gives l.out (codes_of (typed_stmts_of (map typed_stmt_view (drop l.stmt-index l.stmts))) l.next
      (exit_view l.exits.breaks) (exit_view l.exits.continues) rest)
      ≡ made gives l.fn.out (codes_of (typed_stmts_of (map typed_stmt_view l.stmts)) l.fn.next
      (exit_view l.exits.breaks) (exit_view l.exits.continues) rest);
  next : l.next + stmts_nodes (typed_stmts_of (map typed_stmt_view (drop l.stmt-index l.stmts)))
      ≡ l.fn.next + stmts_nodes (typed_stmts_of (map typed_stmt_view l.stmts));
}

abbrev pub invariant-switches::switch_items-loop-item : goal.invariant-switches::switch_items-loop-item
invariant-switches::switch_items-loop-item l = record {
  code : (gives : Bool) (rest : List Item)
      → made gives l.out (code_items (typed_items_of (map item_view (drop l.item-index l.row))) l.next l.group
      (exit_view l.exits.breaks) (exit_view l.exits.continues) rest)
      ≡ made gives l.fn.out (code_items (typed_items_of (map item_view l.row)) l.fn.next None
      (exit_view l.exits.breaks) (exit_view l.exits.continues) rest);
  next : l.next + items_nodes (typed_items_of (map item_view (drop l.item-index l.row)))
      ≡ l.fn.next + items_nodes (typed_items_of (map item_view l.row));
  cases : l.table.cases ++ cases_of (typed_items_of (map item_view (drop l.item-index l.row))) l.next l.group
      ≡ l.fn.table.cases ++ cases_of (typed_items_of (map item_view l.row)) l.fn.next None;
  default : (end : Name) → default_or l.table.default
      (default_of (typed_items_of (map item_view (drop l.item-index l.row))) l.next l.group end)
      ≡ default_or l.fn.table.default (default_of (typed_items_of (map item_view l.row)) l.fn.next None end);
}
