use Rattle.std.proofs.Common.{◌+◌, ◌*◌, max, [], drop, map, option_map}
use Rattle.c_tree.specs.TreeView.{stmt_view, for_view, stmts_of, other_of, items_of}
use Rattle.c_tree.specs.TypedView.{typed_stmt_view}
use Rattle.c_tree.specs.Levels.{stmt_levels, stmts_levels, other_levels, head_levels, item_levels, items_levels}
use Rattle.c_typing.specs.StmtFaults.{no_labels}
use Rattle.c_types.specs.StmtChecks.{inside_of, item_seen, typed_item_seen}
use Rattle.c_values.proofs.ListLaws.{Left}
use Rattle.c_types.proofs.StmtLaws.{statements, switched_items}
use Rattle.c_types.proofs.statements.+stmt.Given as goal

abbrev pub decreases-stmt : goal.decreases-stmt
decreases-stmt l = 4 * stmt_levels (stmt_view l.s.now)

abbrev pub decreases-nested : goal.decreases-nested
decreases-nested l = 4 * stmt_levels (stmt_view l.s.now) + 1

abbrev pub decreases-stmts : goal.decreases-stmts
decreases-stmts l = 4 * stmts_levels (stmts_of (map stmt_view l.ss.now)) + 1

abbrev pub decreases-block : goal.decreases-block
decreases-block l = 4 * stmts_levels (stmts_of (map stmt_view l.ss.now)) + 2

abbrev pub decreases-otherwise : goal.decreases-otherwise
decreases-otherwise l = 4 * other_levels (other_of (option_map stmt_view l.s.now)) + 2

abbrev pub decreases-if_statement : goal.decreases-if_statement
decreases-if_statement l =
    4 * max (stmt_levels (stmt_view l.s.now)) (other_levels (other_of (option_map stmt_view l.other.now))) + 3

abbrev pub decreases-while_loop : goal.decreases-while_loop
decreases-while_loop l = 4 * stmt_levels (stmt_view l.s.now) + 2

abbrev pub decreases-do_loop : goal.decreases-do_loop
decreases-do_loop l = 4 * stmt_levels (stmt_view l.s.now) + 2

abbrev pub decreases-first_part : goal.decreases-first_part
decreases-first_part l = 4 * other_levels (other_of (option_map stmt_view l.s.now)) + 1

abbrev pub decreases-for_head : goal.decreases-for_head
decreases-for_head l = 4 * head_levels (for_view l.head.now) + 2

abbrev pub decreases-for_loop : goal.decreases-for_loop
decreases-for_loop l = 4 * max (head_levels (for_view l.head.now)) (stmt_levels (stmt_view l.s.now)) + 3

abbrev pub decreases-switch_item : goal.decreases-switch_item
decreases-switch_item l = 4 * item_levels (item_seen l.item.now) + 1

abbrev pub decreases-switch_items : goal.decreases-switch_items
decreases-switch_items l = 4 * items_levels (items_of (map item_seen l.items.now)) + 2

abbrev pub decreases-switch : goal.decreases-switch
decreases-switch l = 4 * items_levels (items_of (map item_seen l.items.now)) + 3

abbrev pub invariant-stmts-loop-s : goal.invariant-stmts-loop-s
invariant-stmts-loop-s l =
    Left (statements l.context.result (inside_of l.context)) [] l.fn.names l.ss l.names (drop l.s-index l.ss)
    (map typed_stmt_view l.made)

abbrev pub invariant-switch_items-loop-item : goal.invariant-switch_items-loop-item
invariant-switch_items-loop-item l =
    Left (switched_items l.context.result (inside_of l.context) l.to) []
    (record { here = l.fn.names; labels = no_labels }) l.items (record { here = l.names; labels = l.labels })
    (drop l.item-index l.items) (map typed_item_seen l.made)
