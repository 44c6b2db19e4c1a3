use Rattle.std.proofs.Common.{◌≡◌, take}
use Rattle.span_tree.specs.Tree.{order_of}
use Rattle.span_tree.proofs.tree.order_from.Given as goal

abbrev pub invariant-loop-arrival : goal.invariant-loop-arrival
invariant-loop-arrival l = l.order.items ≡ order_of (take l.arrival-index l.came)
