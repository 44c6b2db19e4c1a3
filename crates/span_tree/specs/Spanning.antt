-- What the blocks that came make a spanning tree by, whatever their order.
use Rattle.std.specs.Prelude.{◌≡◌, ℕ, ◌<◌, true, List, length, Some, slice_get}
use Rattle.cov_base.specs.Net.{NetValue}
use Rattle.cov_base.specs.declared.net.FlowArc.{FlowArc}
use Rattle.span_tree.specs.declared.arrival.Arrival.{Arrival}
use Rattle.span_tree.specs.Tree.{is_there, is_linked}

-- each block of the net came, and once; each arc into the exit is on the tree
pub record Spans (net : NetValue) (came : List Arrival) : Type 0 where
  pub all : (b : ℕ) → b < net.blocks → is_there came b ≡ true
  pub once : length came ≡ net.blocks
  pub exit : (i : ℕ) (arc : FlowArc) → slice_get net.arcs i ≡ Some arc → arc.to ≡ 1 → is_linked came i ≡ true
