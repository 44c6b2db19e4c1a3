-- The stubs of a switch, as the program tells them.
use Rattle.std.specs.Prelude.{◌≡◌, ℕ, List}
use Rattle.stack_ops.specs.declared.operation.Op.{Op}
use Rattle.flow_graph.specs.Ascending.{Ascends}
use Rattle.stack_code.specs.declared.switches.Stubs.{Stubs as StubsHeld}
use Rattle.stack_code.specs.Places.{stubs_from, stubs_end}

-- the blocks ascend, and the stub of each stands where it does if the first stands at its place
pub record AreStubs (m : ℕ → List Op) (stubs : StubsHeld) : Type 0 where
  pub ascend : Ascends stubs.goals.items
  pub places_are : stubs.places.items ≡ stubs_from m stubs.first stubs.goals.items
  pub end_is : stubs.end ≡ stubs_end m stubs.first stubs.goals.items
