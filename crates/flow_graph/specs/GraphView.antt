-- What the definitions see of the program's endings of blocks.
use Rattle.std.specs.Prelude.{map}
use Rattle.flow_graph.specs.declared.graph.Ending.{Ending as EndingHeld}
use Rattle.flow_graph.specs.Graph.{Ending}

-- the ending that the program holds
abbrev pub ending_view : EndingHeld → Ending
ending_view (EndingHeld.Jump t) = Ending.Jump t
ending_view (EndingHeld.Back t) = Ending.Back t
ending_view (EndingHeld.Branch t f) = Ending.Branch t f
ending_view (EndingHeld.Switch cases default) = Ending.Switch (map (λ c. (c.0, c.1)) cases.items) default
ending_view (EndingHeld.Call f line next) = Ending.Call f line next
ending_view EndingHeld.Return = Ending.Return
ending_view EndingHeld.Exit = Ending.Exit
