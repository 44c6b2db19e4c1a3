-- What the definitions see of the endings that lowering holds, whose blocks have names yet.
use Rattle.std.specs.Prelude.{map}
use Rattle.c_lower.specs.declared.named.Close.{Close as CloseHeld}
use Rattle.c_lower.specs.Items.{Close}

-- the ending that the program holds
abbrev pub close_view : CloseHeld → Close
close_view (CloseHeld.Jump l) = Close.Jump l
close_view (CloseHeld.Back l) = Close.Back l
close_view (CloseHeld.Branch t f) = Close.Branch t f
close_view (CloseHeld.Select cases default) = Close.Select (map (λ c. (c.0, c.1)) cases.items) default
close_view (CloseHeld.CallTo f line l) = Close.CallTo f line l
close_view CloseHeld.Leave = Close.Leave
close_view CloseHeld.Quit = Close.Quit
