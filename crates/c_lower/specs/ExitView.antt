-- What the definitions see of where `break` and `continue` go.
use Rattle.c_lower.specs.declared.exits.Exit.{Exit}
use Rattle.c_lower.specs.declared.exits.Exit.TheVariants as exit
use Rattle.c_lower.specs.Items.{Close}

-- where a `break` or a `continue` goes, as an ending
abbrev pub exit_view : Exit → Close
exit_view (exit.Jump l) = Close.Jump l
exit_view (exit.Back l) = Close.Back l
exit_view exit.Leave = Close.Leave
