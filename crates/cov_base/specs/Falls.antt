-- The arcs along which control falls through.
use Rattle.std.specs.Prelude.{Bool, true, false, ◌+◌, ◌==◌, ◌||◌, ◌&&◌}
use Rattle.cov_base.specs.declared.net.ArcKind.{ArcKind}
use Rattle.cov_base.specs.declared.net.ArcKind.TheVariants.{Real, CallExit}
use Rattle.cov_base.specs.declared.net.FlowArc.{FlowArc}

-- the arc's kind is Real, not CallExit
abbrev pub is_real : ArcKind → Bool
is_real Real = true
is_real CallExit = false

-- control falls through along a real arc that leaves the entry or enters the next block
abbrev pub falls : FlowArc → Bool
falls arc = is_real arc.kind && ((arc.from == 0) || (arc.to == arc.from + 1))
