-- What the nets of a unit are refused for.
use Rattle.std.specs.Prelude.{◌≡◌, Some}
use Rattle.cov_base.specs.declared.refusal.Refusal.{Refusal}
use Rattle.cov_base.specs.declared.refusal.Refusal.TheVariants as refusal
use Rattle.flow_graph.specs.Graph.{GraphUnit}
use Rattle.fake_arcs.specs.declared.pruning.SizeFault.{SizeFault}
use Rattle.fake_arcs.specs.Size.{size_fault}

-- the refusal tells the first fault of the unit's size; want of memory says nothing
abbrev pub RefusesSize : GraphUnit → Refusal SizeFault → Type 0
RefusesSize u (refusal.Refused found) = size_fault u ≡ Some found
RefusesSize u refusal.NoMemory = Unit {0}
