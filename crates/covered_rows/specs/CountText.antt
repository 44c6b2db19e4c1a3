-- What the run of a text by its code that counts is.
use Rattle.std.specs.Prelude.{◌≡◌, ℕ, List, [], Some, slice_get}
use Rattle.c_tree.specs.Typed.{Typed}
use Rattle.c_lower.specs.Lowered.{unit_of}
use Rattle.c_meaning.specs.Meaning.{meaning}
use Rattle.code_runs.specs.CodeRun.{Tally}
use Rattle.flow_graph.specs.Graph.{Graph}
use Rattle.flow_graph.specs.Nets.{pruned, net_of}
use Rattle.flow_graph.specs.WalkRun.{Walked, WalkRun, IsClosed}
use Rattle.source_graphs.specs.SourceGraphs.{IsSourceOf}
use Rattle.stack_machine.specs.Machine.{MachineValue}
use Rattle.stack_ops.specs.declared.endings.Outcome.{Outcome}
use Rattle.covered_code.specs.RendersCovered.{CountsWalks}

-- what a machine has counted
abbrev pub tally_of : MachineValue → Tally
tally_of m = record { counters = m.counters; words = m.words; marks = [] }

-- The output and the ending are those that the text means as a C source, on the input and with so many turns; and where
-- the run is closed, the machine has counted what its walks passed and contained.
pub record IsCountedRun (text : List ℕ) (limit turns : ℕ) (input : List ℕ) (outcome : Outcome) (m : MachineValue) :
    Type 0 where
  pub source : Typed
  pub is_source : IsSourceOf text source
  pub output_is : m.output ≡ (meaning source input turns).output
  pub ending : outcome ≡ (meaning source input turns).ending
  pub walked : Walked
  pub walks : WalkRun (pruned (unit_of source)) input turns walked
  pub counted : IsClosed outcome → (i : ℕ) (g : Graph) → slice_get (pruned (unit_of source)).graphs i ≡ Some g
      → CountsWalks limit (net_of g) i walked.walks (tally_of m)
