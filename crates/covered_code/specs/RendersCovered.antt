-- When a code that counts renders a C source.
use Rattle.std.specs.Prelude.{◌≡◌, ℕ, true, List, length, Some, None, slice_get}
use Rattle.cov_base.specs.Net.{NetValue}
use Rattle.cov_base.specs.Walks.{Walk}
use Rattle.cov_base.specs.declared.refusal.Refusal.{Refusal}
use Rattle.cov_base.specs.declared.refusal.Refusal.TheVariants as refusal
use Rattle.c_tree.specs.Typed.{Typed}
use Rattle.c_lower.specs.Lowered.{unit_of}
use Rattle.flow_graph.specs.Graph.{Graph, GraphUnit}
use Rattle.flow_graph.specs.Nets.{pruned, net_of}
use Rattle.flow_graph.specs.WalkRun.{Walked, WalkRun, IsClosed}
use Rattle.span_tree.specs.Tree.{off}
use Rattle.prime_paths.specs.Paths.{ArePrimes}
use Rattle.stack_ops.specs.Code.{FunctionValue, CodeValue}
use Rattle.code_runs.specs.CodeChecks.{code_fault}
use Rattle.code_runs.specs.CodeRun.{Tally, Ran, CodeRun}
use Rattle.stack_code.specs.declared.shape.EmitFault.{EmitFault}
use Rattle.stack_code.specs.Modes.{ShapeValue}
use Rattle.stack_code.specs.UnitCode.{tables_size, size_fault}
use Rattle.source_graphs.specs.declared.graphs.SourceFault.{SourceFault}
use Rattle.source_graphs.specs.SourceGraphs.{IsSourceOf, AreGraphsOf, RefusesSource}
use Rattle.source_code.specs.Renders.{stamp_of, RunsAs}
use Rattle.covered_runs.specs.CoveredWalks.{counters_of, walks_of}
use Rattle.gcno_format.specs.Spelling.{checksum_of, IsWritable, IsNotes}
use Rattle.covered_code.specs.Shapes.{count_within, bits_within, AreMade}
use Rattle.covered_code.specs.UnitNotes.{notes_of}
use Rattle.covered_code.specs.declared.covered.CodeFault.{CodeFault}
use Rattle.covered_code.specs.declared.covered.CodeFault.TheVariants as fault
use Rattle.covered_code.specs.declared.covered.Covered.{Covered}

-- the function has the parameters and cells of a graph and gives a number where the graph does; it has the checksum of
-- the graph's net, a counter for each arc off the net's tree, and paths where its prime paths are within the limit
pub record IsCoveredFunction (limit : ℕ) (g : Graph) (f : FunctionValue) : Type 0 where
  pub params : f.params ≡ g.params
  pub cells : f.cells ≡ g.cells
  pub gives : f.gives ≡ g.gives
  pub checksum_is : f.checksum ≡ checksum_of (net_of g)
  pub counters : f.counters ≡ length (off (net_of g))
  pub primes : List (List ℕ)
  pub primes_are : ArePrimes (net_of g) primes
  pub paths : f.paths ≡ count_within limit (length primes)

-- the main function, the globals and the functions of the code are those of a unit, and it counts
pub record IsCoveredCodeOf (limit : ℕ) (u : GraphUnit) (code : CodeValue) : Type 0 where
  pub covered : code.covered ≡ true
  pub main : code.main ≡ u.main
  pub globals : code.globals ≡ u.globals
  pub count : length code.functions ≡ length u.graphs
  pub functions : (i : ℕ) (g : Graph) → slice_get u.graphs i ≡ Some g
      → (f : FunctionValue) × (slice_get code.functions i ≡ Some f) × IsCoveredFunction limit g f

-- A run has counted for function i what these walks passed and contained: each counter is the number of passages of its
-- arc, and the path words are the bits of the prime paths that some walk of the function contains.
pub record CountsWalks (limit : ℕ) (net : NetValue) (i : ℕ) (walks : List Walk) (t : Tally) : Type 0 where
  pub counters : slice_get t.counters i ≡ Some (counters_of net i walks)
  pub primes : List (List ℕ)
  pub primes_are : ArePrimes net primes
  pub words : slice_get t.words i ≡ Some (bits_within limit primes (walks_of i walks))

-- The run of the code on the input, with so many turns, comes to this where the run of the unit comes to these walks;
-- and where they are closed, it has counted them for each function, and for no others.
pub record CountsAs (limit : ℕ) (u : GraphUnit) (code : CodeValue) (input : List ℕ) (turns : ℕ) : Type 0 where
  pub walked : Walked
  pub walks : WalkRun u input turns walked
  pub ran : Ran
  pub comes : CodeRun code input turns ran
  pub ending : ran.ending ≡ walked.ending
  pub counters : length ran.tally.counters ≡ length u.graphs
  pub words : length ran.tally.words ≡ length u.graphs
  pub counted : IsClosed ran.ending → (i : ℕ) (g : Graph) → slice_get u.graphs i ≡ Some g
      → CountsWalks limit (net_of g) i walked.walks ran.tally

-- The code renders the text and counts: it passes the checks and has the stamp of the text and the limit; its main
-- function, its globals and its functions are those of the source; on every input and with every number of turns it
-- does what the source means; and where such a run returns or exits, it has counted what its walks passed and
-- contained.
pub record RendersCovered (text : List ℕ) (limit : ℕ) (code : CodeValue) : Type 0 where
  pub source : Typed
  pub is_source : IsSourceOf text source
  pub passes : code_fault code ≡ None
  pub stamp : code.stamp ≡ stamp_of limit text
  pub parts : IsCoveredCodeOf limit (pruned (unit_of source)) code
  pub runs : (input : List ℕ) (turns : ℕ) → RunsAs source code input turns
  pub counts : (input : List ℕ) (turns : ℕ) → CountsAs limit (pruned (unit_of source)) code input turns

-- The code renders the text and counts; and the notes are those of the same source's graphs, for this limit and with
-- the stamp of the limit and the text. They may be written, and are notes as they stand in a file.
pub record IsCovered (text : List ℕ) (limit : ℕ) (covered : Covered) : Type 0 where
  pub renders : RendersCovered text limit covered.code
  pub notes_are : covered.notes ≡ notes_of limit (stamp_of limit text) (pruned (unit_of renders.source))
  pub writable : IsWritable covered.notes
  pub stand : IsNotes covered.notes

-- Why a text has no code that counts: it isn't accepted, or the rows of its functions have too many numbers; or memory
-- ran out.
pub data RefusesCovered (text : List ℕ) (limit : ℕ) : Refusal CodeFault → Type 0 where
  not_accepted : {found : SourceFault} → RefusesSource text (refusal.Refused found)
      → RefusesCovered text limit (refusal.Refused (fault.Source found))
  too_large : {u : GraphUnit} {found : EmitFault} (shapes : List ShapeValue) → AreGraphsOf text u
      → AreMade limit u.graphs shapes → size_fault (tables_size shapes) ≡ Some found
      → RefusesCovered text limit (refusal.Refused (fault.Emit found))
  no_memory : RefusesCovered text limit refusal.NoMemory
