-- When a code renders a C source.
use Rattle.std.specs.Prelude.{◌≡◌, ℕ, false, List, ◌++◌, length, take, None, Result, Ok, Err, Some, slice_get}
use Rattle.std.specs.Int.{from_le_bytes, to_le_bytes, w32}
use Rattle.sha2.specs.Sha256.{sha256}
use Rattle.cov_base.specs.declared.refusal.Refusal.{Refusal}
use Rattle.c_tree.specs.Typed.{Typed}
use Rattle.c_meaning.specs.Meaning.{meaning}
use Rattle.c_lower.specs.Lowered.{unit_of}
use Rattle.flow_graph.specs.Graph.{Graph, GraphUnit}
use Rattle.flow_graph.specs.Nets.{pruned}
use Rattle.stack_ops.specs.Code.{FunctionValue, CodeValue}
use Rattle.code_runs.specs.CodeChecks.{code_fault}
use Rattle.code_runs.specs.CodeRun.{Ran, CodeRun}
use Rattle.source_graphs.specs.declared.graphs.SourceFault.{SourceFault}
use Rattle.source_graphs.specs.SourceGraphs.{IsSourceOf, RefusesSource}

-- The stamp of a source: the first four bytes, the least first, of the SHA-256 (FIPS 180-4) of the path limit, in four
-- bytes, and the source.
abbrev pub stamp_of : ℕ → List ℕ → ℕ
stamp_of limit text = from_le_bytes w32 (take 4 (sha256 (to_le_bytes w32 limit ++ text)))

-- the run of the code on the input, with so many turns, has the output and the ending of the source's meaning
pub record RunsAs (source : Typed) (code : CodeValue) (input : List ℕ) (turns : ℕ) : Type 0 where
  pub ran : Ran
  pub comes : CodeRun code input turns ran
  pub output : ran.output ≡ (meaning source input turns).output
  pub ending : ran.ending ≡ (meaning source input turns).ending

-- the function has the parameters and cells of a graph, gives a number where the graph does, and counts nothing
pub record IsPlainFunction (g : Graph) (f : FunctionValue) : Type 0 where
  pub params : f.params ≡ g.params
  pub cells : f.cells ≡ g.cells
  pub gives : f.gives ≡ g.gives
  pub checksum : f.checksum ≡ 0
  pub counters : f.counters ≡ 0
  pub paths : f.paths ≡ 0
  pub passes : f.passes ≡ 0

-- the main function, the globals and the functions of the code are those of a unit, and it counts nothing
pub record IsPlainCodeOf (u : GraphUnit) (code : CodeValue) : Type 0 where
  pub plain : code.covered ≡ false
  pub main : code.main ≡ u.main
  pub globals : code.globals ≡ u.globals
  pub count : length code.functions ≡ length u.graphs
  pub functions : (i : ℕ) (g : Graph) → slice_get u.graphs i ≡ Some g
      → (f : FunctionValue) × (slice_get code.functions i ≡ Some f) × IsPlainFunction g f

-- The code renders the text without counting: it passes the checks and has the text's stamp; its main function, its
-- globals and its functions are those of the source; and on every input and with every number of turns it does what the
-- source means.
pub record Renders (text : List ℕ) (code : CodeValue) : Type 0 where
  pub source : Typed
  pub is_source : IsSourceOf text source
  pub passes : code_fault code ≡ None
  pub stamp : code.stamp ≡ stamp_of 0 text
  pub parts : IsPlainCodeOf (pruned (unit_of source)) code
  pub runs : (input : List ℕ) (turns : ℕ) → RunsAs source code input turns

-- the answer for a text
abbrev pub PlainCodeOf : List ℕ → Result CodeValue (Refusal SourceFault) → Type 0
PlainCodeOf text (Ok code) = Renders text code
PlainCodeOf text (Err e) = RefusesSource text e
