-- What the layers above cite of a source's graphs: their run does what the source means, and where their endings lead.
use Rattle.std.specs.Prelude.{◌≡◌, ℕ, suc, ◌+◌, ◌*◌, ◌<◌, Bool, true, false, List, [], ◌∷◌, length, slice_get, Some}
use Rattle.c_tree.specs.Typed.{Typed}
use Rattle.c_tree.specs.Sound.{Each, IsLine, Sound}
use Rattle.flow_graph.specs.Ascending.{Ascends}
use Rattle.flow_graph.specs.Graph.{Ending, Block, Graph, GraphUnit}
use Rattle.c_lower.specs.Lowered.{unit_of}
use Rattle.c_meaning.specs.Meaning.{meaning}
use Rattle.flow_graph.specs.Nets.{targets, among}
use Rattle.flow_graph.specs.WalkRun.{Walked, WalkRun, first, goes}

-- On this input and with so many turns, the run of a source's graphs comes to exactly one outcome, and its output and
-- ending are those of the source's meaning.
pub record Agrees (source : Typed) (input : List ℕ) (turns : ℕ) : Type 0 where
  pub walked : Walked
  pub comes : WalkRun (unit_of source) input turns walked
  pub alone : (other : Walked) → WalkRun (unit_of source) input turns other → other ≡ walked
  pub output : walked.output ≡ (meaning source input turns).output
  pub ending : walked.ending ≡ (meaning source input turns).ending

-- Every sound source agrees with its graphs, on every input and with every number of turns.
abbrev pub EachSourceAgrees : Type 0
EachSourceAgrees = (source : Typed) → Sound source → (input : List ℕ) (turns : ℕ) → Agrees source input turns

-- a number is that of a block of the graph behind its first, which is block 2
pub record IsLater (g : Graph) (target : ℕ) : Type 0 where
  pub above : 2 < target
  pub below : target < 2 + length g.blocks

-- A block is one of a graph of the source.
pub record IsBlockOf (source : Typed) (g : Graph) (b : Block) : Type 0 where
  pub function : ℕ
  pub graph : slice_get (unit_of source).graphs function ≡ Some g
  pub place : ℕ
  pub block : slice_get g.blocks place ≡ Some b

-- the ending is an arc back, which takes a turn
abbrev pub is_back : Ending → Bool
is_back (Ending.Back target) = true
is_back end = false

-- Whatever the ending of the block at this place leads to is a block of the graph behind its first, and a block behind
-- its own where the ending isn't an arc back.
pub record EndsWell (g : Graph) (place : ℕ) (end : Ending) : Type 0 where
  pub stands : (target : ℕ) → among target (targets end) ≡ true → IsLater g target
  pub up : is_back end ≡ false → (target : ℕ) → among target (targets end) ≡ true → 2 + place < target

-- So end the blocks of every source.
abbrev pub EachBlockEndsWell : Type 0
EachBlockEndsWell = (source : Typed) (g : Graph) (b : Block) (at : IsBlockOf source g b) → EndsWell g at.place b.end

-- the lines of a block ascend, each once, and are lines of a source
pub record HasLines (lines : List ℕ) : Type 0 where
  pub ascend : Ascends lines
  pub are_lines : Each IsLine lines

-- So are the lines of each block of a sound source's graphs.
abbrev pub EachBlockHasLines : Type 0
EachBlockHasLines =
    (source : Typed) → Sound source → (g : Graph) (b : Block) → IsBlockOf source g b → HasLines b.lines

-- how many blocks the graphs have
abbrev pub blocks_in : List Graph → ℕ
blocks_in [] = 0
blocks_in (g ∷ gs) = length g.blocks + blocks_in gs

-- Each turn allows a run every block once more.
abbrev pub most_blocks : GraphUnit → ℕ → ℕ
most_blocks u turns = suc turns * suc (blocks_in u.graphs)

-- Each run of a source's graphs is over within so many blocks.
abbrev pub EachRunIsShort : Type 0
EachRunIsShort =
    (source : Typed) (input : List ℕ) (turns : ℕ) (walked : Walked) → WalkRun (unit_of source) input turns walked
    → goes (most_blocks (unit_of source) turns) (unit_of source) (first (unit_of source) input turns) ≡ Some walked
