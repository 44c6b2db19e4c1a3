-- What the layers above cite of a source's pruned graphs: their run does what the source means, and they have nets.
use Rattle.std.specs.Prelude.{◌≡◌, ℕ, List}
use Rattle.std.specs.List.{All}
use Rattle.c_tree.specs.Typed.{Typed}
use Rattle.c_tree.specs.Sound.{Sound}
use Rattle.c_lower.specs.Lowered.{unit_of}
use Rattle.c_meaning.specs.Meaning.{meaning}
use Rattle.flow_graph.specs.Nets.{pruned}
use Rattle.flow_graph.specs.WalkRun.{Walked, WalkRun}
use Rattle.fake_arcs.specs.Tidy.{IsWellMade}

-- On this input and with so many turns, the run of a source's pruned graphs comes to exactly one outcome, and its
-- output and ending are those of the source's meaning.
pub record PrunedAgrees (source : Typed) (input : List ℕ) (turns : ℕ) : Type 0 where
  pub walked : Walked
  pub comes : WalkRun (pruned (unit_of source)) input turns walked
  pub alone : (other : Walked) → WalkRun (pruned (unit_of source)) input turns other → other ≡ walked
  pub output : walked.output ≡ (meaning source input turns).output
  pub ending : walked.ending ≡ (meaning source input turns).ending

-- Every sound source agrees with its pruned graphs, on every input and with every number of turns.
abbrev pub EachSourceAgrees : Type 0
EachSourceAgrees = (source : Typed) → Sound source → (input : List ℕ) (turns : ℕ) → PrunedAgrees source input turns

-- The graphs of every sound source have a first block, endings that lead to later blocks, and lines that ascend.
abbrev pub EachGraphIsWellMade : Type 0
EachGraphIsWellMade = (source : Typed) → Sound source → All IsWellMade (unit_of source).graphs
