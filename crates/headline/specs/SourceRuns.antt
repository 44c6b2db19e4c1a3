-- Runs of a C source by what it means and by the walks of its graphs, and what data of such runs are.
use Rattle.std.specs.Prelude.{ℕ, ◌+◌, cond, List, [], ◌∷◌, ◌++◌}
use Rattle.cov_base.specs.Walks.{Walk}
use Rattle.c_tree.specs.Typed.{Typed}
use Rattle.c_lower.specs.Lowered.{unit_of}
use Rattle.flow_graph.specs.Nets.{pruned}
use Rattle.flow_graph.specs.WalkRun.{Walked, WalkRun}
use Rattle.gcda_format.specs.Data.{DataValue}
use Rattle.gcno_format.specs.Notes.{NotesValue}
use Rattle.source_code.specs.Renders.{stamp_of}
use Rattle.covered_code.specs.UnitNotes.{notes_of}
use Rattle.run_counts.specs.Texts.{is_closed}
use Rattle.path_report.specs.Tally.{TallyValue}
use Rattle.walk_counts.specs.WalkData.{IsDataOf}
use Rattle.walk_counts.specs.WalkTallies.{IsTallyOfWalks}

-- a run that is asked for: its input, and how many turns it may take
pub record Asked : Type 0 where
  pub input : List ℕ
  pub turns : ℕ

-- the run of the source's graphs that is asked for comes to this
abbrev pub IsWalked : Typed → Asked → Walked → Type 0
IsWalked source asked walked = WalkRun (pruned (unit_of source)) asked.input asked.turns walked

-- so does each of those that are asked for, in order, and none is lacking
abbrev pub AreWalked : Typed → List Asked → List Walked → Type 0
AreWalked source [] [] = Unit {0}
AreWalked source (asked ∷ more) (walked ∷ others) = IsWalked source asked walked × AreWalked source more others
AreWalked source _ _ = ⊥

-- how many of these runs returned or exited
abbrev pub closed_runs : List Walked → ℕ
closed_runs [] = 0
closed_runs (walked ∷ others) = cond (is_closed walked.ending) 1 0 + closed_runs others

-- the walks of those that did, in order: what a trapped run or one out of turns went counts nowhere
abbrev pub closed_walks : List Walked → List Walk
closed_walks [] = []
closed_walks (walked ∷ others) = cond (is_closed walked.ending) walked.walks [] ++ closed_walks others

-- the notes of a source with this text, for this limit of paths
abbrev pub notes_for : ℕ → List ℕ → Typed → NotesValue
notes_for limit text source = notes_of limit (stamp_of limit text) (pruned (unit_of source))

-- The data stand for the runs of the source that are asked for: they are those of the ones that returned or exited, by
-- the walks that these went.
pub record StandFor (limit : ℕ) (text : List ℕ) (source : Typed) (asked : List Asked) (counts : DataValue) : Type 0
  where
    pub walked : List Walked
    pub are : AreWalked source asked walked
    pub data_are : IsDataOf (notes_for limit text source) (closed_runs walked) (closed_walks walked) counts

-- The tally tells of the runs of the source that are asked for: for each arc how often the walks of those that returned
-- or exited passed it, and for each prime path within the limit whether some walk of them contains it.
pub record TellsOf (limit : ℕ) (text : List ℕ) (source : Typed) (asked : List Asked) (tally : TallyValue) : Type 0
  where
    pub walked : List Walked
    pub are : AreWalked source asked walked
    pub tells : IsTallyOfWalks (notes_for limit text source) (closed_runs walked) (closed_walks walked) tally
