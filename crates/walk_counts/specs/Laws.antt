-- What the laws of walks, their data and their tallies say.
use Rattle.std.specs.Prelude.{◌≡◌, ◌≢◌, ◌↔◌, ℕ, ◌+◌, ◌<◌, nat_lt, pos, if◌then◌else◌, List, ◌++◌, length, map}
use Rattle.std.specs.Prelude.{Some, None, slice_get, Ok}
use Rattle.std.specs.Bool.{Decides}
use Rattle.std.specs.List.{All}
use Rattle.std.specs.Option.{option_or}
use Rattle.cov_base.specs.Net.{NetValue, IsNet}
use Rattle.cov_base.specs.Walks.{Walk, line_passages}
use Rattle.prime_paths.specs.declared.listing.Listing.TheVariants as listing
use Rattle.flow_graph.specs.Graph.{Graph, GraphUnit}
use Rattle.flow_graph.specs.Nets.{net_of}
use Rattle.flow_graph.specs.WalkRun.{Walked, WalkRun, IsClosed}
use Rattle.stack_code.specs.Laws.{AreWellMade}
use Rattle.covered_runs.specs.CoveredWalks.{counters_of, walks_of}
use Rattle.flow_solver.specs.Circulation.{Circulation}
use Rattle.gcda_format.specs.Data.{FunctionDataValue, DataValue, word_limit}
use Rattle.gcno_format.specs.Notes.{NotesValue}
use Rattle.run_merge.specs.Merging.{sums, ors, added, count_passed, merge_fault}
use Rattle.run_merge.specs.declared.merging.MergeFault.TheVariants as merge
use Rattle.function_tallies.specs.Tally.{FunctionTallyValue}
use Rattle.function_tallies.specs.Tallies.{HasShape, IsTallied, FaultOf}
use Rattle.function_tallies.specs.declared.tally.TallyFault.{TallyFault}
use Rattle.path_report.specs.Tally.{TallyValue}
use Rattle.path_report.specs.Report.{all_shown}
use Rattle.path_report.specs.Tallies.{IsFirstFault, Tallies, IsTallyOf}
use Rattle.report_parts.specs.Laws.{CountPassages}
use Rattle.report_parts.specs.Lines.{is_code_line, line_count}
use Rattle.report_parts.specs.Shown.{has_bit}
use Rattle.walk_counts.specs.WholeWalks.{AllGoThrough, passages_of, times_entered, times_left, IsToured}
use Rattle.walk_counts.specs.WalkData.{bits_within, IsFunctionDataOf, IsDataOf}
use Rattle.walk_counts.specs.WalkTallies.{IsFunctionTallyOf, IsTallyOfWalks, GoThroughNets}

-- ---- walks circulate

-- The passages of the arcs agree with the counters of the walks and balance, where the unwritten arc from the exit to
-- the entry has the number of the walks: each walk leaves the entry and enters the exit once, and each other block is
-- left as often as it is entered.
pub record Circulate (net : NetValue) (i : ℕ) (walks : List Walk) : Type 0 where
  pub circulates : Circulation net (counters_of net i walks) (passages_of net i walks)
  pub back : circulates.circulates.back ≡ pos (length (walks_of i walks))
  pub entry : times_left net i walks 0 ≡ length (walks_of i walks)
  pub exit : times_entered net i walks 1 ≡ length (walks_of i walks)
  pub inner : (b : ℕ) → b ≢ 0 → b ≢ 1 → times_entered net i walks b ≡ times_left net i walks b

-- Walks that go through a net circulate.
abbrev pub WalksCirculate : Type 0
WalksCirculate =
    (net : NetValue) → IsNet net → (i : ℕ) (walks : List Walk) → AllGoThrough net i walks → Circulate net i walks

-- The walks of a closed run go through the nets of their functions.
abbrev pub ClosedRunsGoThrough : Type 0
ClosedRunsGoThrough =
    (u : GraphUnit) → AreWellMade u → (input : List ℕ) (turns : ℕ) (walked : Walked) → WalkRun u input turns walked
    → IsClosed walked.ending → (i : ℕ) (g : Graph) → slice_get u.graphs i ≡ Some g
    → AllGoThrough (net_of g) i walked.walks

-- Each walk of a run, however it ends, is one of a function of the unit.
abbrev pub RunsStayInside : Type 0
RunsStayInside =
    (u : GraphUnit) (input : List ℕ) (turns : ℕ) (walked : Walked) → WalkRun u input turns walked
    → All (λ w. w.function < length u.graphs) walked.walks

-- ---- runs add up

-- The counters of walks and further walks are the sums of the counters of both.
abbrev pub CountersAddUp : Type 0
CountersAddUp = (net : NetValue) (i : ℕ) (walks others : List Walk)
    → counters_of net i (walks ++ others) ≡ sums (counters_of net i walks) (counters_of net i others)

-- The bits of walks and further walks are those that are set for the ones or the others.
abbrev pub BitsAddUp : Type 0
BitsAddUp = (limit : ℕ) (paths : List (List ℕ)) (i : ℕ) (walks others : List Walk)
    → bits_within limit paths (walks_of i (walks ++ others))
    ≡ ors (bits_within limit paths (walks_of i walks)) (bits_within limit paths (walks_of i others))

-- The data of runs, with those of further runs added, are the data of all these runs.
abbrev pub RunsAddUp : Type 0
RunsAddUp =
    (notes : NotesValue) (m n : ℕ) (walks others : List Walk) (a b : DataValue) → IsDataOf notes m walks a
    → IsDataOf notes n others b → IsDataOf notes (m + n) (walks ++ others) (added a b)

-- The data of runs can be merged with those of other runs, unless the runs are too many or a count is too great.
abbrev pub RunsMerge : Type 0
RunsMerge =
    (notes : NotesValue) (m n : ℕ) (walks others : List Walk) (a b : DataValue) → IsDataOf notes m walks a
    → IsDataOf notes n others b → merge_fault a b
    ≡ option_or (if nat_lt word_limit (m + n) then Some merge.RunsPassed else None)
    (count_passed 0 a.functions b.functions)

-- Where walks go through the nets of a program, and further walks do, so do all of them.
abbrev pub AllGoTogether : Type 0
AllGoTogether = (notes : NotesValue) (walks others : List Walk) → GoThroughNets notes walks
    → GoThroughNets notes others → GoThroughNets notes (walks ++ others)

-- So many runs that went these walks have data, and no others.
abbrev pub WalksHaveOneData : Type 0
WalksHaveOneData = (notes : NotesValue) (runs : ℕ) (walks : List Walk) → (counts : DataValue)
    × IsDataOf notes runs walks counts
    × ((others : DataValue) → IsDataOf notes runs walks others → others ≡ counts)

-- ---- tallies

-- The data of a function have the shape that its net gives, no fault and a tally, and their tally is that of the walks.
pub record TalliesWalks (limit known : ℕ) (net : NetValue) (i : ℕ) (walks : List Walk) (d : FunctionDataValue)
    : Type 0 where
  pub shape : HasShape limit known net d
  pub sound : (k : ℕ) (found : TallyFault) → FaultOf limit k known net d found → ⊥
  pub there : (t : FunctionTallyValue) × IsTallied limit known net d t
  pub tally : (t : FunctionTallyValue) → IsTallied limit known net d t ↔ IsFunctionTallyOf limit net i walks t

-- So it is for the data of walks that go through the net: each arc is told to be passed as often as they passed it.
abbrev pub FunctionTalliesAreWalks : Type 0
FunctionTalliesAreWalks =
    (limit known : ℕ) (net : NetValue) → IsNet net → (i : ℕ) (walks : List Walk) → AllGoThrough net i walks
    → (d : FunctionDataValue) → IsFunctionDataOf limit known net i walks d → TalliesWalks limit known net i walks d

-- The data of a program have no fault and a tally, and their tally is that of the walks.
pub record AllTalliesWalks (notes : NotesValue) (runs : ℕ) (walks : List Walk) (counts : DataValue) : Type 0 where
  pub sound : (found : TallyFault) → IsFirstFault notes counts found → ⊥
  pub there : (tally : TallyValue) × Tallies notes counts (Ok tally)
  pub tally : (tally : TallyValue) → Tallies notes counts (Ok tally) ↔ IsTallyOfWalks notes runs walks tally

-- So it is for the data of runs whose walks go through the nets of the program.
abbrev pub TalliesAreWalks : Type 0
TalliesAreWalks =
    (notes : NotesValue) (runs : ℕ) (walks : List Walk) → GoThroughNets notes walks → (counts : DataValue)
    → IsDataOf notes runs walks counts → AllTalliesWalks notes runs walks counts

-- ---- reports

-- each walk is one of a function that has notes
abbrev pub AreNoted : NotesValue → List Walk → Type 0
AreNoted notes walks = All (λ w. w.function < length notes.functions) walks

-- A report on a tally of walks counts their passages of each arc.
abbrev pub ReportsCountPassages : Type 0
ReportsCountPassages =
    (notes : NotesValue) (runs : ℕ) (walks : List Walk) (tally : TallyValue) → GoThroughNets notes walks
    → AreNoted notes walks → IsTallyOfWalks notes runs walks tally
    → CountPassages (all_shown notes.functions tally.functions) walks

-- So the count of a line that is in a block is the number of places where a walk comes to the line.
abbrev pub ReportsCountLines : Type 0
ReportsCountLines =
    (notes : NotesValue) (runs : ℕ) (walks : List Walk) (tally : TallyValue) → GoThroughNets notes walks
    → AreNoted notes walks → IsTallyOfWalks notes runs walks tally → IsTallyOf notes tally → (line : ℕ)
    → line_count (all_shown notes.functions tally.functions) line
    ≡ (if is_code_line (all_shown notes.functions tally.functions) line
    then Some (line_passages (map (λ f. f.net) notes.functions) walks line) else None)

-- The bits of a tally of walks tell of each prime path that is listed whether some walk of its function contains it.
abbrev pub BitsTellPaths : Type 0
BitsTellPaths =
    (limit : ℕ) (net : NetValue) (i : ℕ) (walks : List Walk) (t : FunctionTallyValue)
    → IsFunctionTallyOf limit net i walks t → (paths : List (List ℕ)) → t.listing ≡ listing.All paths
    → (k : ℕ) (path : List ℕ) → slice_get paths k ≡ Some path
    → Decides (has_bit t.bits k) (IsToured (walks_of i walks) path)
