-- Laws of codes and their runs.
use Rattle.std.specs.Prelude.{◌≡◌, ◌≢◌, ℕ, zero, suc, ◌<◌, List, None}
use Rattle.stack_ops.specs.Code.{CodeValue}
use Rattle.code_runs.specs.CodeRun.{Point, Ran, Move, Goes_on, Over, Broken, first, move, CodeRun}
use Rattle.code_runs.specs.CodeChecks.{code_fault}
use Rattle.code_runs.specs.Sound.{Sound}
use Rattle.code_runs.specs.Fits.{Fits}
use Rattle.code_runs.specs.Counts.{counter, total, weight}

-- In a code that breaks no rule each instruction has one number of operands, and finds what it needs.
abbrev pub CheckedIsSound : Type 0
CheckedIsSound = (c : CodeValue) → code_fault c ≡ None → Sound c

-- the first point of a run fits
abbrev pub FirstFits : Type 0
FirstFits = (c : CodeValue) → Sound c → (input : List ℕ) (turns : ℕ) → Fits c (first c input turns)

-- what comes of an instruction is a point that fits, or the end of the run
abbrev pub FitsOn : CodeValue → Move → Type 0
FitsOn c (Goes_on p) = Fits c p
FitsOn c (Over ran) = Unit {0}
FitsOn c Broken = ⊥

-- from a point that fits a run goes on to one that fits, or ends
abbrev pub FitsStay : Type 0
FitsStay = (c : CodeValue) → Sound c → (p : Point) → Fits c p → FitsOn c (move c p)

-- a point goes on to another in so many instructions
abbrev pub Reaches : ℕ → CodeValue → Point → Point → Type 0
Reaches zero c p q = p ≡ q
Reaches (suc k) c p q = (r : Point) × (move c p ≡ Goes_on r) × Reaches k c r q

-- At no point of a run does something that the instruction needs miss.
abbrev pub NeverStuck : Type 0
NeverStuck =
    (c : CodeValue) → Sound c → (input : List ℕ) (turns k : ℕ) (p : Point) → Reaches k c (first c input turns) p
    → move c p ≢ Broken

-- what comes of an instruction weighs less than this, or is the end of the run
abbrev pub LighterThan : CodeValue → ℕ → Move → Type 0
LighterThan c n (Goes_on p) = weight c p < n
LighterThan c n (Over ran) = Unit {0}
LighterThan c n Broken = Unit {0}

-- from a point that fits each instruction leaves less to do
abbrev pub RunsGetLighter : Type 0
RunsGetLighter = (c : CodeValue) (p : Point) → Fits c p → LighterThan c (weight c p) (move c p)

-- each run comes to something
abbrev pub RunsEnd : Type 0
RunsEnd = (c : CodeValue) → Sound c → (input : List ℕ) (turns : ℕ) → (ran : Ran) × CodeRun c input turns ran

-- a run comes to one thing only
abbrev pub OneRun : Type 0
OneRun =
    (c : CodeValue) (input : List ℕ) (turns : ℕ) (ran other : Ran) → CodeRun c input turns ran
    → CodeRun c input turns other → other ≡ ran

-- Each counter of a function is how often the calls of this function marked that they count it.
abbrev pub CountersAreMarks : Type 0
CountersAreMarks =
    (c : CodeValue) → Sound c → (input : List ℕ) (turns : ℕ) (ran : Ran) → CodeRun c input turns ran
    → (f n : ℕ) → counter f n ran.tally.counters ≡ total f n ran.tally.marks
