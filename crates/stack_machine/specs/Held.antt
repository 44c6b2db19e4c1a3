-- What a machine keeps for a code, and what its runs come to.
use Rattle.std.specs.Prelude.{ℕ, ◌≡◌, ◌+◌, ◌*◌, ◌≤◌, List, [], ◌∷◌, length, map, Some, slice_get}
use Rattle.stack_ops.specs.declared.endings.Outcome.{Outcome}
use Rattle.stack_ops.specs.Code.{FunctionValue, CodeValue}
use Rattle.code_runs.specs.CodeRun.{Marked, CodeRun, first}
use Rattle.code_runs.specs.Tables.{words_in}
use Rattle.stack_machine.specs.Tables.{StartsAt}
use Rattle.stack_machine.specs.declared.run.Run.{Run}
use Rattle.stack_machine.specs.Points.{Ghosts, point, counters_of, words_of}

-- each function has as many counters and path words as its code says
pub record Sized (c : CodeValue) (held seen : List (List ℕ)) : Type 0 where
  pub counters : map (λ ns. length ns) held ≡ map (λ f. f.counters) c.functions
  pub words : map (λ ns. length ns) seen ≡ map (λ f. words_in f.paths) c.functions

-- there is room for 2,000 calls, each with the most numbers and path words that one takes, and for the cells of another
pub record Roomy (c : CodeValue) (r : Run) : Type 0 where
  pub most : ℕ
  pub width : ℕ
  pub size :
      (i : ℕ) (f : FunctionValue) → slice_get c.functions i ≡ Some f
      → (f.cells + f.depth ≤ most) × (words_in f.paths ≤ width)
  pub cap : 2000 ≤ r.frames.cap
  pub room : 2001 * most + 1 ≤ r.store.room
  pub bits_room : 2001 * width ≤ r.bits.room

-- the rows of each function's table start in the places that are held for it
abbrev pub RowsStart : CodeValue → List (List ℕ) → Type 0
RowsStart c rows =
    (i : ℕ) (f : FunctionValue) → slice_get c.functions i ≡ Some f
    → (starts : List ℕ) × (slice_get rows i ≡ Some starts) × StartsAt f starts

-- what a run has at its start that the machine doesn't hold
abbrev pub at_start : CodeValue → List ℕ → Ghosts
at_start c input = record {
  call = 0;
  calls = [];
  marks = record { function = c.main; ops = [] } ∷ [];
  input = input;
  output = [];
}

-- a run is at the start of a code
pub record Begins (c : CodeValue) (r : Run) : Type 0 where
  pub frames : r.frames.items ≡ []
  pub below : r.store.below ≡ []
  pub bits_below : r.bits.below ≡ []
  pub started : (input : List ℕ) → point r (at_start c input) ≡ first c input r.turns

-- a run of the code comes to this ending and output, and to the counters and path words that are held
abbrev pub ComesTo : CodeValue → List ℕ → ℕ → Outcome → List ℕ → Run → Type 0
ComesTo c input turns ending output r =
    (marks : List Marked)
    × CodeRun c input turns (record {
      output = output;
      ending = ending;
      tally = record { counters = counters_of r.counts.items; words = words_of r.counts.items; marks = marks };
    })
