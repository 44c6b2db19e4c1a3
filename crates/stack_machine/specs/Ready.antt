-- What an instruction finds.
use Rattle.std.specs.Prelude.{
  ℕ,
  ◌≡◌,
  ◌+◌,
  ◌<◌,
  ◌≤◌,
  ◌^◌,
  true,
  List,
  drop,
  length,
  reverse,
  Some,
  slice_get,
  slice_index_or,
}
use Rattle.stack_ops.specs.declared.operation.Op.{Op}
use Rattle.stack_ops.specs.declared.operation.Op.TheVariants as op
use Rattle.stack_ops.specs.Code.{FunctionValue, CodeValue}
use Rattle.int_ops.specs.Ranges.{IsNumber}
use Rattle.stack_ops.specs.Shapes.{takes_in}
use Rattle.code_runs.specs.Checks.{cells_there}
use Rattle.code_runs.specs.Tables.{words_in, behind_row, passes_from}
use Rattle.stack_machine.specs.Counts.{CountsValue}
use Rattle.stack_machine.specs.Store.{taken}
use Rattle.stack_machine.specs.Tables.{BeginFits, PassFits}
use Rattle.stack_machine.specs.declared.run.Run.{Run}
use Rattle.stack_machine.specs.Points.{FramesFit}

-- the number of an operation lies from -2^63 to 2^64 - 1
abbrev pub NumberFits : Op → Type 0
NumberFits (op.Push n) = IsNumber n
NumberFits (op.CaseJump n w) = IsNumber n
NumberFits o = Unit {0}

-- the counter that an operation counts is one of the function's, and small
abbrev pub CounterFits : Op → CountsValue → Type 0
CounterFits (op.Count n) v = (n < length v.counters) × (slice_index_or v.counters n 0 + 1 < 2 ^ 64)
CounterFits o v = Unit {0}

-- the row of an operation is there, and its words are among so many
abbrev pub RowFits : Op → FunctionValue → List ℕ → ℕ → Type 0
RowFits op.PathBegin f starts words = BeginFits words f.table
RowFits (op.PathPass w) f starts words =
    (w < length starts) × ((start : ℕ) → slice_get starts w ≡ Some start
    → (drop start f.table ≡ passes_from w (behind_row 3 f.table)) × PassFits words (drop start f.table))
RowFits o f starts words = Unit {0}

-- what an operation of a function needs is there
pub record Ready (c : CodeValue) (f : FunctionValue) (starts : List ℕ) (o : Op) (r : Run) : Type 0 where
  pub number : NumberFits o
  pub at : r.at < 2 ^ 32
  pub operands : takes_in c.functions f o ≤ length r.store.operands
  pub cells : length r.store.cells ≡ f.cells
  pub globals : length r.globals ≡ length c.globals
  pub cell : cells_there c f o ≡ true
  pub room : taken r.store < r.store.room
  pub called :
      (g : ℕ) (h : FunctionValue) → slice_get c.functions g ≡ Some h
      → (h.params ≤ h.cells) × (taken r.store + h.cells ≤ r.store.room)
      × (length r.bits.below + length r.bits.bits + words_in h.paths ≤ r.bits.room)
  pub cap : 2000 ≤ r.frames.cap
  pub frames : FramesFit (reverse r.frames.items) (length r.store.below) (length r.bits.below)
  pub function : r.function < length r.counts.items
  pub words :
      (v : CountsValue) → slice_get r.counts.items r.function ≡ Some v → length v.words ≡ length r.bits.bits
  pub counter : (v : CountsValue) → slice_get r.counts.items r.function ≡ Some v → CounterFits o v
  pub row : RowFits o f starts (length r.bits.bits)
