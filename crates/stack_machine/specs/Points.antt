-- The point of a run of a code that a run of the machine is at.
use Rattle.std.specs.Prelude.{ℕ, ◌-◌, ◌≤◌, ◌≡◌, ℤ, List, [], ◌∷◌, ◌++◌, length, map, take, drop, reverse, Option, Some, None}
use Rattle.stack_ops.specs.declared.endings.Outcome.{Outcome}
use Rattle.stack_ops.specs.declared.operation.Op.{Op}
use Rattle.stack_ops.specs.declared.operation.Op.TheVariants as op
use Rattle.stack_ops.specs.Code.{FunctionValue, CodeValue}
use Rattle.code_runs.specs.CodeRun.{Waiting, Marked, Point, Move, Goes_on, over, does, at_index, marked_too}
use Rattle.stack_machine.specs.Counts.{CountsValue}
use Rattle.stack_machine.specs.declared.frame.Frame.{Frame}
use Rattle.stack_machine.specs.declared.run.Run.{Run}

-- What a run of a code has and a run of the machine doesn't hold: the numbers of the calls, the innermost first, what
-- each call marked, the input that is left, and the output.
pub record Ghosts : Type 0 where
  pub call : ℕ
  pub calls : List ℕ
  pub marks : List Marked
  pub input : List ℕ
  pub output : List ℕ

-- the first of these calls, where there is one
abbrev pub head_of : List ℕ → ℕ
head_of [] = 0
head_of (x ∷ xs) = x

-- the calls behind it
abbrev pub tail_of : List ℕ → List ℕ
tail_of [] = []
tail_of (x ∷ xs) = xs

-- the calls that wait, the innermost first: their frames, their numbers, and the numbers and path bits of all of them
abbrev pub callers_of : List Frame → List ℕ → List ℤ → List ℕ → List Waiting
callers_of [] calls below bits = []
callers_of (f ∷ fs) calls below bits = record {
  function = f.function;
  at = f.at;
  operands = reverse (drop f.floor below);
  cells = take (f.floor - f.base) (drop f.base below);
  bits = drop f.bits bits;
  call = head_of calls;
} ∷ callers_of fs (tail_of calls) (take f.base below) (take f.bits bits)

-- the counters of each function
abbrev pub counters_of : List CountsValue → List (List ℕ)
counters_of counts = map (λ v. v.counters) counts

-- the path words of each function
abbrev pub words_of : List CountsValue → List (List ℕ)
words_of counts = map (λ v. v.words) counts

-- the point that a run is at
abbrev pub point : Run → Ghosts → Point
point r s = record {
  function = r.function;
  at = r.at;
  operands = r.store.operands;
  cells = r.store.cells;
  bits = r.bits.bits;
  call = s.call;
  callers = callers_of (reverse r.frames.items) s.calls r.store.below r.bits.below;
  globals = r.globals;
  input = s.input;
  output = s.output;
  turns = r.turns;
  tally = record { counters = counters_of r.counts.items; words = words_of r.counts.items; marks = s.marks };
}

-- what an answer tells: the run goes on from a point, or it is over there with this ending
abbrev pub told : Option Outcome → Point → Move
told None p = Goes_on p
told (Some e) p = over e p

-- the same, with other bytes left and put
abbrev pub with_bytes : List ℕ → List ℕ → Ghosts → Ghosts
with_bytes input output s = record s { input = input; output = output }

-- a call of function g begins
abbrev pub entered : ℕ → Ghosts → Ghosts
entered g s = record s {
  call = length s.marks;
  calls = s.call ∷ s.calls;
  marks = s.marks ++ record { function = g; ops = [] } ∷ [];
}

-- the innermost call ends
abbrev pub left : Ghosts → Ghosts
left s = record s { call = head_of s.calls; calls = tail_of s.calls }

-- the innermost call marks an operation
abbrev pub marking : Op → Ghosts → Ghosts
marking o s = record s { marks = at_index (marked_too o) s.call s.marks }

-- what becomes of it where the run goes on; else it stays
abbrev pub where_on : Option Outcome → Ghosts → Ghosts → Ghosts
where_on None on s = on
where_on (Some e) on s = s

-- what an operation makes of it
abbrev pub after : Op → Option Outcome → Ghosts → Ghosts
after (op.Call g line) result s = where_on result (entered g s) s
after op.Return result s = where_on result (left s) s
after (op.Count n) result s = marking (op.Count n) s
after op.PathBegin result s = marking op.PathBegin s
after (op.PathPass w) result s = marking (op.PathPass w) s
after o result s = s

-- an operation leads from a run to another, or to an ending there
abbrev pub Acts : Op → Run → Option Outcome → Run → Type 0
Acts o old result new = (c : CodeValue) (f : FunctionValue) (s : Ghosts) → does c f o (point old s) ≡ told result (point new (after o result s))

-- each call that waits has its cells, operands and path bits below those of the call above it
abbrev pub FramesFit : List Frame → ℕ → ℕ → Type 0
FramesFit [] n b = (n ≡ 0) × (b ≡ 0)
FramesFit (f ∷ fs) n b = (f.base ≤ f.floor) × (f.floor ≤ n) × (f.bits ≤ b) × FramesFit fs f.base f.bits

-- the calls that wait, the numbers and bits below, the rooms and the number of globals stay
pub record Stays (old new : Run) : Type 0 where
  pub frames : new.frames ≡ old.frames
  pub below : new.store.below ≡ old.store.below
  pub bits_below : new.bits.below ≡ old.bits.below
  pub room : new.store.room ≡ old.store.room
  pub bits_room : new.bits.room ≡ old.bits.room
  pub globals : length new.globals ≡ length old.globals

-- calls that wait stay one above the other, no more than may be, and the rooms stay
pub record Keeps (old new : Run) : Type 0 where
  pub frames :
      FramesFit (reverse old.frames.items) (length old.store.below) (length old.bits.below)
      → FramesFit (reverse new.frames.items) (length new.store.below) (length new.bits.below)
  pub few : length old.frames.items ≤ 1999 → length new.frames.items ≤ 1999
  pub cap : new.frames.cap ≡ old.frames.cap
  pub room : new.store.room ≡ old.store.room
  pub bits_room : new.bits.room ≡ old.bits.room
  pub globals : length new.globals ≡ length old.globals
