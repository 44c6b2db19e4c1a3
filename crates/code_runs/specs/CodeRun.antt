-- How a code runs on an input: its output, its ending, its counters and path words, and what each call marked. It
-- knows no graphs.
use Rattle.std.specs.Prelude.{
  ℕ,
  zero,
  suc,
  ◌-◌,
  nat_lt,
  Bool,
  true,
  false,
  cond,
  ℤ,
  pos,
  List,
  [],
  ◌∷◌,
  ◌++◌,
  length,
  map,
  reverse,
  take,
  drop,
  replicate,
  Option,
  Some,
  None,
  slice_get,
  slice_set,
  slice_index_or,
  ◌≡◌,
}
use Rattle.std.specs.Ordering.{int_eq}
use Rattle.cov_base.specs.Limits.{frame_limit, output_limit}
use Rattle.stack_ops.specs.declared.operation.Op.{Op}
use Rattle.stack_ops.specs.declared.operation.Op.TheVariants as op
use Rattle.stack_ops.specs.declared.endings.Outcome.{Outcome}
use Rattle.stack_ops.specs.declared.endings.Outcome.TheVariants as outcome
use Rattle.stack_ops.specs.declared.endings.Trap.TheVariants as trap
use Rattle.stack_ops.specs.Effect.{State, Step, effect, byte_of}
use Rattle.stack_ops.specs.Code.{FunctionValue, CodeValue}
use Rattle.word_rules.specs.WordRules.{Words, words_of, begin_row, pass_row, begin_by, pass_by}
use Rattle.code_runs.specs.Tables.{words_in, begin_of, pass_of}

-- a call that waits for another: its function, the instruction at which it goes on, its operands, cells and path bits,
-- and its number
pub record Waiting : Type 0 where
  pub function : ℕ
  pub at : ℕ
  pub operands : List ℤ
  pub cells : List ℤ
  pub bits : List ℕ
  pub call : ℕ

-- what a call has marked: its function, and the counting operations that it took, in order
pub record Marked : Type 0 where
  pub function : ℕ
  pub ops : List Op

-- what a run counts: the counters of each function, the path words of each function, and what each call marked, in
-- order of calls
pub record Tally : Type 0 where
  pub counters : List (List ℕ)
  pub words : List (List ℕ)
  pub marks : List Marked

-- Where a run is: the function of the innermost call, its next instruction, operands, cells, path bits and number; the
-- calls that wait, the innermost first; globals, input left and output; the turns left; and what was counted.
pub record Point : Type 0 where
  pub function : ℕ
  pub at : ℕ
  pub operands : List ℤ
  pub cells : List ℤ
  pub bits : List ℕ
  pub call : ℕ
  pub callers : List Waiting
  pub globals : List ℤ
  pub input : List ℕ
  pub output : List ℕ
  pub turns : ℕ
  pub tally : Tally

-- what comes of a run
pub record Ran : Type 0 where
  pub output : List ℕ
  pub ending : Outcome
  pub tally : Tally

-- What comes of an instruction: the run goes on, or is over, or something that the instruction needs isn't there.
pub data Move : Type 0 where
  Goes_on : Point → Move
  Over : Ran → Move
  Broken : Move

-- the run is over, with this ending
abbrev pub over : Outcome → Point → Move
over ending p = Over (record { output = p.output; ending = ending; tally = p.tally })

-- ---- counting

-- the member at an index, where there is one, becomes another
abbrev pub at_index : {A : Type 0} → (A → A) → ℕ → List A → List A
at_index f n [] = []
at_index f zero (x ∷ xs) = f x ∷ xs
at_index f (suc n) (x ∷ xs) = x ∷ at_index f n xs

-- what a call has marked, and one operation more
abbrev pub marked_too : Op → Marked → Marked
marked_too o m = record m { ops = m.ops ++ o ∷ [] }

-- the innermost call has marked an operation more
abbrev pub marked : Op → Point → Tally → Tally
marked o p t = record t { marks = at_index (marked_too o) p.call t.marks }

-- the innermost call marks an operation
abbrev pub marks : Op → Point → Point
marks o p = record p { tally = marked o p p.tally }

-- a counter of the function of the innermost call is one more
abbrev pub counted : ℕ → Point → Tally → Tally
counted c p t = record t { counters = at_index (at_index suc c) p.function t.counters }

-- the path bits of the innermost call, and the path words of its function
abbrev pub path_words : Point → Words
path_words p = words_of p.bits (slice_index_or p.tally.words p.function [])

-- the innermost call has these path bits, and its function these path words
abbrev pub with_words : Words → Point → Point
with_words w p =
    record p { bits = w.bits; tally = record p.tally { words = slice_set p.tally.words p.function w.seen } }

-- ---- instructions

-- the next instruction is the one behind this
abbrev pub next : Point → Point
next p = record p { at = suc p.at }

-- a turn is taken and the run goes on, or no turn is left and the run is over
abbrev pub with_turn : ℕ → Point → (Point → Move) → Move
with_turn zero p then = over outcome.OutOfTurns p
with_turn (suc t) p then = then (record p { turns = t })

-- the operand at the top is taken
abbrev pub with_top : List ℤ → Point → (ℤ → Point → Move) → Move
with_top [] p then = Broken
with_top (a ∷ rest) p then = then a (record p { operands = rest })

-- A call begins at the first instruction of its function, with its arguments in the first cells, and 0 in the others
-- and in its path bits (C17 6.5.2.2 paragraph 4).
abbrev pub begins : FunctionValue → ℕ → Point → Move
begins g f p = Goes_on (record p {
  function = f;
  at = 0;
  operands = [];
  cells = reverse (take g.params p.operands) ++ replicate (g.cells - g.params) (pos 0);
  bits = replicate (words_in g.paths) 0;
  call = length p.tally.marks;
  callers = record {
    function = p.function;
    at = suc p.at;
    operands = drop g.params p.operands;
    cells = p.cells;
    bits = p.bits;
    call = p.call;
  } ∷ p.callers;
  tally = record p.tally { marks = p.tally.marks ++ record { function = f; ops = [] } ∷ [] };
})

-- A call takes its turn before the number of live calls is tested.
abbrev pub calls : Option FunctionValue → ℕ → ℕ → Point → Move
calls None f line p = Broken
calls (Some g) f line p = with_turn p.turns p
    (λ p. cond (nat_lt (suc (length p.callers)) frame_limit) (begins g f p)
    (over (outcome.Trapped trap.CallDepth line) p))

-- The innermost call ends, and its caller goes on with these numbers in front of its operands; where none waits, the
-- run is over with a status (C17 5.1.2.2.3 paragraph 1).
abbrev pub goes_back : List Waiting → List ℤ → ℤ → Point → Move
goes_back [] given status p = over (outcome.Returned (byte_of status)) p
goes_back (c ∷ cs) given status p = Goes_on (record p {
  function = c.function;
  at = c.at;
  operands = given ++ c.operands;
  cells = c.cells;
  bits = c.bits;
  call = c.call;
  callers = cs;
})

-- the innermost call ends, with its number where its function gives one (C17 6.8.6.4)
abbrev pub leaves : Bool → Point → Move
leaves true p = with_top p.operands p (λ v p. goes_back p.callers (v ∷ []) v p)
leaves false p = goes_back p.callers [] (pos 0) p

-- what the operations on lists act on
abbrev pub state_of : Point → State
state_of p = record {
  operands = p.operands;
  cells = p.cells;
  globals = p.globals;
  input = p.input;
  output = p.output;
  limit = output_limit;
}

-- the lists are these
abbrev pub with_state : State → Point → Point
with_state s p = record p {
  operands = s.operands;
  cells = s.cells;
  globals = s.globals;
  input = s.input;
  output = s.output;
}

-- what comes behind an operation on the lists
abbrev pub stepped : Step → Point → Move
stepped (Step.Goes s) p = Goes_on (next (with_state s p))
stepped (Step.Traps t line) p = over (outcome.Trapped t line) p
stepped Step.Stuck p = Broken

-- What an instruction of a function does. CaseJump takes its operand only where it goes to its target; Exit ends the
-- run from any call (C17 7.22.4.4).
abbrev pub does : CodeValue → FunctionValue → Op → Point → Move
does c f (op.Jump w) p = Goes_on (record p { at = w })
does c f (op.Back w) p = with_turn p.turns p (λ p. Goes_on (record p { at = w }))
does c f (op.IfZero w) p =
    with_top p.operands p (λ v p. Goes_on (record p { at = cond (int_eq v (pos 0)) w (suc p.at) }))
does c f (op.IfNot w) p =
    with_top p.operands p (λ v p. Goes_on (record p { at = cond (int_eq v (pos 0)) (suc p.at) w }))
does c f (op.CaseJump n w) p =
    with_top p.operands p (λ v q. Goes_on (cond (int_eq n v) (record q { at = w }) (next p)))
does c f (op.Call g line) p = calls (slice_get c.functions g) g line p
does c f op.Return p = leaves f.gives p
does c f op.Exit p = with_top p.operands p (λ v p. over (outcome.Exited (byte_of v)) p)
does c f (op.Count n) p = Goes_on (next (record p { tally = counted n p (marked (op.Count n) p p.tally) }))
does c f op.PathBegin p =
    Goes_on (next (marks op.PathBegin (with_words (begin_by (begin_row (begin_of f.table)) (path_words p)) p)))
does c f (op.PathPass w) p =
    Goes_on (next (marks (op.PathPass w) (with_words (pass_by (pass_row (pass_of w f.table)) (path_words p)) p)))
does c f o p = stepped (effect o (state_of p)) p

-- what the instruction at a place does, where there is one
abbrev pub at_instruction : CodeValue → FunctionValue → Option Op → Point → Move
at_instruction c f None p = Broken
at_instruction c f (Some o) p = does c f o p

-- what the next instruction of a function does, where the function is there
abbrev pub in_function : CodeValue → Option FunctionValue → Point → Move
in_function c None p = Broken
in_function c (Some f) p = at_instruction c f (slice_get f.ops p.at) p

-- one step of a run is one instruction
abbrev pub move : CodeValue → Point → Move
move c p = in_function c (slice_get c.functions p.function) p

-- the cells of a function, or none where it isn't there
abbrev pub cells_of : Option FunctionValue → ℕ
cells_of None = 0
cells_of (Some f) = f.cells

-- the words of the path bits of a function, or none where it isn't there
abbrev pub bits_in : Option FunctionValue → ℕ
bits_in None = 0
bits_in (Some f) = words_in f.paths

-- `main` begins, with its globals, the input and so many turns; all counters and words are 0 (C17 5.1.2.2.1)
abbrev pub first : CodeValue → List ℕ → ℕ → Point
first c input n = record {
  function = c.main;
  at = 0;
  operands = [];
  cells = replicate (cells_of (slice_get c.functions c.main)) (pos 0);
  bits = replicate (bits_in (slice_get c.functions c.main)) 0;
  call = 0;
  callers = [];
  globals = c.globals;
  input = input;
  output = [];
  turns = n;
  tally = record {
    counters = map (λ f. replicate f.counters 0) c.functions;
    words = map (λ f. replicate (words_in f.paths) 0) c.functions;
    marks = record { function = c.main; ops = [] } ∷ [];
  };
}

-- what a move comes to, where it goes on by this
abbrev pub then_goes : Move → (Point → Option Ran) → Option Ran
then_goes (Move.Goes_on p) then = then p
then_goes (Move.Over ran) then = Some ran
then_goes Move.Broken then = None

-- what a run comes to in so many instructions, if it is over by then
abbrev pub goes : ℕ → CodeValue → Point → Option Ran
goes zero c p = None
goes (suc k) c p = then_goes (move c p) (λ next. goes k c next)

-- The run of a code on an input with so many turns comes to this.
abbrev pub CodeRun : CodeValue → List ℕ → ℕ → Ran → Type 0
CodeRun c input n ran = (k : ℕ) × (goes k c (first c input n) ≡ Some ran)
