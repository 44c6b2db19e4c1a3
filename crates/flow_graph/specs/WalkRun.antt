-- How a unit of graphs runs on an input: its output, its ending, and the walk of each call. It knows no trees.
use Rattle.std.specs.Prelude.{
  ℕ,
  zero,
  suc,
  ◌-◌,
  nat_lt,
  Bool,
  true,
  false,
  cond,
  ℤ,
  pos,
  List,
  [],
  ◌∷◌,
  ◌++◌,
  length,
  reverse,
  take,
  drop,
  replicate,
  Option,
  Some,
  None,
  slice_get,
  ◌≡◌,
}
use Rattle.std.specs.Ordering.{int_eq}
use Rattle.cov_base.specs.Limits.{frame_limit, output_limit}
use Rattle.cov_base.specs.Walks.{Walk}
use Rattle.stack_ops.specs.declared.operation.Op.{Op}
use Rattle.stack_ops.specs.declared.endings.Outcome.{Outcome}
use Rattle.stack_ops.specs.declared.endings.Outcome.TheVariants as outcome
use Rattle.stack_ops.specs.declared.endings.Trap.TheVariants as trap
use Rattle.stack_ops.specs.Effect.{State, Step, effect, byte_of}
use Rattle.flow_graph.specs.Graph.{Ending, Block, Graph, GraphUnit}

-- a call that waits for another: its function, operands and cells, the number of its walk, and the block in which it
-- goes on
pub record Caller : Type 0 where
  pub function : ℕ
  pub operands : List ℤ
  pub cells : List ℤ
  pub walk : ℕ
  pub next : ℕ

-- Where a run is: the block of the innermost call, its function, operands and cells and the number of its walk; the
-- calls that wait, the innermost first; globals, input left and output; the turns left; and the walks so far, one for
-- each call in order of calls.
pub record Point : Type 0 where
  pub function : ℕ
  pub block : ℕ
  pub operands : List ℤ
  pub cells : List ℤ
  pub walk : ℕ
  pub callers : List Caller
  pub globals : List ℤ
  pub input : List ℕ
  pub output : List ℕ
  pub turns : ℕ
  pub walks : List Walk

-- what comes of a run
pub record Walked : Type 0 where
  pub output : List ℕ
  pub ending : Outcome
  pub walks : List Walk

-- What comes of a block: the run goes on, or is over, or something that the block needs isn't there.
pub data Move : Type 0 where
  Goes_on : Point → Move
  Over : Walked → Move
  Broken : Move

-- the run is over, with this ending
abbrev pub over : Outcome → Point → Move
over ending p = Over (record { output = p.output; ending = ending; walks = p.walks })

-- ---- walks

-- a walk goes on to a block
abbrev pub walk_on : ℕ → ℕ → List Walk → List Walk
walk_on n b [] = []
walk_on zero b (w ∷ ws) = record w { blocks = w.blocks ++ b ∷ [] } ∷ ws
walk_on (suc n) b (w ∷ ws) = w ∷ walk_on n b ws

-- the walks of calls that wait end in the exit
abbrev pub all_left : List Caller → List Walk → List Walk
all_left [] ws = ws
all_left (c ∷ cs) ws = all_left cs (walk_on c.walk 1 ws)

-- ---- endings of blocks

-- the innermost call goes to a block
abbrev pub enters : ℕ → Point → Point
enters b p = record p { block = b; walks = walk_on p.walk b p.walks }

-- with one turn less, or the run is out of turns
abbrev pub with_turn : ℕ → Point → (Point → Move) → Move
with_turn zero p then = over outcome.OutOfTurns p
with_turn (suc t) p then = then (record p { turns = t })

-- with the operand at the top, which is taken
abbrev pub with_top : List ℤ → Point → (ℤ → Point → Move) → Move
with_top [] p then = Broken
with_top (a ∷ rest) p then = then a (record p { operands = rest })

-- the block of the case that has the number, or the default
abbrev pub chosen : ℤ → List (ℤ × ℕ) → ℕ → ℕ
chosen v [] default = default
chosen v (c ∷ cases) default = cond (int_eq c.0 v) c.1 (chosen v cases default)

-- A call begins in block 2 of its function, with its arguments in the first cells and 0 in the others; the caller
-- waits.
abbrev pub begins : Graph → ℕ → ℕ → Point → Move
begins g f next p = Goes_on (record p {
  function = f;
  block = 2;
  operands = [];
  cells = reverse (take g.params p.operands) ++ replicate (g.cells - g.params) (pos 0);
  walk = length p.walks;
  callers = record {
    function = p.function;
    operands = drop g.params p.operands;
    cells = p.cells;
    walk = p.walk;
    next = next;
  } ∷ p.callers;
  walks = p.walks ++ record { function = f; blocks = 0 ∷ 2 ∷ [] } ∷ [];
})

-- the turn is taken before the number of live calls is tested
abbrev pub calls : Option Graph → ℕ → ℕ → ℕ → Point → Move
calls None f line next p = Broken
calls (Some g) f line next p =
    with_turn p.turns p (λ p. cond (nat_lt (suc (length p.callers)) frame_limit) (begins g f next p)
    (over (outcome.Trapped trap.CallDepth line) p))

-- the call ends, and its caller goes on with these numbers in front of its operands
abbrev pub goes_back : List Caller → List ℤ → ℤ → Point → Move
goes_back [] given status p = over (outcome.Returned (byte_of status)) p
goes_back (c ∷ cs) given status p =
    Goes_on (enters c.next (record p {
      function = c.function;
      operands = given ++ c.operands;
      cells = c.cells;
      walk = c.walk;
      callers = cs;
    }))

-- the innermost call returns: where its function gives a number, with the number at the top of its operands
abbrev pub leaves : Bool → Point → Move
leaves true p = with_top p.operands p (λ v p. goes_back p.callers (v ∷ []) v (enters 1 p))
leaves false p = goes_back p.callers [] (pos 0) (enters 1 p)

-- the ending of a block in a function that gives a number, or gives none
abbrev pub ends_so : GraphUnit → Bool → Ending → Point → Move
ends_so u gives (Ending.Jump t) p = Goes_on (enters t p)
ends_so u gives (Ending.Back t) p = with_turn p.turns p (λ p. Goes_on (enters t p))
ends_so u gives (Ending.Branch t f) p = with_top p.operands p (λ v p. Goes_on (enters (cond (int_eq v (pos 0)) f t) p))
ends_so u gives (Ending.Switch cases default) p =
    with_top p.operands p (λ v p. Goes_on (enters (chosen v cases default) p))
ends_so u gives (Ending.Call f line next) p = calls (slice_get u.graphs f) f line next p
ends_so u gives Ending.Return p = leaves gives p
ends_so u gives Ending.Exit p =
    with_top p.operands p (λ v p. over (outcome.Exited (byte_of v)) (record p {
      walks = all_left p.callers (walk_on p.walk 1 p.walks);
    }))

-- ---- blocks

-- what an operation sees of where a run is
abbrev pub state_of : Point → State
state_of p = record {
  operands = p.operands;
  cells = p.cells;
  globals = p.globals;
  input = p.input;
  output = p.output;
  limit = output_limit;
}

-- where a run is once an operation was done
abbrev pub with_state : State → Point → Point
with_state s p =
    record p { operands = s.operands; cells = s.cells; globals = s.globals; input = s.input; output = s.output }

-- what comes behind an operation
abbrev pub stepped : Step → Point → (Point → Move) → Move
stepped (Step.Goes s) p then = then (with_state s p)
stepped (Step.Traps t line) p then = over (outcome.Trapped t line) p
stepped Step.Stuck p then = Broken

-- the operations of a block, one after another, and then its ending
abbrev pub does : List Op → Point → (Point → Move) → Move
does [] p then = then p
does (o ∷ os) p then = stepped (effect o (state_of p)) p (λ p. does os p then)

-- the block of this number in a function
abbrev pub block_at : Option Graph → ℕ → Option Block
block_at None b = None
block_at (Some g) b = slice_get g.blocks (b - 2)

-- the function gives a number
abbrev pub gives_at : Option Graph → Bool
gives_at None = false
gives_at (Some g) = g.gives

-- what comes of a block, where it is there
abbrev pub in_block : GraphUnit → Bool → Option Block → Point → Move
in_block u gives None p = Broken
in_block u gives (Some b) p = does b.ops p (λ p. ends_so u gives b.end p)

-- one step of a run is one block
abbrev pub move : GraphUnit → Point → Move
move u p = in_block u (gives_at (slice_get u.graphs p.function)) (block_at (slice_get u.graphs p.function) p.block) p

-- how many cells a function has
abbrev pub cells_of : Option Graph → ℕ
cells_of None = 0
cells_of (Some g) = g.cells

-- `main` begins, with its globals, the input and so many turns
abbrev pub first : GraphUnit → List ℕ → ℕ → Point
first u input n = record {
  function = u.main;
  block = 2;
  operands = [];
  cells = replicate (cells_of (slice_get u.graphs u.main)) (pos 0);
  walk = 0;
  callers = [];
  globals = u.globals;
  input = input;
  output = [];
  turns = n;
  walks = record { function = u.main; blocks = 0 ∷ 2 ∷ [] } ∷ [];
}

-- a run goes on from where it is, or is over
abbrev pub then_goes : Move → (Point → Option Walked) → Option Walked
then_goes (Move.Goes_on p) then = then p
then_goes (Move.Over walked) then = Some walked
then_goes Move.Broken then = None

-- what a run comes to in so many blocks, if it is over by then
abbrev pub goes : ℕ → GraphUnit → Point → Option Walked
goes zero u p = None
goes (suc k) u p = then_goes (move u p) (λ next. goes k u next)

-- The run of a unit on an input with so many turns comes to this.
abbrev pub WalkRun : GraphUnit → List ℕ → ℕ → Walked → Type 0
WalkRun u input n walked = (k : ℕ) × (goes k u (first u input n) ≡ Some walked)

-- a run is closed where it returned or exited
abbrev pub IsClosed : Outcome → Type 0
IsClosed (outcome.Returned status) = Unit {0}
IsClosed (outcome.Exited status) = Unit {0}
IsClosed ending = ⊥
