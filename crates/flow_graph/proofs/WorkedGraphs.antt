-- Graphs written by hand, each with its text: their kept blocks, nets, sizes, runs and walks, computed.
use Rattle.std.proofs.Common.{◌≡◌, refl, ℕ, pos, List, [], ◌∷◌, Option, Some, None, length}
use Rattle.std.specs.Prelude.{Bool, true, false, codes, option_map}
use Rattle.cov_base.specs.Walks.{Walk}
use Rattle.int_ops.specs.declared.types.IntType.TheVariants as type
use Rattle.stack_ops.specs.declared.operation.Op.{Op}
use Rattle.stack_ops.specs.declared.operation.Op.TheVariants as op
use Rattle.stack_ops.specs.declared.endings.Outcome.{Outcome}
use Rattle.stack_ops.specs.declared.endings.Outcome.TheVariants as outcome
use Rattle.stack_ops.specs.declared.endings.Trap.TheVariants as trap
use Rattle.flow_graph.specs.Ascending.{inserted}
use Rattle.flow_graph.specs.Graph.{Ending, Block, Graph, GraphUnit}
use Rattle.flow_graph.specs.Nets.{pruned, reached, net_of, size_of, real, call_exit}
use Rattle.flow_graph.specs.WalkRun.{Walked, goes, first}

abbrev block : List Op → Ending → List ℕ → Block
block ops end lines = record { ops = ops; end = end; lines = lines }

abbrev graph : List ℕ → ℕ → ℕ → Bool → List Block → Graph
graph name params cells gives blocks =
    record { name = name; line = 1; params = params; cells = cells; gives = gives; blocks = blocks }

abbrev unit : List Graph → GraphUnit
unit graphs = record { globals = []; main = 0; graphs = graphs }

abbrev walk : ℕ → List ℕ → Walk
walk function blocks = record { function = function; blocks = blocks }

abbrev came : List ℕ → Outcome → List Walk → Option Walked
came output ending walks = Some (record { output = output; ending = ending; walks = walks })

-- a run of at most 40 blocks
abbrev run : GraphUnit → List ℕ → ℕ → Option Walked
run u input turns = goes 40 u (first u input turns)

-- ---- lists of numbers

in_between : inserted 4 (1 ∷ 7 ∷ []) ≡ 1 ∷ 4 ∷ 7 ∷ []
in_between = refl

there_already : inserted 4 (1 ∷ 4 ∷ []) ≡ 1 ∷ 4 ∷ []
there_already = refl

-- ---- `int main(void) { int c; while (!((c = getchar()) < 0)) putchar(c); return 0; }`; nothing enters block 5

abbrev reads : Block
reads = block (op.GetChar ∷ op.StoreLocal 0 ∷ op.Push (pos 0) ∷ op.Less type.Int 2 ∷ []) (Ending.Branch 6 4) (2 ∷ [])

abbrev puts : Block
puts = block (op.LoadLocal 0 ∷ op.PutChar 3 ∷ op.Drop ∷ []) (Ending.Back 3) (3 ∷ [])

abbrev gives_zero : Block
gives_zero = block (op.Push (pos 0) ∷ []) Ending.Return (4 ∷ [])

abbrev copying : List Block
copying = block [] (Ending.Jump 3) (1 ∷ []) ∷ reads ∷ puts ∷ block [] (Ending.Jump 6) (9 ∷ []) ∷ gives_zero ∷ []

abbrev main_of : List Block → GraphUnit
main_of blocks = unit (graph (codes "main") 0 1 true blocks ∷ [])

abbrev copied : Graph
copied = graph (codes "main") 0 1 true
    (block [] (Ending.Jump 3) (1 ∷ []) ∷ record reads { end = Ending.Branch 5 4 } ∷ puts ∷ gives_zero ∷ [])

kept_blocks : reached copying ≡ 2 ∷ 3 ∷ 4 ∷ 6 ∷ []
kept_blocks = refl

new_numbers : pruned (main_of copying) ≡ unit (copied ∷ [])
new_numbers = refl

net_of_a_loop : net_of copied ≡ record {
  blocks = 6;
  arcs = real 0 2 ∷ real 2 3 ∷ real 3 4 ∷ real 3 5 ∷ real 4 3 ∷ real 5 1 ∷ [];
  lines = [] ∷ [] ∷ (1 ∷ []) ∷ (2 ∷ []) ∷ (3 ∷ []) ∷ (4 ∷ []) ∷ [];
}
net_of_a_loop = refl

-- 8 operations, 5 for the endings, and 8 for each of 6 arcs
size_of_a_loop : size_of (unit (copied ∷ [])) ≡ 61
size_of_a_loop = refl

two_bytes : run (unit (copied ∷ [])) (codes "ab") 2
    ≡ came (codes "ab") (outcome.Returned 0) (walk 0 (0 ∷ 2 ∷ 3 ∷ 4 ∷ 3 ∷ 4 ∷ 3 ∷ 5 ∷ 1 ∷ []) ∷ [])
two_bytes = refl

one_turn_is_too_few : run (unit (copied ∷ [])) (codes "ab") 1
    ≡ came (codes "ab") outcome.OutOfTurns (walk 0 (0 ∷ 2 ∷ 3 ∷ 4 ∷ 3 ∷ 4 ∷ []) ∷ [])
one_turn_is_too_few = refl

-- ---- `void f(void) { exit(5); } int main(void) { f(); return 0; }`, `main` being function 0

abbrev calls_f : Graph
calls_f = graph (codes "main") 0 0 true (block [] (Ending.Call 1 1 3) (1 ∷ []) ∷ gives_zero ∷ [])

abbrev exits : Graph
exits = graph (codes "f") 0 0 false (block (op.Push (pos 5) ∷ []) Ending.Exit (1 ∷ []) ∷ [])

net_of_a_call : (net_of calls_f).arcs ≡ real 0 2 ∷ call_exit 2 ∷ real 2 3 ∷ real 3 1 ∷ []
net_of_a_call = refl

net_of_an_exit : (net_of exits).arcs ≡ real 0 2 ∷ call_exit 2 ∷ []
net_of_an_exit = refl

exit_closes_each_walk : run (unit (calls_f ∷ exits ∷ [])) [] 1
    ≡ came [] (outcome.Exited 5) (walk 0 (0 ∷ 2 ∷ 1 ∷ []) ∷ walk 1 (0 ∷ 2 ∷ 1 ∷ []) ∷ [])
exit_closes_each_walk = refl

call_takes_a_turn : run (unit (calls_f ∷ exits ∷ [])) [] 0 ≡ came [] outcome.OutOfTurns (walk 0 (0 ∷ 2 ∷ []) ∷ [])
call_takes_a_turn = refl

-- ---- `int f(int a, int b) { int c; return a - b + c; } int main(void) { return f(7, 2); }`; a new cell is 0

abbrev calls_with_two : Graph
calls_with_two = graph (codes "main") 0 0 true
    (block (op.Push (pos 7) ∷ op.Push (pos 2) ∷ []) (Ending.Call 1 1 3) (1 ∷ []) ∷ block [] Ending.Return (1 ∷ []) ∷ [])

abbrev takes_two : Graph
takes_two = graph (codes "f") 2 3 true
    (block (op.LoadLocal 0 ∷ op.LoadLocal 1 ∷ op.Sub type.Int 1 ∷ op.LoadLocal 2 ∷ op.Add type.Int 1 ∷ []) Ending.Return
    (1 ∷ []) ∷ [])

arguments_in_order : run (unit (calls_with_two ∷ takes_two ∷ [])) [] 1
    ≡ came [] (outcome.Returned 5) (walk 0 (0 ∷ 2 ∷ 3 ∷ 1 ∷ []) ∷ walk 1 (0 ∷ 2 ∷ 1 ∷ []) ∷ [])
arguments_in_order = refl

-- ---- `int main(void) { switch (getchar()) { case '1': case '2': return 8; } return 9; }`

abbrev gives : ℕ → Block
gives n = block (op.Push (pos n) ∷ []) Ending.Return (1 ∷ [])

abbrev chooses : Graph
chooses = graph (codes "main") 0 0 true
    (block (op.GetChar ∷ []) (Ending.Switch ((pos 49, 4) ∷ (pos 50, 4) ∷ []) 3) (1 ∷ []) ∷ gives 9 ∷ gives 8 ∷ [])

one_arc_for_two_cases : (net_of chooses).arcs ≡ real 0 2 ∷ real 2 3 ∷ real 2 4 ∷ real 3 1 ∷ real 4 1 ∷ []
one_arc_for_two_cases = refl

-- 3 operations, 2 and 2 for the switch, 2 for the returns, and 8 for each of 5 arcs
size_of_a_switch : size_of (unit (chooses ∷ [])) ≡ 49
size_of_a_switch = refl

second_case : run (unit (chooses ∷ [])) (codes "2") 0
    ≡ came [] (outcome.Returned 8) (walk 0 (0 ∷ 2 ∷ 4 ∷ 1 ∷ []) ∷ [])
second_case = refl

no_case : run (unit (chooses ∷ [])) [] 0 ≡ came [] (outcome.Returned 9) (walk 0 (0 ∷ 2 ∷ 3 ∷ 1 ∷ []) ∷ [])
no_case = refl

-- ---- a trap ends the run in its block; what a block lacks breaks it

trap_in_a_block : run (main_of (block (op.Push (pos 1) ∷ op.Push (pos 0) ∷ op.Div type.Int 3 ∷ []) Ending.Return [] ∷
    [])) [] 0
    ≡ came [] (outcome.Trapped trap.DivideByZero 3) (walk 0 (0 ∷ 2 ∷ []) ∷ [])
trap_in_a_block = refl

no_operand : run (main_of (block [] (Ending.Branch 2 2) [] ∷ [])) [] 9 ≡ None
no_operand = refl

-- ---- `int main(void) { return main(); }`: 2,000 calls may be under way

abbrev deepens : GraphUnit
deepens = unit (graph (codes "main") 0 0 true (block [] (Ending.Call 0 1 3) [] ∷ block [] Ending.Return [] ∷ []) ∷ [])

frames_run_out : option_map (λ w. w.ending) (goes 2001 deepens (first deepens [] 3000))
    ≡ Some (outcome.Trapped trap.CallDepth 1)
frames_run_out = refl

each_call_has_a_walk : option_map (λ w. length w.walks) (goes 2001 deepens (first deepens [] 3000)) ≡ Some 2000
each_call_has_a_walk = refl
