-- The graphs and nets of worked sources, computed.
use Rattle.std.proofs.Common.{◌≡◌, refl, ℕ, pos, List, [], ◌∷◌, map}
use Rattle.cov_base.specs.declared.net.FlowArc.{FlowArc}
use Rattle.cov_base.specs.Net.{NetValue}
use Rattle.int_ops.specs.declared.types.IntType.TheVariants as type
use Rattle.c_tree.specs.Typed.{Typed}
use Rattle.stack_ops.specs.declared.operation.Op.{Op}
use Rattle.stack_ops.specs.declared.operation.Op.TheVariants as op
use Rattle.flow_graph.specs.Graph.{Ending, Block}
use Rattle.c_lower.specs.Lowered.{unit_of}
use Rattle.flow_graph.specs.Nets.{pruned, net_of, size_of, real, call_exit}
use Rattle.c_meaning.proofs.Sources.{
  counts,
  sum_of_three,
  one_or_two,
  for_ever,
  exits_deep,
  calls_itself,
  two_labels,
  chooses_in_an_argument,
  do_continues,
  for_without_test,
  falls_through,
  steps_an_index,
  comma_with_void,
  exits_in_an_argument,
  unreached,
  steps_a_char,
  shifts_a_char,
  compares_unsigned,
  array_in_a_loop,
  signs,
}

abbrev block : List Op → Ending → List ℕ → Block
block ops end lines = record { ops = ops; end = end; lines = lines }

-- the blocks of each function, and of each once it is pruned
abbrev graphs : Typed → List (List Block)
graphs t = map (λ g. g.blocks) ((unit_of t).graphs)

abbrev nets : Typed → List NetValue
nets t = map net_of ((pruned (unit_of t)).graphs)

abbrev net : ℕ → List FlowArc → List (List ℕ) → NetValue
net blocks arcs lines = record { blocks = blocks; arcs = arcs; lines = lines }

blocks_of_counts : graphs counts ≡
    (block (op.Push (pos 0) ∷ op.StoreLocal 0 ∷ op.Drop ∷ []) (Ending.Jump 3) (1 ∷ 2 ∷ [])
    ∷ block (op.GetChar ∷ op.Push (pos 97) ∷ op.Equal type.Int 3 ∷ []) (Ending.Branch 4 5) (3 ∷ [])
    ∷ block (op.LoadLocal 0 ∷ op.Dup ∷ op.Push (pos 1) ∷ op.Add type.Int 4 ∷ op.StoreLocal 0 ∷ op.Drop ∷ op.Drop ∷ [])
    (Ending.Back 3) (4 ∷ [])
    ∷ block (op.LoadLocal 0 ∷ []) Ending.Return (5 ∷ []) ∷ []) ∷ []
blocks_of_counts = refl

net_of_counts : nets counts ≡
    net 6 (real 0 2 ∷ real 2 3 ∷ real 3 4 ∷ real 3 5 ∷ real 4 3 ∷ real 5 1 ∷ [])
    ([] ∷ [] ∷ (1 ∷ 2 ∷ []) ∷ (3 ∷ []) ∷ (4 ∷ []) ∷ (5 ∷ []) ∷ []) ∷ []
net_of_counts = refl

blocks_of_a_for : graphs sum_of_three ≡
    (block (op.Push (pos 0) ∷ op.StoreLocal 1 ∷ op.Drop ∷ op.Push (pos 0) ∷ op.StoreLocal 0 ∷ op.Drop ∷ [])
    (Ending.Jump 3) (1 ∷ 2 ∷ 3 ∷ [])
    ∷ block (op.LoadLocal 0 ∷ op.Push (pos 3) ∷ op.Less type.Int 3 ∷ []) (Ending.Branch 4 6) (3 ∷ [])
    ∷ block (op.LoadLocal 1 ∷ op.LoadLocal 0 ∷ op.Add type.Int 4 ∷ op.StoreLocal 1 ∷ op.Drop ∷ []) (Ending.Jump 5)
    (4 ∷ [])
    ∷ block (op.LoadLocal 0 ∷ op.Dup ∷ op.Push (pos 1) ∷ op.Add type.Int 3 ∷ op.StoreLocal 0 ∷ op.Drop ∷ op.Drop ∷ [])
    (Ending.Back 3) (3 ∷ [])
    ∷ block (op.LoadLocal 1 ∷ []) Ending.Return (5 ∷ []) ∷ []) ∷ []
blocks_of_a_for = refl

net_of_a_for : nets sum_of_three ≡
    net 7 (real 0 2 ∷ real 2 3 ∷ real 3 4 ∷ real 3 6 ∷ real 4 5 ∷ real 5 3 ∷ real 6 1 ∷ [])
    ([] ∷ [] ∷ (1 ∷ 2 ∷ 3 ∷ []) ∷ (3 ∷ []) ∷ (4 ∷ []) ∷ (3 ∷ []) ∷ (5 ∷ []) ∷ []) ∷ []
net_of_a_for = refl

-- the block behind both returns is dropped
blocks_of_an_if : graphs one_or_two ≡
    (block (op.GetChar ∷ op.StoreLocal 0 ∷ op.Drop ∷ op.LoadLocal 0 ∷ op.Push (pos 120) ∷ op.Equal type.Int 3 ∷ [])
    (Ending.Branch 3 4) (1 ∷ 2 ∷ 3 ∷ [])
    ∷ block (op.Push (pos 1) ∷ []) Ending.Return (3 ∷ [])
    ∷ block (op.Push (pos 2) ∷ []) Ending.Return (3 ∷ [])
    ∷ block (op.Push (pos 0) ∷ []) Ending.Return [] ∷ []) ∷ []
blocks_of_an_if = refl

net_of_an_if : nets one_or_two ≡
    net 5 (real 0 2 ∷ real 2 3 ∷ real 2 4 ∷ real 3 1 ∷ real 4 1 ∷ [])
    ([] ∷ [] ∷ (1 ∷ 2 ∷ 3 ∷ []) ∷ (3 ∷ []) ∷ (3 ∷ []) ∷ []) ∷ []
net_of_an_if = refl

blocks_of_a_loop_for_ever : graphs for_ever ≡
    (block [] (Ending.Jump 3) (1 ∷ []) ∷ block [] (Ending.Back 3) [] ∷ block (op.Push (pos 0) ∷ []) Ending.Return [] ∷
    []) ∷ []
blocks_of_a_loop_for_ever = refl

net_of_a_loop_for_ever : nets for_ever ≡ net 4 (real 0 2 ∷ real 2 3 ∷ real 3 3 ∷ []) ([] ∷ [] ∷ (1 ∷ []) ∷ [] ∷ []) ∷ []
net_of_a_loop_for_ever = refl

blocks_of_calls : graphs exits_deep ≡
    (block (op.Push (pos 5) ∷ []) Ending.Exit (1 ∷ []) ∷ block [] Ending.Return (1 ∷ []) ∷ [])
    ∷ (block [] (Ending.Call 0 2 3) (2 ∷ []) ∷ block [] Ending.Return (2 ∷ []) ∷ [])
    ∷ (block [] (Ending.Call 1 3 3) (3 ∷ []) ∷ block (op.Push (pos 0) ∷ []) Ending.Return (3 ∷ []) ∷ []) ∷ []
blocks_of_calls = refl

nets_of_calls : nets exits_deep ≡
    net 3 (real 0 2 ∷ call_exit 2 ∷ []) ([] ∷ [] ∷ (1 ∷ []) ∷ [])
    ∷ net 4 (real 0 2 ∷ call_exit 2 ∷ real 2 3 ∷ real 3 1 ∷ []) ([] ∷ [] ∷ (2 ∷ []) ∷ (2 ∷ []) ∷ [])
    ∷ net 4 (real 0 2 ∷ call_exit 2 ∷ real 2 3 ∷ real 3 1 ∷ []) ([] ∷ [] ∷ (3 ∷ []) ∷ (3 ∷ []) ∷ []) ∷ []
nets_of_calls = refl

blocks_of_recursion : graphs calls_itself ≡
    (block (op.LoadLocal 0 ∷ op.Push (pos 0) ∷ op.Greater type.Int 2 ∷ []) (Ending.Branch 3 5) (1 ∷ 2 ∷ [])
    ∷ block (op.LoadLocal 0 ∷ op.Push (pos 1) ∷ op.Sub type.Int 3 ∷ []) (Ending.Call 0 3 4) (3 ∷ [])
    ∷ block (op.Drop ∷ []) (Ending.Jump 5) (3 ∷ [])
    ∷ block (op.LoadLocal 0 ∷ op.Push (pos 0) ∷ op.Greater type.Int 4 ∷ []) (Ending.Branch 6 7) (4 ∷ [])
    ∷ block (op.Push (pos 1) ∷ []) Ending.Return (5 ∷ [])
    ∷ block (op.Push (pos 0) ∷ []) Ending.Return (6 ∷ []) ∷ [])
    ∷ (block (op.Push (pos 1) ∷ []) (Ending.Call 0 8 3) (8 ∷ []) ∷ block [] Ending.Return (8 ∷ []) ∷ []) ∷ []
blocks_of_recursion = refl

nets_of_recursion : nets calls_itself ≡
    net 8 (real 0 2 ∷ real 2 3 ∷ real 2 5 ∷ call_exit 3 ∷ real 3 4 ∷ real 4 5 ∷ real 5 6 ∷ real 5 7 ∷ real 6 1 ∷ real 7
    1 ∷ [])
    ([] ∷ [] ∷ (1 ∷ 2 ∷ []) ∷ (3 ∷ []) ∷ (3 ∷ []) ∷ (4 ∷ []) ∷ (5 ∷ []) ∷ (6 ∷ []) ∷ [])
    ∷ net 4 (real 0 2 ∷ call_exit 2 ∷ real 2 3 ∷ real 3 1 ∷ []) ([] ∷ [] ∷ (8 ∷ []) ∷ (8 ∷ []) ∷ []) ∷ []
nets_of_recursion = refl

-- two labels without an item between them begin one block
blocks_of_a_switch : graphs two_labels ≡
    (block (op.LoadLocal 0 ∷ []) (Ending.Switch ((pos 1, 3) ∷ (pos 2, 3) ∷ []) 4) (1 ∷ [])
    ∷ block (op.Push (pos 7) ∷ []) Ending.Return (1 ∷ [])
    ∷ block [] (Ending.Jump 5) []
    ∷ block (op.Push (pos 0) ∷ []) Ending.Return (1 ∷ []) ∷ [])
    ∷ (block (op.Push (pos 0) ∷ []) Ending.Return (1 ∷ []) ∷ []) ∷ []
blocks_of_a_switch = refl

-- two cases that go to one block are one arc
nets_of_a_switch : nets two_labels ≡
    net 6 (real 0 2 ∷ real 2 3 ∷ real 2 4 ∷ real 3 1 ∷ real 4 5 ∷ real 5 1 ∷ [])
    ([] ∷ [] ∷ (1 ∷ []) ∷ (1 ∷ []) ∷ [] ∷ (1 ∷ []) ∷ [])
    ∷ net 3 (real 0 2 ∷ real 2 1 ∷ []) ([] ∷ [] ∷ (1 ∷ []) ∷ []) ∷ []
nets_of_a_switch = refl

-- what stands behind a `return` begins a block that nothing enters, which pruning drops
blocks_behind_a_return : graphs unreached ≡
    (block (op.Push (pos 1) ∷ []) Ending.Return (1 ∷ 2 ∷ [])
    ∷ block (op.Push (pos 120) ∷ op.PutChar 3 ∷ op.Drop ∷ op.Push (pos 0) ∷ []) Ending.Return (3 ∷ []) ∷ []) ∷ []
blocks_behind_a_return = refl

net_behind_a_return : nets unreached ≡ net 3 (real 0 2 ∷ real 2 1 ∷ []) ([] ∷ [] ∷ (1 ∷ 2 ∷ []) ∷ []) ∷ []
net_behind_a_return = refl

-- a `continue` in a `do` goes to the test, whose way back has the line of the `while`
blocks_of_a_do : graphs do_continues ≡
    (block (op.Push (pos 0) ∷ op.StoreLocal 0 ∷ op.Drop ∷ op.Push (pos 0) ∷ op.StoreLocal 1 ∷ op.Drop ∷ [])
    (Ending.Jump 3) (1 ∷ 2 ∷ [])
    ∷ block (op.LoadLocal 0 ∷ op.Dup ∷ op.Push (pos 1) ∷ op.Add type.Int 4 ∷ op.StoreLocal 0 ∷ op.Drop ∷ op.Drop ∷
    op.LoadLocal 0 ∷ op.Push (pos 2) ∷ op.Equal type.Int 5 ∷ [])
    (Ending.Branch 4 5) (4 ∷ 5 ∷ [])
    ∷ block [] (Ending.Jump 6) (5 ∷ [])
    ∷ block (op.LoadLocal 1 ∷ op.LoadLocal 0 ∷ op.Add type.Int 6 ∷ op.StoreLocal 1 ∷ op.Drop ∷ []) (Ending.Jump 6)
    (6 ∷ [])
    ∷ block (op.LoadLocal 0 ∷ op.Push (pos 3) ∷ op.Less type.Int 7 ∷ []) (Ending.Branch 7 8) (7 ∷ [])
    ∷ block [] (Ending.Back 3) (7 ∷ [])
    ∷ block (op.LoadLocal 1 ∷ []) Ending.Return (8 ∷ []) ∷ []) ∷ []
blocks_of_a_do = refl

-- `a[i++] += getchar() + i`: the index once, the old element before the value
blocks_of_an_element : graphs steps_an_index ≡
    (block (op.LoadGlobal 2 ∷ op.Dup ∷ op.Push (pos 1) ∷ op.Add type.Int 3 ∷ op.StoreGlobal 2 ∷ op.Drop ∷ op.CheckIndex
    2 3 ∷ op.Dup ∷ op.LoadGlobalAt 0 2
    ∷ op.GetChar ∷ op.LoadGlobal 2 ∷ op.Add type.Int 3 ∷ op.Add type.Int 3 ∷ op.StoreGlobalAt 0 2 ∷ op.Drop
    ∷ op.Push (pos 0) ∷ op.CheckIndex 2 4 ∷ op.LoadGlobalAt 0 2 ∷ op.Push (pos 10) ∷ op.Mul type.Int 4 ∷ op.LoadGlobal
    2 ∷ op.Add type.Int 4 ∷ []) Ending.Return (2 ∷ 3 ∷ 4 ∷ []) ∷ []) ∷ []
blocks_of_an_element = refl

-- f(getchar() == 'a' && (getchar() == 'b' ? 0 : 1)): the blocks M, X, Y and J of the choice, T, F and J of the `&&`, N
-- of the call
blocks_of_a_choice : graphs chooses_in_an_argument ≡
    (block (op.LoadLocal 0 ∷ op.PutChar 1 ∷ op.Drop ∷ op.LoadLocal 0 ∷ []) Ending.Return (1 ∷ []) ∷ [])
    ∷ (block (op.GetChar ∷ op.Push (pos 97) ∷ op.Equal type.Int 2 ∷ []) (Ending.Branch 3 8) (2 ∷ [])
    ∷ block (op.GetChar ∷ op.Push (pos 98) ∷ op.Equal type.Int 2 ∷ []) (Ending.Branch 4 5) (2 ∷ [])
    ∷ block (op.Push (pos 0) ∷ []) (Ending.Jump 6) (2 ∷ [])
    ∷ block (op.Push (pos 1) ∷ []) (Ending.Jump 6) (2 ∷ [])
    ∷ block [] (Ending.Branch 7 8) (2 ∷ [])
    ∷ block (op.Push (pos 1) ∷ []) (Ending.Jump 9) (2 ∷ [])
    ∷ block (op.Push (pos 0) ∷ []) (Ending.Jump 9) (2 ∷ [])
    ∷ block [] (Ending.Call 0 2 10) (2 ∷ [])
    ∷ block [] Ending.Return (2 ∷ []) ∷ []) ∷ []
blocks_of_a_choice = refl

-- 14 operations, endings 1 + 2 + 1 + 1, and 8 for each of 6 arcs
size_of_counts : size_of (pruned (unit_of counts)) ≡ 67
size_of_counts = refl

-- a `for` without a test: its body begins in its head; the `break` leaves it, and the step goes back
blocks_without_a_test : graphs for_without_test ≡
    (block (op.Push (pos 0) ∷ op.StoreLocal 0 ∷ op.Drop ∷ []) (Ending.Jump 3) (1 ∷ 2 ∷ [])
    ∷ block (op.LoadLocal 0 ∷ op.Push (pos 2) ∷ op.Equal type.Int 4 ∷ []) (Ending.Branch 4 5) (4 ∷ [])
    ∷ block [] (Ending.Jump 7) (4 ∷ [])
    ∷ block [] (Ending.Jump 6) []
    ∷ block (op.LoadLocal 0 ∷ op.Dup ∷ op.Push (pos 1) ∷ op.Add type.Int 3 ∷ op.StoreLocal 0 ∷ op.Drop ∷ op.Drop ∷ [])
    (Ending.Back 3) (3 ∷ [])
    ∷ block (op.LoadLocal 0 ∷ []) Ending.Return (5 ∷ []) ∷ []) ∷ []
blocks_without_a_test = refl

-- a default in the middle, and cases that fall through
blocks_that_fall_through : graphs falls_through ≡
    (block (op.GetChar ∷ []) (Ending.Switch ((pos 97, 3) ∷ (pos 98, 5) ∷ (pos 99, 6) ∷ []) 4) (1 ∷ 2 ∷ [])
    ∷ block (op.Push (pos 49) ∷ op.PutChar 3 ∷ op.Drop ∷ []) (Ending.Jump 4) (3 ∷ [])
    ∷ block (op.Push (pos 50) ∷ op.PutChar 4 ∷ op.Drop ∷ []) (Ending.Jump 5) (4 ∷ [])
    ∷ block (op.Push (pos 51) ∷ op.PutChar 5 ∷ op.Drop ∷ []) (Ending.Jump 7) (5 ∷ [])
    ∷ block (op.Push (pos 52) ∷ op.PutChar 6 ∷ op.Drop ∷ []) (Ending.Jump 7) (6 ∷ [])
    ∷ block (op.Push (pos 0) ∷ []) Ending.Return (8 ∷ []) ∷ []) ∷ []
blocks_that_fall_through = refl

-- a void left side has no value to drop
blocks_of_a_comma : graphs comma_with_void ≡
    (block (op.Push (pos 102) ∷ op.PutChar 1 ∷ op.Drop ∷ []) Ending.Return (1 ∷ []) ∷ [])
    ∷ (block [] (Ending.Call 0 2 3) (2 ∷ []) ∷ block (op.Push (pos 7) ∷ []) Ending.Return (2 ∷ []) ∷ []) ∷ []
blocks_of_a_comma = refl

-- calls in arguments, with operands that wait below them
blocks_of_arguments : graphs exits_in_an_argument ≡
    (block (op.LoadLocal 0 ∷ []) (Ending.Branch 3 5) (1 ∷ [])
    ∷ block (op.LoadLocal 0 ∷ []) Ending.Exit (1 ∷ [])
    ∷ block [] (Ending.Jump 5) (1 ∷ [])
    ∷ block (op.LoadLocal 0 ∷ []) Ending.Return (1 ∷ []) ∷ [])
    ∷ (block (op.Push (pos 102) ∷ op.PutChar 2 ∷ op.Drop ∷ op.LoadLocal 0 ∷ op.LoadLocal 1 ∷ op.Add type.Int 2 ∷ [])
    Ending.Return (2 ∷ []) ∷ [])
    ∷ (block (op.Push (pos 1) ∷ op.Push (pos 2) ∷ []) (Ending.Call 1 3 3) (3 ∷ [])
    ∷ block (op.Push (pos 4) ∷ []) (Ending.Call 0 3 4) (3 ∷ [])
    ∷ block [] (Ending.Call 1 3 5) (3 ∷ [])
    ∷ block [] Ending.Return (3 ∷ []) ∷ []) ∷ []
blocks_of_arguments = refl

-- conversions stand where types differ: a step is done at int, and its 1 is not converted
blocks_of_a_char : graphs steps_a_char ≡
    (block (op.Push (pos 127) ∷ op.Convert type.Char ∷ op.StoreLocal 0 ∷ op.Drop
    ∷ op.LoadLocal 0 ∷ op.Dup ∷ op.Convert type.Int ∷ op.Push (pos 1) ∷ op.Add type.Int 3 ∷ op.Convert type.Char ∷
    op.StoreLocal 0 ∷ op.Drop ∷ op.Drop
    ∷ op.LoadLocal 0 ∷ op.Convert type.Int ∷ []) Ending.Return (1 ∷ 2 ∷ 3 ∷ 4 ∷ []) ∷ []) ∷ []
blocks_of_a_char = refl

-- a shift is done at the promoted left type, with the right operand as it is
blocks_of_a_shift : graphs shifts_a_char ≡
    (block (op.Push (pos 255) ∷ op.Convert type.UnsignedChar ∷ op.StoreLocal 0 ∷ op.Drop
    ∷ op.Push (pos 2) ∷ op.Convert type.Long ∷ op.StoreLocal 1 ∷ op.Drop
    ∷ op.LoadLocal 0 ∷ op.Convert type.Int ∷ op.LoadLocal 1 ∷ op.Shl type.Int 3 ∷ op.Convert type.UnsignedChar ∷
    op.StoreLocal 0 ∷ op.Drop
    ∷ op.LoadLocal 0 ∷ op.Convert type.Int ∷ []) Ending.Return (1 ∷ 2 ∷ 3 ∷ 4 ∷ []) ∷ []) ∷ []
blocks_of_a_shift = refl

-- `i += 1u`: the old value and the result are converted
blocks_of_a_sum : graphs compares_unsigned ≡
    (block (op.Push (pos 2) ∷ op.Minus type.Int 2 ∷ op.StoreLocal 0 ∷ op.Drop
    ∷ op.LoadLocal 0 ∷ op.Convert type.UnsignedInt ∷ op.Push (pos 1) ∷ op.Add type.UnsignedInt 3 ∷ op.Convert type.Int
    ∷ op.StoreLocal 0 ∷ op.Drop
    ∷ op.Push (pos 1) ∷ op.LoadLocal 0 ∷ op.Convert type.UnsignedInt ∷ op.Add type.UnsignedInt 4
    ∷ op.Push (pos 0) ∷ op.Convert type.UnsignedInt ∷ op.Greater type.UnsignedInt 4 ∷ []) Ending.Return
    (1 ∷ 2 ∷ 3 ∷ 4 ∷ []) ∷ []) ∷ []
blocks_of_a_sum = refl

-- the elements of an array in order, with the line of its name at the first
blocks_of_an_array : graphs array_in_a_loop ≡
    (block (op.Push (pos 0) ∷ op.StoreLocal 1 ∷ op.Drop ∷ op.Push (pos 0) ∷ op.StoreLocal 0 ∷ op.Drop ∷ [])
    (Ending.Jump 3) (1 ∷ 2 ∷ 3 ∷ [])
    ∷ block (op.LoadLocal 0 ∷ op.Push (pos 2) ∷ op.Less type.Int 3 ∷ []) (Ending.Branch 4 6) (3 ∷ [])
    ∷ block (op.Push (pos 0) ∷ op.GetChar ∷ op.StoreLocalAt 2 3 ∷ op.Drop ∷ op.Push (pos 1) ∷ op.Push (pos 0) ∷
    op.StoreLocalAt 2 3 ∷ op.Drop
    ∷ op.Push (pos 2) ∷ op.Push (pos 0) ∷ op.StoreLocalAt 2 3 ∷ op.Drop
    ∷ op.LoadLocal 1 ∷ op.Push (pos 10) ∷ op.Mul type.Int 5 ∷ op.Push (pos 0) ∷ op.CheckIndex 3 5 ∷ op.LoadLocalAt 2 3
    ∷ op.Add type.Int 5
    ∷ op.Push (pos 1) ∷ op.CheckIndex 3 5 ∷ op.LoadLocalAt 2 3 ∷ op.Add type.Int 5 ∷ op.StoreLocal 1 ∷ op.Drop
    ∷ op.Push (pos 1) ∷ op.CheckIndex 3 6 ∷ op.Push (pos 5) ∷ op.StoreLocalAt 2 3 ∷ op.Drop ∷ []) (Ending.Jump 5)
    (4 ∷ 5 ∷ 6 ∷ [])
    ∷ block (op.LoadLocal 0 ∷ op.Dup ∷ op.Push (pos 1) ∷ op.Add type.Int 3 ∷ op.StoreLocal 0 ∷ op.Drop ∷ op.Drop ∷ [])
    (Ending.Back 3) (3 ∷ [])
    ∷ block (op.LoadLocal 1 ∷ []) Ending.Return (8 ∷ []) ∷ []) ∷ []
blocks_of_an_array = refl

-- elements that are stepped and changed; `||` and `&&` with their blocks M, T, F and J
blocks_of_signs : graphs signs ≡
    (block (op.Push (pos 0) ∷ op.StoreLocal 2 ∷ op.Drop
    ∷ op.LoadLocal 2 ∷ op.CheckIndex 2 3 ∷ op.Dup ∷ op.LoadLocalAt 0 2 ∷ op.Swap ∷ op.Over ∷ op.Push (pos 1) ∷ op.Add
    type.Int 3 ∷ op.StoreLocalAt 0 2 ∷ op.Drop ∷ op.Drop
    ∷ op.LoadLocal 2 ∷ op.CheckIndex 2 3 ∷ op.Dup ∷ op.LoadLocalAt 0 2 ∷ op.Push (pos 1) ∷ op.Sub type.Int 3 ∷
    op.StoreLocalAt 0 2 ∷ op.Drop
    ∷ op.LoadLocal 2 ∷ op.CheckIndex 2 3 ∷ op.Dup ∷ op.LoadLocalAt 0 2 ∷ op.Push (pos 3) ∷ op.Sub type.Int 3 ∷
    op.StoreLocalAt 0 2 ∷ op.Drop
    ∷ op.Push (pos 0) ∷ op.CheckIndex 2 4 ∷ op.LoadLocalAt 0 2 ∷ []) (Ending.Branch 3 5) (1 ∷ 2 ∷ 3 ∷ 4 ∷ [])
    ∷ block (op.LoadLocal 2 ∷ op.Dup ∷ op.Push (pos 1) ∷ op.Add type.Int 4 ∷ op.StoreLocal 2 ∷ op.Drop ∷ op.CheckIndex
    2 4 ∷ op.LoadLocalAt 0 2 ∷ op.Complement type.Int 4
    ∷ op.Push (pos 258) ∷ op.Convert type.Char ∷ op.Convert type.Int ∷ op.Equal type.Int 4 ∷ []) (Ending.Branch 4 6)
    (4 ∷ [])
    ∷ block (op.LoadLocal 2 ∷ []) (Ending.Branch 5 6) (4 ∷ [])
    ∷ block (op.Push (pos 1) ∷ []) (Ending.Jump 7) (4 ∷ [])
    ∷ block (op.Push (pos 0) ∷ []) (Ending.Jump 7) (4 ∷ [])
    ∷ block [] Ending.Return (4 ∷ []) ∷ []) ∷ []
blocks_of_signs = refl
