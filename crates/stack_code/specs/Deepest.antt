-- The most operands that stand at once in a graph, counted on one way through its blocks in order.
use Rattle.std.specs.Prelude.{ℕ, suc, ◌+◌, ◌-◌, max, Bool, true, false, List, [], ◌∷◌, length, replicate}
use Rattle.std.specs.Prelude.{Option, Some, None, get_or, slice_get, slice_set}
use Rattle.stack_ops.specs.declared.operation.Op.{Op}
use Rattle.stack_ops.specs.Shapes.{takes, gives}
use Rattle.flow_graph.specs.Graph.{Ending, Block, Graph}
use Rattle.fake_arcs.specs.Marking.{goals_of}
use Rattle.lower_agrees.specs.Agreement.{is_back}
use Rattle.operand_depths.specs.Depths.{given}

-- the most that stand at once, from so many on, while these operations are done
abbrev pub most_in : ℕ → List Op → ℕ
most_in depth [] = depth
most_in depth (o ∷ ops) = max depth (most_in (depth - takes o + gives o) ops)

-- how many stand behind these operations
abbrev pub left : ℕ → List Op → ℕ
left depth [] = depth
left depth (o ∷ ops) = left (depth - takes o + gives o) ops

-- how many stand behind a call, where so many stood before
abbrev pub called_far : Option Graph → ℕ → ℕ
called_far None depth = depth
called_far (Some called) depth = depth - called.params + given called.gives

-- how many stand where an ending leads to, where so many stood before it
abbrev pub far : List Graph → Ending → ℕ → ℕ
far graphs (Ending.Jump t) depth = depth
far graphs (Ending.Back t) depth = depth
far graphs (Ending.Branch t f) depth = depth - 1
far graphs (Ending.Switch cases default) depth = depth - 1
far graphs (Ending.Call f line next) depth = called_far (slice_get graphs f) depth
far graphs Ending.Return depth = depth
far graphs Ending.Exit depth = depth

-- the blocks that an ending leads on to: those behind its own
abbrev pub led_on : Bool → Ending → List ℕ
led_on true end = []
led_on false end = goals_of end

-- these blocks have so many operands in the table
abbrev pub with_depths : List ℕ → ℕ → List ℕ → List ℕ
with_depths [] depth table = table
with_depths (t ∷ ts) depth table = with_depths ts depth (slice_set table t depth)

-- the most in these blocks, of which the first has the number a; the table has the operands of those that were led to
abbrev pub deepest : List Graph → ℕ → List ℕ → List Block → ℕ
deepest graphs a table [] = 0
deepest graphs a table (b ∷ bs) = max (most_in (get_or table a 0) b.ops)
    (deepest graphs (suc a)
    (with_depths (led_on (is_back b.end) b.end) (far graphs b.end (left (get_or table a 0) b.ops)) table) bs)

-- the most that stand at once in a graph of a unit
abbrev pub graph_depth : List Graph → Graph → ℕ
graph_depth graphs g = deepest graphs 2 (replicate (2 + length g.blocks) 0) g.blocks
