-- How many operands stand where a block of a graph begins, and that each operation and ending finds what it takes.
use Rattle.std.specs.Prelude.{◌≡◌, ℕ, ◌+◌, ◌-◌, ◌*◌, ◌≤◌, Bool, true, false, ℤ, List, [], ◌∷◌, length, slice_get, Some}
use Rattle.cov_base.specs.Limits.{parameter_limit, level_limit}
use Rattle.c_tree.specs.Sound.{Each}
use Rattle.stack_ops.specs.declared.operation.Op.{Op}
use Rattle.stack_ops.specs.Shapes.{takes, gives, is_step, HasCells, HasNumber}
use Rattle.flow_graph.specs.Graph.{Ending, Block, Graph, GraphUnit}

-- the operands of a call that stand at once: for each level of an expression as many as a call has arguments
abbrev pub depth_limit : ℕ
depth_limit = parameter_limit * level_limit

-- one operand where a function gives a number, and otherwise none
abbrev pub given : Bool → ℕ
given true = 1
given false = 0

-- Where so many operands stand, an operation finds those that it takes, those that it leaves are within the limit, and
-- the cells that it names are there, among so many globals and cells.
pub record Finds (globals cells depth : ℕ) (o : Op) : Type 0 where
  pub step : is_step o ≡ true
  pub operands : takes o ≤ depth
  pub room : depth - takes o + gives o ≤ depth_limit
  pub cells_are : (locals outer : List ℤ) → length locals ≡ cells → length outer ≡ globals → HasCells o locals outer
  pub number : HasNumber o

-- from so many operands, operations find theirs one after another, and leave so many
abbrev pub Leaves : ℕ → ℕ → ℕ → List Op → ℕ → Type 0
Leaves globals cells depth [] after = depth ≡ after
Leaves globals cells depth (o ∷ ops) after =
    Finds globals cells depth o × Leaves globals cells (depth - takes o + gives o) ops after

-- Where so many operands stand, an ending finds those that it takes, and each block that it leads to begins with those
-- that are left: a return takes the number that its function gives, an exit its status, and a call its arguments, in
-- place of which comes the number that the called function gives.
abbrev pub Leads : List Graph → Bool → (ℕ → ℕ) → ℕ → Ending → Type 0
Leads graphs own depths depth (Ending.Jump t) = depths t ≡ depth
Leads graphs own depths depth (Ending.Back t) = depths t ≡ depth
Leads graphs own depths depth (Ending.Branch t f) = (1 ≤ depth) × (depths t ≡ depth - 1) × (depths f ≡ depth - 1)
Leads graphs own depths depth (Ending.Switch cases default) =
    (1 ≤ depth) × Each (λ c. depths c.1 ≡ depth - 1) cases × (depths default ≡ depth - 1)
Leads graphs own depths depth (Ending.Call f line next) =
    (called : Graph) × (slice_get graphs f ≡ Some called) × (called.params ≤ depth)
    × (depths next ≡ depth - called.params + given called.gives)
Leads graphs own depths depth Ending.Return = depth ≡ given own
Leads graphs own depths depth Ending.Exit = 1 ≤ depth

-- A block of a graph that begins with so many operands.
pub record Runs (u : GraphUnit) (g : Graph) (depths : ℕ → ℕ) (depth : ℕ) (b : Block) : Type 0 where
  pub room : depth ≤ depth_limit
  pub after : ℕ
  pub operations : Leaves (length u.globals) g.cells depth b.ops after
  pub ending : Leads u.graphs g.gives depths after b.end

-- Each block of a graph begins with one number of operands, by its number, and the first with none.
pub record Steady (u : GraphUnit) (g : Graph) : Type 0 where
  pub depths : ℕ → ℕ
  pub first : depths 2 ≡ 0
  pub blocks : (k : ℕ) (b : Block) → slice_get g.blocks k ≡ Some b → Runs u g depths (depths (2 + k)) b
