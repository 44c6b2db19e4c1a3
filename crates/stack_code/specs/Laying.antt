-- The code of a graph, laid out block by block: a block falls through to the next, and an arc without marks is jumped
-- along at once.
use Rattle.std.specs.Prelude.{ℕ, suc, ◌+◌, ◌==◌, Bool, true, false, cond, ℤ, List, [], ◌∷◌, ◌++◌, length}
use Rattle.stack_ops.specs.declared.operation.Op.{Op}
use Rattle.stack_ops.specs.declared.operation.Op.TheVariants as op
use Rattle.flow_graph.specs.Ascending.{inserted}
use Rattle.flow_graph.specs.Graph.{Ending, Block, Graph}

-- nothing stands on an arc
abbrev pub is_bare : List Op → Bool
is_bare [] = true
is_bare (o ∷ os) = false

-- the marks of an arc, and a jump to the place of its block where that isn't the next
abbrev pub tail : ℕ → List Op → ℕ → ℕ → List Op
tail next marks t place = marks ++ cond (t == next) [] (op.Jump place ∷ [])

-- the same for an arc that stands apart, and nothing where it has no marks
abbrev pub stub : List Op → ℕ → List Op
stub [] place = []
stub (o ∷ os) place = (o ∷ os) ++ op.Jump place ∷ []

-- where a jump along such an arc goes, if its stub stands at q
abbrev pub land : List Op → ℕ → ℕ → ℕ
land [] place q = place
land (o ∷ os) place q = q

-- the blocks that cases lead to, each once
abbrev pub goals : List (ℤ × ℕ) → List ℕ
goals [] = []
goals (c ∷ cases) = inserted c.1 (goals cases)

-- one stub for each of these blocks
abbrev pub stubs : (ℕ → List Op) → (ℕ → ℕ) → List ℕ → List Op
stubs m start [] = []
stubs m start (t ∷ ts) = stub (m t) (start t) ++ stubs m start ts

-- where the stub of a block stands, if the first of them stands at q
abbrev pub stub_at : (ℕ → List Op) → ℕ → List ℕ → ℕ → ℕ
stub_at m q [] t = q
stub_at m q (x ∷ ts) t = cond (t == x) q (stub_at m (q + length (stub (m x) 0)) ts t)

-- the tests of a switch, where the stubs of these blocks begin at q
abbrev pub tests : (ℕ → List Op) → (ℕ → ℕ) → ℕ → List ℕ → List (ℤ × ℕ) → List Op
tests m start q ts [] = []
tests m start q ts (c ∷ cases) =
    op.CaseJump c.0 (land (m c.1) (start c.1) (stub_at m q ts c.1)) ∷ tests m start q ts cases

-- A test goes to the second block at once where nothing stands on the arc to it; otherwise the first arc is passed
-- over.
abbrev pub branch : Bool → (ℕ → List Op) → ℕ → (ℕ → ℕ) → ℕ → ℕ → ℕ → List Op
branch true m next start at t f = op.IfZero (start f) ∷ tail next (m t) t (start t)
branch false m next start at t f =
    op.IfZero (suc at + (length (m t) + 1)) ∷ ((m t ++ op.Jump (start t) ∷ []) ++ tail next (m f) f (start f))

-- An ending at a place: of a switch the tests, then the arc to the default, and then one stub for each block that a
-- case leads to.
abbrev pub end_code : (ℕ → List Op) → ℕ → (ℕ → ℕ) → ℕ → Ending → List Op
end_code m next start at (Ending.Jump t) = tail next (m t) t (start t)
end_code m next start at (Ending.Back t) = m t ++ op.Back (start t) ∷ []
end_code m next start at (Ending.Branch t f) = branch (is_bare (m f)) m next start at t f
end_code m next start at (Ending.Switch cases d) =
    tests m start (at + length cases + 1 + (length (m d) + 1)) (goals cases) cases
    ++ ((op.Drop ∷ (m d ++ op.Jump (start d) ∷ [])) ++ stubs m start (goals cases))
end_code m next start at (Ending.Call f line n) = op.Call f line ∷ tail next (m n) n (start n)
end_code m next start at Ending.Return = op.Return ∷ []
end_code m next start at Ending.Exit = op.Exit ∷ []

-- a block at a place, in front of the block with the number `next`
abbrev pub block_code : (ℕ → List Op) → ℕ → (ℕ → ℕ) → ℕ → Block → List Op
block_code m next start at b = b.ops ++ end_code m next start (at + length b.ops) b.end

-- no place counts for its length
abbrev pub block_size : (ℕ → List Op) → ℕ → Block → ℕ
block_size m next b = length (block_code m next (λ x. 0) 0 b)

-- where each block begins, if the first of these has the number a and begins at p
abbrev pub start_of : (ℕ → ℕ → List Op) → ℕ → ℕ → List Block → ℕ → ℕ
start_of m a p [] x = p
start_of m a p (b ∷ bs) x = cond (x == a) p (start_of m (suc a) (p + block_size (m a) (suc a) b) bs x)

-- the instructions of these blocks, of which the first has the number a and begins at p
abbrev pub codes : (ℕ → ℕ → List Op) → (ℕ → ℕ) → ℕ → ℕ → List Block → List Op
codes m start a p [] = []
codes m start a p (b ∷ bs) =
    block_code (m a) (suc a) start p b ++ codes m start (suc a) (p + block_size (m a) (suc a) b) bs

-- where each block of a graph begins
abbrev pub starts : (ℕ → ℕ → List Op) → Graph → ℕ → ℕ
starts m g = start_of m 2 (length (m 0 2)) g.blocks

-- the instructions of a graph: what stands on the arc to block 2, and then its blocks
abbrev pub graph_code : (ℕ → ℕ → List Op) → Graph → List Op
graph_code m g = m 0 2 ++ codes m (starts m g) 2 (length (m 0 2)) g.blocks
