-- The numbers of the instructions of a graph.
use Rattle.std.proofs.Common.{◌≡◌, refl, ℕ, suc, ◌+◌, ◌-◌, Bool, true, false, cond, List, [], ◌∷◌, ◌++◌, length, Some, None}
use Rattle.std.specs.Prelude.{ℤ, T, int_le, slice_get, Option}
use Rattle.std.specs.Option.{option_or}
use Rattle.std.proofs.lemmas.Bool.{and_from}
use Rattle.int_ops.specs.Ranges.{IsNumber, least, greatest}
use Rattle.int_ops.specs.declared.types.IntType.TheVariants as type
use Rattle.stack_ops.specs.declared.operation.Op.{Op}
use Rattle.stack_ops.specs.declared.operation.Op.TheVariants as op
use Rattle.stack_ops.specs.Shapes.{takes, gives, is_step, HasNumber}
use Rattle.c_tree.specs.Sound.{Each}
use Rattle.code_runs.specs.Checks.{Rule}
use Rattle.code_runs.specs.CodeChecks.{is_number, number_there, unless_at, globals_fault, numbers_fault}
use Rattle.flow_graph.specs.Graph.{Ending, Block, Graph}
use Rattle.operand_depths.specs.Depths.{Leaves}
use Rattle.stack_code.specs.Emits.{IsMark, AreMarks}
use Rattle.stack_code.specs.Emits as emits
use Rattle.stack_code.specs.Fitting.{cases_of}
use Rattle.stack_code.specs.Laying.{is_bare, tail, stub, stubs, tests, goals, branch, end_code}
use Rattle.stack_code.specs.Laying.{block_size, codes, starts, graph_code}

passes : (b : Bool) → T b → b ≡ true
passes true h = refl
passes false h = absurd h

pub number_is : (n : ℤ) → IsNumber n → is_number n ≡ true
number_is n h =
    and_from (int_le (least type.Long) n) (int_le n (greatest type.UnsignedLong)) (passes _ h.0.le) (passes _ h.1.le)

-- the number of an instruction is one
abbrev pub IsFit : Op → Type 0
IsFit o = number_there o ≡ true

pub step_fits : (o : Op) → is_step o ≡ true → HasNumber o → IsFit o
step_fits (op.Push n) is h = number_is n h
step_fits (op.CaseJump n w) is h = absurd (cc)
step_fits o is h = refl

mark_fits : (o : Op) → IsMark o → IsFit o
mark_fits _ (emits.count n) = refl
mark_fits _ emits.begin = refl
mark_fits _ (emits.pass n) = refl

join : (xs ys : List Op) → Each IsFit xs → Each IsFit ys → Each IsFit (xs ++ ys)
join [] ys h k = k
join (x ∷ xs) ys h k = (h.0, join xs ys h.1 k)

marks_fit : (os : List Op) → AreMarks os → Each IsFit os
marks_fit [] h = tt
marks_fit (o ∷ os) h = (mark_fits o h.0, marks_fit os h.1)

pub leaves_fit : (globals cells depth : ℕ) (os : List Op) (after : ℕ) → Leaves globals cells depth os after
    → Each IsFit os
leaves_fit globals cells depth [] after h = tt
leaves_fit globals cells depth (o ∷ os) after h =
    (step_fits o h.0.step h.0.number, leaves_fit globals cells (depth - takes o + gives o) os after h.1)

module _ (m : ℕ → List Op) (are : (t : ℕ) → AreMarks (m t)) (start : ℕ → ℕ) where
  tail_fits : (next t : ℕ) → Each IsFit (tail next (m t) t (start t))
  tail_fits next t = join (m t) _ (marks_fit (m t) (are t)) (by _)
    where
      by : (z : Bool) → Each IsFit (cond z [] (op.Jump (start t) ∷ []))
      by true = tt
      by false = (refl, tt)

  jump_fits : (t : ℕ) → Each IsFit (m t ++ op.Jump (start t) ∷ [])
  jump_fits t = join (m t) (op.Jump (start t) ∷ []) (marks_fit (m t) (are t)) (refl, tt)

  stub_fits : (ms : List Op) (place : ℕ) → Each IsFit ms → Each IsFit (stub ms place)
  stub_fits [] place h = tt
  stub_fits (o ∷ os) place h = join (o ∷ os) (op.Jump place ∷ []) h (refl, tt)

  stubs_fit : (ts : List ℕ) → Each IsFit (stubs m start ts)
  stubs_fit [] = tt
  stubs_fit (t ∷ ts) =
      join (stub (m t) (start t)) (stubs m start ts) (stub_fits (m t) (start t) (marks_fit (m t) (are t)))
      (stubs_fit ts)

  tests_fit : (q : ℕ) (ts : List ℕ) (cases : List (ℤ × ℕ)) → Each (λ c. IsNumber c.0) cases
      → Each IsFit (tests m start q ts cases)
  tests_fit q ts [] h = tt
  tests_fit q ts (c ∷ cases) h = (number_is c.0 h.0, tests_fit q ts cases h.1)

  branch_fits : (z : Bool) (next at t f : ℕ) → Each IsFit (branch z m next start at t f)
  branch_fits true next at t f = (refl, tail_fits next t)
  branch_fits false next at t f = (refl, join (m t ++ op.Jump (start t) ∷ []) _ (jump_fits t) (tail_fits next f))

  pub end_fits : (next at : ℕ) (end : Ending) → Each (λ c. IsNumber c.0) (cases_of end)
      → Each IsFit (end_code m next start at end)
  end_fits next at (Ending.Jump t) h = tail_fits next t
  end_fits next at (Ending.Back t) h = join (m t) (op.Back (start t) ∷ []) (marks_fit (m t) (are t)) (refl, tt)
  end_fits next at (Ending.Branch t f) h = branch_fits (is_bare (m f)) next at t f
  end_fits next at (Ending.Switch cases d) h =
      let q : ℕ = at + length cases + 1 + (length (m d) + 1) in
      join (tests m start q (goals cases) cases)
      ((op.Drop ∷ (m d ++ op.Jump (start d) ∷ [])) ++ stubs m start (goals cases))
      (tests_fit q (goals cases) cases h)
      (join (op.Drop ∷ (m d ++ op.Jump (start d) ∷ [])) (stubs m start (goals cases)) (refl, jump_fits d)
      (stubs_fit (goals cases)))
  end_fits next at (Ending.Call f line n) h = (refl, tail_fits next n)
  end_fits next at Ending.Return h = (refl, tt)
  end_fits next at Ending.Exit h = (refl, tt)

pub codes_fit : (m : ℕ → ℕ → List Op) (s : ℕ → ℕ) (a p : ℕ) (bs : List Block)
    → ((x y : ℕ) → AreMarks (m x y))
    → ((k : ℕ) (b : Block) → slice_get bs k ≡ Some b → Each IsFit b.ops × Each (λ c. IsNumber c.0) (cases_of b.end))
    → Each IsFit (codes m s a p bs)
codes_fit m s a p [] are each = tt
codes_fit m s a p (b ∷ bs) are each =
    let h = each 0 b refl in
    let end : List Op = end_code (m a) (suc a) s (p + length b.ops) b.end in
    join (b.ops ++ end) (codes m s (suc a) (p + block_size (m a) (suc a) b) bs)
    (join b.ops end h.0 (end_fits (m a) (are a) s (suc a) (p + length b.ops) b.end h.1))
    (codes_fit m s (suc a) (p + block_size (m a) (suc a) b) bs are (λ k c at. each (suc k) c at))

pub graph_fits : (m : ℕ → ℕ → List Op) (g : Graph) → ((x y : ℕ) → AreMarks (m x y))
    → ((k : ℕ) (b : Block) → slice_get g.blocks k ≡ Some b
    → Each IsFit b.ops × Each (λ c. IsNumber c.0) (cases_of b.end))
    → Each IsFit (graph_code m g)
graph_fits m g are each =
    join (m 0 2) (codes m (starts m g) 2 (length (m 0 2)) g.blocks) (marks_fit (m 0 2) (are 0 2))
    (codes_fit m (starts m g) 2 (length (m 0 2)) g.blocks are each)

-- ---- what the checks say of them

pub unless : (b : Bool) (at : ℕ) (r : Rule) → b ≡ true → unless_at b at r ≡ None
unless true at r h = refl
unless false at r h = absurd (cc)

pub both : {A : Type 0} (a b : Option A) → a ≡ None → b ≡ None → option_or a b ≡ None
both None b h k = k
both (Some x) b h k = absurd (cc)

pub no_number_fault : (at : ℕ) (os : List Op) → Each IsFit os → numbers_fault at os ≡ None
no_number_fault at [] h = refl
no_number_fault at (o ∷ os) h =
    both (unless_at (number_there o) at Rule.Opcode) (numbers_fault (suc at) os)
    (unless (number_there o) at Rule.Opcode h.0) (no_number_fault (suc at) os h.1)

pub no_global_fault : (ns : List ℤ) → Each IsNumber ns → globals_fault ns ≡ None
no_global_fault [] h = refl
no_global_fault (n ∷ ns) h =
    both (unless_at (is_number n) 0 Rule.Field) (globals_fault ns) (unless (is_number n) 0 Rule.Field (number_is n h.0))
    (no_global_fault ns h.1)
