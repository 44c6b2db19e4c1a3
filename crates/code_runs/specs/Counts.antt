-- What counters and marks come to, and how much a run may still do.
use Rattle.std.specs.Prelude.{
  ℕ,
  zero,
  suc,
  ◌+◌,
  ◌-◌,
  ◌*◌,
  ◌==◌,
  cond,
  List,
  [],
  ◌∷◌,
  length,
  Option,
  Some,
  None,
  slice_get,
}
use Rattle.stack_ops.specs.declared.operation.Op.{Op}
use Rattle.stack_ops.specs.declared.operation.Op.TheVariants as op
use Rattle.stack_ops.specs.Code.{FunctionValue, CodeValue}
use Rattle.code_runs.specs.CodeRun.{Waiting, Marked, Point}

-- an operation counts this counter once, or not
abbrev pub once : ℕ → Op → ℕ
once n (op.Count m) = cond (m == n) 1 0
once n o = 0

-- how often operations count this counter
abbrev pub often : ℕ → List Op → ℕ
often n [] = 0
often n (o ∷ os) = once n o + often n os

-- how often the calls of function f count its counter n
abbrev pub total : ℕ → ℕ → List Marked → ℕ
total f n [] = 0
total f n (m ∷ marks) = cond (m.function == f) (often n m.ops) 0 + total f n marks

-- the counter of this number, or 0 where there is none
abbrev pub value : ℕ → List ℕ → ℕ
value n [] = 0
value zero (x ∷ xs) = x
value (suc n) (x ∷ xs) = value n xs

-- the counter n of function f, or 0 where there is none
abbrev pub counter : ℕ → ℕ → List (List ℕ) → ℕ
counter f n [] = 0
counter zero n (cs ∷ rest) = value n cs
counter (suc f) n (cs ∷ rest) = counter f n rest

-- ---- how much is left

-- how many instructions a function has, where it is there
abbrev pub size_of : Option FunctionValue → ℕ
size_of None = 0
size_of (Some f) = length f.ops

-- how many instructions are left in a function from one on
abbrev pub left : CodeValue → ℕ → ℕ → ℕ
left c f at = size_of (slice_get c.functions f) - at

-- how many are left in the calls that wait
abbrev pub waiting : CodeValue → List Waiting → ℕ
waiting c [] = 0
waiting c (w ∷ ws) = left c w.function w.at + waiting c ws

-- how many instructions functions have
abbrev pub sizes : List FunctionValue → ℕ
sizes [] = 0
sizes (f ∷ fs) = length f.ops + sizes fs

-- what a run may still do: for each turn all instructions and one more, and those that are left in each call
abbrev pub weight : CodeValue → Point → ℕ
weight c p = p.turns * suc (sizes c.functions) + (left c p.function p.at + waiting c p.callers)
