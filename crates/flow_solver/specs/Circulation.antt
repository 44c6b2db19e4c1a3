-- The numbers on the arcs of a net that agree with its counters and balance.
use Rattle.std.specs.Prelude.{◌≡◌, ℕ, List, length, map, get_or, ℤ, pos, Bool, int_lt}
use Rattle.std.specs.Prelude.{Option, Some, None, Result, Ok, Err}
use Rattle.cov_base.specs.Net.{NetValue}
use Rattle.span_tree.specs.Tree.{off}
use Rattle.span_tree.specs.Circulation.{IsCirculation}
use Rattle.flow_solver.specs.declared.solver.NotAFlow.{NotAFlow}

-- A whole number for each arc: the arcs off the tree have those of the counters, in order, and at each block the sum in
-- is the sum out, where an unwritten arc from the exit to the entry has a number too.
pub record Circulation (net : NetValue) (given : List ℕ) (numbers : List ℤ) : Type 0 where
  pub agrees : map (λ arc. get_or numbers arc (pos 0)) (off net) ≡ map pos given
  pub circulates : IsCirculation net numbers

-- Whatever the counters say, there are such numbers, and no others.
pub record HasOneCirculation (net : NetValue) : Type 0 where
  pub there : (given : List ℕ) → length given ≡ length (off net) → (numbers : List ℤ) × Circulation net given numbers
  pub one : (given : List ℕ) (numbers others : List ℤ) → Circulation net given numbers → Circulation net given others
      → numbers ≡ others

-- the number is below 0
abbrev pub is_negative : ℤ → Bool
is_negative n = int_lt n (pos 0)

-- the arc that an answer refuses
abbrev pub refused : {T : Type 0} → Result T NotAFlow → Option ℕ
refused (Ok x) = None
refused (Err fault) = Some fault.0
