-- The numbers on the arcs of a function, or the first negative one.
use Rattle.std.specs.Prelude.{◌≡◌, ℕ, ℤ, pos, ◌^◌, ◌≤ℤ◌, List, Some, None}
use Rattle.std.specs.List.{All, position}
use Rattle.cov_base.specs.Net.{NetValue}
use Rattle.cov_base.specs.declared.refusal.Refusal.{Refusal}
use Rattle.cov_base.specs.declared.refusal.Refusal.TheVariants as refusal
use Rattle.flow_solver.specs.Circulation.{Circulation, is_negative}
use Rattle.function_tallies.specs.declared.tally.TallyFault.{TallyFault}
use Rattle.function_tallies.specs.declared.tally.TallyFault.TheVariants as fault

-- the fault is that of these numbers, whose first negative one is on the arc, in the function of number k
abbrev pub IsNoFlow : ℕ → NetValue → List ℕ → TallyFault → Type 0
IsNoFlow k net given (fault.NotAFlow n arc) = (n ≡ k)
    × ((numbers : List ℤ) × Circulation net given numbers × (position is_negative numbers ≡ Some arc))
IsNoFlow k net given _ = ⊥

-- the refusal is that fault; want of memory says nothing
abbrev pub RefusesFlow : ℕ → NetValue → List ℕ → Refusal TallyFault → Type 0
RefusesFlow k net given (refusal.Refused found) = IsNoFlow k net given found
RefusesFlow k net given refusal.NoMemory = Unit {0}

-- the numbers agree with the counters and balance, and none is negative or above 2^80
pub record AreFlow (net : NetValue) (given : List ℕ) (numbers : List ℤ) : Type 0 where
  pub circulates : Circulation net given numbers
  pub positive : position is_negative numbers ≡ None
  pub small : All (λ n. (pos 0 ≤ℤ n) × (n ≤ℤ pos (2 ^ 80))) numbers
