-- Which texts are accepted.
use Rattle.std.specs.Prelude.{◌≡◌, ◌≤◌, ℕ, List, length, None}
use Rattle.cov_base.specs.Limits.{source_limit}
use Rattle.cov_base.specs.declared.refusal.Refusal.{Refusal}
use Rattle.cov_base.specs.declared.refusal.Refusal.TheVariants as refusal
use Rattle.c_tree.specs.Typed.{Typed}
use Rattle.c_lower.specs.Lowered.{unit_of}
use Rattle.c_lower.specs.Refusals.{lower_fault}
use Rattle.fake_arcs.specs.Size.{size_fault}
use Rattle.source_graphs.specs.declared.graphs.SourceFault.{SourceFault}
use Rattle.source_graphs.specs.SourceGraphs.{IsSourceOf, RefusesSource}

-- The text is accepted: it is within its limit, it is a C source without faults of names and types, and its cells and
-- graphs are within their limits.
pub record IsAccepted (text : List ℕ) : Type 0 where
  pub source : Typed
  pub fits : length text ≤ source_limit
  pub is_source : IsSourceOf text source
  pub lowers : lower_fault source ≡ None
  pub sized : size_fault (unit_of source) ≡ None

-- No fault stands in an accepted text: it is refused only for want of memory.
abbrev pub AcceptedIsNotRefused : Type 0
AcceptedIsNotRefused =
    (text : List ℕ) (e : Refusal SourceFault) → IsAccepted text → RefusesSource text e → e ≡ refusal.NoMemory
