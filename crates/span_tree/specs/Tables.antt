-- Tables in which a tree's answers are looked up.
use Rattle.std.specs.Prelude.{◌≡◌, ℕ, ◌<◌, Bool, true, false, List, get_or, slice_set, Option, Some, None}
use Rattle.span_tree.specs.declared.arrival.Arrival.{Arrival}
use Rattle.span_tree.specs.Tree.{order_of, link_of, is_linked}

-- each block has its link
abbrev pub AreLinks : List Arrival → List (Option ℕ) → Type 0
AreLinks came links = (b : ℕ) → get_or links b None ≡ link_of came b

-- exactly the arcs on the tree are marked
abbrev pub AreOn : List Arrival → List Bool → Type 0
AreOn came on = (i : ℕ) → get_or on i false ≡ is_linked came i

-- the order of arrival, the link of each block and the mark of each arc
pub record AreTables (came : List Arrival) (order : List ℕ) (links : List (Option ℕ)) (on : List Bool) : Type 0 where
  pub order_is : order ≡ order_of came
  pub links_are : AreLinks came links
  pub on_are : AreOn came on

-- the link, if there is one, is one of so many arcs
abbrev pub LinkWithin : ℕ → Option ℕ → Type 0
LinkWithin n None = Unit {0}
LinkWithin n (Some i) = i < n

-- the marks with that of a link, if there is one
abbrev pub with_on : Option ℕ → List Bool → List Bool
with_on None on = on
with_on (Some i) on = slice_set on i true
