-- Simple paths and prime paths of nets, after Ammann and Offutt, Introduction to Software Testing, graph coverage.
use Rattle.std.specs.Prelude.{◌≡◌, ℕ, ◌<◌, Bool, true, false, not, ◌&&◌, ◌==◌, nat_le, nat_lt, ◌⊎◌, List, [], ◌∷◌, ◌++◌}
use Rattle.std.specs.List.{list_any}
use Rattle.cov_base.specs.Falls.{is_real}
use Rattle.cov_base.specs.Net.{NetValue, joins}
use Rattle.cov_base.specs.declared.net.FlowArc.{FlowArc}

-- the number is one of the list
abbrev pub among : ℕ → List ℕ → Bool
among x ys = list_any (λ y. x == y) ys

-- no number occurs twice
abbrev pub distinct : List ℕ → Bool
distinct [] = true
distinct (x ∷ xs) = not (among x xs) && distinct xs

-- a list without its last member
abbrev pub front_of : List ℕ → List ℕ
front_of [] = []
front_of (x ∷ []) = []
front_of (x ∷ (y ∷ ys)) = x ∷ front_of (y ∷ ys)

-- a list without its first member
abbrev pub tail_of : List ℕ → List ℕ
tail_of [] = []
tail_of (x ∷ xs) = xs

-- no block occurs twice, except that the first and the last may be equal (Ammann and Offutt): neither among all but
-- the last, nor
-- among all but the first
abbrev pub is_simple : List ℕ → Bool
is_simple p = distinct (front_of p) && distinct (tail_of p)

-- the block is from 2 up, neither the entry nor the exit
abbrev pub is_inner : NetValue → ℕ → Bool
is_inner net b = nat_le 2 b && nat_lt b net.blocks

-- the arc is real and leads from the one block to the other
abbrev pub is_way : ℕ → ℕ → FlowArc → Bool
is_way a b arc = joins a b arc && is_real arc.kind

-- some real arc leads from the one block to the other
abbrev pub leads : NetValue → ℕ → ℕ → Bool
leads net a b = list_any (is_way a b) net.arcs

-- a path that has gone to a block goes on over blocks from 2 up and real arcs
abbrev pub goes_on : NetValue → ℕ → List ℕ → Bool
goes_on net a [] = true
goes_on net a (b ∷ p) = leads net a b && (is_inner net b && goes_on net b p)

-- a list of blocks from 2 up that isn't empty, in which real arcs lead from each block to the next
abbrev pub is_path : NetValue → List ℕ → Bool
is_path net [] = false
is_path net (a ∷ p) = is_inner net a && goes_on net a p

-- a path that is simple
abbrev pub is_simple_path : NetValue → List ℕ → Bool
is_simple_path net p = is_path net p && is_simple p

-- the one list stands in the other, after a front and before a rest
abbrev pub Part : List ℕ → List ℕ → Type 0
Part p q = (front rest : List ℕ) × (q ≡ front ++ (p ++ rest))

-- a walk contains, or tours, a path of which it is the front, the path, and a rest (Ammann and Offutt)
abbrev pub Contains : List ℕ → List ℕ → Type 0
Contains w p = Part p w

-- a simple path that is no proper part of a simple path (Ammann and Offutt)
pub record IsPrime (net : NetValue) (p : List ℕ) : Type 0 where
  pub simple : is_simple_path net p ≡ true
  pub maximal : (q : List ℕ) → is_simple_path net q ≡ true → Part p q → q ≡ p

-- the one list comes before the other, as words in a dictionary do
abbrev pub Before : List ℕ → List ℕ → Type 0
Before p [] = ⊥
Before [] (y ∷ q) = Unit {0}
Before (x ∷ p) (y ∷ q) = (x < y) ⊎ ((x ≡ y) × Before p q)

-- a member of a list
abbrev pub Among : {A : Type 0} → A → List A → Type 0
Among x [] = ⊥
Among x (y ∷ ys) = (x ≡ y) ⊎ Among x ys

-- each list comes before all that stand behind it
abbrev pub Ascend : List (List ℕ) → Type 0
Ascend [] = Unit {0}
Ascend (p ∷ ps) = ((q : List ℕ) → Among q ps → Before p q) × Ascend ps

-- exactly the prime paths of the net, each once, in the order of a dictionary
pub record ArePrimes (net : NetValue) (ps : List (List ℕ)) : Type 0 where
  pub sound : (p : List ℕ) → Among p ps → IsPrime net p
  pub complete : (p : List ℕ) → IsPrime net p → Among p ps
  pub order : Ascend ps

-- no member stands twice in the list
abbrev pub Apart : {A : Type 0} → List A → Type 0
Apart [] = Unit {0}
Apart (x ∷ xs) = (Among x xs → ⊥) × Apart xs
