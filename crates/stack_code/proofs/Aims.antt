-- Endings lead to blocks from 2 on.
use Rattle.std.proofs.Common.{◌≡◌, refl, sym, subst, ℕ, ◌≤◌, Bool, true, false, List}
use Rattle.std.proofs.Common.{[], ◌∷◌, Some, arith, eqb-true}
use Rattle.std.specs.Prelude.{◌==◌, ◌||◌, slice_get}
use Rattle.c_tree.specs.Sound.{Each}
use Rattle.flow_graph.proofs.LineLaws.{each_with}
use Rattle.flow_graph.specs.Graph.{Ending, Block, Graph}
use Rattle.flow_graph.specs.Ascending.{inserted}
use Rattle.flow_graph.specs.Nets.{targets, among}
use Rattle.fake_arcs.specs.Tidy.{IsWellMade}
use Rattle.fake_arcs.proofs.Lockstep.{among_line, itself}

-- each block that an ending leads to has a property
abbrev pub Aims : (ℕ → Type 0) → Ending → Type 0
Aims P (Ending.Jump t) = P t
Aims P (Ending.Back t) = P t
Aims P (Ending.Branch t f) = P t × P f
Aims P (Ending.Switch [] default) = P default
Aims P (Ending.Switch (c ∷ cases) default) = P c.1 × Aims P (Ending.Switch cases default)
Aims P (Ending.Call f line next) = P next
Aims P Ending.Return = Unit {0}
Aims P Ending.Exit = Unit {0}

first_or : (a b : Bool) → a ≡ true → (a || b) ≡ true
first_or a b e = rw e refl

second_or : (a b : Bool) → b ≡ true → (a || b) ≡ true
second_or true b e = refl
second_or false b e = e

-- a number is one of a list that it was put into, and the others stay
pub among_new : (n : ℕ) (ls : List ℕ) → among n (inserted n ls) ≡ true
among_new n ls = among_line n n ls (first_or (n == n) (among n ls)
    (let h : among n (n ∷ []) ≡ true = itself n [] in only n h))
  where
    only : (n : ℕ) → among n (n ∷ []) ≡ true → (n == n) ≡ true
    only n h = by (n == n) h
      where
        by : (b : Bool) → (b || false) ≡ true → b ≡ true
        by true h = refl
        by false h = h

pub among_still : (n b : ℕ) (ls : List ℕ) → among b ls ≡ true → among b (inserted n ls) ≡ true
among_still n b ls h = among_line n b ls (second_or (b == n) (among b ls) h)

pub aims_of : (P : ℕ → Type 0) (end : Ending) → ((t : ℕ) → among t (targets end) ≡ true → P t) → Aims P end
aims_of P (Ending.Jump t) h = h t (itself t [])
aims_of P (Ending.Back t) h = h t (itself t [])
aims_of P (Ending.Branch t f) h = (h t (among_new t (f ∷ [])), h f (among_still t f (f ∷ []) (itself f [])))
aims_of P (Ending.Switch [] default) h = h default (itself default [])
aims_of P (Ending.Switch (c ∷ cases) default) h = (
  h c.1 (among_new c.1 (targets (Ending.Switch cases default))),
  aims_of P (Ending.Switch cases default) (λ t a. h t (among_still c.1 t (targets (Ending.Switch cases default)) a)),
)
aims_of P (Ending.Call f line next) h = h next (itself next [])
aims_of P Ending.Return h = tt
aims_of P Ending.Exit h = tt

-- what each of some numbers has, one of them has
pub each_among : (P : ℕ → Type 0) (ts : List ℕ) (t : ℕ) → Each P ts → among t ts ≡ true → P t
each_among P [] t all there = absurd (cc)
each_among P (x ∷ ts) t all there = by (t == x) refl there (λ h. each_among P ts t all.1 h)
  where
    by : (z : Bool) → (t == x) ≡ z → (z || among t ts) ≡ true → (among t ts ≡ true → P t) → P t
    by true is h later = subst P (sym (eqb-true t x is)) all.0
    by false is h later = later h

-- what each block that an ending leads to has, each of its targets has
aims_targets : (P : ℕ → Type 0) (end : Ending) → Aims P end → Each P (targets end)
aims_targets P (Ending.Jump t) h = (h, tt)
aims_targets P (Ending.Back t) h = (h, tt)
aims_targets P (Ending.Branch t f) h = each_with P t (f ∷ []) h.0 (h.1, tt)
aims_targets P (Ending.Switch [] default) h = (h, tt)
aims_targets P (Ending.Switch (c ∷ cases) default) h =
    each_with P c.1 (targets (Ending.Switch cases default)) h.0 (aims_targets P (Ending.Switch cases default) h.1)
aims_targets P (Ending.Call f line next) h = (h, tt)
aims_targets P Ending.Return h = tt
aims_targets P Ending.Exit h = tt

pub aims_in : (P : ℕ → Type 0) (end : Ending) (t : ℕ) → Aims P end → among t (targets end) ≡ true → P t
aims_in P end t h there = each_among P (targets end) t (aims_targets P end h) there

-- the endings of a well made graph lead to blocks from 2 on
pub well_aimed : (g : Graph) → IsWellMade g → (k : ℕ) (b : Block) → slice_get g.blocks k ≡ Some b
    → Aims (λ t. 2 ≤ t) b.end
well_aimed g made k b at =
    aims_of (λ t. 2 ≤ t) b.end (λ t a. let h = made.aims k t b at a in omega (arith, h.0))
