-- The prime paths of a net are fit for its masks.
use Rattle.std.proofs.Common.{
  ◌≡◌,
  refl,
  sym,
  ap,
  subst,
  ◌∙◌,
  ℕ,
  zero,
  suc,
  ◌<◌,
  ◌≤◌,
  ◌≢◌,
  ◌&&◌,
  ◌==◌,
  cond,
  List,
  [],
  ◌∷◌,
  length,
  Bool,
  true,
  false,
  not,
  ◌⊎◌,
  inl,
  inr,
  arith,
  eq-eqb,
  eqb-true,
  ltb,
  leb,
}
use Rattle.std.proofs.lemmas.Bool.{
  and_parts,
  and_from,
  or_parts,
  cases_eq,
  ne_eqb,
  both_ways,
  ltb-true,
  leb-true,
  le-leb,
  lt-ltb,
}
use Rattle.cov_base.specs.Falls.{is_real}
use Rattle.cov_base.specs.Net.{NetValue, IsNet, Leads, joins, is_outside, is_wrong_entry, is_misplaced}
use Rattle.cov_base.specs.declared.net.FlowArc.{FlowArc}
use Rattle.cov_base.proofs.NetLaws.{HasShape-from_IsNet}
use Rattle.prime_paths.specs.Paths.{Among, is_simple, is_path, is_inner, is_way, leads, IsPrime, ArePrimes}
use Rattle.prime_paths.proofs.Budget.{single_prime}
use Rattle.prime_paths.proofs.WaysLaws.{all_among, any_among, among_any, ends_inside, way_onto}
use Rattle.path_masks.specs.Masks.{AreFit}

-- an arc that enters a block behind block 2 is real and leaves a block from 2 up
pub real_arc : (arc : FlowArc) → is_misplaced arc ≡ false → 2 ≤ arc.to → is_real arc.kind ≡ true
real_arc arc e l = go (is_real arc.kind) (arc.to == 1) (ne_eqb arc.to 1 (λ s. omega (arith, s, l))) e
  where
    go : (r o : Bool) → o ≡ false → (not r && not o) ≡ false → r ≡ true
    go true o a b = refl
    go false true a b = absurd (let never : true ≡ false = a in cc)
    go false false a b = absurd (let never : true ≡ false = b in cc)

not_entry : (arc : FlowArc) → is_wrong_entry arc ≡ false → arc.to ≢ 2 → arc.from ≢ 0
not_entry arc e o z = o (eqb-true arc.to 2 (go (arc.from == 0) (arc.to == 2) (eq-eqb arc.from 0 z) e))
  where
    go : (a b : Bool) → a ≡ true → cond a (not b) b ≡ false → b ≡ true
    go true true x y = refl
    go true false x y = absurd (let never : true ≡ false = y in cc)
    go false b x y = absurd (let never : false ≡ true = x in cc)

pub not_exit : (n : ℕ) (arc : FlowArc) → is_outside n arc ≡ false → arc.from ≢ 1
not_exit n arc e z = both_ways (arc.from == 1) (or_parts _ _ e).1 (eq-eqb arc.from 1 z)

-- a block behind block 2 is led to from a block from 2 up
entered : (net : NetValue) (b : ℕ) → IsNet net → 2 ≤ b → b < net.blocks → b ≢ 2 → (a : ℕ) × (leads net a b ≡ true)
    × (is_inner net a ≡ true)
entered net b is low high other = go (is.reached b low high)
  where
    led : (a : ℕ) → (arc : FlowArc) × Among arc net.arcs × (joins a b arc ≡ true) → (a : ℕ) × (leads net a b ≡ true)
        × (is_inner net a ≡ true)
    led a (arc, m, j) =
        let shape = HasShape-from_IsNet net is in
        let ends = and_parts (arc.from == a) (arc.to == b) j in
        let from : arc.from ≡ a = eqb-true arc.from a ends.0 in
        let to : arc.to ≡ b = eqb-true arc.to b ends.1 in
        let inside = all_among (λ arc. (arc.from < net.blocks) × (arc.to < net.blocks)) net.arcs
        (ends_inside net is) arc m in
        let within = inside.0 in
        let real = real_arc arc (all_among (λ arc. is_misplaced arc ≡ false) net.arcs shape.exits arc m)
        (subst (λ n. 2 ≤ n) (sym to) low) in
        let zero = not_entry arc (all_among (λ arc. is_wrong_entry arc ≡ false) net.arcs shape.entries arc m)
        (λ e. other (sym to ∙ e)) in
        let one = not_exit net.blocks arc (all_among (λ arc. is_outside net.blocks arc
        ≡ false) net.arcs shape.inside arc m) in (
          a,
          among_any (is_way a b) arc net.arcs m (way_onto a b arc real from to),
          subst (λ n. is_inner net n ≡ true) from
              (and_from (leb 2 arc.from) (ltb arc.from net.blocks) (le-leb 2 arc.from (two arc.from zero one))
              (lt-ltb arc.from net.blocks within)),
        )
      where
        two : (n : ℕ) → n ≢ 0 → n ≢ 1 → 2 ≤ n
        two zero z o = absurd (z refl)
        two (suc zero) z o = absurd (o refl)
        two (suc (suc n)) z o = omega arith

    go : (n : ℕ) × Leads net.arcs b n → (a : ℕ) × (leads net a b ≡ true) × (is_inner net a ≡ true)
    go (zero, e) = absurd (other e)
    go (suc n, h) = led h.0 (any_among (joins h.0 b) net.arcs h.2)

size : (net : NetValue) (p : List ℕ) → IsNet net → IsPrime net p → (2 ≤ length p) ⊎ (p ≡ 2 ∷ [])
size net [] is h = absurd (let never : false ≡ true = h.simple in cc)
size net (b ∷ (c ∷ p)) is h = inl (omega arith)
size net (b ∷ []) is h = go (cases_eq b 2)
  where
    inner : is_inner net b ≡ true
    inner = (and_parts (is_inner net b) true (and_parts (is_inner net b && true) (is_simple (b ∷ [])) h.simple).0).0

    go : (b ≡ 2) ⊎ (b ≡ 2 → ⊥) → (2 ≤ length (b ∷ [])) ⊎ (b ∷ [] ≡ 2 ∷ [])
    go (inl e) = inr (ap (λ (n : ℕ). n ∷ []) e)
    go (inr o) =
        let parts = and_parts (leb 2 b) (ltb b net.blocks) inner in
        let a = entered net b is (leb-true 2 b parts.0) (ltb-true b net.blocks parts.1) o in
        absurd (single_prime net a.0 b h a.1 a.2)

pub fit_primes : (net : NetValue) (ps : List (List ℕ)) → IsNet net → ArePrimes net ps → AreFit 2 ps
fit_primes net ps is are = record {
  simple = λ p m. (and_parts (is_path net p) (is_simple p) (are.sound p m).simple).1;
  size = λ p m. size net p is (are.sound p m);
}
