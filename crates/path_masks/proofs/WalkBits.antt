-- The tests of paths under way and of paths contained, and what a move does to them.
use Rattle.std.proofs.Common.{
  ◌≡◌,
  refl,
  sym,
  ap,
  ap₂,
  subst,
  ◌∙◌,
  ℕ,
  ◌≤◌,
  ◌||◌,
  ◌&&◌,
  ◌==◌,
  List,
  [],
  ◌∷◌,
  ◌++◌,
  length,
  Bool,
  true,
  false,
  ◌⊎◌,
  inl,
  inr,
  eq-eqb,
  eqb-true,
  append_assoc,
  append-nil,
  Decides,
}
use Rattle.std.proofs.lemmas.Bool.{both_ways, or_cases, or_left, or_right, and_parts, and_from, false_from_ne_true}
use Rattle.prime_paths.specs.Paths.{among, is_simple, Contains}
use Rattle.prime_paths.proofs.SimplePaths.{last_split, Some_in}
use Rattle.path_masks.specs.UnderWay.{EndsWith, IsUnderWay, begins_at, has_move, ends_by_move, is_just}
use Rattle.path_masks.specs.Masks.{is_front, contains, is_under_way}
use Rattle.path_masks.proofs.BitLaws.{snoc_ends, among_mid, under_at, starts_here, step_keeps, step_finishes}

-- ---- the tests decide

front_split : (f p : List ℕ) → is_front f p ≡ true → (r : List ℕ) × (p ≡ f ++ r)
front_split [] p e = (p, refl)
front_split (x ∷ f) [] e = absurd (let never : false ≡ true = e in cc)
front_split (x ∷ f) (y ∷ p) e =
    let h = and_parts (x == y) (is_front f p) e in
    let r = front_split f p h.1 in
    (r.0, ap₂ (λ (i : ℕ) (l : List ℕ). i ∷ l) (sym (eqb-true x y h.0)) r.1)

front_here : (f r : List ℕ) → is_front f (f ++ r) ≡ true
front_here [] r = refl
front_here (x ∷ f) r = and_from _ _ (eq-eqb x x refl) (front_here f r)

-- the test tells whether the walk contains the path
pub contains_decides : (w p : List ℕ) → Decides (contains w p) (Contains w p)
contains_decides w p = (told w p, (λ h. tells p h.0 h.1 w h.2))
  where
    told : (w p : List ℕ) → contains w p ≡ true → Contains w p
    told [] p e = (let r = front_split p [] e in ([], r.0, r.1))
    told (x ∷ w) p e = elim (or_cases (is_front p (x ∷ w)) (contains w p) e) [
      | inl h ↦ (let r = front_split p (x ∷ w) h in ([], r.0, r.1))
      | inr h ↦ (let k = told w p h in (x ∷ k.0, k.1, ap (λ (l : List ℕ). x ∷ l) k.2))
    ]

    here : (p r w : List ℕ) → w ≡ p ++ r → contains w p ≡ true
    here p r [] e = subst (λ l. is_front p l ≡ true) (sym e) (front_here p r)
    here p r (x ∷ w) e = or_left _ _ (subst (λ l. is_front p l ≡ true) (sym e) (front_here p r))

    tells : (p f r w : List ℕ) → w ≡ f ++ (p ++ r) → contains w p ≡ true
    tells p [] r w e = here p r w e
    tells p (x ∷ f) r [] e = absurd (let never : [] ≡ x ∷ (f ++ (p ++ r)) = e in cc)
    tells p (x ∷ f) r (y ∷ w) e = (let h : y ∷ w ≡ x ∷ (f ++ (p ++ r)) = e in or_right _ _ (tells p f r w (cc)))

-- the test tells whether the path is under way
pub under_decides : (w p : List ℕ) → Decides (is_under_way w p) (IsUnderWay w p)
under_decides w p = (told w p, (λ u. tells u.0 u.1 u.2 u.3 u.4.0 w u.4.1))
  where
    told : (w p : List ℕ) → is_under_way w p ≡ true → IsUnderWay w p
    told [] p e = absurd (let never : false ≡ true = e in cc)
    told (x ∷ w) p e = elim (or_cases (is_front (x ∷ w) p) (is_under_way w p) e) [
      | inl h ↦ (let r = front_split (x ∷ w) p h in (x, w, r.0, r.1, ([], refl)))
      | inr h ↦ (let k = told w p h in (k.0, k.1, k.2, k.3, (x ∷ k.4.0, ap (λ (l : List ℕ). x ∷ l) k.4.1)))
    ]

    tells : (x : ℕ) (f r : List ℕ) → p ≡ x ∷ (f ++ r) → (a w : List ℕ) → w ≡ a ++ (x ∷ f) → is_under_way w p ≡ true
    tells x f r h [] [] e = absurd (let never : [] ≡ x ∷ f = e in cc)
    tells x f r h [] (y ∷ w) e = or_left _ _ (subst (λ l. is_front l p ≡ true) (sym e)
        (subst (λ l. is_front (x ∷ f) l ≡ true) (sym h) (front_here (x ∷ f) r)))
    tells x f r h (z ∷ a) [] e = absurd (let never : [] ≡ z ∷ (a ++ (x ∷ f)) = e in cc)
    tells x f r h (z ∷ a) (y ∷ w) e = (let k : y ∷ w ≡ z ∷ (a ++ (x ∷ f)) = e in or_right _ _ (tells x f r h a w (cc)))

-- tests of the same are equal
pub decided : {P : Type 0} (a b : Bool) → Decides a P → Decides b P → a ≡ b
decided true true x y = refl
decided true false x y = sym (y.1 (x.0 refl))
decided false true x y = x.1 (y.0 refl)
decided false false x y = refl

-- ---- a walk begins

-- at a walk's first block those paths are under way that begin with it
pub under_first : (s : ℕ) (p : List ℕ) → is_under_way (s ∷ []) p ≡ begins_at s p
under_first s p = decided _ _ (under_decides (s ∷ []) p) (
  (λ e. starts_here [] p s e),
  (λ u. (let at = under_at [] p s u in begins at.0 at.1 at.2 at.3 at.4)),
)
  where
    begins : (a f r : List ℕ) → [] ≡ a ++ f → p ≡ f ++ (s ∷ r) → begins_at s p ≡ true
    begins [] [] r e h = subst (λ l. begins_at s l ≡ true) (sym h) (eq-eqb s s refl)
    begins [] (x ∷ f) r e h = absurd (let never : [] ≡ x ∷ f = e in cc)
    begins (x ∷ a) f r e h = absurd (let never : [] ≡ x ∷ (a ++ f) = e in cc)

-- and the walk contains the path that is this block alone
pub contains_first : (s : ℕ) (p : List ℕ) → Some_in p → contains (s ∷ []) p ≡ is_just s p
contains_first s [] some = absurd some
contains_first s (x ∷ []) some = go (x == s)
  where
    go : (c : Bool) → ((c && true) || false) ≡ c
    go true = refl
    go false = refl
contains_first s (x ∷ (y ∷ p)) some = go (x == s)
  where
    go : (c : Bool) → ((c && false) || false) ≡ false
    go true = refl
    go false = refl

-- ---- a walk goes on

-- whatever the walk contained it contains, and what it ends with
pub contains_more : (w p : List ℕ) (b : ℕ) → Contains (w ++ b ∷ []) p → Contains w p ⊎ EndsWith (w ++ b ∷ []) p
contains_more w p b (f, r, e) = go r e
  where
    go : (r : List ℕ) → w ++ b ∷ [] ≡ f ++ (p ++ r) → Contains w p ⊎ EndsWith (w ++ b ∷ []) p
    go [] e = inr (f, e ∙ ap (λ l. f ++ l) (append-nil p))
    go (x ∷ r) e =
        let l = last_split x r in
        let s = snoc_ends w (f ++ (p ++ l.0)) b l.1 (e ∙ ap (λ k. f ++ (p ++ k)) l.2
        ∙ ap (λ k. f ++ k) (sym (append_assoc p l.0 (l.1 ∷ []))) ∙ sym (append_assoc f (p ++ l.0) (l.1 ∷ []))) in
        inl (f, l.0, s.0)

pub contains_still : (w p : List ℕ) (b : ℕ) → Contains w p → Contains (w ++ b ∷ []) p
contains_still w p b (f, r, e) = (
  f,
  r ++ b ∷ [],
  ap (λ (l : List ℕ). l ++ b ∷ []) e ∙ append_assoc f (p ++ r) (b ∷ [])
      ∙ ap (λ k. f ++ k) (append_assoc p r (b ∷ [])),
)

pub contains_end : (w p : List ℕ) → EndsWith w p → Contains w p
contains_end w p (f, e) = (f, [], e ∙ ap (λ l. f ++ l) (sym (append-nil p)))

-- the paths under way after a move: those under way before it that make it, and those that begin behind it
pub under_more : (w0 p : List ℕ) (v b : ℕ) → is_simple p ≡ true
    → is_under_way ((w0 ++ v ∷ []) ++ b ∷ []) p ≡ ((is_under_way (w0 ++ v ∷ []) p && has_move v b p) || begins_at b p)
under_more w0 p v b d = decided _ _ (under_decides ((w0 ++ v ∷ []) ++ b ∷ []) p)
    (step_keeps w0 p v b (is_under_way (w0 ++ v ∷ []) p) d (under_decides (w0 ++ v ∷ []) p))

-- the paths contained after a move: those contained before it, and those under way before it whose last move it is
pub seen_more : (w0 p : List ℕ) (v b : ℕ) → is_simple p ≡ true → (2 ≤ length p) ⊎ Contains (w0 ++ v ∷ []) p
    → contains ((w0 ++ v ∷ []) ++ b ∷ []) p
    ≡ (contains (w0 ++ v ∷ []) p || ((is_under_way (w0 ++ v ∷ []) p && has_move v b p) && ends_by_move v b p))
seen_more w0 p v b d (inl l) =
    let h = contains_decides (w0 ++ v ∷ []) p in
    let f = step_finishes w0 p v b (is_under_way (w0 ++ v ∷ []) p) d l (under_decides (w0 ++ v ∷ []) p) in
    decided _ _ (contains_decides ((w0 ++ v ∷ []) ++ b ∷ []) p) (
      (λ e. elim (or_cases (contains (w0 ++ v ∷ []) p) ((is_under_way
          (w0 ++ v ∷ []) p && has_move v b p) && ends_by_move v b p) e) [
            | inl k ↦ contains_still (w0 ++ v ∷ []) p b (h.0 k)
            | inr k ↦ contains_end ((w0 ++ v ∷ []) ++ b ∷ []) p (f.0 k)
          ]),
      (λ c. elim (contains_more (w0 ++ v ∷ []) p b c) [
        | inl k ↦ or_left _ _ (h.1 k)
        | inr k ↦ or_right _ _ (f.1 k)
      ]),
    )
seen_more w0 p v b d (inr c) =
    (contains_decides ((w0 ++ v ∷ []) ++ b ∷ []) p).1 (contains_still (w0 ++ v ∷ []) p b c)
    ∙ sym (or_left _ _ ((contains_decides (w0 ++ v ∷ []) p).1 c))

-- a path that doesn't hold the walk's last block isn't under way
pub not_under : (w0 p : List ℕ) (v : ℕ) → among v p ≡ false → is_under_way (w0 ++ v ∷ []) p ≡ false
not_under w0 p v e = false_from_ne_true _ (λ h. (let at = under_at w0 p v ((under_decides (w0 ++ v ∷ []) p).0 h) in
    both_ways (among v p) e (subst (λ l. among v l ≡ true) (sym at.4) (among_mid v at.1 at.2))))
