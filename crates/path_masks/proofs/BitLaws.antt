-- One bit along a walk: begin, keep, finish and start.
use Rattle.std.proofs.Common.{
  ◌≡◌,
  refl,
  sym,
  ap,
  ap₂,
  subst,
  ◌∙◌,
  ℕ,
  ◌≤◌,
  ◌||◌,
  ◌&&◌,
  ◌==◌,
  List,
  [],
  ◌∷◌,
  ◌++◌,
  length,
  Bool,
  true,
  false,
  not,
  ◌⊎◌,
  inl,
  inr,
  arith,
  eq-eqb,
  eqb-true,
  append_assoc,
  append-nil,
  Decides,
}
use Rattle.std.proofs.lemmas.Bool.{or_cases, or_left, or_right, and_parts, and_from}
use Rattle.prime_paths.specs.Paths.{among, distinct, front_of, is_simple}
use Rattle.prime_paths.proofs.SimplePaths.{last_split}
use Rattle.path_masks.specs.UnderWay.{EndsWith, IsUnderWay, begins_at, has_move, ends_by_move}

-- ---- ends of lists

pub snoc_ends : (xs ys : List ℕ) (a b : ℕ) → xs ++ a ∷ [] ≡ ys ++ b ∷ [] → (xs ≡ ys) × (a ≡ b)
snoc_ends [] [] a b e = (let h : a ∷ [] ≡ b ∷ [] = e in (refl, cc))
snoc_ends [] (y ∷ []) a b e = (let h : a ∷ [] ≡ y ∷ b ∷ [] = e in absurd (cc))
snoc_ends [] (y ∷ (z ∷ ys)) a b e = (let h : a ∷ [] ≡ y ∷ (z ∷ (ys ++ b ∷ [])) = e in absurd (cc))
snoc_ends (x ∷ []) [] a b e = (let h : x ∷ a ∷ [] ≡ b ∷ [] = e in absurd (cc))
snoc_ends (x ∷ (z ∷ xs)) [] a b e = (let h : x ∷ (z ∷ (xs ++ a ∷ [])) ≡ b ∷ [] = e in absurd (cc))
snoc_ends (x ∷ xs) (y ∷ ys) a b e =
    let h : x ∷ (xs ++ a ∷ []) ≡ y ∷ (ys ++ b ∷ []) = e in
    let r = snoc_ends xs ys a b (cc) in
    let s : x ≡ y = cc in
    (ap₂ (λ (i : ℕ) (l : List ℕ). i ∷ l) s r.0, r.1)

-- ---- the tests, said by what they find

move_split : (v b : ℕ) (p : List ℕ) → has_move v b p ≡ true → (g s : List ℕ) × (p ≡ g ++ (v ∷ (b ∷ s)))
move_split v b [] e = absurd (let never : false ≡ true = e in cc)
move_split v b (x ∷ []) e = absurd (let never : false ≡ true = e in cc)
move_split v b (x ∷ (y ∷ p)) e = elim (or_cases ((x == v) && (y == b)) (has_move v b (y ∷ p)) e) [
  | inl h ↦ (let k = and_parts (x == v) (y == b) h in (
    [],
    p,
    ap₂ (λ (i j : ℕ). i ∷ (j ∷ p)) (eqb-true x v k.0)
        (eqb-true y b k.1),
  ))
  | inr h ↦ (let k = move_split v b (y ∷ p) h in (x ∷ k.0, k.1, ap (λ (l : List ℕ). x ∷ l) k.2))
]

move_here : (v b : ℕ) (g s : List ℕ) → has_move v b (g ++ (v ∷ (b ∷ s))) ≡ true
move_here v b [] s = or_left _ _ (and_from _ _ (eq-eqb v v refl) (eq-eqb b b refl))
move_here v b (x ∷ []) s = or_right _ _ (move_here v b [] s)
move_here v b (x ∷ (y ∷ g)) s = or_right _ _ (move_here v b (y ∷ g) s)

last_move_split : (v b : ℕ) (p : List ℕ) → ends_by_move v b p ≡ true → (g : List ℕ) × (p ≡ g ++ (v ∷ (b ∷ [])))
last_move_split v b [] e = absurd (let never : false ≡ true = e in cc)
last_move_split v b (x ∷ []) e = absurd (let never : false ≡ true = e in cc)
last_move_split v b (x ∷ (y ∷ [])) e =
    let k = and_parts (x == v) (y == b) e in ([], ap₂ (λ (i j : ℕ). i ∷ (j ∷ [])) (eqb-true x v k.0) (eqb-true y b k.1))
last_move_split v b (x ∷ (y ∷ (z ∷ p))) e = (let k = last_move_split v b (y ∷ (z ∷ p)) e in
    (x ∷ k.0, ap (λ (l : List ℕ). x ∷ l) k.1))

last_move_here : (v b : ℕ) (g : List ℕ) → ends_by_move v b (g ++ (v ∷ (b ∷ []))) ≡ true
last_move_here v b [] = and_from _ _ (eq-eqb v v refl) (eq-eqb b b refl)
last_move_here v b (x ∷ []) = last_move_here v b []
last_move_here v b (x ∷ (y ∷ [])) = last_move_here v b (y ∷ [])
last_move_here v b (x ∷ (y ∷ (z ∷ g))) = last_move_here v b (y ∷ (z ∷ g))

-- ---- where a block stands in a simple path

pub among_mid : (v : ℕ) (g t : List ℕ) → among v (g ++ (v ∷ t)) ≡ true
among_mid v [] t = or_left _ _ (eq-eqb v v refl)
among_mid v (x ∷ g) t = or_right _ _ (among_mid v g t)

not_true : (a : Bool) → not a ≡ true → a ≡ true → ⊥
not_true true e f = (let never : false ≡ true = e in cc)
not_true false e f = (let never : false ≡ true = f in cc)

-- in a list without repetition a block stands in one place
one_place : (q f g r t : List ℕ) (v : ℕ) → distinct q ≡ true → q ≡ f ++ (v ∷ r) → q ≡ g ++ (v ∷ t) → (f ≡ g) × (r ≡ t)
one_place q [] [] r t v d e h = (refl, (let k : v ∷ r ≡ v ∷ t = sym e ∙ h in cc))
one_place q [] (x ∷ g) r t v d e h =
    let k : v ∷ r ≡ x ∷ (g ++ (v ∷ t)) = sym e ∙ h in
    let same : r ≡ g ++ (v ∷ t) = cc in
    let n = and_parts (not (among v r)) (distinct r) (subst (λ l. distinct l ≡ true) e d) in
    absurd (not_true (among v r) n.0 (subst (λ l. among v l ≡ true) (sym same) (among_mid v g t)))
one_place q (x ∷ f) [] r t v d e h =
    let k : v ∷ t ≡ x ∷ (f ++ (v ∷ r)) = sym h ∙ e in
    let same : t ≡ f ++ (v ∷ r) = cc in
    let n = and_parts (not (among v t)) (distinct t) (subst (λ l. distinct l ≡ true) h d) in
    absurd (not_true (among v t) n.0 (subst (λ l. among v l ≡ true) (sym same) (among_mid v f r)))
one_place q (x ∷ f) (y ∷ g) r t v d e h =
    let k : x ∷ (f ++ (v ∷ r)) ≡ y ∷ (g ++ (v ∷ t)) = sym e ∙ h in
    let head : x ≡ y = cc in
    let n = and_parts (not (among x (f ++ (v ∷ r)))) (distinct (f ++ (v ∷ r))) (subst (λ l. distinct l ≡ true) e d) in
    let o = one_place (f ++ (v ∷ r)) f g r t v n.1 refl (cc) in
    (ap₂ (λ (i : ℕ) (l : List ℕ). i ∷ l) head o.0, o.1)

front_mid : (v b : ℕ) (g s : List ℕ) → among v (front_of (g ++ (v ∷ (b ∷ s)))) ≡ true
front_mid v b [] s = or_left _ _ (eq-eqb v v refl)
front_mid v b (x ∷ []) s = or_right _ _ (front_mid v b [] s)
front_mid v b (x ∷ (y ∷ g)) s = or_right _ _ (front_mid v b (y ∷ g) s)

front_more : (x : ℕ) (g : List ℕ) (v b : ℕ) (s : List ℕ) → front_of (x ∷ (g ++ (v ∷ (b ∷ s))))
    ≡ x ∷ front_of (g ++ (v ∷ (b ∷ s)))
front_more x [] v b s = refl
front_more x (y ∷ g) v b s = refl

-- a block that stands in a simple path, and stands before another block there, stands in one place or first
places : (p f r g s : List ℕ) (v b : ℕ) → is_simple p ≡ true → p ≡ f ++ (v ∷ r) → p ≡ g ++ (v ∷ (b ∷ s))
    → ((f ≡ g) × (r ≡ b ∷ s)) ⊎ (g ≡ [])
places p f r [] s v b d e h = inr refl
places p [] r (x ∷ g) s v b d e h =
    let k : v ∷ r ≡ x ∷ (g ++ (v ∷ (b ∷ s))) = sym e ∙ h in
    let head : x ≡ v = cc in
    let both = and_parts (distinct (front_of p)) _ d in
    let whole : distinct (x ∷ front_of (g ++ (v ∷ (b ∷ s))))
    ≡ true = subst (λ l. distinct l ≡ true) (ap (λ l. front_of l) h ∙ front_more x g v b s) both.0 in
    let n = and_parts (not (among x (front_of (g ++ (v ∷ (b ∷ s))))))
    (distinct (front_of (g ++ (v ∷ (b ∷ s))))) whole in
    absurd (not_true _ n.0 (subst (λ i. among i (front_of (g ++ (v ∷ (b ∷ s)))) ≡ true) (sym head) (front_mid v b g s)))
places p (y ∷ f) r (x ∷ g) s v b d e h =
    let k : y ∷ (f ++ (v ∷ r)) ≡ x ∷ (g ++ (v ∷ (b ∷ s))) = sym e ∙ h in
    let head : y ≡ x = cc in
    let same : f ++ (v ∷ r) ≡ g ++ (v ∷ (b ∷ s)) = cc in
    let both = and_parts (distinct (front_of (y ∷ (f ++ (v ∷ r))))) (distinct (f ++ (v ∷ r)))
    (subst (λ l. is_simple l ≡ true) e d) in
    let o = one_place (f ++ (v ∷ r)) f g r (b ∷ s) v both.1 refl same in
    inl (ap₂ (λ (i : ℕ) (l : List ℕ). i ∷ l) head o.0, o.1)

-- ---- one step: the walk goes on from v to b

-- what stands under way at v: a front that ends in v
pub under_at : (w0 p : List ℕ) (v : ℕ) → IsUnderWay (w0 ++ v ∷ []) p → (a f r : List ℕ) × (w0 ≡ a ++ f)
    × (p ≡ f ++ (v ∷ r))
under_at w0 p v u =
    let first = u.0 in
    let front = u.1 in
    let rest = u.2 in
    let l = last_split first front in
    let ends = u.4 in
    let e : w0 ++ v ∷ [] ≡ (ends.0 ++ l.0) ++ l.1 ∷ [] = ends.1 ∙ ap (λ x. ends.0 ++ x) l.2
    ∙ sym (append_assoc ends.0 l.0 (l.1 ∷ [])) in
    let s = snoc_ends w0 (ends.0 ++ l.0) v l.1 e in (
      ends.0,
      l.0,
      rest,
      s.0,
      u.3 ∙ ap (λ (x : List ℕ). x ++ rest) l.2 ∙ append_assoc l.0 (l.1 ∷ []) rest
          ∙ ap (λ (i : ℕ). l.0 ++ (i ∷ rest)) (sym s.1),
    )

-- a front that ends in v, under way
at_under : (a f r : List ℕ) (v : ℕ) → IsUnderWay ((a ++ f) ++ v ∷ []) (f ++ (v ∷ r))
at_under a [] r v = (v, [], r, refl, (a, ap (λ (l : List ℕ). l ++ v ∷ []) (append-nil a)))
at_under a (x ∷ f) r v = (
  x,
  f ++ v ∷ [],
  r,
  ap (λ (l : List ℕ). x ∷ l) (sym (append_assoc f (v ∷ []) r)),
  (a, append_assoc a (x ∷ f) (v ∷ [])),
)

under_same : (w w2 p p2 : List ℕ) → w ≡ w2 → p ≡ p2 → IsUnderWay w2 p2 → IsUnderWay w p
under_same w w2 p p2 e h u = subst (λ l. IsUnderWay l p) (sym e) (subst (λ l. IsUnderWay w2 l) (sym h) u)

-- under way at v, and the path moves from v to b: under way at b
moves_on : (w0 p : List ℕ) (v b : ℕ) → is_simple p ≡ true → IsUnderWay (w0 ++ v ∷ []) p → has_move v b p ≡ true
    → IsUnderWay ((w0 ++ v ∷ []) ++ b ∷ []) p
moves_on w0 p v b d u m =
    let at = under_at w0 p v u in
    let mv = move_split v b p m in
    elim (places p at.1 at.2 mv.0 mv.1 v b d at.4 mv.2) [
      | inl o ↦ under_same _ ((at.0 ++ (at.1 ++ v ∷ [])) ++ b ∷ []) _ ((at.1 ++ v ∷ []) ++ (b ∷ mv.1))
          (ap (λ (l : List ℕ). l ++ b ∷ []) (ap (λ (l : List ℕ). l ++ v ∷ []) at.3 ∙ append_assoc at.0 at.1 (v ∷ [])))
          (at.4 ∙ ap (λ (l : List ℕ). at.1 ++ (v ∷ l)) o.1 ∙ sym (append_assoc at.1 (v ∷ []) (b ∷ mv.1)))
          (at_under at.0 (at.1 ++ v ∷ []) mv.1 b)
      | inr o ↦ under_same _ ((w0 ++ v ∷ []) ++ b ∷ []) _ ((v ∷ []) ++ (b ∷ mv.1)) refl
          (mv.2 ∙ ap (λ (l : List ℕ). l ++ (v ∷ (b ∷ mv.1))) o) (at_under w0 (v ∷ []) mv.1 b)
    ]

-- a path that begins at b is under way at b
pub starts_here : (w p : List ℕ) (b : ℕ) → begins_at b p ≡ true → IsUnderWay (w ++ b ∷ []) p
starts_here w [] b e = absurd (let never : false ≡ true = e in cc)
starts_here w (x ∷ p) b e = (x, [], p, refl, (w, ap (λ (i : ℕ). w ++ i ∷ []) (sym (eqb-true x b e))))

-- under way at b: it begins there, or was under way at v and moves from v to b
came : (w0 p : List ℕ) (v b : ℕ) → IsUnderWay ((w0 ++ v ∷ []) ++ b ∷ []) p
    → (begins_at b p ≡ true) ⊎ (IsUnderWay (w0 ++ v ∷ []) p × (has_move v b p ≡ true))
came w0 p v b u = (let at = under_at (w0 ++ v ∷ []) p b u in go at.0 at.1 at.2 at.3 at.4)
  where
    go : (a f r : List ℕ) → w0 ++ v ∷ [] ≡ a ++ f → p ≡ f ++ (b ∷ r)
        → (begins_at b p ≡ true) ⊎ (IsUnderWay (w0 ++ v ∷ []) p × (has_move v b p ≡ true))
    go a [] r e h = inl (subst (λ l. begins_at b l ≡ true) (sym h) (eq-eqb b b refl))
    go a (x ∷ f) r e h =
        let l = last_split x f in
        let s = snoc_ends w0 (a ++ l.0) v l.1 (e ∙ ap (λ y. a ++ y) l.2 ∙ sym (append_assoc a l.0 (l.1 ∷ []))) in
        let q : p ≡ l.0 ++ (v ∷ (b ∷ r)) = h ∙ ap (λ (y : List ℕ). y ++ (b ∷ r)) l.2
        ∙ append_assoc l.0 (l.1 ∷ []) (b ∷ r) ∙ ap (λ (i : ℕ). l.0 ++ (i ∷ (b ∷ r))) (sym s.1) in
        inr (
          under_same _ ((a ++ l.0) ++ v ∷ []) _ (l.0 ++ (v ∷ (b ∷ r))) (ap (λ (y : List ℕ). y ++ v ∷ []) s.0) q
              (at_under a l.0 (b ∷ r) v),
          subst (λ y. has_move v b y ≡ true) (sym q) (move_here v b l.0 r),
        )

-- the walk ends with a path whose last move it makes
finishes : (w0 p : List ℕ) (v b : ℕ) → is_simple p ≡ true → IsUnderWay (w0 ++ v ∷ []) p → ends_by_move v b p ≡ true
    → EndsWith ((w0 ++ v ∷ []) ++ b ∷ []) p
finishes w0 p v b d u m =
    let at = under_at w0 p v u in
    let mv = last_move_split v b p m in
    elim (places p at.1 at.2 mv.0 [] v b d at.4 mv.1) [
      | inl o ↦ (
        at.0,
        ap (λ (l : List ℕ). (l ++ v ∷ []) ++ b ∷ []) at.3
            ∙ ap (λ (l : List ℕ). l ++ b ∷ []) (append_assoc at.0 at.1 (v ∷ []))
            ∙ append_assoc at.0 (at.1 ++ v ∷ []) (b ∷ []) ∙ ap (λ l. at.0 ++ l) (append_assoc at.1 (v ∷ []) (b ∷ []))
            ∙ ap (λ l. at.0 ++ l) (sym (at.4 ∙ ap (λ (l : List ℕ). at.1 ++ (v ∷ l)) o.1)),
      )
      | inr o ↦ (
        w0,
        append_assoc w0 (v ∷ []) (b ∷ [])
            ∙ ap (λ l. w0 ++ l) (sym (mv.1 ∙ ap (λ (l : List ℕ). l ++ (v ∷ (b ∷ []))) o)),
      )
    ]

-- a walk that ends with a path of two or more blocks was under way along it, and makes its last move
finished : (w0 p : List ℕ) (v b : ℕ) → 2 ≤ length p → EndsWith ((w0 ++ v ∷ []) ++ b ∷ []) p
    → IsUnderWay (w0 ++ v ∷ []) p × (has_move v b p ≡ true) × (ends_by_move v b p ≡ true)
finished w0 [] v b l e = absurd (omega (arith, l))
finished w0 (x ∷ []) v b l e = absurd (let h : 2 ≤ 1 = l in omega (arith, h))
finished w0 (x ∷ (y ∷ p)) v b l e =
    let s = last_split x (y ∷ p) in
    let one = snoc_ends (w0 ++ v ∷ []) (e.0 ++ s.0) b s.1 (e.1 ∙ ap (λ k. e.0 ++ k) s.2
    ∙ sym (append_assoc e.0 s.0 (s.1 ∷ []))) in
    go s.0 s.1 s.2 one.0 one.1
  where
    go : (f : List ℕ) (c : ℕ) → x ∷ (y ∷ p) ≡ f ++ c ∷ [] → w0 ++ v ∷ [] ≡ e.0 ++ f → b ≡ c
        → IsUnderWay (w0 ++ v ∷ []) (x ∷ (y ∷ p)) × (has_move v b (x ∷ (y ∷ p)) ≡ true)
        × (ends_by_move v b (x ∷ (y ∷ p)) ≡ true)
    go [] c h k same = absurd (let never : x ∷ (y ∷ p) ≡ c ∷ [] = h in cc)
    go (z ∷ f) c h k same =
        let l = last_split z f in
        let two = snoc_ends w0 (e.0 ++ l.0) v l.1 (k ∙ ap (λ i. e.0 ++ i) l.2
        ∙ sym (append_assoc e.0 l.0 (l.1 ∷ []))) in
        let q : x ∷ (y ∷ p) ≡ l.0 ++ (v ∷ (b ∷ [])) = h ∙ ap (λ (i : List ℕ). i ++ c ∷ []) l.2
        ∙ append_assoc l.0 (l.1 ∷ []) (c ∷ [])
        ∙ ap₂ (λ (i j : ℕ). l.0 ++ (i ∷ (j ∷ []))) (sym two.1) (sym same) in (
          under_same _ ((e.0 ++ l.0) ++ v ∷ []) _ (l.0 ++ (v ∷ (b ∷ []))) (ap (λ (i : List ℕ). i ++ v ∷ []) two.0) q
              (at_under e.0 l.0 (b ∷ []) v),
          subst (λ i. has_move v b i ≡ true) (sym q) (move_here v b l.0 []),
          subst (λ i. ends_by_move v b i ≡ true) (sym q) (last_move_here v b l.0),
        )

-- ---- the step of a bit

-- kept and started, a bit stands for the walk that went on
pub step_keeps : (w0 p : List ℕ) (v b : ℕ) (bit : Bool) → is_simple p ≡ true → Decides bit (IsUnderWay (w0 ++ v ∷ []) p)
    → Decides ((bit && has_move v b p) || begins_at b p) (IsUnderWay ((w0 ++ v ∷ []) ++ b ∷ []) p)
step_keeps w0 p v b bit d h = (
  (λ e. elim (or_cases (bit && has_move v b p) (begins_at b p) e) [
    | inl k ↦ (let s = and_parts bit (has_move v b p) k in moves_on w0 p v b d (h.0 s.0) s.1)
    | inr k ↦ starts_here (w0 ++ v ∷ []) p b k
  ]),
  (λ u. elim (came w0 p v b u) [
    | inl k ↦ or_right _ _ k
    | inr k ↦ or_left _ _ (and_from _ _ (h.1 k.0) k.1)
  ]),
)

-- a path of two or more blocks is finished exactly if the walk then ends with it
pub step_finishes : (w0 p : List ℕ) (v b : ℕ) (bit : Bool) → is_simple p ≡ true → 2 ≤ length p
    → Decides bit (IsUnderWay (w0 ++ v ∷ []) p)
    → Decides ((bit && has_move v b p) && ends_by_move v b p) (EndsWith ((w0 ++ v ∷ []) ++ b ∷ []) p)
step_finishes w0 p v b bit d l h = (
  (λ e. (let k = and_parts (bit && has_move v b p) (ends_by_move v b p) e in
      let s = and_parts bit (has_move v b p) k.0 in finishes w0 p v b d (h.0 s.0) k.1)),
  (λ u. (let f = finished w0 p v b l u in and_from _ _ (and_from _ _ (h.1 f.0) f.1) f.2)),
)
