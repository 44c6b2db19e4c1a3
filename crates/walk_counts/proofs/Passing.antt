-- How often walks pass the arcs that a test of their ends picks.
use Rattle.std.proofs.Common.{◌≡◌, refl, sym, ap, ◌∙◌, ℕ, ◌+◌, ◌<◌, ◌≤◌, ◌==◌, ◌||◌, Bool, true, false, cond, arith}
use Rattle.std.proofs.Common.{List, [], ◌∷◌, ◌++◌, length, map, filter, inl, inr, eqb-true}
use Rattle.std.specs.List.{All, sum_by, count_by}
use Rattle.std.proofs.lemmas.Bool.{and_parts, or_cases, or_parts, or_from, cases_Bool, false_from_ne_true, ltb-true}
use Rattle.std.proofs.lemmas.List.Sums.{sum_by-cons}
use Rattle.std.proofs.lemmas.List.Elements.{All-head, All-tail}
use Rattle.cov_base.specs.Net.{is_above, has_arc, joins}
use Rattle.cov_base.specs.Walks.{Walk, moves_from, moves, GoesAlong, is_along, passages}
use Rattle.cov_base.specs.declared.net.FlowArc.{FlowArc}
use Rattle.cov_base.proofs.NetLaws.{AscendAfter, Ascend}
use Rattle.covered_runs.specs.CoveredWalks.{walks_of}

-- ---- sums

pub sum_by-same : {X : Type 0} (f g : X → ℕ) (xs : List X) → ((x : X) → f x ≡ g x) → sum_by f xs ≡ sum_by g xs
sum_by-same f g [] same = refl
sum_by-same f g (x ∷ xs) same = omega (arith, sum_by-cons f x xs, sum_by-cons g x xs, same x, sum_by-same f g xs same)

sum_by-plus : {X : Type 0} (f g : X → ℕ) (xs : List X) → sum_by (λ x. f x + g x) xs ≡ sum_by f xs + sum_by g xs
sum_by-plus f g [] = refl
sum_by-plus f g (x ∷ xs) =
    omega (arith, sum_by-cons (λ y. f y + g y) x xs, sum_by-cons f x xs, sum_by-cons g x xs, sum_by-plus f g xs)

sum_by-none : {X : Type 0} (f : X → ℕ) (xs : List X) → ((x : X) → f x ≡ 0) → sum_by f xs ≡ 0
sum_by-none f [] none = refl
sum_by-none f (x ∷ xs) none = omega (arith, sum_by-cons f x xs, none x, sum_by-none f xs none)

cond-zero : (b : Bool) → ◌≡◌ {A = ℕ} (cond b 0 0) 0
cond-zero true = refl
cond-zero false = refl

cond-plus : (b : Bool) (m n : ℕ) → cond b (m + n) 0 ≡ cond b m 0 + cond b n 0
cond-plus true m n = refl
cond-plus false m n = refl

-- ---- one arc joins two blocks

-- an arc above another leaves no lesser block, and enters a greater one where both leave the same
above_parts : (arc before : FlowArc) → is_above arc before ≡ true
    → (before.from ≤ arc.from) × (before.from ≡ arc.from → before.to < arc.to)
above_parts arc before h = elim (or_cases _ _ h) [
  | inl less ↦ (let l : before.from < arc.from = ltb-true _ _ less in (omega arith, λ e. omega arith))
  | inr same ↦ (let parts = and_parts _ _ same in
      let e : before.from ≡ arc.from = eqb-true _ _ parts.0 in
      let l : before.to < arc.to = ltb-true _ _ parts.1 in
      (omega arith, λ _. omega arith))
]

-- no arc above another leads from the block that it leaves, or a lesser one, to the block that it enters, or a lesser
-- one
no_arc_after : (before : FlowArc) (arcs : List FlowArc) (a b : ℕ) → AscendAfter before arcs → a ≤ before.from
    → (a ≡ before.from → b ≤ before.to) → has_arc arcs a b ≡ false
no_arc_after before [] a b h low high = refl
no_arc_after before (arc ∷ arcs) a b h low high =
    let above = above_parts arc before h.0 in
    or_from _ _
    (false_from_ne_true (joins a b arc) (λ here.
    let ends = and_parts _ _ here in
    let from : arc.from ≡ a = eqb-true _ _ ends.0 in
    let to : arc.to ≡ b = eqb-true _ _ ends.1 in
    omega (arith, above.0, above.1)))
    (no_arc_after arc arcs a b h.1 (omega (arith, above.0)) (λ e. omega (arith, above.0, above.1, e)))

behind : (before : FlowArc) (after : List FlowArc) → AscendAfter before after → Ascend after
behind before [] up = tt
behind before (next ∷ after) up = up.1

-- ---- one move

module _ (test : ℕ → ℕ → Bool) where
  -- one passage of the arc for the move, if the arc passes the test
  abbrev part : ℕ → ℕ → FlowArc → ℕ
  part a b arc = cond (test arc.from arc.to) (cond (joins a b arc) 1 0) 0

  parts_none : (a b : ℕ) (arcs : List FlowArc) → has_arc arcs a b ≡ false → sum_by (part a b) arcs ≡ 0
  parts_none a b [] h = refl
  parts_none a b (arc ∷ arcs) h =
      let parts = or_parts (joins a b arc) (has_arc arcs a b) h in
      let here : part a b arc ≡ 0 =
      ap (λ t. cond (test arc.from arc.to) (cond t 1 0) 0) parts.0 ∙ cond-zero (test arc.from arc.to) in
      omega (arith, sum_by-cons (part a b) arc arcs, here, parts_none a b arcs parts.1)

  -- arcs that ascend have one passage for a move along one of them, if it passes the test
  parts_one : (a b : ℕ) (arcs : List FlowArc) → Ascend arcs → has_arc arcs a b ≡ true
      → sum_by (part a b) arcs ≡ cond (test a b) 1 0
  parts_one a b [] h has = absurd (let never : false ≡ true = has in cc)
  parts_one a b (arc ∷ arcs) h has = elim (cases_Bool (joins a b arc)) [
    | inl here ↦ (let ends = and_parts _ _ here in
        let from : arc.from ≡ a = eqb-true _ _ ends.0 in
        let to : arc.to ≡ b = eqb-true _ _ ends.1 in
        let rest = parts_none a b arcs (no_arc_after arc arcs a b h (omega arith) (λ _. omega arith)) in
        let one : part a b arc ≡ cond (test a b) 1 0 =
        ap (λ t. cond (test arc.from arc.to) (cond t 1 0) 0) here ∙ ap (λ x. cond (test x arc.to) 1 0) from
        ∙ ap (λ y. cond (test a y) 1 0) to in
        omega (arith, sum_by-cons (part a b) arc arcs, one, rest))
    | inr other ↦ (let none : part a b arc ≡ 0 =
        ap (λ t. cond (test arc.from arc.to) (cond t 1 0) 0) other ∙ cond-zero (test arc.from arc.to) in
        let later : has_arc arcs a b ≡ true = sym (ap (λ t. t || has_arc arcs a b) other) ∙ has in
        omega (arith, sum_by-cons (part a b) arc arcs, none, parts_one a b arcs (behind arc arcs h) later))
  ]

  -- ---- walks

  -- the moves whose ends pass the test
  abbrev picked : List (ℕ × ℕ) → ℕ
  picked steps = count_by (λ move. test move.0 move.1) steps

  -- the passages of an arc that passes the test
  abbrev passed : List (ℕ × ℕ) → FlowArc → ℕ
  passed steps arc = cond (test arc.from arc.to) (count_by (is_along arc) steps) 0

  -- the moves that pass the test are those along the arcs that do
  picked_moves : (arcs : List FlowArc) → Ascend arcs → (steps : List (ℕ × ℕ))
      → All (λ move. has_arc arcs move.0 move.1 ≡ true) steps → sum_by (passed steps) arcs ≡ picked steps
  picked_moves arcs up [] has = sum_by-none (passed []) arcs (λ arc. cond-zero (test arc.from arc.to))
  picked_moves arcs up (move ∷ steps) has =
      let first = parts_one move.0 move.1 arcs up (All-head (λ m. has_arc arcs m.0 m.1 ≡ true) move steps has) in
      let rest = picked_moves arcs up steps (All-tail (λ m. has_arc arcs m.0 m.1 ≡ true) move steps has) in
      let split : sum_by (passed (move ∷ steps)) arcs ≡ sum_by (λ arc. part move.0 move.1 arc + passed steps arc) arcs =
      sum_by-same _ _ arcs (λ arc.
      ap (λ n. cond (test arc.from arc.to) n 0) (sum_by-cons (λ m. cond (is_along arc m) 1 0) move steps)
      ∙ cond-plus (test arc.from arc.to) (cond (is_along arc move) 1 0) (count_by (is_along arc) steps)) in
      split ∙ sum_by-plus (part move.0 move.1) (passed steps) arcs
      ∙ ap (λ n. n + sum_by (passed steps) arcs) first
      ∙ ap (λ n. cond (test move.0 move.1) 1 0 + n) rest
      ∙ sym (sum_by-cons (λ m. cond (test m.0 m.1) 1 0) move steps)

  -- the moves of a walk of the function that pass the test
  abbrev pub picked_of : ℕ → Walk → ℕ
  picked_of i walk = cond (walk.function == i) (picked (moves walk.blocks)) 0

  -- the passages of the arcs that pass the test are the moves of the walks that do
  pub picked_passages : (arcs : List FlowArc) → Ascend arcs → (i : ℕ) (walks : List Walk)
      → All (λ walk. walk.function ≡ i → GoesAlong arcs walk.blocks) walks
      → sum_by (λ arc. cond (test arc.from arc.to) (passages walks i arc) 0) arcs ≡ sum_by (picked_of i) walks
  picked_passages arcs up i [] along = sum_by-none _ arcs (λ arc. cond-zero (test arc.from arc.to))
  picked_passages arcs up i (walk ∷ walks) along =
      let here = All-head (λ w. w.function ≡ i → GoesAlong arcs w.blocks) walk walks along in
      let rest = picked_passages arcs up i walks
      (All-tail (λ w. w.function ≡ i → GoesAlong arcs w.blocks) walk walks along) in
      split ∙ sum_by-plus first others arcs
      ∙ ap (λ n. n + sum_by others arcs) (own (walk.function == i) refl here)
      ∙ ap (λ n. picked_of i walk + n) rest ∙ sym (sum_by-cons (picked_of i) walk walks)
    where
      first : FlowArc → ℕ
      first arc = cond (test arc.from arc.to)
          (cond (walk.function == i) (count_by (is_along arc) (moves walk.blocks)) 0) 0

      others : FlowArc → ℕ
      others arc = cond (test arc.from arc.to) (passages walks i arc) 0

      split : sum_by (λ arc. cond (test arc.from arc.to) (passages (walk ∷ walks) i arc) 0) arcs
          ≡ sum_by (λ arc. first arc + others arc) arcs
      split = sum_by-same _ _ arcs (λ arc.
          ap (λ n. cond (test arc.from arc.to) n 0)
          (sum_by-cons (λ w. cond (w.function == i) (count_by (is_along arc) (moves w.blocks)) 0) walk walks)
          ∙ cond-plus (test arc.from arc.to)
          (cond (walk.function == i) (count_by (is_along arc) (moves walk.blocks)) 0) (passages walks i arc))

      own : (z : Bool) → (walk.function == i) ≡ z → (walk.function ≡ i → GoesAlong arcs walk.blocks)
          → sum_by (λ arc. cond (test arc.from arc.to) (cond z (count_by (is_along arc) (moves walk.blocks)) 0) 0) arcs
          ≡ cond z (picked (moves walk.blocks)) 0
      own true e along = picked_moves arcs up (moves walk.blocks) (along (eqb-true walk.function i e))
      own false e along = sum_by-none _ arcs (λ arc. cond-zero (test arc.from arc.to))

-- ---- into a block and out of it

abbrev pub enters : ℕ → ℕ → ℕ → Bool
enters b from to = to == b

abbrev pub leaves : ℕ → ℕ → ℕ → Bool
leaves b from to = from == b

-- a walk from a block x to a block z comes into a block as often as it goes out of it, but for its ends
even_from : (b x z : ℕ) (middle : List ℕ)
    → count_by (λ move. move.1 == b) (moves_from x (middle ++ z ∷ [])) + cond (x == b) 1 0
    ≡ count_by (λ move. move.0 == b) (moves_from x (middle ++ z ∷ [])) + cond (z == b) 1 0
even_from b x z [] =
    let i = sum_by-cons (λ (move : ℕ × ℕ). cond (move.1 == b) 1 0) (x, z) [] in
    let o = sum_by-cons (λ (move : ℕ × ℕ). cond (move.0 == b) 1 0) (x, z) [] in
    omega (arith, i, o)
even_from b x z (y ∷ middle) =
    let i = sum_by-cons (λ (move : ℕ × ℕ). cond (move.1 == b) 1 0) (x, y) (moves_from y (middle ++ z ∷ [])) in
    let o = sum_by-cons (λ (move : ℕ × ℕ). cond (move.0 == b) 1 0) (x, y) (moves_from y (middle ++ z ∷ [])) in
    let rest = even_from b y z middle in
    omega (arith, i, o, rest)

-- the number of walks of a function
abbrev pub number : ℕ → List Walk → ℕ
number i walks = length (walks_of i walks)

number_more : (i : ℕ) (walk : Walk) (walks : List Walk)
    → number i (walk ∷ walks) ≡ cond (walk.function == i) 1 0 + number i walks
number_more i walk walks = by (walk.function == i)
  where
    by : (z : Bool) → length (map (λ (w : Walk). w.blocks) (cond z (walk ∷ filter (λ (w : Walk). w.function == i) walks)
        (filter (λ (w : Walk). w.function == i) walks)))
        ≡ cond z 1 0 + number i walks
    by true = omega arith
    by false = omega arith

-- walks of a function that go from the entry to the exit come into a block as often as they go out, but for these two
pub even_walks : (b i : ℕ) (walks : List Walk)
    → All (λ w. w.function ≡ i → (middle : List ℕ) × (w.blocks ≡ 0 ∷ (middle ++ 1 ∷ []))) walks
    → sum_by (picked_of (enters b) i) walks + cond (0 == b) (number i walks) 0
    ≡ sum_by (picked_of (leaves b) i) walks + cond (1 == b) (number i walks) 0
even_walks b i [] h = ap (λ n. 0 + n) (cond-zero (0 == b) ∙ sym (cond-zero (1 == b)))
even_walks b i (walk ∷ walks) h =
    let ins = sum_by-cons (picked_of (enters b) i) walk walks in
    let outs = sum_by-cons (picked_of (leaves b) i) walk walks in
    let rest = even_walks b i walks
    (All-tail (λ w. w.function ≡ i → (middle : List ℕ) × (w.blocks ≡ 0 ∷ (middle ++ 1 ∷ []))) walk walks h) in
    let more = number_more i walk walks in
    let here = own (walk.function == i) refl
    (All-head (λ w. w.function ≡ i → (middle : List ℕ) × (w.blocks ≡ 0 ∷ (middle ++ 1 ∷ []))) walk walks h) in
    let s = ap (λ n. cond (0 == b) n 0) more ∙ cond-plus (0 == b) (cond (walk.function == i) 1 0) (number i walks) in
    let t = ap (λ n. cond (1 == b) n 0) more ∙ cond-plus (1 == b) (cond (walk.function == i) 1 0) (number i walks) in
    omega (arith, ins, outs, rest, here, s, t)
  where
    own : (z : Bool) → (walk.function == i) ≡ z
        → (walk.function ≡ i → (middle : List ℕ) × (walk.blocks ≡ 0 ∷ (middle ++ 1 ∷ [])))
        → cond z (count_by (λ move. move.1 == b) (moves walk.blocks)) 0 + cond (0 == b) (cond z 1 0) 0
        ≡ cond z (count_by (λ move. move.0 == b) (moves walk.blocks)) 0 + cond (1 == b) (cond z 1 0) 0
    own true e w =
        let h = w (eqb-true walk.function i e) in
        let ins = ap (λ (bs : List ℕ). count_by (λ move. move.1 == b) (moves bs)) h.1 in
        let outs = ap (λ (bs : List ℕ). count_by (λ move. move.0 == b) (moves bs)) h.1 in
        omega (arith, ins, outs, even_from b 0 1 h.0)
    own false e w = ap (λ n. 0 + n) (cond-zero (0 == b) ∙ sym (cond-zero (1 == b)))
