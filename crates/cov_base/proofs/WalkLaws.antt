-- The passages of a line are those of the arcs that come to it.
use Rattle.std.proofs.Common.{◌≡◌, ℕ, ◌+◌, ◌<◌, ◌≤◌, Bool, true, false, cond, not, ◌&&◌, ◌||◌, inl, inr, List, [], ◌∷◌, Some, refl, sym, ◌∙◌, ap, arith, eqb, eq-eqb}
use Rattle.std.specs.List.{All, sum_by, count_by, slice_get}
use Rattle.std.specs.Option.{option_map_or}
use Rattle.std.proofs.lemmas.Bool.{or_parts, or_cases, or_from, and_parts, cond-true, cases_Bool, eqb-true, ltb-true, false_from_ne_true}
use Rattle.std.proofs.lemmas.List.Sums.{sum_by-cons}
use Rattle.std.proofs.lemmas.List.Elements.{All-head, All-tail}
use Rattle.cov_base.specs.Net.{NetValue, IsNet, is_above, joins, has_arc}
use Rattle.cov_base.specs.Walks.{Walk, moves, GoesAlong, is_along, passages, is_of_line, comes_to, line_passages}
use Rattle.cov_base.proofs.NetLaws.{AscendAfter, Ascend, HasShape-from_IsNet}
use Rattle.cov_base.specs.declared.net.FlowArc.{FlowArc}

-- sums of equal terms are equal
sum_by-same : {X : Type 0} (f g : X → ℕ) (xs : List X) → ((x : X) → f x ≡ g x) → sum_by f xs ≡ sum_by g xs
sum_by-same f g [] same = refl
sum_by-same f g (x ∷ xs) same = omega (arith, sum_by-cons f x xs, sum_by-cons g x xs, same x, sum_by-same f g xs same)

sum_by-plus : {X : Type 0} (f g : X → ℕ) (xs : List X) → sum_by (λ x. f x + g x) xs ≡ sum_by f xs + sum_by g xs
sum_by-plus f g [] = refl
sum_by-plus f g (x ∷ xs) =
    omega (arith, sum_by-cons (λ y. f y + g y) x xs, sum_by-cons f x xs, sum_by-cons g x xs, sum_by-plus f g xs)

sum_by-none : {X : Type 0} (f : X → ℕ) (xs : List X) → ((x : X) → f x ≡ 0) → sum_by f xs ≡ 0
sum_by-none f [] none = refl
sum_by-none f (x ∷ xs) none = omega (arith, sum_by-cons f x xs, none x, sum_by-none f xs none)

cond-zero : (b : Bool) → ◌≡◌ {A = ℕ} (cond b 0 0) 0
cond-zero true = refl
cond-zero false = refl

cond-plus : (b : Bool) (m n : ℕ) → cond b (m + n) 0 ≡ cond b m 0 + cond b n 0
cond-plus true m n = refl
cond-plus false m n = refl

-- an arc above another leaves no lesser block, and enters a greater one where both leave the same
above_parts : (arc before : FlowArc) → is_above arc before ≡ true → (before.from ≤ arc.from) × (before.from ≡ arc.from → before.to < arc.to)
above_parts arc before h =
    elim (or_cases _ _ h) [
      | inl less ↦ (let l : before.from < arc.from = ltb-true _ _ less in (omega arith, λ e. omega arith))
      | inr same ↦ (
          let parts = and_parts _ _ same in
          let e : before.from ≡ arc.from = eqb-true _ _ parts.0 in
          let l : before.to < arc.to = ltb-true _ _ parts.1 in
          (omega arith, λ _. omega arith))
    ]

-- no arc above another leads from the block that it leaves, or a lesser one, to the block that it enters, or a lesser one
no_arc_after : (before : FlowArc) (arcs : List FlowArc) (a b : ℕ) → AscendAfter before arcs → a ≤ before.from → (a ≡ before.from → b ≤ before.to) → has_arc arcs a b ≡ false
no_arc_after before [] a b h low high = refl
no_arc_after before (arc ∷ arcs) a b h low high =
    let above = above_parts arc before h.0 in
    or_from _ _
    (false_from_ne_true (joins a b arc) (λ here.
    let ends = and_parts _ _ here in
    let from : arc.from ≡ a = eqb-true _ _ ends.0 in
    let to : arc.to ≡ b = eqb-true _ _ ends.1 in
    omega (arith, above.0, above.1)))
    (no_arc_after arc arcs a b h.1 (omega (arith, above.0)) (λ e. omega (arith, above.0, above.1, e)))

-- one passage of the arc for the move, if it comes to the line
abbrev part : NetValue → ℕ → ℕ → ℕ → FlowArc → ℕ
part net line a b arc = cond (comes_to net line (arc.from, arc.to)) (cond (joins a b arc) 1 0) 0

parts_none : (net : NetValue) (line a b : ℕ) (arcs : List FlowArc) → has_arc arcs a b ≡ false → sum_by (part net line a b) arcs ≡ 0
parts_none net line a b [] h = refl
parts_none net line a b (arc ∷ arcs) h =
    let parts = or_parts (joins a b arc) (has_arc arcs a b) h in
    let here : part net line a b arc ≡ 0 = ap (λ t. cond (comes_to net line (arc.from, arc.to)) (cond t 1 0) 0) parts.0 ∙ cond-zero _ in
    omega (arith, sum_by-cons (part net line a b) arc arcs, here, parts_none net line a b arcs parts.1)

-- arcs that ascend have one passage for a move along one of them, if it comes to the line
parts_one : (net : NetValue) (line a b : ℕ) (arcs : List FlowArc) → Ascend arcs → has_arc arcs a b ≡ true → sum_by (part net line a b) arcs ≡ cond (comes_to net line (a, b)) 1 0
parts_one net line a b [] h has = cc
parts_one net line a b (arc ∷ arcs) h has =
    elim (cases_Bool (joins a b arc)) [
      | inl here ↦ (
          let ends = and_parts _ _ here in
          let from : arc.from ≡ a = eqb-true _ _ ends.0 in
          let to : arc.to ≡ b = eqb-true _ _ ends.1 in
          let rest = parts_none net line a b arcs (no_arc_after arc arcs a b h (omega arith) (λ _. omega arith)) in
          let one : part net line a b arc ≡ cond (comes_to net line (a, b)) 1 0 =
          ap (λ t. cond (comes_to net line (arc.from, arc.to)) (cond t 1 0) 0) here
          ∙ ap (λ x. cond (comes_to net line (x, arc.to)) 1 0) from
          ∙ ap (λ y. cond (comes_to net line (a, y)) 1 0) to in
          omega (arith, sum_by-cons (part net line a b) arc arcs, one, rest))
      | inr other ↦ (
          let none : part net line a b arc ≡ 0 = ap (λ t. cond (comes_to net line (arc.from, arc.to)) (cond t 1 0) 0) other ∙ cond-zero _ in
          let later : has_arc arcs a b ≡ true = sym (ap (λ t. t || has_arc arcs a b) other) ∙ has in
          omega (arith, sum_by-cons (part net line a b) arc arcs, none, parts_one net line a b arcs (later_ascend arc arcs h) later))
    ]
  where
    later_ascend : (before : FlowArc) (after : List FlowArc) → AscendAfter before after → Ascend after
    later_ascend before [] up = tt
    later_ascend before (next ∷ after) up = up.1

-- the passages that moves have through the arc, if it comes to the line
abbrev counted : NetValue → ℕ → List (ℕ × ℕ) → FlowArc → ℕ
counted net line steps arc = cond (comes_to net line (arc.from, arc.to)) (count_by (is_along arc) steps) 0

-- the moves that come to the line are those along the arcs that do
counted_moves : (net : NetValue) (line : ℕ) (arcs : List FlowArc) → Ascend arcs → (steps : List (ℕ × ℕ)) → All (λ move. has_arc arcs move.0 move.1 ≡ true) steps
    → sum_by (counted net line steps) arcs ≡ count_by (comes_to net line) steps
counted_moves net line arcs up [] has = sum_by-none (counted net line []) arcs (λ arc. cond-zero _)
counted_moves net line arcs up (move ∷ steps) has =
    let first = parts_one net line move.0 move.1 arcs up (All-head (λ m. has_arc arcs m.0 m.1 ≡ true) move steps has) in
    let rest = counted_moves net line arcs up steps (All-tail (λ m. has_arc arcs m.0 m.1 ≡ true) move steps has) in
    let split : sum_by (counted net line (move ∷ steps)) arcs ≡ sum_by (λ arc. part net line move.0 move.1 arc + counted net line steps arc) arcs =
    sum_by-same _ _ arcs (λ arc.
    ap (λ n. cond (comes_to net line (arc.from, arc.to)) n 0) (sum_by-cons (λ m. cond (is_along arc m) 1 0) move steps)
    ∙ cond-plus (comes_to net line (arc.from, arc.to)) (cond (is_along arc move) 1 0) (count_by (is_along arc) steps)) in
    split ∙ sum_by-plus (part net line move.0 move.1) (counted net line steps) arcs
    ∙ ap (λ n. n + sum_by (counted net line steps) arcs) first
    ∙ ap (λ n. cond (comes_to net line move) 1 0 + n) rest
    ∙ sym (sum_by-cons (λ m. cond (comes_to net line m) 1 0) move steps)

-- the passages that walks have through the arc, if it comes to the line
abbrev pub passages_to_line : NetValue → List Walk → ℕ → ℕ → FlowArc → ℕ
passages_to_line net walks function line arc =
    cond (not (is_of_line net line arc.from) && is_of_line net line arc.to) (passages walks function arc) 0

-- over walks of one function along ascending arcs, the passages of a line are those of the arcs that come to it
pub line_passages-by_arcs : (nets : List NetValue) (net : NetValue) (function line : ℕ) → slice_get nets function ≡ Some net → Ascend net.arcs
    → (walks : List Walk) → All (λ walk. walk.function ≡ function) walks → All (λ walk. GoesAlong net.arcs walk.blocks) walks
    → line_passages nets walks line ≡ sum_by (passages_to_line net walks function line) net.arcs
line_passages-by_arcs nets net function line here up [] of along =
    sym (sum_by-none (passages_to_line net [] function line) net.arcs (λ arc. cond-zero _))
line_passages-by_arcs nets net function line here up (walk ∷ walks) of along =
    let each : Walk → ℕ = λ w. option_map_or (λ n. count_by (comes_to n line) (moves w.blocks)) (slice_get nets w.function) 0 in
    let same : walk.function ≡ function = All-head (λ w. w.function ≡ function) walk walks of in
    let first : each walk ≡ count_by (comes_to net line) (moves walk.blocks) =
    ap (λ n. option_map_or (λ m. count_by (comes_to m line) (moves walk.blocks)) n 0) (ap (slice_get nets) same ∙ here) in
    let goes = All-head (λ w. GoesAlong net.arcs w.blocks) walk walks along in
    let one = counted_moves net line net.arcs up (moves walk.blocks) goes in
    let rest = line_passages-by_arcs nets net function line here up walks (All-tail (λ w. w.function ≡ function) walk walks of) (All-tail (λ w. GoesAlong net.arcs w.blocks) walk walks along) in
    let split : sum_by (passages_to_line net (walk ∷ walks) function line) net.arcs ≡ sum_by (λ arc. counted net line (moves walk.blocks) arc + passages_to_line net walks function line arc) net.arcs =
    sum_by-same _ _ net.arcs (λ arc.
    ap (λ n. cond (comes_to net line (arc.from, arc.to)) n 0) (
    sum_by-cons (λ w. cond (eqb w.function function) (count_by (is_along arc) (moves w.blocks)) 0) walk walks
    ∙ ap (λ n. n + passages walks function arc) (cond-true _ _ _ (eq-eqb walk.function function same)))
    ∙ cond-plus (comes_to net line (arc.from, arc.to)) (count_by (is_along arc) (moves walk.blocks)) (passages walks function arc)) in
    sum_by-cons each walk walks
    ∙ ap (λ n. n + line_passages nets walks line) (first ∙ sym one)
    ∙ ap (λ n. sum_by (counted net line (moves walk.blocks)) net.arcs + n) rest
    ∙ sym (split ∙ sum_by-plus (counted net line (moves walk.blocks)) (passages_to_line net walks function line) net.arcs)

-- the same for the one net of a program with one function
pub line_passages-of_one_net : (net : NetValue) → IsNet net → (walks : List Walk) → All (λ walk. walk.function ≡ 0) walks → All (λ walk. GoesAlong net.arcs walk.blocks) walks
    → (line : ℕ) → line_passages (net ∷ []) walks line ≡ sum_by (λ arc. cond (not (is_of_line net line arc.from) && is_of_line net line arc.to) (passages walks 0 arc) 0) net.arcs
line_passages-of_one_net net is walks of along line =
    line_passages-by_arcs (net ∷ []) net 0 line refl (HasShape-from_IsNet net is).ascend walks of along
