-- Where the counts of arcs are passages of walks, so are the counts of lines.
use Rattle.std.proofs.Common.{◌≡◌, ℕ, zero, suc, ◌+◌, ◌<◌, Bool, true, false, cond, List, [], ◌∷◌, map, Some, None, refl, sym, ◌∙◌, ap, subst, arith, eqb, eq-eqb}
use Rattle.std.specs.Prelude.{slice_get}
use Rattle.std.specs.Option.{option_map_or}
use Rattle.std.specs.List.{All, sum_by, count_by}
use Rattle.std.proofs.lemmas.Bool.{cond-true, cond-false, eqb-true, ne_eqb}
use Rattle.std.proofs.lemmas.List.Sums.{sum_by-cons}
use Rattle.std.proofs.lemmas.List.Elements.{All-nil, All-cons, All-head, All-tail}
use Rattle.cov_base.specs.Net.{NetValue, IsNet}
use Rattle.cov_base.specs.Walks.{Walk, moves, GoesAlong, is_along, passages, comes_to, line_passages}
use Rattle.cov_base.specs.declared.net.FlowArc.{FlowArc}
use Rattle.cov_base.proofs.WalkLaws.{line_passages-of_one_net}
use Rattle.report_parts.specs.Shown.{ShownValue, IsShown, total}
use Rattle.report_parts.specs.Lines.{is_code_line, entering}
use Rattle.report_parts.specs.Laws.{GoesWithin, LinesArePassages}

sum_by-same : {X : Type 0} (f g : X → ℕ) (xs : List X) → ((x : X) → f x ≡ g x) → sum_by f xs ≡ sum_by g xs
sum_by-same f g [] same = refl
sum_by-same f g (x ∷ xs) same = omega (arith, sum_by-cons f x xs, sum_by-cons g x xs, same x, sum_by-same f g xs same)

sum_by-plus : {X : Type 0} (f g : X → ℕ) (xs : List X) → sum_by (λ x. f x + g x) xs ≡ sum_by f xs + sum_by g xs
sum_by-plus f g [] = refl
sum_by-plus f g (x ∷ xs) =
    omega (arith, sum_by-cons (λ y. f y + g y) x xs, sum_by-cons f x xs, sum_by-cons g x xs, sum_by-plus f g xs)

sum_by-none : {X : Type 0} (f : X → ℕ) (xs : List X) → ((x : X) → f x ≡ 0) → sum_by f xs ≡ 0
sum_by-none f [] none = refl
sum_by-none f (x ∷ xs) none = omega (arith, sum_by-cons f x xs, none x, sum_by-none f xs none)

cond-zero : (b : Bool) → ◌≡◌ {A = ℕ} (cond b 0 0) 0
cond-zero true = refl
cond-zero false = refl

cond-plus : (b : Bool) (m n : ℕ) → cond b (m + n) 0 ≡ cond b m 0 + cond b n 0
cond-plus true m n = refl
cond-plus false m n = refl

-- an arc comes to the line
abbrev comes : NetValue → ℕ → FlowArc → Bool
comes net line arc = comes_to net line (arc.from, arc.to)

-- the places of a walk where it comes to the line
abbrev arrivals_in : NetValue → ℕ → List ℕ → ℕ
arrivals_in net line blocks = count_by (comes_to net line) (moves blocks)

-- counts that are numbers of arcs are summed over the arcs
total_sum : (test : FlowArc → Bool) (g : FlowArc → ℕ) (arcs : List FlowArc)
    → total test arcs (map g arcs) ≡ sum_by (λ arc. cond (test arc) (g arc) 0) arcs
total_sum test g [] = refl
total_sum test g (arc ∷ arcs) =
    omega (arith, total_sum test g arcs, sum_by-cons (λ a. cond (test a) (g a) 0) arc arcs)

-- the passages that one walk has through the arcs that come to the line
one_walk : (net : NetValue) → IsNet net → (line : ℕ) (blocks : List ℕ) → GoesAlong net.arcs blocks
    → sum_by (λ arc. cond (comes net line arc) (count_by (is_along arc) (moves blocks)) 0) net.arcs
    ≡ arrivals_in net line blocks
one_walk net is line blocks along =
    let w : Walk = record { function = 0; blocks = blocks } in
    let passed : sum_by (λ arc. cond (comes net line arc) (count_by (is_along arc) (moves blocks)) 0) net.arcs
    ≡ sum_by (λ arc. cond (comes net line arc) (passages (w ∷ []) 0 arc) 0) net.arcs =
    sum_by-same _ _ net.arcs (λ arc. ap (λ n. cond (comes net line arc) n 0) (once arc)) in
    let law = line_passages-of_one_net net is (w ∷ []) (All-cons (λ w. w.function ≡ 0) w [] refl (All-nil (λ w. w.function ≡ 0)))
    (All-cons (λ w. GoesAlong net.arcs w.blocks) w [] along (All-nil (λ w. GoesAlong net.arcs w.blocks))) line in
    passed ∙ (sym law ∙ alone)
  where
    once : (arc : FlowArc) → count_by (is_along arc) (moves blocks) ≡ passages (record { function = 0; blocks = blocks } ∷ []) 0 arc
    once arc = omega arith

    alone : line_passages (net ∷ []) (record { function = 0; blocks = blocks } ∷ []) line ≡ arrivals_in net line blocks
    alone = omega arith

-- the places where a walk of the function comes to the line
abbrev of_function : ℕ → NetValue → ℕ → Walk → ℕ
of_function k net line walk = cond (eqb walk.function k) (arrivals_in net line walk.blocks) 0

-- the passages of the walks of a function through the arcs that come to the line
all_walks : (k : ℕ) (net : NetValue) → IsNet net → (line : ℕ) (walks : List Walk)
    → All (λ walk. walk.function ≡ k → GoesAlong net.arcs walk.blocks) walks
    → sum_by (λ arc. cond (comes net line arc) (passages walks k arc) 0) net.arcs
    ≡ sum_by (of_function k net line) walks
all_walks k net is line [] along = sum_by-none _ net.arcs (λ arc. cond-zero (comes net line arc))
all_walks k net is line (walk ∷ walks) along =
    let here = All-head (λ w. w.function ≡ k → GoesAlong net.arcs w.blocks) walk walks along in
    let rest = all_walks k net is line walks (All-tail (λ w. w.function ≡ k → GoesAlong net.arcs w.blocks) walk walks along) in
    let first : FlowArc → ℕ = λ arc. cond (comes net line arc) (cond (eqb walk.function k) (count_by (is_along arc) (moves walk.blocks)) 0) 0 in
    let others : FlowArc → ℕ = λ arc. cond (comes net line arc) (passages walks k arc) 0 in
    let split : sum_by (λ arc. cond (comes net line arc) (passages (walk ∷ walks) k arc) 0) net.arcs
    ≡ sum_by (λ arc. first arc + others arc) net.arcs =
    sum_by-same _ _ net.arcs (λ arc.
    ap (λ n. cond (comes net line arc) n 0)
    (sum_by-cons (λ w. cond (eqb w.function k) (count_by (is_along arc) (moves w.blocks)) 0) walk walks)
    ∙ cond-plus (comes net line arc) (cond (eqb walk.function k) (count_by (is_along arc) (moves walk.blocks)) 0) (passages walks k arc)) in
    let one : sum_by first net.arcs ≡ of_function k net line walk = own (eqb walk.function k) refl here in
    split ∙ (sum_by-plus first others net.arcs
    ∙ (ap (λ n. n + sum_by others net.arcs) one
    ∙ (ap (λ n. of_function k net line walk + n) rest
    ∙ sym (sum_by-cons (of_function k net line) walk walks))))
  where
    own : (b : Bool) → eqb walk.function k ≡ b → (walk.function ≡ k → GoesAlong net.arcs walk.blocks)
        → sum_by (λ arc. cond (comes net line arc) (cond b (count_by (is_along arc) (moves walk.blocks)) 0) 0) net.arcs
        ≡ cond b (arrivals_in net line walk.blocks) 0
    own true e along = one_walk net is line walk.blocks (along (eqb-true walk.function k e))
    own false e along = sum_by-none _ net.arcs (λ arc. cond-zero (comes net line arc))

-- the places where a walk comes to the line, in these functions, of which the first has number k
abbrev within : ℕ → List ShownValue → ℕ → Walk → ℕ
within k [] line walk = 0
within k (f ∷ fs) line walk = of_function k f.net line walk + within (suc k) fs line walk

-- the sum over the functions is that over the walks
both_sums : (k : ℕ) (fs : List ShownValue) → All IsShown fs → (line : ℕ) (walks : List Walk)
    → ((j : ℕ) (f : ShownValue) → slice_get fs j ≡ Some f → f.counts ≡ map (passages walks (k + j)) f.net.arcs)
    → ((j : ℕ) (f : ShownValue) → slice_get fs j ≡ Some f
    → All (λ walk. walk.function ≡ k + j → GoesAlong f.net.arcs walk.blocks) walks)
    → sum_by (entering line) fs ≡ sum_by (within k fs line) walks
both_sums k [] all line walks counts along = sym (sum_by-none (within k [] line) walks (λ w. refl))
both_sums k (f ∷ fs) all line walks counts along =
    let here = All-head IsShown f fs all in
    let at : k + 0 ≡ k = omega arith in
    let first : entering line f ≡ sum_by (of_function k f.net line) walks =
    ap (total (comes f.net line) f.net.arcs) (counts zero f refl)
    ∙ (ap (λ n. total (comes f.net line) f.net.arcs (map (passages walks n) f.net.arcs)) at
    ∙ (total_sum (comes f.net line) (passages walks k) f.net.arcs
    ∙ all_walks k f.net here.net line walks
    (subst (λ n. All (λ walk. walk.function ≡ n → GoesAlong f.net.arcs walk.blocks) walks) at (along zero f refl)))) in
    let rest = both_sums (suc k) fs (All-tail IsShown f fs all) line walks
    (λ j g e. counts (suc j) g e ∙ ap (λ n. map (passages walks n) g.net.arcs) (next j))
    (λ j g e. subst (λ n. All (λ walk. walk.function ≡ n → GoesAlong g.net.arcs walk.blocks) walks) (next j) (along (suc j) g e)) in
    sum_by-cons (entering line) f fs
    ∙ (ap (λ n. n + sum_by (entering line) fs) first
    ∙ (ap (λ n. sum_by (of_function k f.net line) walks + n) rest
    ∙ sym (sum_by-plus (of_function k f.net line) (within (suc k) fs line) walks)))
  where
    next : (j : ℕ) → k + suc j ≡ suc k + j
    next j = omega arith

-- a walk of an earlier function comes to the line in none of these
none_within : (k : ℕ) (fs : List ShownValue) (line : ℕ) (walk : Walk) → walk.function < k → within k fs line walk ≡ 0
none_within k [] line walk low = refl
none_within k (f ∷ fs) line walk low =
    let one : of_function k f.net line walk ≡ 0 =
    cond-false (eqb walk.function k) (arrivals_in f.net line walk.blocks) 0 (ne_eqb walk.function k (λ e. omega (arith, e, low))) in
    omega (arith, one, none_within (suc k) fs line walk (omega (arith, low)))

-- the places where a walk comes to the line by the net of its function
abbrev by_net : List ShownValue → ℕ → ℕ → Walk → ℕ
by_net fs j line walk = option_map_or (λ net. arrivals_in net line walk.blocks) (slice_get (map (λ f. f.net) fs) j) 0

within_is : (k : ℕ) (fs : List ShownValue) (line : ℕ) (walk : Walk) (j : ℕ) → walk.function ≡ k + j
    → within k fs line walk ≡ by_net fs j line walk
within_is k [] line walk j e = refl
within_is k (f ∷ fs) line walk zero e =
    let at : walk.function ≡ k = omega (arith, e) in
    let one : of_function k f.net line walk ≡ arrivals_in f.net line walk.blocks =
    cond-true (eqb walk.function k) (arrivals_in f.net line walk.blocks) 0 (eq-eqb walk.function k at) in
    let rest = none_within (suc k) fs line walk (omega (arith, at)) in
    omega (arith, one, rest)
within_is k (f ∷ fs) line walk (suc j) e =
    let one : of_function k f.net line walk ≡ 0 =
    cond-false (eqb walk.function k) (arrivals_in f.net line walk.blocks) 0 (ne_eqb walk.function k (λ same. omega (arith, e, same))) in
    let rest = within_is (suc k) fs line walk j (omega (arith, e)) in
    omega (arith, one, rest)

-- a walk that goes within the functions goes along the arcs of the one of its number
goes_along : (fs : List ShownValue) (walks : List Walk) → All (GoesWithin fs) walks → (j : ℕ) (f : ShownValue)
    → slice_get fs j ≡ Some f → All (λ walk. walk.function ≡ 0 + j → GoesAlong f.net.arcs walk.blocks) walks
goes_along fs [] all j f at = All-nil (λ walk. walk.function ≡ 0 + j → GoesAlong f.net.arcs walk.blocks)
goes_along fs (walk ∷ walks) all j f at =
    let here = All-head (GoesWithin fs) walk walks all in
    All-cons (λ walk. walk.function ≡ 0 + j → GoesAlong f.net.arcs walk.blocks) walk walks
    (λ e. subst (λ g. GoesAlong g.net.arcs walk.blocks)
    (same here.0 f (sym here.1 ∙ (ap (slice_get fs) (let n : walk.function ≡ j = omega (arith, e) in n) ∙ at))) here.2)
    (goes_along fs walks (All-tail (GoesWithin fs) walk walks all) j f at)
  where
    same : (a b : ShownValue) → Some a ≡ Some b → a ≡ b
    same a b e = cc

-- Where the counts of arcs are passages, those of lines are.
pub lines_are_passages : LinesArePassages
lines_are_passages fs all walks h line =
    ap (λ n. cond (is_code_line fs line) (Some n) None)
    (both_sums 0 fs all line walks
    (λ j f e. h.counts j f e ∙ ap (λ n. map (passages walks n) f.net.arcs) (let n : j ≡ 0 + j = omega arith in n))
    (goes_along fs walks h.along)
    ∙ sum_by-same (within 0 fs line) (λ walk. by_net fs walk.function line walk) walks
    (λ walk. within_is 0 fs line walk walk.function (omega arith)))
