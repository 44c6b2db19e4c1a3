-- New numbers by marks are ranks among the kept blocks.
use Rattle.std.proofs.Common.{◌≡◌, refl, sym, ap, subst, ◌∙◌, ℕ, zero, suc, ◌+◌, ◌-◌, ◌≤◌, ◌<◌, ◌==◌, List}
use Rattle.std.proofs.Common.{[], ◌∷◌, ◌++◌, map, length, get_or, Bool, true, false, cond, ◌⊎◌, inl, inr, arith, eq-eqb}
use Rattle.std.proofs.Common.{append_assoc, map-id}
use Rattle.std.proofs.lemmas.Bool.{lt-ltb, le-ltb}
use Rattle.std.specs.Prelude.{ℤ, drop, slice_get}
use Rattle.std.proofs.lemmas.Bool.{both_ways}
use Rattle.std.proofs.lemmas.Bool.{cond-true, cond-false, cases_lt, ne_eqb}
use Rattle.std.proofs.lemmas.Bool.{false_from_ne_true}
use Rattle.std.proofs.lemmas.List.{get_or_past, at_drop_more}
use Rattle.flow_graph.specs.Graph.{Ending, Block}
use Rattle.flow_graph.specs.Nets.{among, numbers_from, reached, rank_from, new_number, renamed, kept_blocks}
use Rattle.fake_arcs.specs.Marking.{AreReached}
use Rattle.fake_arcs.specs.Numbers.{numbers_before, number_behind, number_by, kept_by, kept_here}
use Rattle.fake_arcs.proofs.Reaching.{among_filtered, numbers_within, reached_filtered}
use Rattle.fake_arcs.proofs.Ranks.{kept_of, kept_same, rank_none, length_kept}

-- the marks from some number on
abbrev Follow : List ℕ → ℕ → List Bool → Type 0
Follow kept n marks = (k : ℕ) → k < length marks → get_or marks k false ≡ among (n + k) kept

follow_on : (kept : List ℕ) (n : ℕ) (m : Bool) (marks : List Bool) → Follow kept n (m ∷ marks)
    → Follow kept (suc n) marks
follow_on kept n m marks h k l = h (suc k) (omega (arith, l)) ∙ ap (λ i. among i kept) (omega arith)

follow_here : (kept : List ℕ) (n : ℕ) (m : Bool) (marks : List Bool) → Follow kept n (m ∷ marks) → m ≡ among n kept
follow_here kept n m marks h = h zero (omega arith) ∙ ap (λ i. among i kept) (omega arith)

rank_at : (kept : List ℕ) (r n : ℕ) (bs : List Block) (marks : List Bool) → length marks ≡ length bs
    → Follow kept n marks → (k : ℕ) → k < length marks → among (n + k) kept ≡ true
    → rank_from r (kept_of kept n bs) (n + k) ≡ get_or (numbers_before r marks) k 0
rank_at kept r n bs [] long h k l m = absurd (omega (arith, l))
rank_at kept r n [] (x ∷ marks) long h k l m = absurd (omega (arith, long))
rank_at kept r n (b ∷ bs) (x ∷ marks) long h k l m =
    go x (follow_here kept n x marks h) k l m
    (λ s k l m. rank_at kept s (suc n) bs marks (omega (arith, long)) (follow_on kept n x marks h) k l m)
  where
    go : (x : Bool) → x ≡ among n kept → (k : ℕ) → k < suc (length marks) → among (n + k) kept ≡ true
        → ((s k : ℕ) → k < length marks → among (suc n + k) kept ≡ true
        → rank_from s (kept_of kept (suc n) bs) (suc n + k) ≡ get_or (numbers_before s marks) k 0)
        → rank_from r (cond (among n kept) (n ∷ kept_of kept (suc n) bs) (kept_of kept (suc n) bs)) (n + k)
        ≡ get_or (r ∷ numbers_before (cond x (suc r) r) marks) k 0
    go x e zero l m rec =
        let mine : among n kept ≡ true = subst (λ i. among i kept ≡ true) (omega arith) m in
        ap (λ (c : Bool). rank_from r (cond c (n ∷ kept_of kept (suc n) bs) (kept_of kept (suc n) bs)) (n + 0)) mine
        ∙ cond-true (n == n + 0) r (rank_from (suc r) (kept_of kept (suc n) bs) (n + 0))
        (eq-eqb n (n + 0) (omega arith))
    go true e (suc k) l m rec =
        let next : n + suc k ≡ suc n + k = omega arith in
        ap (λ (c : Bool). rank_from r (cond c (n ∷ kept_of kept (suc n) bs) (kept_of kept (suc n) bs)) (n + suc k))
        (sym e)
        ∙ cond-false (n == n + suc k) r (rank_from (suc r) (kept_of kept (suc n) bs) (n + suc k))
        (ne_eqb n (n + suc k) (λ h. omega (arith, h)))
        ∙ ap (rank_from (suc r) (kept_of kept (suc n) bs)) next
        ∙ rec (suc r) k (omega (arith, l)) (subst (λ i. among i kept ≡ true) next m)
    go false e (suc k) l m rec =
        let next : n + suc k ≡ suc n + k = omega arith in
        ap (λ (c : Bool). rank_from r (cond c (n ∷ kept_of kept (suc n) bs) (kept_of kept (suc n) bs)) (n + suc k))
        (sym e)
        ∙ ap (rank_from r (kept_of kept (suc n) bs)) next
        ∙ rec r k (omega (arith, l)) (subst (λ i. among i kept ≡ true) next m)

behind_kept : (kept : List ℕ) (r n : ℕ) (bs : List Block) (marks : List Bool) → length marks ≡ length bs
    → Follow kept n marks → number_behind r marks ≡ r + length (kept_of kept n bs)
behind_kept kept r n [] [] long h = omega arith
behind_kept kept r n (b ∷ bs) [] long h = absurd (omega (arith, long))
behind_kept kept r n [] (x ∷ marks) long h = absurd (omega (arith, long))
behind_kept kept r n (b ∷ bs) (x ∷ marks) long h =
    go x (follow_here kept n x marks h)
    (λ s. behind_kept kept s (suc n) bs marks (omega (arith, long)) (follow_on kept n x marks h))
  where
    go : (x : Bool) → x ≡ among n kept → ((s : ℕ) → number_behind s marks ≡ s + length (kept_of kept (suc n) bs))
        → number_behind (cond x (suc r) r) marks
        ≡ r + length (cond (among n kept) (n ∷ kept_of kept (suc n) bs) (kept_of kept (suc n) bs))
    go true e rec = rec (suc r) ∙ omega arith
        ∙ ap (λ (c : Bool). r + length (cond c (n ∷ kept_of kept (suc n) bs) (kept_of kept (suc n) bs))) e
    go false e rec = rec r
        ∙ ap (λ (c : Bool). r + length (cond c (n ∷ kept_of kept (suc n) bs) (kept_of kept (suc n) bs))) e

-- The number by the marks is the new number.
pub number_is_new : (blocks : List Block) (marks : List Bool) → AreReached blocks marks → 0 < length blocks → (t : ℕ)
    → number_by marks t ≡ new_number (reached blocks) t
number_is_new blocks marks h some t = go (cases_lt t 2)
  where
    follows : Follow (reached blocks) 2 marks
    follows k l = h.each k (let e = h.long in omega (arith, e, l))

    by : 2 ≤ t → (x : Bool) → get_or marks (t - 2) false ≡ x
        → cond x (get_or (numbers_before 2 marks) (t - 2) 0) (number_behind 2 marks) ≡ rank_from 2 (reached blocks) t
    by low true e =
        let same : 2 + (t - 2) ≡ t = omega (arith, low) in
        let within : t - 2 < length marks = elim (cases_lt (t - 2) (length marks)) [
          | inl l ↦ l
          | inr past ↦ absurd (both_ways _ (get_or_past marks (t - 2) false past) e)
        ] in
        let kept : among (2 + (t - 2)) (reached blocks) ≡ true = sym (follows (t - 2) within) ∙ e in
        sym (rank_at (reached blocks) 2 2 blocks marks h.long follows (t - 2) within kept)
        ∙ ap (λ l. rank_from 2 l (2 + (t - 2))) (kept_same blocks some) ∙ ap (rank_from 2 (reached blocks)) same
    by low false e =
        behind_kept (reached blocks) 2 2 blocks marks h.long follows
        ∙ ap (λ (l : List ℕ). 2 + length l) (kept_same blocks some)
        ∙ sym (rank_none 2 (reached blocks) t (false_from_ne_true (among t (reached blocks)) (λ m.
        let within = numbers_within 2 blocks t
        (among_filtered (λ b. among b (reached blocks)) (numbers_from 2 blocks) t
        (subst (λ l. among t l ≡ true) (reached_filtered blocks some) m)).0 in
        let high = within.1 in
        let long = h.long in
        let mark : get_or marks (t - 2) false ≡ true = follows (t - 2) (omega (arith, low, high, long))
        ∙ subst (λ i. among i (reached blocks) ≡ true) (omega (arith, low)) m in
        both_ways (get_or marks (t - 2) false) e mark)))

    go : (t < 2) ⊎ (2 ≤ t) → number_by marks t ≡ new_number (reached blocks) t
    go (inl high) = cond-true _ _ _ (lt-ltb t 2 high) ∙ sym (cond-true _ _ _ (lt-ltb t 2 high))
    go (inr low) =
        cond-false _ _ _ (le-ltb t 2 low) ∙ by low (get_or marks (t - 2) false) refl
        ∙ sym (cond-false _ _ _ (le-ltb t 2 low))

renamed_same : (f g : ℕ → ℕ) → ((t : ℕ) → f t ≡ g t) → (e : Ending) → renamed f e ≡ renamed g e
renamed_same f g h (Ending.Jump t) = ap Ending.Jump (h t)
renamed_same f g h (Ending.Back t) = ap Ending.Back (h t)
renamed_same f g h (Ending.Branch a b) = ap (λ x. Ending.Branch x (f b)) (h a) ∙ ap (Ending.Branch (g a)) (h b)
renamed_same f g h (Ending.Switch cases default) = ap (λ (x : List (ℤ × ℕ)). Ending.Switch x (f default)) (go cases)
    ∙ ap (λ (d : ℕ). Ending.Switch (map {B = ℤ × ℕ} (λ (c : ℤ × ℕ). (c.0, g c.1)) cases) d) (h default)
  where
    go : (cases : List (ℤ × ℕ)) → map {B = ℤ × ℕ} (λ (c : ℤ × ℕ). (c.0, f c.1)) cases ≡ map {B = ℤ × ℕ}
        (λ (c : ℤ × ℕ). (c.0, g c.1)) cases
    go [] = refl
    go (c ∷ cases) = ap (λ (x : ℕ). (c.0, x) ∷ map {B = ℤ × ℕ} (λ (c : ℤ × ℕ). (c.0, f c.1)) cases) (h c.1)
        ∙ ap (λ (l : List (ℤ × ℕ)). (c.0, g c.1) ∷ l) (go cases)
renamed_same f g h (Ending.Call k line next) = ap (Ending.Call k line) (h next)
renamed_same f g h Ending.Return = refl
renamed_same f g h Ending.Exit = refl

kept_follow : (kept : List ℕ) (f : ℕ → ℕ) → ((t : ℕ) → f t ≡ new_number kept t)
    → (n : ℕ) (bs : List Block) (marks : List Bool) → length marks ≡ length bs → Follow kept n marks
    → kept_by f marks bs ≡ kept_blocks kept n bs
kept_follow kept f numbers n [] [] long h = refl
kept_follow kept f numbers n (b ∷ bs) [] long h = absurd (omega (arith, long))
kept_follow kept f numbers n [] (x ∷ marks) long h = absurd (omega (arith, long))
kept_follow kept f numbers n (b ∷ bs) (x ∷ marks) long h =
    let rest = kept_follow kept f numbers (suc n) bs marks (omega (arith, long)) (follow_on kept n x marks h) in
    ap (λ (c : Bool). cond c (record b { end = renamed f b.end } ∷ kept_by f marks bs) (kept_by f marks bs))
    (follow_here kept n x marks h)
    ∙ ap (λ (l : List Block). cond (among n kept) (record b { end = renamed f b.end } ∷ l) l) rest
    ∙ ap (λ (e : Ending). cond (among n kept) (record b { end = e } ∷ kept_blocks kept (suc n) bs)
    (kept_blocks kept (suc n) bs)) (renamed_same f (new_number kept) numbers b.end)

-- The marked blocks with the numbers by the marks are the kept blocks.
pub kept_by_marks : (blocks : List Block) (marks : List Bool) → AreReached blocks marks
    → kept_by (number_by marks) marks blocks ≡ kept_blocks (reached blocks) 2 blocks
kept_by_marks [] [] h = refl
kept_by_marks [] (x ∷ marks) h = absurd (let e = h.long in omega (arith, e))
kept_by_marks (b ∷ bs) marks h =
    kept_follow (reached (b ∷ bs)) (number_by marks) (number_is_new (b ∷ bs) marks h (omega arith)) 2 (b ∷ bs) marks
    h.long (λ k l. h.each k (let e = h.long in omega (arith, e, l)))

pub numbers_step : (numbers : List ℕ) (next : ℕ) (marks : List Bool) (k : ℕ) (all : List ℕ) → k < length marks
    → numbers ++ numbers_before next (drop k marks) ≡ all
    → (numbers ++ next ∷ []) ++ numbers_before (cond (get_or marks k false) (suc next) next) (drop (k + 1) marks) ≡ all
numbers_step numbers next marks k all l e =
    append_assoc numbers (next ∷ []) (numbers_before (cond (get_or marks k false) (suc next) next) (drop (k + 1) marks))
    ∙ ap (λ (r : List ℕ). numbers ++ r) (sym (at_drop_more (numbers_before next) marks k false l)) ∙ e

pub behind_step : (next : ℕ) (marks : List Bool) (k all : ℕ) → k < length marks → number_behind next (drop k marks)
    ≡ all → number_behind (cond (get_or marks k false) (suc next) next) (drop (k + 1) marks) ≡ all
behind_step next marks k all l e = sym (at_drop_more (number_behind next) marks k false l) ∙ e

pub numbers_long : (r : ℕ) (marks : List Bool) (numbers : List ℕ) → numbers ≡ numbers_before r marks
    → length numbers ≡ length marks
numbers_long r marks numbers e = ap length e ∙ long r marks
  where
    long : (r : ℕ) (marks : List Bool) → length (numbers_before r marks) ≡ length marks
    long r [] = refl
    long r (m ∷ marks) = ap suc (long (cond m (suc r) r) marks)

pub switch_renamed : (f : ℕ → ℕ) (held given : List (ℤ × ℕ)) (default d : ℕ)
    → given ≡ map {B = ℤ × ℕ} (λ (c : ℤ × ℕ). (c.0, f c.1)) held → d ≡ f default
    → Ending.Switch (map {B = ℤ × ℕ} (λ (c : ℤ × ℕ). (c.0, c.1)) given) d
    ≡ renamed f (Ending.Switch (map {B = ℤ × ℕ} (λ (c : ℤ × ℕ). (c.0, c.1)) held) default)
switch_renamed f held given default d e g =
    ap (λ (l : List (ℤ × ℕ)). Ending.Switch l d)
    (map-id given ∙ e ∙ ap (λ (l : List (ℤ × ℕ)). map {B = ℤ × ℕ} (λ (c : ℤ × ℕ). (c.0, f c.1)) l)
    (sym (map-id held)))
    ∙ ap
    (λ (x : ℕ). Ending.Switch (map {B = ℤ × ℕ} (λ (c : ℤ × ℕ). (c.0, f c.1))
    (map {B = ℤ × ℕ} (λ (c : ℤ × ℕ). (c.0, c.1)) held)) x) g

-- one block more
pub kept_step : (f : ℕ → ℕ) (marks : List Bool) (blocks : List Block) (k : ℕ) (kept new all : List Block)
    → k < length marks → length marks ≡ length blocks
    → kept ++ kept_by f (drop k marks) (drop k blocks) ≡ all → new ≡ kept ++ kept_here f (get_or marks k false)
    (slice_get blocks k) → new ++ kept_by f (drop (k + 1) marks) (drop (k + 1) blocks) ≡ all
kept_step f marks blocks k kept new all l long e n =
    let next : k + 1 ≡ suc k = omega arith in
    ap (λ (x : List Block). x ++ kept_by f (drop (k + 1) marks) (drop (k + 1) blocks)) n
    ∙ append_assoc kept (kept_here f (get_or marks k false) (slice_get blocks k))
    (kept_by f (drop (k + 1) marks) (drop (k + 1) blocks))
    ∙ ap
    (λ i. kept ++ (kept_here f (get_or marks k false) (slice_get blocks k) ++ kept_by f (drop i marks)
    (drop i blocks))) next
    ∙ ap (λ (x : List Block). kept ++ x) (by k marks blocks l long) ∙ e
  where
    by : (k : ℕ) (marks : List Bool) (blocks : List Block) → k < length marks → length marks ≡ length blocks
        → kept_here f (get_or marks k false) (slice_get blocks k) ++ kept_by f (drop (suc k) marks)
        (drop (suc k) blocks) ≡ kept_by f (drop k marks) (drop k blocks)
    by k [] bs l long = absurd (omega (arith, l))
    by k (m ∷ marks) [] l long = absurd (omega (arith, long))
    by zero (true ∷ marks) (b ∷ bs) l long = refl
    by zero (false ∷ marks) (b ∷ bs) l long = refl
    by (suc k) (m ∷ marks) (b ∷ bs) l long = by k marks bs (omega (arith, l)) (omega (arith, long))

pub kept_of_marks : (blocks kept : List Block) (marks numbers : List Bool)
    → kept ≡ kept_by (number_by numbers) numbers blocks → numbers ≡ marks → AreReached blocks marks
    → kept ≡ kept_blocks (reached blocks) 2 blocks
kept_of_marks blocks kept marks numbers e n h = e ∙ ap (λ (m : List Bool). kept_by (number_by m) m blocks) n
    ∙ kept_by_marks blocks marks h

pub behind_low : (n : ℕ) (marks : List Bool) → n ≤ number_behind n marks
behind_low n [] = omega arith
behind_low n (true ∷ marks) = (let h = behind_low (suc n) marks in omega (arith, h))
behind_low n (false ∷ marks) = behind_low n marks

-- where a marked block comes next, the number behind the last is above
pub behind_above : (next : ℕ) (marks : List Bool) (k all : ℕ) → k < length marks → number_behind next (drop k marks)
    ≡ all → get_or marks k false ≡ true → next < all
behind_above next marks k all l e m =
    let here : number_behind (cond (get_or marks k false) (suc next) next) (drop (k + 1) marks) ≡ all =
    behind_step next marks k all l e in
    let there : number_behind (suc next) (drop (k + 1) marks) ≡ all =
    ap (λ (c : Bool). number_behind (cond c (suc next) next) (drop (k + 1) marks)) (sym m) ∙ here in
    let low = behind_low (suc next) (drop (k + 1) marks) in
    omega (arith, low, there)

-- as many as are kept
pub behind_pruned : (blocks : List Block) (marks : List Bool) → AreReached blocks marks
    → number_behind 2 marks ≡ 2 + length (kept_blocks (reached blocks) 2 blocks)
behind_pruned blocks marks h =
    behind_kept (reached blocks) 2 2 blocks marks h.long (λ k l. h.each k (let e = h.long in omega (arith, e, l)))
    ∙ ap (λ n. 2 + n) (sym (length_kept (reached blocks) 2 blocks))
