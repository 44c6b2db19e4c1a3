-- The arcs at the front that leave the same block.
use Rattle.std.proofs.Common.{◌≡◌, ◌≤◌, ◌<◌, refl, sym, ap, subst, ◌∙◌, ℕ, suc, Bool, true, false, not, ◌++◌}
use Rattle.std.proofs.Common.{cond, ltb, List, [], ◌∷◌, length, take, drop, ◌==◌, eqb-true, eq-eqb, arith}
use Rattle.std.specs.Prelude.{Some, None}
use Rattle.std.specs.List.{position, position_or_len}
use Rattle.std.proofs.lemmas.Bool.{cond-true, cond-false, ltb-false, ne_eqb}
use Rattle.std.proofs.lemmas.Option.{same_Some}
use Rattle.std.proofs.lemmas.List.Sums.{prefix_len-le-length}
use Rattle.std.proofs.lemmas.List.Recursion.{is_position_or_len}
use Rattle.gcno_format.specs.declared.marks.Marked.{Marked}
use Rattle.gcno_format.specs.Marks.{Leaving, joined, leavings, block_of, leaves_other, front_leaving}

-- how many arcs at the front leave a block
abbrev run : ℕ → List Marked → ℕ
run b [] = 0
run b (m ∷ more) = cond (leaves_other b m) 0 (suc (run b more))

run_is : (b : ℕ) (ms : List Marked) → run b ms ≡ position_or_len (leaves_other b) ms
run_is b ms = is_position_or_len (run b) (leaves_other b) refl (λ x xs. ap (cond (leaves_other b x) 0) (omega arith)) ms

abbrev group : ℕ → ℕ → List Marked → List Leaving
group b k ms = record { block = b; arcs = take k ms } ∷ leavings (drop k ms)

one_more : (m n : Marked) (ns : List Marked) (x : Bool) → (n.from == m.from) ≡ x
    → leavings (n ∷ ns) ≡ group n.from (suc (run n.from ns)) (n ∷ ns)
    → leavings (m ∷ n ∷ ns) ≡ group m.from (suc (run m.from (n ∷ ns))) (m ∷ n ∷ ns)
one_more m n ns true same h =
    let e : n.from ≡ m.from = eqb-true n.from m.from same in
    ap (joined m) h ∙ (cond-true (n.from == m.from) _ _ same
    ∙ (ap (λ k. record { block = k; arcs = m ∷ take (suc (run k ns)) (n ∷ ns) } ∷ leavings (drop (suc (run k ns)) (n ∷ ns))) e
    ∙ ap (λ k. group m.from (suc k) (m ∷ n ∷ ns)) (sym (cond-false (not (n.from == m.from)) 0 (suc (run m.from ns)) (ap not same)))))
one_more m n ns false other h =
    ap (joined m) h ∙ (cond-false (n.from == m.from) _ _ other
    ∙ (ap (λ (l : List Leaving). record { block = m.from; arcs = m ∷ [] } ∷ l) (sym h)
    ∙ ap (λ k. group m.from (suc k) (m ∷ n ∷ ns)) (sym (cond-true (not (n.from == m.from)) 0 (suc (run m.from ns)) (ap not other)))))

first_group : (m : Marked) (ms : List Marked) → leavings (m ∷ ms) ≡ group m.from (suc (run m.from ms)) (m ∷ ms)
first_group m [] = refl
first_group m (n ∷ ns) = one_more m n ns (n.from == m.from) refl (first_group n ns)

-- the arcs at the front that leave one block, and those behind them
pub record IsFront (n : ℕ) (arcs : List Marked) : Type 0 where
  pub some : 0 < n
  pub within : n ≤ length arcs
  pub front : leavings arcs ≡ front_leaving n arcs ∷ leavings (drop n arcs)

run_within : (b : ℕ) (ms : List Marked) → run b ms ≤ length ms
run_within b ms = subst (λ n. n ≤ length ms) (sym (run_is b ms)) (prefix_len-le-length (λ m. not (leaves_other b m)) ms)

is_front : (m : Marked) (ms : List Marked) (n : ℕ) → n ≡ run m.from (m ∷ ms) → IsFront n (m ∷ ms)
is_front m ms n e =
    let own : (m.from == m.from) ≡ true = eq-eqb m.from m.from refl in
    let all : n ≡ suc (run m.from ms) = e ∙ cond-false (leaves_other m.from m) 0 (suc (run m.from ms)) (ap not own) in
    subst (λ k. IsFront k (m ∷ ms)) (sym all) (record {
      some = omega arith;
      within = (let l = run_within m.from ms in omega (arith, l));
      front = first_group m ms;
    })

-- the first arc that leaves another block ends the front
pub front_found : (arcs : List Marked) (k : ℕ) → 0 < length arcs
    → position (leaves_other (block_of arcs)) arcs ≡ Some k → IsFront k arcs
front_found [] k lt e = absurd (omega (arith, lt))
front_found (m ∷ ms) k lt e = is_front m ms k (sym (run_is m.from (m ∷ ms) ∙ found_is _ _ k e))
  where
    found_is : (n l k : ℕ) → cond (ltb n l) (Some n) None ≡ Some k → n ≡ k
    found_is n l k e = go (ltb n l) e
      where
        go : (b : Bool) → cond b (Some n) None ≡ Some k → n ≡ k
        go true e = same_Some n k e
        go false e = absurd cc

-- where there is none, all arcs are the front
pub front_whole : (arcs : List Marked) → 0 < length arcs
    → position (leaves_other (block_of arcs)) arcs ≡ None → IsFront (length arcs) arcs
front_whole [] lt e = absurd (omega (arith, lt))
front_whole (m ∷ ms) lt e =
    is_front m ms (length (m ∷ ms))
    (let w = run_within m.from (m ∷ ms) in
    let l = past _ _ e in
    let s = run_is m.from (m ∷ ms) in omega (arith, w, l, s))
  where
    past : (n l : ℕ) → cond (ltb n l) (Some n) None ≡ None → l ≤ n
    past n l e = go (ltb n l) refl e
      where
        go : (b : Bool) → ltb n l ≡ b → cond b (Some n) None ≡ None → l ≤ n
        go true t e = absurd cc
        go false t e = ltb-false n l t

-- ---- further arcs

-- all arcs leave a block
abbrev pub AllLeave : ℕ → List Marked → Type 0
AllLeave b [] = Unit {0}
AllLeave b (m ∷ ms) = (m.from ≡ b) × AllLeave b ms

-- all arcs leave blocks below this one
abbrev pub AllBelow : ℕ → List Marked → Type 0
AllBelow b [] = Unit {0}
AllBelow b (m ∷ ms) = (m.from < b) × AllBelow b ms

-- arcs that leave one block are told together
pub one_leaving : (b : ℕ) (m : Marked) (ms : List Marked) → AllLeave b (m ∷ ms)
    → leavings (m ∷ ms) ≡ record { block = b; arcs = m ∷ ms } ∷ []
one_leaving b m [] h = ap (λ k. record { block = k; arcs = m ∷ [] } ∷ []) h.0
one_leaving b m (n ∷ ns) h =
    ap (joined m) (one_leaving b n ns h.1)
    ∙ cond-true (b == m.from) _ _ (eq-eqb b m.from (sym h.0))

joined_before : (m : Marked) (ls : List Leaving) (l : Leaving) → m.from < l.block
    → joined m (ls ++ l ∷ []) ≡ joined m ls ++ l ∷ []
joined_before m [] l lt = cond-false (l.block == m.from) _ _ (ne_eqb l.block m.from (λ e. absurd (omega (arith, e, lt))))
joined_before m (k ∷ ls) l lt = go (k.block == m.from)
  where
    go : (x : Bool)
        → cond x (record { block = k.block; arcs = m ∷ k.arcs } ∷ (ls ++ l ∷ []))
        (record { block = m.from; arcs = m ∷ [] } ∷ k ∷ (ls ++ l ∷ []))
        ≡ cond x (record { block = k.block; arcs = m ∷ k.arcs } ∷ ls)
        (record { block = m.from; arcs = m ∷ [] } ∷ k ∷ ls) ++ l ∷ []
    go true = refl
    go false = refl

-- arcs that leave a later block are told behind the others
pub leavings_append : (b : ℕ) (ms : List Marked) (n : Marked) (ns : List Marked) → AllBelow b ms
    → AllLeave b (n ∷ ns) → leavings (ms ++ n ∷ ns) ≡ leavings ms ++ record { block = b; arcs = n ∷ ns } ∷ []
leavings_append b [] n ns below h = one_leaving b n ns h
leavings_append b (m ∷ ms) n ns below h =
    ap (joined m) (leavings_append b ms n ns below.1 h)
    ∙ joined_before m (leavings ms) (record { block = b; arcs = n ∷ ns }) below.0
