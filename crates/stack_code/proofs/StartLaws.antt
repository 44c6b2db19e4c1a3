-- How long the code of endings and blocks is, and where blocks begin.
use Rattle.std.proofs.Common.{◌≡◌, ◌≢◌, refl, sym, ap, ap₂, ◌∙◌, ℕ, suc, ◌+◌, ◌-◌, ◌<◌, ◌≤◌, ◌==◌, Bool}
use Rattle.std.proofs.Common.{true, false, cond, List, [], ◌∷◌, ◌++◌, length, drop, get_or, arith, length-append}
use Rattle.std.proofs.Common.{append_assoc, append-nil, eq-eqb}
use Rattle.std.specs.Prelude.{ℤ, nat_lt}
use Rattle.std.proofs.lemmas.Bool.{lt-ltb, le-ltb, ne_eqb}
use Rattle.std.proofs.lemmas.List.{drop_more, drop_all}
use Rattle.flow_graph.proofs.LineLaws.{Order, order}
use Rattle.stack_ops.specs.declared.operation.Op.{Op}
use Rattle.stack_ops.specs.declared.operation.Op.TheVariants as op
use Rattle.flow_graph.specs.Graph.{Ending, Block}
use Rattle.stack_code.specs.Laying.{is_bare, tail, stub, goals, stubs, end_code, block_code, block_size, start_of, codes}
use Rattle.stack_code.specs.Places.{place_in, end_size}
use Rattle.stack_code.proofs.LaidLaws.{size_end, size_block, switch_size}

-- ---- lengths

pub tail_near : (next : ℕ) (ms : List Op) (t place : ℕ) → t ≡ next → length (tail next ms t place) ≡ length ms
tail_near next ms t place e = rw (eq-eqb t next e) (ap (λ (l : List Op). length l) (append-nil ms))

pub tail_far : (next : ℕ) (ms : List Op) (t place : ℕ) → t ≢ next → length (tail next ms t place) ≡ length ms + 1
tail_far next ms t place e = rw (ne_eqb t next e) (length-append ms (op.Jump place ∷ []))

pub stub_bare : (ms : List Op) (place : ℕ) → length ms ≡ 0 → length (stub ms place) ≡ 0
stub_bare [] place e = refl
stub_bare (o ∷ os) place e = absurd (omega (arith, e))

pub stub_long : (ms : List Op) (place : ℕ) → length ms ≢ 0 → length (stub ms place) ≡ length ms + 1
stub_long [] place e = absurd (e refl)
stub_long (o ∷ os) place e = length-append (o ∷ os) (op.Jump place ∷ [])

pub bare : (ms : List Op) → length ms ≡ 0 → is_bare ms ≡ true
bare [] e = refl
bare (o ∷ os) e = absurd (omega (arith, e))

pub not_bare : (ms : List Op) → length ms ≢ 0 → is_bare ms ≡ false
not_bare [] e = absurd (e refl)
not_bare (o ∷ os) e = refl

pub block_long : (m : ℕ → List Op) (next : ℕ) (b : Block)
    → block_size m next b ≡ length b.ops + end_size m next b.end
block_long m next b =
    length-append b.ops (end_code m next (λ x. 0) (0 + length b.ops) b.end)
    ∙ ap (λ n. length b.ops + n) (size_end m next (λ x. 0) (λ x. 0) (0 + length b.ops) 0 b.end)

-- ---- places

-- where each of these blocks begins, if the first has the number a and begins at p
abbrev pub starts_list : (ℕ → ℕ → List Op) → ℕ → ℕ → List Block → List ℕ
starts_list m a p [] = []
starts_list m a p (b ∷ bs) = p ∷ starts_list m (suc a) (p + block_size (m a) (suc a) b) bs

-- where the last of them ends
abbrev pub end_of : (ℕ → ℕ → List Op) → ℕ → ℕ → List Block → ℕ
end_of m a p [] = p
end_of m a p (b ∷ bs) = end_of m (suc a) (p + block_size (m a) (suc a) b) bs

pub end_above : (m : ℕ → ℕ → List Op) (a p : ℕ) (bs : List Block) → p ≤ end_of m a p bs
end_above m a p [] = omega arith
end_above m a p (b ∷ bs) =
    let rest = end_above m (suc a) (p + block_size (m a) (suc a) b) bs in omega (arith, rest)

-- the table of places tells where blocks begin
found : (m : ℕ → ℕ → List Op) (a p : ℕ) (bs : List Block) (x : ℕ)
    → cond (nat_lt x a) (end_of m a p bs) (get_or (starts_list m a p bs) (x - a) (end_of m a p bs))
    ≡ start_of m a p bs x
found m a p [] x = by (nat_lt x a)
  where
    by : (z : Bool) → cond z p p ≡ p
    by true = refl
    by false = refl
found m a p (b ∷ bs) x = by (order x a) (found m (suc a) (p + block_size (m a) (suc a) b) bs x)
  where
    by : Order x a
        → cond (nat_lt x (suc a)) (end_of m (suc a) (p + block_size (m a) (suc a) b) bs)
        (get_or (starts_list m (suc a) (p + block_size (m a) (suc a) b) bs) (x - suc a)
        (end_of m (suc a) (p + block_size (m a) (suc a) b) bs))
        ≡ start_of m (suc a) (p + block_size (m a) (suc a) b) bs x
        → cond (nat_lt x a) (end_of m (suc a) (p + block_size (m a) (suc a) b) bs)
        (get_or (p ∷ starts_list m (suc a) (p + block_size (m a) (suc a) b) bs) (x - a)
        (end_of m (suc a) (p + block_size (m a) (suc a) b) bs))
        ≡ cond (x == a) p (start_of m (suc a) (p + block_size (m a) (suc a) b) bs x)
    by (Order.below lt) later =
        rw (lt-ltb x a lt, ne_eqb x a (λ e. omega (arith, e, lt)))
        (rw (lt-ltb x (suc a) (omega (arith, lt))) at later)
    by (Order.same e) later =
        let z : x - a ≡ 0 = omega (arith, e) in
        rw (le-ltb x a (omega (arith, e)), eq-eqb x a e, z) refl
    by (Order.above lt) later =
        let s : x - a ≡ suc (x - suc a) = omega (arith, lt) in
        rw (le-ltb x a (omega (arith, lt)), ne_eqb x a (λ e. omega (arith, e, lt)), s)
        (rw (le-ltb x (suc a) (omega (arith, lt))) at later)

pub places_found : (m : ℕ → ℕ → List Op) (p : ℕ) (bs : List Block) (places : List ℕ) (end x : ℕ)
    → places ≡ starts_list m 2 p bs → end ≡ end_of m 2 p bs → place_in places end x ≡ start_of m 2 p bs x
places_found m p bs places end x e h =
    ap₂ (λ (l : List ℕ) (n : ℕ). place_in l n x) e h ∙ found m 2 p bs x

pub end_found : (m : ℕ → ℕ → List Op) (p : ℕ) (bs : List Block) → start_of m 2 p bs 0 ≡ end_of m 2 p bs
end_found m p bs = sym (found m 2 p bs 0)

-- ---- the loop over blocks

pub starts_step : (m : ℕ → ℕ → List Op) (bs : List Block) (d : Block) (k a n p q : ℕ) (places more whole : List ℕ)
    → k < length bs → n ≡ suc a → q ≡ p + block_size (m a) (suc a) (get_or bs k d) → more ≡ places ++ p ∷ []
    → places ++ starts_list m a p (drop k bs) ≡ whole → more ++ starts_list m n q (drop (k + 1) bs) ≡ whole
starts_step m bs d k a n p q places more whole l e h s whole_is =
    ap (λ (x : List ℕ). x ++ starts_list m n q (drop (k + 1) bs)) s
    ∙ append_assoc places (p ∷ []) (starts_list m n q (drop (k + 1) bs))
    ∙ ap₂ (λ (i j : ℕ). places ++ p ∷ starts_list m i j (drop (k + 1) bs)) e h
    ∙ ap (λ (rest : List Block). places ++ starts_list m a p rest) (sym (drop_more bs k d l)) ∙ whole_is

pub end_step : (m : ℕ → ℕ → List Op) (bs : List Block) (d : Block) (k a n p q whole : ℕ)
    → k < length bs → n ≡ suc a → q ≡ p + block_size (m a) (suc a) (get_or bs k d)
    → end_of m a p (drop k bs) ≡ whole → end_of m n q (drop (k + 1) bs) ≡ whole
end_step m bs d k a n p q whole l e h whole_is =
    ap₂ (λ (i j : ℕ). end_of m i j (drop (k + 1) bs)) e h
    ∙ ap (λ (rest : List Block). end_of m a p rest) (sym (drop_more bs k d l)) ∙ whole_is

-- what is left has room
pub end_room : (m : ℕ → ℕ → List Op) (bs : List Block) (d : Block) (k a p whole : ℕ) → k < length bs
    → end_of m a p (drop k bs) ≡ whole → p + block_size (m a) (suc a) (get_or bs k d) ≤ whole
end_room m bs d k a p whole l e =
    let up = end_above m (suc a) (p + block_size (m a) (suc a) (get_or bs k d)) (drop (k + 1) bs) in
    let all = end_step m bs d k a (suc a) p (p + block_size (m a) (suc a) (get_or bs k d)) whole l refl refl e in
    omega (arith, up, all)

pub starts_end : (m : ℕ → ℕ → List Op) (bs : List Block) (k a p : ℕ) (places whole : List ℕ) → length bs ≤ k
    → places ++ starts_list m a p (drop k bs) ≡ whole → places ≡ whole
starts_end m bs k a p places whole l h =
    sym (append-nil places) ∙ ap (λ (rest : List Block). places ++ starts_list m a p rest) (sym (drop_all k bs l)) ∙ h

pub end_end : (m : ℕ → ℕ → List Op) (bs : List Block) (k a p whole : ℕ) → length bs ≤ k
    → end_of m a p (drop k bs) ≡ whole → p ≡ whole
end_end m bs k a p whole l h = ap (λ (rest : List Block). end_of m a p rest) (sym (drop_all k bs l)) ∙ h

-- how long a switch is
pub switch_long : (m : ℕ → List Op) (next : ℕ) (cases : List (ℤ × ℕ)) (d : ℕ)
    → end_size m next (Ending.Switch cases d)
    ≡ length cases + suc (length (m d) + 1 + length (stubs m (λ x. 0) (goals cases)))
switch_long m next cases d = switch_size m (λ x. 0) (0 + length cases + 1 + (length (m d) + 1)) cases d

-- the code of blocks reaches to where the last of them ends
pub codes_reach : (m : ℕ → ℕ → List Op) (s : ℕ → ℕ) (a p : ℕ) (bs : List Block)
    → end_of m a p bs ≡ p + length (codes m s a p bs)
codes_reach m s a p [] = omega arith
codes_reach m s a p (b ∷ bs) =
    let rest = codes_reach m s (suc a) (p + block_size (m a) (suc a) b) bs in
    let one = size_block (m a) (suc a) s p b in
    let n = length-append (block_code (m a) (suc a) s p b)
    (codes m s (suc a) (p + block_size (m a) (suc a) b) bs) in
    omega (arith, rest, one, n)
