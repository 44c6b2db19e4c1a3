-- Lines that are put among others: their order doesn't matter, and each stands once.
use Rattle.std.proofs.Common.{◌≡◌, refl, sym, ap, subst, ◌∙◌, ℕ, zero, suc, ◌+◌, length, drop, get_or, ◌<◌, ◌≤◌, ◌==◌}
use Rattle.std.proofs.Common.{Bool, true, false, nat_lt, List, [], ◌∷◌}
use Rattle.std.proofs.Common.{Option, Some, None, arith, eqb-true}
use Rattle.std.specs.Prelude.{slice_get}
use Rattle.std.specs.List.{insert}
use Rattle.std.proofs.lemmas.Option.{same_Some, none-some}
use Rattle.std.proofs.lemmas.Bool.{lt-ltb, le-ltb, ltb-true, ltb-false, eq-eqb}
use Rattle.c_tree.specs.Sound.{Each}
use Rattle.flow_graph.specs.Ascending.{inserted, Ascends, HasPlace}

-- how two numbers stand to each other
pub data Order (n l : ℕ) : Type 0 where
  below : n < l → Order n l
  same : n ≡ l → Order n l
  above : l < n → Order n l

strictly : (n l : ℕ) → l ≤ n → (n == l) ≡ false → l < n
strictly n l up f = grind (arith, eq-eqb n l, up, f)

pub order : (n l : ℕ) → Order n l
order n l = go (nat_lt n l) refl (n == l) refl
  where
    go : (x : Bool) → nat_lt n l ≡ x → (y : Bool) → (n == l) ≡ y → Order n l
    go true e y f = below (ltb-true n l e)
    go false e true f = same (eqb-true n l f)
    go false e false f = above (strictly n l (ltb-false n l e) f)

-- two numbers of which one is greater aren't the same
unlike : (n l : ℕ) → l < n → (n == l) ≡ false
unlike n l h = go (n == l) refl
  where
    go : (x : Bool) → (n == l) ≡ x → x ≡ false
    go true e = let same = eqb-true n l e in absurd (omega (arith, h, same))
    go false e = refl

pub put_below : (n l : ℕ) (ls : List ℕ) → n < l → inserted n (l ∷ ls) ≡ n ∷ l ∷ ls
put_below n l ls h = rw (lt-ltb n l h) refl

pub put_same : (n l : ℕ) (ls : List ℕ) → n ≡ l → inserted n (l ∷ ls) ≡ l ∷ ls
put_same n l ls e = rw (le-ltb n l (omega (arith, e)), eq-eqb n l e) refl

pub put_above : (n l : ℕ) (ls : List ℕ) → l < n → inserted n (l ∷ ls) ≡ l ∷ inserted n ls
put_above n l ls h = rw (le-ltb n l (omega (arith, h)), unlike n l h) refl

-- a line that is there already changes nothing
pub line_twice : (n : ℕ) (ls : List ℕ) → inserted n (inserted n ls) ≡ inserted n ls
line_twice n [] = put_same n n [] refl
line_twice n (l ∷ ls) = go (order n l) (line_twice n ls)
  where
    go : Order n l → inserted n (inserted n ls) ≡ inserted n ls → inserted n (inserted n (l ∷ ls)) ≡ inserted n (l ∷ ls)
    go (below h) more = rw (put_below n l ls h) (put_same n n (l ∷ ls) refl)
    go (same e) more = rw (put_same n l ls e) (put_same n l ls e)
    go (above h) more = rw (put_above n l ls h) (put_above n l (inserted n ls) h ∙ ap (λ (r : List ℕ). l ∷ r) more)

-- two lines may be put in either order
swapped_up : (a b : ℕ) (ls : List ℕ) → a < b → inserted a (inserted b ls) ≡ inserted b (inserted a ls)
swapped_up a b [] h = put_below a b [] h ∙ sym (put_above b a [] h)
swapped_up a b (l ∷ ls) h = go (order a l) (order b l) (swapped_up a b ls h)
  where
    go : Order a l → Order b l → inserted a (inserted b ls) ≡ inserted b (inserted a ls)
        → inserted a (inserted b (l ∷ ls)) ≡ inserted b (inserted a (l ∷ ls))
    go (below p) (below q) more =
        ap (inserted a) (put_below b l ls q) ∙ put_below a b (l ∷ ls) h
        ∙ sym (ap (inserted b) (put_below a l ls p) ∙ put_above b a (l ∷ ls) h ∙ ap (λ (r : List ℕ). a ∷ r)
        (put_below b l ls q))
    go (below p) (same e) more =
        ap (inserted a) (put_same b l ls e) ∙ put_below a l ls p
        ∙ sym (ap (inserted b) (put_below a l ls p) ∙ put_above b a (l ∷ ls) h ∙ ap (λ (r : List ℕ). a ∷ r)
        (put_same b l ls e))
    go (below p) (above q) more =
        ap (inserted a) (put_above b l ls q) ∙ put_below a l (inserted b ls) p
        ∙ sym (ap (inserted b) (put_below a l ls p) ∙ put_above b a (l ∷ ls) h ∙ ap (λ (r : List ℕ). a ∷ r)
        (put_above b l ls q))
    go (same e) (above q) more =
        ap (inserted a) (put_above b l ls q) ∙ put_same a l (inserted b ls) e
        ∙ sym (ap (inserted b) (put_same a l ls e) ∙ put_above b l ls q)
    go (above p) (above q) more =
        ap (inserted a) (put_above b l ls q) ∙ put_above a l (inserted b ls) p ∙ ap (λ (r : List ℕ). l ∷ r) more
        ∙ sym (ap (inserted b) (put_above a l ls p) ∙ put_above b l (inserted a ls) q)
    go (same e) (below q) more = absurd (omega (arith, h, e, q))
    go (same e) (same f) more = absurd (omega (arith, h, e, f))
    go (above p) (below q) more = absurd (omega (arith, h, p, q))
    go (above p) (same f) more = absurd (omega (arith, h, p, f))

pub swapped : (a b : ℕ) (ls : List ℕ) → inserted a (inserted b ls) ≡ inserted b (inserted a ls)
swapped a b ls = go (order a b)
  where
    go : Order a b → inserted a (inserted b ls) ≡ inserted b (inserted a ls)
    go (below h) = swapped_up a b ls h
    go (same e) = subst (λ (c : ℕ). inserted a (inserted c ls) ≡ inserted c (inserted a ls)) e refl
    go (above h) = sym (swapped_up b a ls h)

-- ---- ascending lines

each_more : (P Q : ℕ → Type 0) (ls : List ℕ) → ((k : ℕ) → P k → Q k) → Each P ls → Each Q ls
each_more P Q [] more h = tt
each_more P Q (l ∷ ls) more h = (more l h.0, each_more P Q ls more h.1)

-- what is so of a number and of those in a list is so of them all
pub each_with : (P : ℕ → Type 0) (n : ℕ) (ls : List ℕ) → P n → Each P ls → Each P (inserted n ls)
each_with P n [] p h = (p, tt)
each_with P n (l ∷ ls) p h = go (order n l) (each_with P n ls p h.1)
  where
    go : Order n l → Each P (inserted n ls) → Each P (inserted n (l ∷ ls))
    go (below b) more = rw (put_below n l ls b) (p, h)
    go (same e) more = rw (put_same n l ls e) h
    go (above a) more = rw (put_above n l ls a) (h.0, more)

pub ascends-with : (n : ℕ) (ls : List ℕ) → Ascends ls → Ascends (inserted n ls)
ascends-with n [] h = (tt, tt)
ascends-with n (l ∷ ls) h = go (order n l) (ascends-with n ls h.1)
  where
    go : Order n l → Ascends (inserted n ls) → Ascends (inserted n (l ∷ ls))
    go (below b) more =
        rw (put_below n l ls b) ((b, each_more (λ m. l < m) (λ m. n < m) ls (λ k up. omega (arith, b, up)) h.0), h)
    go (same e) more = rw (put_same n l ls e) h
    go (above a) more = subst Ascends (sym (put_above n l ls a)) (each_with (λ m. l < m) n ls a h.0, more)

-- a number below all others stands first
pub put_first : (l : ℕ) (ls : List ℕ) → Each (λ m. l < m) ls → inserted l ls ≡ l ∷ ls
put_first l [] h = refl
put_first l (m ∷ ls) h = put_below l m ls h.0

-- ---- places

each_get : (P : ℕ → Type 0) (ls : List ℕ) (k n : ℕ) → Each P ls → slice_get ls k ≡ Some n → P n
each_get P [] k n h e = absurd (none-some n e)
each_get P (l ∷ ls) zero n h e = subst P (same_Some l n e) h.0
each_get P (l ∷ ls) (suc k) n h e = each_get P ls k n h.1 e

-- a line that stands among ascending ones isn't put there again
pub there_already : (n : ℕ) (ls : List ℕ) (k : ℕ) → Ascends ls → slice_get ls k ≡ Some n → inserted n ls ≡ ls
there_already n [] k h e = absurd (none-some n e)
there_already n (l ∷ ls) zero h e = put_same n l ls (sym (same_Some l n e))
there_already n (l ∷ ls) (suc k) h e =
    put_above n l ls (each_get (λ m. l < m) ls k n h.0 e) ∙ ap (λ (r : List ℕ). l ∷ r) (there_already n ls k h.1 e)

each_at : (P : ℕ → Type 0) (ls : List ℕ) (k : ℕ) → Each P ls → k < length ls → P (get_or ls k 0)
each_at P [] k h lt = absurd (omega (arith, lt))
each_at P (l ∷ ls) zero h lt = h.0
each_at P (l ∷ ls) (suc k) h lt = each_at P ls k h.1 (omega (arith, lt))

-- a line has its place before those that are above it, and behind one that is below it, where one stands there
pub has_place : (n k : ℕ) (ls : List ℕ) → Ascends ls → k ≤ length ls → Each (λ m. n < m) (drop k ls)
    → ((j : ℕ) → suc j ≡ k → get_or ls j 0 < n) → HasPlace ls n k
has_place n k ls h le up down = record { within = le; put = go n k ls h le up down }
  where
    go : (n k : ℕ) (ls : List ℕ) → Ascends ls → k ≤ length ls → Each (λ m. n < m) (drop k ls)
        → ((j : ℕ) → suc j ≡ k → get_or ls j 0 < n) → inserted n ls ≡ insert ls k n
    go n zero [] h le up down = refl
    go n zero (l ∷ ls) h le up down = put_below n l ls up.0
    go n (suc k) [] h le up down = absurd (omega (arith, le))
    go n (suc zero) (l ∷ ls) h le up down =
        put_above n l ls (down 0 refl) ∙ ap (λ (r : List ℕ). l ∷ r)
        (go n zero ls h.1 (omega arith) up (λ j e. absurd (omega (arith, e))))
    go n (suc (suc k)) (l ∷ ls) h le up down =
        put_above n l ls (let low = down (suc k) refl in let first = each_at (λ m. l < m) ls k h.0 (omega (arith, le))
        in omega (arith, low, first))
        ∙ ap (λ (r : List ℕ). l ∷ r) (go n (suc k) ls h.1 (omega (arith, le)) up
        (λ j e. down (suc j) (omega (arith, e))))

-- what is so of the numbers from a place on, and of the one before it
pub each_from : (P : ℕ → Type 0) (ls : List ℕ) (k j : ℕ) → suc j ≡ k → k ≤ length ls → P (get_or ls j 0) → Each P
    (drop k ls) → Each P (drop j ls)
each_from P ls k j e le p h = go ls j (omega (arith, e, le)) p (subst (λ (k : ℕ). Each P (drop k ls)) (sym e) h)
  where
    go : (ls : List ℕ) (j : ℕ) → j < length ls → P (get_or ls j 0) → Each P (drop (suc j) ls) → Each P (drop j ls)
    go [] j lt p h = absurd (omega (arith, lt))
    go (l ∷ ls) zero lt p h = (p, h)
    go (l ∷ ls) (suc j) lt p h = go ls j (omega (arith, lt)) p h

-- the list with the line in its place is that list, and ascends
pub placed-ascends : (ls old new : List ℕ) (n k : ℕ) → Ascends old → ls ≡ old → HasPlace ls n k → new ≡ insert old k n
    → Ascends new
placed-ascends ls old new n k h equal there e =
    let own : inserted n old ≡ insert old k n = subst (λ (l : List ℕ). inserted n l ≡ insert l k n) equal there.put in
    subst Ascends (own ∙ sym e) (ascends-with n old h)

pub kept_whole : (ls old now : List ℕ) (n k : ℕ) → Ascends old → ls ≡ old → old ≡ now → slice_get ls k ≡ Some n → now ≡
    inserted n now
kept_whole ls old now n k h equal seen e =
    let own : old ≡ inserted n old = sym (there_already n old k h
    (subst (λ (l : List ℕ). slice_get l k ≡ Some n) equal e)) in
    subst (λ (l : List ℕ). l ≡ inserted n l) seen own
