-- The first mark of the table that a text begins with is the longest one.
use Rattle.std.proofs.Common.{◌≡◌, ℕ, ◌<◌, ◌≤◌, Bool, true, false, nat_eq, cond, List, [], ◌∷◌, ◌++◌, length, take, drop, Option, Some, None, MatchOption, IfSome, zero, suc, refl, sym, ap, ◌∙◌, subst, arith, rules}
use Rattle.std.specs.List.{starts_with}
use Rattle.std.specs.Str.{bytes_eq}
use Rattle.std.proofs.lemmas.Slice.Eq.{bytes_eq-Decides, starts_is}
use Rattle.std.proofs.lemmas.Bool.Decides.{Decides-eqb}
use Rattle.std.proofs.Math.Seq.{take-append_seam}
use Rattle.c_tokens.specs.declared.token.Punct.{Punct}
use Rattle.c_tokens.specs.Marks.{marks, first_mark, BeginsMark, IsLongestMark}
use Rattle.c_tokens.specs.Words.{look_up}

abbrev Table : Type 0
Table = List (List ℕ × Punct)

-- the marks have at most so many bytes
abbrev AreShort : ℕ → Table → Type 0
AreShort n [] = Unit {0}
AreShort n (m ∷ ms) = (length m.0 ≤ n) × AreShort n ms

-- no mark is shorter than one behind it
abbrev Descends : Table → Type 0
Descends [] = Unit {0}
Descends (m ∷ ms) = AreShort (length m.0) ms × Descends ms

look_up-short : (ms : Table) (n : ℕ) (spelling : List ℕ) (m : Punct) → AreShort n ms → look_up ms spelling ≡ Some m → length spelling ≤ n
look_up-short [] n spelling m short e = cc
look_up-short (x ∷ ms) n spelling m short e = go (bytes_eq spelling x.0) refl (look_up-short ms n spelling m short.1) e
  where
    go : (b : Bool) → bytes_eq spelling x.0 ≡ b → (look_up ms spelling ≡ Some m → length spelling ≤ n)
        → cond b (Some x.1) (look_up ms spelling) ≡ Some m → length spelling ≤ n
    go true is again e =
        let same : spelling ≡ x.0 = (bytes_eq-Decides spelling x.0).0 is in
        let size = ap length same in let most = short.0 in omega arith
    go false is again e = again e

-- what a mark that a text begins with makes of the test
starts : (text spelling rest : List ℕ) → text ≡ spelling ++ rest → starts_with nat_eq text spelling ≡ true
starts text spelling rest is = (starts_is Decides-eqb text spelling (starts_with nat_eq text spelling) refl).1 rest is

started : (text spelling : List ℕ) → starts_with nat_eq text spelling ≡ true → text ≡ spelling ++ drop (length spelling) text
started text spelling is = (starts_is Decides-eqb text spelling (starts_with nat_eq text spelling) refl).0 is

-- the mark that is found is one of the table, and the text begins with it
record IsFound (ms : Table) (text : List ℕ) (n : ℕ) (m : Punct) : Type 0 where
  listed : look_up ms (take n text) ≡ Some m
  front : text ≡ take n text ++ drop n text
  size : length (take n text) ≡ n

first_mark-found : (ms : Table) (text : List ℕ) (n : ℕ) (m : Punct) → first_mark ms text ≡ Some (n, m) → IsFound ms text n m
first_mark-found [] text n m e = cc
first_mark-found (x ∷ ms) text n m e = go (starts_with nat_eq text x.0) refl (first_mark-found ms text n m) e
  where
    fronts : starts_with nat_eq text x.0 ≡ true → take (length x.0) text ≡ x.0
    fronts is = ap (take (length x.0)) (started text x.0 is) ∙ take-append_seam x.0 (drop (length x.0) text)

    here : starts_with nat_eq text x.0 ≡ true → IsFound (x ∷ ms) text (length x.0) x.1
    here is = record {
      listed = ap (λ b. cond b (Some x.1) (look_up ms (take (length x.0) text))) ((bytes_eq-Decides (take (length x.0) text) x.0).1 (fronts is));
      front = started text x.0 is ∙ ap (λ f. f ++ drop (length x.0) text) (sym (fronts is));
      size = ap length (fronts is);
    }

    later : starts_with nat_eq text x.0 ≡ false → IsFound ms text n m → IsFound (x ∷ ms) text n m
    later is found = record { listed = other (bytes_eq (take n text) x.0) refl; front = found.front; size = found.size }
      where
        other : (b : Bool) → bytes_eq (take n text) x.0 ≡ b → cond b (Some x.1) (look_up ms (take n text)) ≡ Some m
        other true same =
            let spelled = (bytes_eq-Decides (take n text) x.0).0 same in
            let yes_starts = starts text x.0 (drop n text) (found.front ∙ ap (λ f. f ++ drop n text) spelled) in
            let both : true ≡ false = sym yes_starts ∙ is in cc
        other false same = found.listed

    go : (b : Bool) → starts_with nat_eq text x.0 ≡ b → (first_mark ms text ≡ Some (n, m) → IsFound ms text n m)
        → cond b (Some (length x.0, x.1)) (first_mark ms text) ≡ Some (n, m) → IsFound (x ∷ ms) text n m
    go true is again e =
        let pair : ◌≡◌ {A = ℕ × Punct} (length x.0, x.1) (n, m) = cc in
        subst (λ (p : ℕ × Punct). IsFound (x ∷ ms) text p.0 p.1) pair (here is)
    go false is again e = later is (again e)

first_mark-longest : (ms : Table) (text : List ℕ) (n : ℕ) (m : Punct) → Descends ms → first_mark ms text ≡ Some (n, m)
    → (other rest : List ℕ) (k : Punct) → look_up ms other ≡ Some k → text ≡ other ++ rest → length other ≤ n
first_mark-longest [] text n m down e other rest k listed front = cc
first_mark-longest (x ∷ ms) text n m down e other rest k listed front =
    go (starts_with nat_eq text x.0) refl (bytes_eq other x.0) refl (λ e l. first_mark-longest ms text n m down.1 e other rest k l front) e listed
  where
    go : (b : Bool) → starts_with nat_eq text x.0 ≡ b → (s : Bool) → bytes_eq other x.0 ≡ s
        → (first_mark ms text ≡ Some (n, m) → look_up ms other ≡ Some k → length other ≤ n)
        → cond b (Some (length x.0, x.1)) (first_mark ms text) ≡ Some (n, m) → cond s (Some x.1) (look_up ms other) ≡ Some k → length other ≤ n
    go true is true same again e listed =
        let size = ap length ((bytes_eq-Decides other x.0).0 same) in
        let pair : ◌≡◌ {A = ℕ × Punct} (length x.0, x.1) (n, m) = cc in
        let found = ap (λ p. p.0) pair in omega arith
    go true is false same again e listed =
        let most = look_up-short ms (length x.0) other k down.0 listed in
        let pair : ◌≡◌ {A = ℕ × Punct} (length x.0, x.1) (n, m) = cc in
        let found = ap (λ p. p.0) pair in omega arith
    go false is true same again e listed =
        let spelled = (bytes_eq-Decides other x.0).0 same in
        let yes_starts = starts text x.0 rest (front ∙ ap (λ f. f ++ rest) spelled) in
        absurd (let both : true ≡ false = sym yes_starts ∙ is in cc)
    go false is false same again e listed = again e listed

first_mark-none : (ms : Table) (text : List ℕ) → first_mark ms text ≡ None
    → (other rest : List ℕ) (k : Punct) → look_up ms other ≡ Some k → text ≡ other ++ rest → ⊥
first_mark-none [] text e other rest k listed front = cc
first_mark-none (x ∷ ms) text e other rest k listed front =
    go (starts_with nat_eq text x.0) refl (bytes_eq other x.0) refl (λ e l. first_mark-none ms text e other rest k l front) e listed
  where
    go : (b : Bool) → starts_with nat_eq text x.0 ≡ b → (s : Bool) → bytes_eq other x.0 ≡ s
        → (first_mark ms text ≡ None → look_up ms other ≡ Some k → ⊥)
        → cond b (Some (length x.0, x.1)) (first_mark ms text) ≡ None → cond s (Some x.1) (look_up ms other) ≡ Some k → ⊥
    go true is s same again e listed = cc
    go false is true same again e listed =
        let spelled = (bytes_eq-Decides other x.0).0 same in
        let yes_starts = starts text x.0 rest (front ∙ ap (λ f. f ++ rest) spelled) in
        let both : true ≡ false = sym yes_starts ∙ is in cc
    go false is false same again e listed = again e listed

marks-descend : Descends marks
unfolding marks
marks-descend = search rules

no_empty_mark : look_up marks [] ≡ None
unfolding marks
no_empty_mark = refl

-- the mark that is found first is the longest
pub longest_mark : (text : List ℕ) (n : ℕ) (m : Punct) → first_mark marks text ≡ Some (n, m) → IsLongestMark text (take n text) m
longest_mark text n m e =
    let found = first_mark-found marks text n m e in
    record {
      begins = record { listed = found.listed; rest = drop n text; front = found.front };
      longest = λ other k b. let most = first_mark-longest marks text n m marks-descend e other b.rest k b.listed b.front in let size = found.size in omega arith;
    }

pub no_mark : (text : List ℕ) → first_mark marks text ≡ None → (other : List ℕ) (m : Punct) → BeginsMark text other m → ⊥
no_mark text e other m b = first_mark-none marks text e other b.rest m b.listed b.front

-- a mark has a byte
mark-has_bytes : (text : List ℕ) (n : ℕ) (m : Punct) → first_mark marks text ≡ Some (n, m) → 0 < n
mark-has_bytes text zero m e = let none = no_empty_mark in let listed = (first_mark-found marks text zero m e).listed in absurd (let both : None ≡ Some m = sym none ∙ listed in cc)
mark-has_bytes text (suc n) m e = omega arith

pub found_mark : (text : List ℕ) (o : Option (ℕ × Punct)) → o ≡ first_mark marks text
    → MatchOption o ((other : List ℕ) (m : Punct) → BeginsMark text other m → ⊥) (λ found. IsLongestMark text (take found.0 text) found.1)
found_mark text None e = no_mark text (sym e)
found_mark text (Some found) e = longest_mark text found.0 found.1 (sym e)

pub found_within : (text : List ℕ) (o : Option (ℕ × Punct)) → o ≡ first_mark marks text → IfSome o (λ found. found.0 ≤ length text)
    → IfSome o (λ found. (0 < found.0) × (found.0 ≤ length text))
found_within text None e within = within
found_within text (Some found) e within = (mark-has_bytes text found.0 found.1 (sym e), within)
