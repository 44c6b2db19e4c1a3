-- Functions and lists of lines, one after the other, as loops make them.
use Rattle.std.proofs.Common.{◌≡◌, ◌≤◌, ◌<◌, ◌+◌, ◌-◌, refl, sym, ap, subst, ◌∙◌, ℕ, suc, List, [], ◌∷◌, ◌++◌}
use Rattle.std.proofs.Common.{length, map, drop, get_or, append_assoc, append-nil, inl, inr, arith}
use Rattle.std.proofs.Common.{true, ◌&&◌, ◌==◌, eqb-true, eq-eqb}
use Rattle.std.proofs.lemmas.Bool.{and_parts, and_from}
use Rattle.gcno_format.specs.declared.marks.Marked.{Marked}
use Rattle.std.proofs.lemmas.List.{drop_more}
use Rattle.std.proofs.Math.ListN.{drop_of_length-le}
use Rattle.gcov_records.specs.declared.fault.FileFault.{FileFault}
use Rattle.gcno_format.specs.Notes.{FunctionNotesValue}
use Rattle.gcno_format.specs.Layout.{LinesValue, LayoutValue}
use Rattle.gcno_format.specs.Values.{HoldsNet, AllHold, Fails, FirstFails, lines_of, lists_from, function_of}

-- one function more holds its net
pub held_more : (ls : List LayoutValue) (i : ℕ) (l d : LayoutValue) → i < length ls → l ≡ get_or ls i d → HoldsNet l
    → (AllHold (drop i ls) → AllHold ls) → AllHold (drop (i + 1) ls) → AllHold ls
held_more ls i l d lt e h all rest =
    all (subst AllHold (sym (drop_more ls i d lt)) (subst HoldsNet e h, rest))

pub fails_more : (ls : List LayoutValue) (i : ℕ) (l d : LayoutValue) (found : FileFault) → i < length ls
    → l ≡ get_or ls i d → HoldsNet l → (FirstFails (drop i ls) found → FirstFails ls found)
    → FirstFails (drop (i + 1) ls) found → FirstFails ls found
fails_more ls i l d found lt e h all rest =
    all (subst (λ (x : List LayoutValue). FirstFails x found) (sym (drop_more ls i d lt)) (inr (subst HoldsNet e h, rest)))

-- a function has the first fault
pub fails_here : (ls : List LayoutValue) (i : ℕ) (l d : LayoutValue) (found : FileFault) → i < length ls
    → l ≡ get_or ls i d → Fails l found → (FirstFails (drop i ls) found → FirstFails ls found) → FirstFails ls found
fails_here ls i l d found lt e h all =
    all (subst (λ (x : List LayoutValue). FirstFails x found) (sym (drop_more ls i d lt))
    (inl (subst (λ (x : LayoutValue). Fails x found) e h)))

pub functions_more : (ls : List LayoutValue) (i : ℕ) (l d : LayoutValue) (made : List FunctionNotesValue)
    (f : FunctionNotesValue) (total : List FunctionNotesValue) → i < length ls → l ≡ get_or ls i d → f ≡ function_of l
    → made ++ map function_of (drop i ls) ≡ total → (made ++ f ∷ []) ++ map function_of (drop (i + 1) ls) ≡ total
functions_more ls i l d made f total lt e h all =
    append_assoc made (f ∷ []) (map function_of (drop (i + 1) ls))
    ∙ (ap (λ (x : FunctionNotesValue). made ++ x ∷ map function_of (drop (i + 1) ls)) (h ∙ ap function_of e)
    ∙ (ap (λ (x : List LayoutValue). made ++ map function_of x) (sym (drop_more ls i d lt)) ∙ all))

-- all functions hold their nets
pub held_all : (ls : List LayoutValue) (i : ℕ) → length ls ≤ i → (AllHold (drop i ls) → AllHold ls) → AllHold ls
held_all ls i le all = all (subst AllHold (sym (drop_of_length-le ls le)) tt)

pub functions_all : (ls : List LayoutValue) (i : ℕ) (made total : List FunctionNotesValue) → length ls ≤ i
    → made ++ map function_of (drop i ls) ≡ total → made ≡ total
functions_all ls i made total le all =
    sym (append-nil made)
    ∙ (ap (λ (x : List LayoutValue). made ++ map function_of x) (sym (drop_of_length-le ls le)) ∙ all)

-- one list more
pub lists_more : (rs : List LinesValue) (b blocks : ℕ) (made total : List (List ℕ)) (one : List ℕ) → b < blocks
    → one ≡ lines_of b rs → made ++ lists_from b (blocks - b) rs ≡ total
    → (made ++ one ∷ []) ++ lists_from (b + 1) (blocks - (b + 1)) rs ≡ total
lists_more rs b blocks made total one lt e all =
    let k : blocks - b ≡ suc (blocks - (b + 1)) = omega (arith, lt) in
    append_assoc made (one ∷ []) (lists_from (b + 1) (blocks - (b + 1)) rs)
    ∙ (ap (λ (x : List ℕ). made ++ x ∷ lists_from (b + 1) (blocks - (b + 1)) rs) e
    ∙ (ap (λ n. made ++ lists_from b n rs) (sym k) ∙ all))

pub lists_all : (rs : List LinesValue) (b blocks : ℕ) (made total : List (List ℕ)) → blocks ≤ b
    → made ++ lists_from b (blocks - b) rs ≡ total → made ≡ total
lists_all rs b blocks made total le all =
    let k : blocks - b ≡ 0 = omega (arith, le) in
    sym (append-nil made) ∙ (ap (λ n. made ++ lists_from b n rs) (sym k) ∙ all)

pub map_more : {A B : Type 0} (f : A → B) (xs : List A) (x : A) → map f (xs ++ x ∷ []) ≡ map f xs ++ f x ∷ []
map_more f [] x = refl
map_more {A} {B} f (y ∷ ys) x = ap (λ (l : List B). f y ∷ l) (map_more f ys x)

abbrev mark : ℕ → ℕ → ℕ → Marked
mark from to flags = record { from = from; to = to; flags = flags }

-- arcs with their flags are equal where their numbers are
pub marks_decide : (a b : Marked)
    → (((a.from == b.from) && ((a.to == b.to) && (a.flags == b.flags))) ≡ true → a ≡ b)
    × (a ≡ b → ((a.from == b.from) && ((a.to == b.to) && (a.flags == b.flags))) ≡ true)
marks_decide a b = (
  λ h. (let p = and_parts (a.from == b.from) ((a.to == b.to) && (a.flags == b.flags)) h in
      let q = and_parts (a.to == b.to) (a.flags == b.flags) p.1 in
      ap (λ n. mark n a.to a.flags) (eqb-true a.from b.from p.0)
      ∙ (ap (λ n. mark b.from n a.flags) (eqb-true a.to b.to q.0)
      ∙ ap (λ n. mark b.from b.to n) (eqb-true a.flags b.flags q.1))),
  λ e. and_from (a.from == b.from) ((a.to == b.to) && (a.flags == b.flags))
      (eq-eqb a.from b.from (ap (λ (m : Marked). m.from) e))
      (and_from (a.to == b.to) (a.flags == b.flags) (eq-eqb a.to b.to (ap (λ (m : Marked). m.to) e))
      (eq-eqb a.flags b.flags (ap (λ (m : Marked). m.flags) e))),
)
