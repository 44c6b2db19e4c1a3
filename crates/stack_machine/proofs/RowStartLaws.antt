-- Places of rows, function by function and row by row.
use Rattle.std.proofs.Common.{◌≡◌, refl, sym, ap, subst, ◌∙◌, ℕ, zero, suc, ◌+◌, ◌-◌, ◌*◌, ◌<◌, ◌≤◌, List, [], ◌∷◌}
use Rattle.std.proofs.Common.{◌++◌, length, drop, get_or, Some, arith, below_more, length-drop}
use Rattle.std.specs.Prelude.{slice_get, slice_index_or}
use Rattle.std.proofs.lemmas.List.{drop-drop}
use Rattle.std.proofs.lemmas.Option.{same_Some, none-some}
use Rattle.code_runs.specs.Tables.{row_length, behind_row, passes_from, words_in}
use Rattle.stack_machine.proofs.TableLaws.{passes_on}
use Rattle.stack_ops.specs.Code.{FunctionValue}
use Rattle.stack_machine.specs.Tables.{PassFits, TableFits, StartsAt}

pub get-left : {A : Type 0} (xs ys : List A) (i : ℕ) (x : A) → slice_get xs i ≡ Some x → slice_get (xs ++ ys) i ≡ Some x
get-left [] ys i x h = absurd (none-some x h)
get-left (y ∷ xs) ys zero x h = h
get-left (y ∷ xs) ys (suc i) x h = get-left xs ys i x h

pub get-end : {A : Type 0} (xs : List A) (i : ℕ) (x : A) → length xs ≡ i → slice_get (xs ++ x ∷ []) i ≡ Some x
get-end [] zero x e = refl
get-end [] (suc i) x e = absurd (omega (arith, e))
get-end (y ∷ xs) zero x e = absurd (omega (arith, e))
get-end (y ∷ xs) (suc i) x e = get-end xs i x (omega (arith, e))

abbrev pub Held : List FunctionValue → List (List ℕ) → ℕ → Type 0
Held fs rows i =
    (f : FunctionValue) → slice_get fs i ≡ Some f
    → (starts : List ℕ) × (slice_get rows i ≡ Some starts) × StartsAt f starts

-- the places of one function more
pub held-more : (fs : List FunctionValue) (rows : List (List ℕ)) (n : ℕ) (g : FunctionValue) (own : List ℕ)
    → length rows ≡ n → ((i : ℕ) → i < n → Held fs rows i) → slice_get fs n ≡ Some g → StartsAt g own
    → (i : ℕ) → i < n + 1 → Held fs (rows ++ own ∷ []) i
held-more fs rows n g own e h is starts =
    below_more (λ i. Held fs (rows ++ own ∷ []) i) n
    (λ i lt f at. (let old = h i lt f at in (old.0, get-left rows (own ∷ []) i old.0 old.1, old.2)))
    (λ f at. (own, get-end rows n own e, subst (λ k. StartsAt k own) (same_Some g f (sym is ∙ at)) starts))

-- how long the row there is
row-number : (xs : List ℕ) (at : ℕ) → slice_index_or (drop at xs) 0 0 ≡ get_or xs at 0
row-number [] zero = refl
row-number [] (suc at) = refl
row-number (x ∷ xs) zero = refl
row-number (x ∷ xs) (suc at) = row-number xs at

row-long : (xs : List ℕ) (at : ℕ) → row_length 4 (drop at xs) ≡ 1 + 4 * get_or xs at 0
row-long xs at = ap (λ k. 1 + 4 * k) (row-number xs at)

-- where the row behind it starts
pub next-within : (xs : List ℕ) (at : ℕ) → 0 < length (drop at xs) → row_length 4 (drop at xs) ≤ length (drop at xs)
    → at + 1 + 4 * get_or xs at 0 ≤ length xs
next-within xs at some le =
    let h : row_length 4 (drop at xs) ≡ 1 + 4 * get_or xs at 0 = row-long xs at in
    let size : length (drop at xs) ≡ length xs - at = length-drop at xs in
    omega (arith, h, size, some, le)

pub next-behind : (xs : List ℕ) (at : ℕ) → drop (at + 1 + 4 * get_or xs at 0) xs ≡ behind_row 4 (drop at xs)
next-behind xs at =
    let n : ℕ = get_or xs at 0 in
    let more : at + (1 + 4 * n) ≡ at + 1 + 4 * n = omega arith in
    sym (ap (λ k. drop k (drop at xs)) (row-long xs at) ∙ (drop-drop (1 + 4 * n) at xs ∙ ap (λ k. drop k xs) more))

-- a row of this number starts in the place that is held for it
abbrev pub From : List ℕ → List ℕ → ℕ → Type 0
From table places w =
    (start : ℕ) × (slice_get places w ≡ Some start) × (drop start table ≡ passes_from w (behind_row 3 table))

pub from-more : (table places : List ℕ) (n at : ℕ) → length places ≡ n → ((w : ℕ) → w < n → From table places w)
    → drop at table ≡ passes_from n (behind_row 3 table) → (w : ℕ) → w < n + 1 → From table (places ++ at ∷ []) w
from-more table places n at e h is =
    below_more (λ w. From table (places ++ at ∷ []) w) n
    (λ w lt. (let old = h w lt in (old.0, get-left places (at ∷ []) w old.0 old.1, old.2)))
    (at, get-end places n at e, is)

-- behind the rows that were passed and one more
pub here-more : (n m : ℕ) (xs ys base : List ℕ) → m ≡ n + 1 → xs ≡ passes_from n base
    → ys ≡ behind_row 4 xs → ys ≡ passes_from m base
here-more n m xs ys base e a b =
    let e' : m ≡ suc n = omega (arith, e) in
    rw e' (b ∙ (ap (λ l. behind_row 4 l) a ∙ sym (passes_on n base)))

-- the row that stands there is whole
pub row-fits : (f : FunctionValue) → TableFits f → (w : ℕ) (table here : List ℕ) → 0 < f.paths → w < f.passes
    → table ≡ f.table → here ≡ passes_from w (behind_row 3 table) → PassFits (words_in f.paths) here
row-fits f h w table here some lt is at =
    let from : here ≡ passes_from w (behind_row 3 f.table) =
    at ∙ ap (λ (l : List ℕ). passes_from w (behind_row 3 l)) is in
    subst (λ (l : List ℕ). PassFits (words_in f.paths) l) (sym from) (h.passes some w lt)
