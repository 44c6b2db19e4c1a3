-- The numbers of the rows that are there.
use Rattle.std.proofs.Common.{◌≡◌, refl, sym, ap, ◌∙◌, ℕ, zero, suc, ◌+◌, ◌<◌, ◌≤◌, List, [], ◌∷◌, ◌++◌, length}
use Rattle.std.proofs.Common.{map, take, drop, get_or, cond, Option, Some, None, arith, append_assoc, append-nil}
use Rattle.std.specs.Prelude.{option_map}
use Rattle.std.specs.List.{count_by}
use Rattle.std.specs.Option.{is_some}
use Rattle.std.proofs.lemmas.List.{drop_more, drop_all}
use Rattle.std.proofs.lemmas.Option.{same_Some, none-some}
use Rattle.std.proofs.lemmas.List.Recursion.{is_count_by}
use Rattle.path_masks.specs.Tables.{rows_in, number_at, AreNumbers}

-- the numbers of rows one behind another, if the first that is there has the number n
abbrev pub numbered : {A : Type 0} → ℕ → List (Option A) → List (Option ℕ)
numbered n [] = []
numbered n (None ∷ rows) = None ∷ numbered n rows
numbered n (Some row ∷ rows) = Some n ∷ numbered (suc n) rows

numbered_at : {A : Type 0} (n : ℕ) (rows : List (Option A)) (k : ℕ)
    → get_or (numbered n rows) k None ≡ option_map (λ row. n + rows_in (take k rows)) (get_or rows k None)
numbered_at n [] k = refl
numbered_at n (None ∷ rows) zero = refl
numbered_at n (None ∷ rows) (suc k) = numbered_at n rows k
numbered_at n (Some row ∷ rows) zero = ap (λ (m : ℕ). Some m) (none n)
  where
    none : (n : ℕ) → n ≡ n + 0
    none n = omega arith
numbered_at n (Some row ∷ rows) (suc k) =
    let e : suc n + rows_in (take k rows) ≡ n + suc (rows_in (take k rows)) = omega arith in
    numbered_at (suc n) rows k ∙ ap (λ m. option_map (λ row. m) (get_or rows k None)) e

pub are_numbers : {A : Type 0} (rows : List (Option A)) → AreNumbers rows (numbered 0 rows)
are_numbers rows place =
    let e : 0 + rows_in (take place rows) ≡ rows_in (take place rows) = omega arith in
    numbered_at 0 rows place ∙ ap (λ m. option_map (λ row. m) (get_or rows place None)) e

mapped : {A B : Type 0} (f : A → B) (n : ℕ) (rows : List (Option A))
    → numbered n (map (option_map f) rows) ≡ numbered n rows
mapped f n [] = refl
mapped f n (None ∷ rows) = ap (λ (l : List (Option ℕ)). None ∷ l) (mapped f n rows)
mapped f n (Some row ∷ rows) = ap (λ (l : List (Option ℕ)). Some n ∷ l) (mapped f (suc n) rows)

-- a row has one number, whatever it is made into
pub number_mapped : {A B : Type 0} (f : A → B) (rows : List (Option A)) (k : ℕ)
    → number_at rows k ≡ number_at (map (option_map f) rows) k
number_mapped f rows k =
    sym (are_numbers rows k) ∙ ap (λ (l : List (Option ℕ)). get_or l k None) (sym (mapped f 0 rows))
    ∙ are_numbers (map (option_map f) rows) k

-- a row's number is below the number of rows
pub number_low : {A : Type 0} (rows : List (Option A)) (k n : ℕ) → number_at rows k ≡ Some n → n < rows_in rows
number_low [] k n e = absurd (none-some n e)
number_low (None ∷ rows) zero n e = absurd (none-some n e)
number_low (Some row ∷ rows) zero n e = let z : 0 ≡ n = same_Some 0 n e in omega (arith, z)
number_low (None ∷ rows) (suc k) n e = number_low rows k n e
number_low {A} (Some row ∷ rows) (suc k) n e =
    by (get_or rows k None) (λ m h. number_low rows k m h) e
  where
    by : (o : Option A)
        → ((m : ℕ) → option_map (λ r. rows_in (take k rows)) o ≡ Some m → m < rows_in rows)
        → option_map (λ r. suc (rows_in (take k rows))) o ≡ Some n → n < suc (rows_in rows)
    by None low f = absurd (none-some n f)
    by (Some r) low f =
        let same : suc (rows_in (take k rows)) ≡ n = same_Some (suc (rows_in (take k rows))) n f in
        let below : rows_in (take k rows) < rows_in rows = low (rows_in (take k rows)) refl in
        omega (arith, same, below)

-- each row is counted once, whatever it is made into
pub rows_counted : {A B : Type 0} (f : A → B) (rows : List (Option A))
    → count_by (is_some {T = A}) rows ≡ rows_in (map (option_map f) rows)
rows_counted {A} f rows =
    sym (is_count_by (λ (l : List (Option A)). rows_in (map (option_map f) l)) (is_some {T = A}) refl each rows)
  where
    each : (x : Option A) (xs : List (Option A)) → rows_in (map (option_map f) (x ∷ xs))
        ≡ cond (is_some {T = A} x) (1 + rows_in (map (option_map f) xs)) (rows_in (map (option_map f) xs))
    each None xs = refl
    each (Some x) xs = omega arith

-- ---- the loop over the rows

pub numbers_none : {A : Type 0} (rows : List (Option A)) (d : Option A) (k n : ℕ) (old new whole : List (Option ℕ))
    → k < length rows → get_or rows k d ≡ None → new ≡ old ++ None ∷ [] → old ++ numbered n (drop k rows) ≡ whole
    → new ++ numbered n (drop (k + 1) rows) ≡ whole
numbers_none {A} rows d k n old new whole l e p h =
    ap (λ (x : List (Option ℕ)). x ++ numbered n (drop (k + 1) rows)) p
    ∙ append_assoc old (None ∷ []) (numbered n (drop (k + 1) rows))
    ∙ ap (λ (r : Option A). old ++ numbered n (r ∷ drop (k + 1) rows)) (sym e)
    ∙ ap (λ (rest : List (Option A)). old ++ numbered n rest) (sym (drop_more rows k d l)) ∙ h

pub numbers_some : {A : Type 0} (rows : List (Option A)) (d : Option A) (row : A) (k n : ℕ)
    (old new whole : List (Option ℕ)) → k < length rows → get_or rows k d ≡ Some row → new ≡ old ++ Some n ∷ []
    → old ++ numbered n (drop k rows) ≡ whole → new ++ numbered (n + 1) (drop (k + 1) rows) ≡ whole
numbers_some {A} rows d row k n old new whole l e p h =
    ap (λ (x : List (Option ℕ)). x ++ numbered (n + 1) (drop (k + 1) rows)) p
    ∙ append_assoc old (Some n ∷ []) (numbered (n + 1) (drop (k + 1) rows))
    ∙ ap (λ (m : ℕ). old ++ Some n ∷ numbered m (drop (k + 1) rows)) more
    ∙ ap (λ (r : Option A). old ++ numbered n (r ∷ drop (k + 1) rows)) (sym e)
    ∙ ap (λ (rest : List (Option A)). old ++ numbered n rest) (sym (drop_more rows k d l)) ∙ h
  where
    more : n + 1 ≡ suc n
    more = omega arith

pub numbers_end : {A : Type 0} (rows : List (Option A)) (k n : ℕ) (numbers : List (Option ℕ)) → length rows ≤ k
    → numbers ++ numbered n (drop k rows) ≡ numbered 0 rows → AreNumbers rows numbers
numbers_end {A} rows k n numbers l h place =
    ap (λ (x : List (Option ℕ)). get_or x place None)
    (sym (append-nil numbers)
    ∙ ap (λ (rest : List (Option A)). numbers ++ numbered n rest) (sym (drop_all k rows l)) ∙ h)
    ∙ are_numbers rows place
