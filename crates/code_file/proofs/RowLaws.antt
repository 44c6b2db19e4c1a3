-- Rows of a table whose layout is right.
use Rattle.std.proofs.Common.{◌≡◌, refl, sym, ap, ℕ, zero, suc, ◌+◌, ◌*◌, ◌<◌, ◌≤◌, ◌&&◌, Bool, true, false, cond}
use Rattle.std.proofs.Common.{List, [], ◌∷◌, length, drop, Option, Some, None, subst, length-drop, arith}
use Rattle.std.specs.Prelude.{nat_lt, nat_le, slice_index_or}
use Rattle.std.specs.Option.{option_or}
use Rattle.std.proofs.lemmas.Bool.{leb-true}
use Rattle.std.proofs.lemmas.Option.{none-some, same_Some}
use Rattle.code_runs.specs.Tables.{TableFault, with_row, words_in, word_fault, rows_fault, rows_word, layout_fault}
use Rattle.code_runs.specs.Tables.{table_word}

-- a row with so many entries is whole, and what comes behind it has no fault
pub record Whole (size words at m : ℕ) (rest : List ℕ) (then : ℕ → List ℕ → Option TableFault) : Type 0 where
  pub few : nat_le m words ≡ true
  pub room : size * m ≤ length rest
  pub behind : then (at + 1 + size * m) (drop (size * m) rest) ≡ None

pub whole_row : (size words at m : ℕ) (rest : List ℕ) (then : ℕ → List ℕ → Option TableFault)
    → with_row size words at (m ∷ rest) then ≡ None → Whole size words at m rest then
whole_row size words at m rest then h = go (nat_le m words) (nat_le (size * m) (length rest)) refl refl h
  where
    go : (a b : Bool) → nat_le m words ≡ a → nat_le (size * m) (length rest) ≡ b
        → cond a (cond b (then (at + 1 + size * m) (drop (size * m) rest))
        (Some (TableFault.OtherLength (at + suc (length rest))))) (Some (TableFault.TooMany at)) ≡ None
        → Whole size words at m rest then
    go false b p q e = absurd (none-some (TableFault.TooMany at) (sym e))
    go true false p q e = absurd (none-some (TableFault.OtherLength (at + suc (length rest))) (sym e))
    go true true p q e = record { few = p; room = leb-true (size * m) (length rest) q; behind = e }

-- ---- entries of tables are in them

word_within : (size words n least at : ℕ) (row : List ℕ) (e : ℕ) → 0 < size
    → word_fault size words n least at row ≡ Some e → e < at + size * n
word_within size words zero least at row e some h = absurd (none-some e h)
word_within size words (suc n) least at row e some h =
    go (nat_le least (slice_index_or row 0 0) && nat_lt (slice_index_or row 0 0) words)
    (word_within size words n (suc (slice_index_or row 0 0)) (at + size) (drop size row) e some) h
  where
    times : size * suc n ≡ size + size * n
    times = omega arith

    go : (b : Bool)
        → (word_fault size words n (suc (slice_index_or row 0 0)) (at + size) (drop size row) ≡ Some e
        → e < at + size + size * n)
        → cond b (word_fault size words n (suc (slice_index_or row 0 0)) (at + size) (drop size row)) (Some at) ≡ Some e
        → e < at + size * suc n
    go true on k = let lt = on k in let t = times in omega (arith, lt, t)
    go false on k = let same = same_Some at e k in let t = times in omega (arith, same, t, some)

-- the first of two
either : {A : Type 0} (a b : Option A) (x : A) (P : Type 0) → option_or a b ≡ Some x → (a ≡ Some x → P)
    → (b ≡ Some x → P) → P
either (Some a) b x P h first other = first h
either None b x P h first other = other h

one_more : (n : ℕ) → 1 + n ≡ suc n
one_more n = omega arith

rows_within : (words n at : ℕ) (table : List ℕ) (e : ℕ) → rows_fault words n at table ≡ None
    → rows_word words n at table ≡ Some e → e < at + length table
rows_within words zero at table e h k = absurd (none-some e k)
rows_within words (suc n) at [] e h k = absurd (none-some (TableFault.OtherLength at) (sym h))
rows_within words (suc n) at (m ∷ rest) e h k =
    let w : Whole 4 words at m rest (λ at rest. rows_fault words n at rest) =
    whole_row 4 words at m rest (λ at rest. rows_fault words n at rest) h in
    let room = w.room in
    let next : at + 1 + 4 * m ≡ at + (1 + 4 * m) = omega arith in
    let left = length-drop (4 * m) rest in
    let on : rows_word words n (at + (1 + 4 * m)) (drop (4 * m) rest) ≡ Some e
    → e < at + (1 + 4 * m) + length (drop (4 * m) rest) =
    rows_within words n (at + (1 + 4 * m)) (drop (4 * m) rest) e
    (subst (λ i. rows_fault words n i (drop (4 * m) rest) ≡ None) next w.behind) in
    let over : drop (1 + 4 * m) (m ∷ rest) ≡ drop (4 * m) rest = ap (λ i. drop i (m ∷ rest)) (one_more (4 * m)) in
    either (word_fault 4 words m 0 (at + 1) rest) (rows_word words n (at + (1 + 4 * m)) (drop (1 + 4 * m) (m ∷ rest))) e
    (e < at + length (m ∷ rest)) k
    (λ f. let lt = word_within 4 words m 0 (at + 1) rest e (omega arith) f in omega (arith, lt, room))
    (λ f. let lt = on (subst (λ (l : List ℕ). rows_word words n (at + (1 + 4 * m)) l ≡ Some e) over f) in
    omega (arith, lt, left, room))

pub entry_within : (paths passes : ℕ) (table : List ℕ) (e : ℕ) → layout_fault paths passes table ≡ None
    → table_word paths passes table ≡ Some e → e < length table
entry_within zero passes table e h k = absurd (none-some e k)
entry_within (suc paths) passes [] e h k = absurd (none-some (TableFault.OtherLength 0) (sym h))
entry_within (suc paths) passes (m ∷ rest) e h k =
    let words : ℕ = words_in (suc paths) in
    let w : Whole 3 words 0 m rest (λ at rest. rows_fault words passes at rest) =
    whole_row 3 words 0 m rest (λ at rest. rows_fault words passes at rest) h in
    let room = w.room in
    let left = length-drop (3 * m) rest in
    let next : 0 + 1 + 3 * m ≡ 1 + 3 * m = omega arith in
    let over : drop (1 + 3 * m) (m ∷ rest) ≡ drop (3 * m) rest = ap (λ i. drop i (m ∷ rest)) (one_more (3 * m)) in
    either (word_fault 3 words m 0 1 rest) (rows_word words passes (1 + 3 * m) (drop (1 + 3 * m) (m ∷ rest))) e
    (e < length (m ∷ rest)) k
    (λ f. let lt = word_within 3 words m 0 1 rest e (omega arith) f in omega (arith, lt, room))
    (λ f. let lt = rows_within words passes (1 + 3 * m) (drop (3 * m) rest) e
    (subst (λ i. rows_fault words passes i (drop (3 * m) rest) ≡ None) next w.behind)
    (subst (λ (l : List ℕ). rows_word words passes (1 + 3 * m) l ≡ Some e) over f) in
    omega (arith, lt, left, room))
