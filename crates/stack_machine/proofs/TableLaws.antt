-- The rows of a table that breaks no rule are there, and their words too.
use Rattle.std.proofs.Common.{◌≡◌, refl, ℕ, zero, suc, ◌+◌, ◌*◌, ◌<◌, ◌≤◌, ◌&&◌, Bool, true, false, cond, List}
use Rattle.std.proofs.Common.{[], ◌∷◌, length, take, drop, Option, Some, None, arith}
use Rattle.std.specs.Prelude.{nat_lt, nat_le, slice_index_or}
use Rattle.std.specs.List.{All}
use Rattle.std.proofs.lemmas.Bool.{ltb-true, leb-true}
use Rattle.word_rules.specs.WordRules.{BeginEntry, PassEntry, begin_entries, pass_entries}
use Rattle.stack_ops.specs.Code.{FunctionValue}
use Rattle.code_runs.specs.Tables.{TableFault, OtherLength, TooMany, words_in, row_length, behind_row}
use Rattle.code_runs.specs.Tables.{passes_from, word_fault, with_row, rows_fault, layout_fault, rows_word, table_word}
use Rattle.code_runs.proofs.CheckLaws.{or-none, and-both}
use Rattle.stack_machine.specs.Tables.{BeginFits, PassFits, TableFits}

all-more : {A : Type 0} (P : A → Type 0) (x : A) (xs : List A) → P x → All P xs → All P (x ∷ xs)
all-more P x xs h hs zero d lt = h
all-more P x xs h hs (suc k) d lt = hs k d (omega (arith, lt))

cond-none : (b : Bool) (a : Option ℕ) (at : ℕ) → cond b a (Some at) ≡ None → (b ≡ true) × (a ≡ None)
cond-none true a at h = (refl, h)
cond-none false a at h = absurd (cc)

-- the first word that a row names is there
first_word : (words least i : ℕ) → (nat_le least i && nat_lt i words) ≡ true → i < words
first_word words least i h = ltb-true i words (and-both (nat_le least i) (nat_lt i words) h).1

begin_words : (words n least at : ℕ) (row : List ℕ) → word_fault 3 words n least at row ≡ None → 3 * n ≤ length row
    → All (λ (e : BeginEntry). e.word < words) (begin_entries (take (3 * n) row))
begin_words words zero least at row h long = λ k d lt. absurd (omega (arith, lt))
begin_words words (suc n) least at [] h long = absurd (omega (arith, long))
begin_words words (suc n) least at (a ∷ []) h long = absurd (omega (arith, long))
begin_words words (suc n) least at (a ∷ (b ∷ [])) h long = absurd (omega (arith, long))
begin_words words (suc n) least at (a ∷ (b ∷ (c ∷ rest))) h long =
    let both = cond-none (nat_le least a && nat_lt a words) (word_fault 3 words n (suc a) (at + 3) rest) at h in
    let more : 3 * suc n ≡ suc (suc (suc (3 * n))) = omega arith in
    rw more (all-more (λ (e : BeginEntry). e.word < words) (record { word = a; begin = b; done = c })
    (begin_entries (take (3 * n) rest)) (first_word words least a both.0)
    (begin_words words n (suc a) (at + 3) rest both.1 (omega (arith, long))))

pass_words : (words n least at : ℕ) (row : List ℕ) → word_fault 4 words n least at row ≡ None → 4 * n ≤ length row
    → All (λ (e : PassEntry). e.word < words) (pass_entries (take (4 * n) row))
pass_words words zero least at row h long = λ k d lt. absurd (omega (arith, lt))
pass_words words (suc n) least at [] h long = absurd (omega (arith, long))
pass_words words (suc n) least at (a ∷ []) h long = absurd (omega (arith, long))
pass_words words (suc n) least at (a ∷ (b ∷ [])) h long = absurd (omega (arith, long))
pass_words words (suc n) least at (a ∷ (b ∷ (c ∷ []))) h long = absurd (omega (arith, long))
pass_words words (suc n) least at (a ∷ (b ∷ (c ∷ (d ∷ rest)))) h long =
    let both = cond-none (nat_le least a && nat_lt a words) (word_fault 4 words n (suc a) (at + 4) rest) at h in
    let more : 4 * suc n ≡ suc (suc (suc (suc (4 * n)))) = omega arith in
    rw more (all-more (λ (e : PassEntry). e.word < words) (record { word = a; keep = b; finish = c; start = d })
    (pass_entries (take (4 * n) rest)) (first_word words least a both.0)
    (pass_words words n (suc a) (at + 4) rest both.1 (omega (arith, long))))

-- what a row that is there leaves behind it
record RowThere (size words at : ℕ) (table : List ℕ) (then : ℕ → List ℕ → Option TableFault) : Type 0 where
  some : 0 < length table
  long : row_length size table ≤ length table
  on : then (at + 1 + size * slice_index_or table 0 0) (behind_row size table) ≡ None

row_there : (size words at : ℕ) (table : List ℕ) (then : ℕ → List ℕ → Option TableFault)
    → with_row size words at table then ≡ None → RowThere size words at table then
row_there size words at [] then h = absurd (cc)
row_there size words at (n ∷ rest) then h = few (nat_le n words) h
  where
    long : (b : Bool) → nat_le (size * n) (length rest) ≡ b
        → cond b (then (at + 1 + size * n) (drop (size * n) rest)) (Some (OtherLength (at + suc (length rest)))) ≡ None
        → RowThere size words at (n ∷ rest) then
    long true is h =
        let le : size * n ≤ length rest = leb-true (size * n) (length rest) is in
        let more : 1 + size * n ≡ suc (size * n) = omega arith in
        record { some = omega arith; long = omega (arith, le); on = rw more h }
    long false is h = absurd (cc)

    few : (b : Bool) → cond b (cond (nat_le (size * n) (length rest)) (then (at + 1 + size * n) (drop (size * n) rest))
        (Some (OtherLength (at + suc (length rest))))) (Some (TooMany at)) ≡ None → RowThere size words at (n ∷ rest) then
    few true h = long (nat_le (size * n) (length rest)) refl h
    few false h = absurd (cc)

begin_fits : (words at place : ℕ) (table : List ℕ) (then : ℕ → List ℕ → Option TableFault) → RowThere 3 words at table then
    → word_fault 3 words (slice_index_or table 0 0) 0 place (drop 1 table) ≡ None → BeginFits words table
begin_fits words at place [] then there h = absurd (let e = there.some in omega (arith, e))
begin_fits words at place (n ∷ rest) then there h =
    let more : 1 + 3 * n ≡ suc (3 * n) = omega arith in
    let long : suc (3 * n) ≤ suc (length rest) = rw more at there.long in
    (there.some, there.long, rw more (begin_words words n 0 place rest h (omega (arith, long))))

pass_fits : (words at place : ℕ) (table : List ℕ) (then : ℕ → List ℕ → Option TableFault) → RowThere 4 words at table then
    → word_fault 4 words (slice_index_or table 0 0) 0 place (drop 1 table) ≡ None → PassFits words table
pass_fits words at place [] then there h = absurd (let e = there.some in omega (arith, e))
pass_fits words at place (n ∷ rest) then there h =
    let more : 1 + 4 * n ≡ suc (4 * n) = omega arith in
    let long : suc (4 * n) ≤ suc (length rest) = rw more at there.long in
    (there.some, there.long, rw more (pass_words words n 0 place rest h (omega (arith, long))))

rows_fit : (words n at place : ℕ) (table : List ℕ) → rows_fault words n at table ≡ None
    → rows_word words n place table ≡ None → (w : ℕ) → w < n → PassFits words (passes_from w table)
rows_fit words zero at place table h e w lt = absurd (omega (arith, lt))
rows_fit words (suc n) at place table h e zero lt =
    pass_fits words at (place + 1) table (λ at rest. rows_fault words n at rest)
    (row_there 4 words at table (λ at rest. rows_fault words n at rest) h) (or-none _ _ e).0
rows_fit words (suc n) at place table h e (suc w) lt =
    rows_fit words n (at + 1 + 4 * slice_index_or table 0 0) (place + row_length 4 table) (behind_row 4 table)
    (row_there 4 words at table (λ at rest. rows_fault words n at rest) h).on (or-none _ _ e).1 w (omega (arith, lt))

table_fits' : (paths passes : ℕ) (table : List ℕ) → layout_fault paths passes table ≡ None
    → table_word paths passes table ≡ None → 0 < paths
    → BeginFits (words_in paths) table
    × ((w : ℕ) → w < passes → PassFits (words_in paths) (passes_from w (behind_row 3 table)))
table_fits' zero passes table h e lt = absurd (omega (arith, lt))
table_fits' (suc paths) passes table h e lt =
    let words : ℕ = words_in (suc paths) in
    let there = row_there 3 words 0 table (λ at rest. rows_fault words passes at rest) h in (
      begin_fits words 0 1 table (λ at rest. rows_fault words passes at rest) there (or-none _ _ e).0,
      rows_fit words passes (0 + 1 + 3 * slice_index_or table 0 0) (row_length 3 table) (behind_row 3 table) there.on
          (or-none _ _ e).1,
    )

-- all rows of a function whose table breaks no rule
pub table_fits : (f : FunctionValue) → layout_fault f.paths f.passes f.table ≡ None
    → table_word f.paths f.passes f.table ≡ None → TableFits f
table_fits f h e = record {
  begin = λ lt. (table_fits' f.paths f.passes f.table h e lt).0;
  passes = λ lt. (table_fits' f.paths f.passes f.table h e lt).1;
}

-- one row more behind the first ones
pub passes_on : (n : ℕ) (table : List ℕ) → passes_from (suc n) table ≡ behind_row 4 (passes_from n table)
passes_on zero table = refl
passes_on (suc n) table = passes_on n (behind_row 4 table)
