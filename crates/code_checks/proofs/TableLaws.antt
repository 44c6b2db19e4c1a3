-- Rows of a table by their places.
use Rattle.std.proofs.Common.{◌≡◌, refl, sym, ap, subst, ◌∙◌, ℕ, suc, ◌+◌, ◌-◌, ◌*◌, ◌^◌, ◌<◌, ◌≤◌, ◌&&◌, Bool, true}
use Rattle.std.proofs.Common.{false, cond, List, [], ◌∷◌, length, drop, get_or, Option, Some, None, arith}
use Rattle.std.proofs.Common.{length-drop, drop-cons, ◌⊎◌, inl, inr}
use Rattle.std.specs.Prelude.{nat_lt, nat_le}
use Rattle.std.specs.Option.{option_or}
use Rattle.std.proofs.lemmas.List.{drop_all, drop-drop, get_or-drop}
use Rattle.std.proofs.lemmas.Option.{none-some}
use Rattle.std.proofs.lemmas.Bool.{le-leb, lt-leb, leb-true, cases_lt}
use Rattle.code_runs.specs.Checks.{Rule}
use Rattle.code_runs.specs.CodeChecks.{of_table}
use Rattle.code_runs.specs.Tables.{TableFault, with_row, rows_fault, word_fault, rows_word, ends_there}
use Rattle.code_runs.specs.Tables.{row_length, behind_row}
use Rattle.code_checks.specs.Rows.{IsRow}

row_at : (table : List ℕ) (at : ℕ) → at < length table → drop at table ≡ get_or table at 0 ∷ drop (at + 1) table
row_at table at lt =
    let next : suc at ≡ at + 1 = omega arith in
    subst (λ n. drop at table ≡ get_or table at 0 ∷ drop n table) next (drop-cons table at 0 lt)

module _ (size words at : ℕ) (table : List ℕ) where
  abbrev entries : ℕ
  entries = get_or table at 0

  abbrev behind : ℕ
  behind = at + 1 + size * entries

  pub row_missing : at ≡ length table → (then : ℕ → List ℕ → Option TableFault)
      → of_table (with_row size words at (drop at table) then) ≡ Some (at, Rule.Row)
  row_missing e then =
      let none : drop at table ≡ [] = drop_all at table (omega (arith, e)) in
      rw none refl

  pub row_many : at < length table → words < entries → (then : ℕ → List ℕ → Option TableFault)
      → of_table (with_row size words at (drop at table) then) ≡ Some (at, Rule.Field)
  row_many lt many then = rw (row_at table at lt) (rw (lt-leb entries words many) refl)

  row_length_left : at < length table → at + suc (length (drop (at + 1) table)) ≡ length table
  row_length_left lt = let l = length-drop (at + 1) table in omega (arith, l)

  pub row_short : at < length table → entries ≤ words → length table - at - 1 < size * entries
      → (then : ℕ → List ℕ → Option TableFault)
      → of_table (with_row size words at (drop at table) then) ≡ Some (length table, Rule.Row)
  row_short lt few short then =
      let left = length-drop (at + 1) table in
      let less : length (drop (at + 1) table) < size * entries = omega (arith, left, short) in
      rw (row_at table at lt) (rw (le-leb entries words few, lt-leb (size * entries) (length (drop (at + 1) table)) less)
      (ap (λ n. Some (n, Rule.Row)) (row_length_left lt)))

  pub row_whole : at < length table → entries ≤ words → behind ≤ length table
      → (then : ℕ → List ℕ → Option TableFault)
      → with_row size words at (drop at table) then ≡ then behind (drop behind table)
  row_whole lt few room then =
      let left = length-drop (at + 1) table in
      let less : size * entries ≤ length (drop (at + 1) table) = omega (arith, left, room) in
      rw (row_at table at lt) (rw (le-leb entries words few, le-leb (size * entries) (length (drop (at + 1) table)) less)
      (ap (then behind) (drop-drop (size * entries) (at + 1) table)))

  -- a row that is whole, and what comes behind it
  pub record Whole (then : ℕ → List ℕ → Option TableFault) : Type 0 where
    pub begins : at < length table
    pub few : entries ≤ words
    pub ends : behind ≤ length table
    pub rest : then behind (drop behind table) ≡ None

  pub row_there : at ≤ length table → (then : ℕ → List ℕ → Option TableFault)
      → with_row size words at (drop at table) then ≡ None → Whole then
  row_there le then h = by_place (cases_lt at (length table))
    where
      whole : at < length table → (few room : Bool) → nat_le entries words ≡ few
          → nat_le (size * entries) (length (drop (at + 1) table)) ≡ room
          → cond few (cond room (then behind (drop (size * entries) (drop (at + 1) table)))
          (Some (TableFault.OtherLength (at + suc (length (drop (at + 1) table)))))) (Some (TableFault.TooMany at))
          ≡ None → Whole then
      whole lt false room f r e = absurd (cc)
      whole lt true false f r e = absurd (cc)
      whole lt true true f r e =
          let left = length-drop (at + 1) table in
          let fits = leb-true (size * entries) (length (drop (at + 1) table)) r in
          record {
            begins = lt;
            few = leb-true entries words f;
            ends = omega (arith, left, fits, lt);
            rest = ap (then behind) (sym (drop-drop (size * entries) (at + 1) table)) ∙ e;
          }

      by_place : (at < length table) ⊎ (length table ≤ at) → Whole then
      by_place (inl lt) =
          whole lt (nat_le entries words) (nat_le (size * entries) (length (drop (at + 1) table))) refl refl
          (rw (row_at table at lt) at h)
      by_place (inr ge) =
          let none : drop at table ≡ [] = drop_all at table ge in
          absurd (none-some (TableFault.OtherLength at) (sym h ∙ ap (λ (l : List ℕ). with_row size words at l then) none))

-- numbers behind the last row
pub end_left : (at : ℕ) (table : List ℕ) → at < length table
    → of_table (ends_there at (drop at table)) ≡ Some (length table, Rule.Row)
end_left at table lt =
    rw (row_at table at lt) (ap (λ n. Some (n, Rule.Row)) (row_length_left 0 0 at table lt))

-- the words of one row of several, and those of the rows behind it
pub rows_word-step : (words n at : ℕ) (table : List ℕ)
    → rows_word words (suc n) at (drop at table)
    ≡ option_or (word_fault 4 words (get_or table at 0) 0 (at + 1) (drop (at + 1) table))
    (rows_word words n (at + 1 + 4 * get_or table at 0) (drop (at + 1 + 4 * get_or table at 0) table))
rows_word-step words n at table =
    let first : get_or (drop at table) 0 0 ≡ get_or table at 0 =
    get_or-drop at table 0 0 ∙ ap (λ k. get_or table k 0) (omega arith) in
    let long : row_length 4 (drop at table) ≡ 1 + 4 * get_or table at 0 = ap (λ k. 1 + 4 * k) first in
    let next : at + row_length 4 (drop at table) ≡ at + 1 + 4 * get_or table at 0 = omega (arith, long) in
    let left : behind_row 4 (drop at table) ≡ drop (at + 1 + 4 * get_or table at 0) table =
    drop-drop (row_length 4 (drop at table)) at table ∙ ap (λ k. drop k table) next in
    ap (λ (k : ℕ). option_or (word_fault 4 words k 0 (at + 1) (drop 1 (drop at table)))
    (rows_word words n (at + row_length 4 (drop at table)) (behind_row 4 (drop at table)))) first
    ∙ (ap (λ (l : List ℕ). option_or (word_fault 4 words (get_or table at 0) 0 (at + 1) l)
    (rows_word words n (at + row_length 4 (drop at table)) (behind_row 4 (drop at table)))) (drop-drop 1 at table)
    ∙ (ap (λ (k : ℕ). option_or (word_fault 4 words (get_or table at 0) 0 (at + 1) (drop (at + 1) table))
    (rows_word words n k (behind_row 4 (drop at table)))) next
    ∙ ap (λ (l : List ℕ). option_or (word_fault 4 words (get_or table at 0) 0 (at + 1) (drop (at + 1) table))
    (rows_word words n (at + 1 + 4 * get_or table at 0) l)) left))

-- the first entry of several, and those behind it
pub word_fault-step : (size words n least at : ℕ) (table : List ℕ)
    → word_fault size words (suc n) least at (drop at table)
    ≡ cond (nat_le least (get_or table at 0) && nat_lt (get_or table at 0) words)
    (word_fault size words n (suc (get_or table at 0)) (at + size) (drop (at + size) table)) (Some at)
word_fault-step size words n least at table =
    let first : get_or (drop at table) 0 0 ≡ get_or table at 0 =
    get_or-drop at table 0 0 ∙ ap (λ k. get_or table k 0) (omega arith) in
    ap (λ (k : ℕ). cond (nat_le least k && nat_lt k words)
    (word_fault size words n (suc k) (at + size) (drop size (drop at table))) (Some at)) first
    ∙ ap (λ (l : List ℕ). cond (nat_le least (get_or table at 0) && nat_lt (get_or table at 0) words)
    (word_fault size words n (suc (get_or table at 0)) (at + size) l) (Some at)) (drop-drop size at table)

-- ---- loops over rows and entries

-- the first of the rows that are left
pub rows_left : (words rows counter at : ℕ) (t : List ℕ) → counter < rows
    → rows_fault words (rows - counter) at t
    ≡ with_row 4 words at t (λ at rest. rows_fault words (rows - (counter + 1)) at rest)
rows_left words rows counter at t lt = let e : rows - counter ≡ suc (rows - (counter + 1)) = omega arith in rw e refl

pub row_of : (words rows counter at : ℕ) (table : List ℕ) → words < 2 ^ 32 → at ≤ length table → counter < rows
    → rows_fault words (rows - counter) at (drop at table) ≡ None → IsRow 4 table at
row_of words rows counter at table small le lt h =
    let w = row_there 4 words at table le (λ at rest. rows_fault words (rows - (counter + 1)) at rest)
    (sym (rows_left words rows counter at (drop at table) lt) ∙ h) in
    let few = w.few in
    record {
      some = omega arith;
      small = omega arith;
      begins = w.begins;
      few = omega (arith, few, small);
      ends = w.ends;
    }

-- the rows behind the first of those that are left
pub row_over : (words rows counter at : ℕ) (table : List ℕ) → at ≤ length table → counter < rows
    → rows_fault words (rows - counter) at (drop at table) ≡ None
    → (at + 1 + 4 * get_or table at 0 ≤ length table)
    × (rows_fault words (rows - (counter + 1)) (at + 1 + 4 * get_or table at 0) (drop (at + 1 + 4 * get_or table at 0) table)
    ≡ None)
row_over words rows counter at table le lt h =
    let w = row_there 4 words at table le (λ at rest. rows_fault words (rows - (counter + 1)) at rest)
    (sym (rows_left words rows counter at (drop at table) lt) ∙ h) in
    (w.ends, w.rest)

pub words_left : (words rows counter at : ℕ) (table : List ℕ) → counter < rows
    → rows_word words (rows - counter) at (drop at table)
    ≡ option_or (word_fault 4 words (get_or table at 0) 0 (at + 1) (drop (at + 1) table))
    (rows_word words (rows - (counter + 1)) (at + 1 + 4 * get_or table at 0) (drop (at + 1 + 4 * get_or table at 0) table))
words_left words rows counter at table lt =
    let e : rows - counter ≡ suc (rows - (counter + 1)) = omega arith in
    ap (λ n. rows_word words n at (drop at table)) e ∙ rows_word-step words (rows - (counter + 1)) at table

pub word_stop : (size words n counter least at : ℕ) (table : List ℕ) → counter < n
    → (nat_le least (get_or table at 0) && nat_lt (get_or table at 0) words) ≡ false
    → word_fault size words (n - counter) least at (drop at table) ≡ Some at
word_stop size words n counter least at table lt h =
    let e : n - counter ≡ suc (n - (counter + 1)) = omega arith in
    ap (λ n. word_fault size words n least at (drop at table)) e
    ∙ (word_fault-step size words (n - (counter + 1)) least at table ∙ rw h refl)

pub word_on : (size words n counter least at : ℕ) (table : List ℕ) → counter < n
    → (nat_le least (get_or table at 0) && nat_lt (get_or table at 0) words) ≡ true
    → word_fault size words (n - counter) least at (drop at table)
    ≡ word_fault size words (n - (counter + 1)) (get_or table at 0 + 1) (at + size) (drop (at + size) table)
word_on size words n counter least at table lt h =
    let e : n - counter ≡ suc (n - (counter + 1)) = omega arith in
    let s : suc (get_or table at 0) ≡ get_or table at 0 + 1 = omega arith in
    ap (λ n. word_fault size words n least at (drop at table)) e
    ∙ (word_fault-step size words (n - (counter + 1)) least at table
    ∙ (rw h refl ∙ ap (λ k. word_fault size words (n - (counter + 1)) k (at + size) (drop (at + size) table)) s))

times_next : (s m : ℕ) → s * suc m ≡ s + s * m
times_next s m = omega arith

pub room_on : (size n counter at long : ℕ) → counter < n → at + size * (n - counter) ≤ long
    → at + size + size * (n - (counter + 1)) ≤ long
room_on size n counter at long lt le =
    let e : n - counter ≡ suc (n - (counter + 1)) = omega arith in
    let p : size * (n - counter) ≡ size + size * (n - (counter + 1)) =
    ap (λ k. size * k) e ∙ times_next size (n - (counter + 1)) in
    omega (arith, le, p)

pub of_table-none : (t : Option TableFault) → of_table t ≡ None → t ≡ None
of_table-none None h = refl
of_table-none (Some (TableFault.TooMany at)) h = absurd (cc)
of_table-none (Some (TableFault.OtherLength at)) h = absurd (cc)
