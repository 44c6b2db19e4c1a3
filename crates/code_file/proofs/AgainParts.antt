-- What is spelled is read again: instructions, globals and tables.
use Rattle.std.proofs.Common.{◌≡◌, refl, sym, ap, subst, ◌∙◌, ℕ, zero, suc, ◌+◌, ◌*◌, ◌^◌, ◌<◌, true}
use Rattle.std.proofs.Common.{List, [], ◌∷◌, ◌++◌, length, take, drop, Option, None, ℤ}
use Rattle.std.proofs.Common.{append_assoc, length-take, arith}
use Rattle.std.specs.Prelude.{nat_le}
use Rattle.std.specs.List.{All}
use Rattle.std.proofs.lemmas.List.{append-nil, take-append-drop}
use Rattle.std.proofs.lemmas.Option.{none-some}
use Rattle.stack_ops.specs.declared.operation.Op.{Op}
use Rattle.code_runs.specs.Checks.{Rule}
use Rattle.code_runs.specs.CodeChecks.{is_number, number_there, unless_at, globals_fault, numbers_fault}
use Rattle.code_runs.specs.Tables.{TableFault, rows_fault, layout_fault, words_in}
use Rattle.code_runs.specs.Tables as tables
use Rattle.code_runs.proofs.CheckLaws.{or-none}
use Rattle.code_runs.proofs.CodeLaws.{unless_at-none}
use Rattle.gcov_items.specs.Items.{long_bytes}
use Rattle.code_file.specs.declared.fault.CodeFault.TheVariants as fault
use Rattle.code_file.specs.OpItems.{fields_of, number_bytes, op_bytes}
use Rattle.code_file.specs.InWords.{FitWords, words_of}
use Rattle.code_file.specs.Spelling.{ops_bytes, numbers_bytes, table_bytes}
use Rattle.code_file.specs.Reading.{Told, with_ops, with_globals, with_longs, with_row}
use Rattle.code_file.specs.Reading.{with_rows, with_table, wanted}
use Rattle.code_file.proofs.Outcomes.{Then}
use Rattle.code_file.proofs.RowLaws.{Whole, whole_row}
use Rattle.code_file.proofs.AgainLaws.{op_size, op_again, number_again, long_again}

-- ---- instructions

-- instructions are read behind others, with some places
pub record OpsAgain (os ops : List Op) (places : List ℕ) (rest : List ℕ) (at : ℕ) : Type 0 where
  pub more : List ℕ
  pub next : ℕ
  pub read : (then : List Op → List ℕ → List ℕ → ℕ → Told)
      → with_ops (length os) ops places (ops_bytes os ++ rest) at then ≡ then (ops ++ os) more rest next

pub ops_again : (os ops : List Op) (places : List ℕ) (start : ℕ) → numbers_fault start os ≡ None
    → All (λ o. FitWords (words_of (fields_of o))) os → (rest : List ℕ) (at : ℕ) → OpsAgain os ops places rest at
unfolding ops_bytes
ops_again [] ops places start h k rest at = record {
  more = places;
  next = at;
  read = λ then. ap (λ (l : List Op). then l places rest at) (sym (append-nil ops));
}
ops_again (o ∷ os) ops places start h k rest at =
    let both = or-none (unless_at (number_there o) start Rule.Opcode) (numbers_fault (suc start) os) h in
    let there = unless_at-none (number_there o) start Rule.Opcode both.0 in
    let behind : OpsAgain os (ops ++ o ∷ []) (places ++ at ∷ []) rest (at + op_size o) =
    ops_again os (ops ++ o ∷ []) (places ++ at ∷ []) (suc start) both.1 (λ i d lt. k (suc i) d (omega (arith, lt)))
    rest (at + op_size o) in
    record {
      more = behind.more;
      next = behind.next;
      read = λ then.
          ap (λ (l : List ℕ). with_ops (length (o ∷ os)) ops places l at then) (append_assoc (op_bytes o) (ops_bytes os) rest)
          ∙ (op_again o there (k 0 o (omega arith)) (ops_bytes os ++ rest) at
          (λ o rest next. with_ops (length os) (ops ++ o ∷ []) (places ++ at ∷ []) rest next then)
          ∙ (behind.read then
          ∙ ap (λ (l : List Op). then l behind.more rest behind.next) (append_assoc ops (o ∷ []) os)));
    }

-- ---- globals

-- globals are read behind others
pub record GlobalsAgain (ns globals : List ℤ) (rest : List ℕ) (at : ℕ) : Type 0 where
  pub next : ℕ
  pub read : (then : Then (List ℤ))
      → with_globals (length ns) globals (numbers_bytes ns ++ rest) at then ≡ then (globals ++ ns) rest next

pub globals_again : (ns globals : List ℤ) → globals_fault ns ≡ None → (rest : List ℕ) (at : ℕ)
    → GlobalsAgain ns globals rest at
unfolding numbers_bytes
globals_again [] globals h rest at = record {
  next = at;
  read = λ then. ap (λ (l : List ℤ). then l rest at) (sym (append-nil globals));
}
globals_again (n ∷ ns) globals h rest at =
    let both = or-none (unless_at (is_number n) 0 Rule.Field) (globals_fault ns) h in
    let there = unless_at-none (is_number n) 0 Rule.Field both.0 in
    let behind : GlobalsAgain ns (globals ++ n ∷ []) rest (at + 9) =
    globals_again ns (globals ++ n ∷ []) both.1 rest (at + 9) in
    record {
      next = behind.next;
      read = λ then.
          ap (λ (l : List ℕ). with_globals (length (n ∷ ns)) globals l at then)
          (append_assoc (number_bytes n) (numbers_bytes ns) rest)
          ∙ (number_again (fault.Field at) n there (numbers_bytes ns ++ rest) at
          (λ x rest next. with_globals (length ns) (globals ++ x ∷ []) rest next then)
          ∙ (behind.read then
          ∙ ap (λ (l : List ℤ). then l rest behind.next) (append_assoc globals (n ∷ []) ns)));
    }

-- ---- tables

abbrev pub FitLongs : List ℕ → Type 0
FitLongs numbers = All (λ n. n < 2 ^ 64) numbers

-- longs are read behind others
pub record LongsAgain (xs table : List ℕ) (rest : List ℕ) (at : ℕ) : Type 0 where
  pub next : ℕ
  pub read : (then : Then (List ℕ))
      → with_longs (length xs) table (table_bytes xs ++ rest) at then ≡ then (table ++ xs) rest next

longs_again : (xs table : List ℕ) → FitLongs xs → (rest : List ℕ) (at : ℕ) → LongsAgain xs table rest at
unfolding table_bytes
longs_again [] table h rest at = record {
  next = at;
  read = λ then. ap (λ (l : List ℕ). then l rest at) (sym (append-nil table));
}
longs_again (x ∷ xs) table h rest at =
    let behind : LongsAgain xs (table ++ x ∷ []) rest (at + 8) =
    longs_again xs (table ++ x ∷ []) (λ i d lt. h (suc i) d (omega (arith, lt))) rest (at + 8) in
    record {
      next = behind.next;
      read = λ then.
          ap (λ (l : List ℕ). with_longs (length (x ∷ xs)) table l at then)
          (append_assoc (long_bytes x) (table_bytes xs) rest)
          ∙ (long_again x (h 0 x (omega arith)) (table_bytes xs ++ rest) at
          (λ x rest next. with_longs (length xs) (table ++ x ∷ []) rest next then)
          ∙ (behind.read then ∙ ap (λ (l : List ℕ). then l rest behind.next) (append_assoc table (x ∷ []) xs)));
    }

-- a row at the front of a table whose layout is right
record IsFront (size words at : ℕ) (table : List ℕ) (then : ℕ → List ℕ → Option TableFault) : Type 0 where
  entries : ℕ
  row : List ℕ
  more : List ℕ
  whole : table ≡ entries ∷ (row ++ more)
  few : nat_le entries words ≡ true
  long : length row ≡ size * entries
  behind : then (at + 1 + size * entries) more ≡ None

front_of : (size words at : ℕ) (table : List ℕ) (then : ℕ → List ℕ → Option TableFault)
    → tables.with_row size words at table then ≡ None → IsFront size words at table then
front_of size words at [] then h = absurd (none-some (TableFault.OtherLength at) (sym h))
front_of size words at (m ∷ rest) then h =
    let w : Whole size words at m rest then = whole_row size words at m rest then h in
    let room = w.room in
    record {
      entries = m;
      row = take (size * m) rest;
      more = drop (size * m) rest;
      whole = ap (λ (l : List ℕ). m ∷ l) (sym (take-append-drop (size * m) rest));
      few = w.few;
      long = (let l = length-take (size * m) rest in omega (arith, l, room));
      behind = w.behind;
    }

fit_both : (xs ys : List ℕ) → FitLongs (xs ++ ys) → FitLongs xs × FitLongs ys
fit_both [] ys h = (λ i d lt. absurd (omega (arith, lt)), h)
fit_both (x ∷ xs) ys h =
    let k = fit_both xs ys (λ i d lt. h (suc i) d (omega (arith, lt))) in (own k.0, k.1)
  where
    own : FitLongs xs → FitLongs (x ∷ xs)
    own f zero d lt = h 0 d (omega arith)
    own f (suc i) d lt = f i d (omega (arith, lt))

flat : (xs ys rest : List ℕ) → table_bytes (xs ++ ys) ++ rest ≡ table_bytes xs ++ (table_bytes ys ++ rest)
unfolding table_bytes
flat [] ys rest = refl
flat (x ∷ xs) ys rest =
    append_assoc (long_bytes x) (table_bytes (xs ++ ys)) rest
    ∙ (ap (λ (l : List ℕ). long_bytes x ++ l) (flat xs ys rest)
    ∙ sym (append_assoc (long_bytes x) (table_bytes xs) (table_bytes ys ++ rest)))

-- a row is read behind others
record RowAgain (size words : ℕ) (row table rest : List ℕ) (at : ℕ) : Type 0 where
  next : ℕ
  read : (then : Then (List ℕ))
      → with_row size words table (table_bytes row ++ rest) at then ≡ then (table ++ row) rest next

row_again : (size words m : ℕ) (row table : List ℕ) → nat_le m words ≡ true → length row ≡ size * m
    → FitLongs (m ∷ row) → (rest : List ℕ) (at : ℕ) → RowAgain size words (m ∷ row) table rest at
unfolding table_bytes
row_again size words m row table few long h rest at =
    let behind : LongsAgain row (table ++ m ∷ []) rest (at + 8) =
    longs_again row (table ++ m ∷ []) (λ i d lt. h (suc i) d (omega (arith, lt))) rest (at + 8) in
    record {
      next = behind.next;
      read = λ then.
          ap (λ (l : List ℕ). with_row size words table l at then) (append_assoc (long_bytes m) (table_bytes row) rest)
          ∙ (long_again m (h 0 m (omega arith)) (table_bytes row ++ rest) at
          (λ m rest next. wanted (nat_le m words) (fault.Field at)
          (with_longs (size * m) (table ++ m ∷ []) rest next then))
          ∙ (ap (λ b. wanted b (fault.Field at)
          (with_longs (size * m) (table ++ m ∷ []) (table_bytes row ++ rest) (at + 8) then)) few
          ∙ (ap (λ n. with_longs n (table ++ m ∷ []) (table_bytes row ++ rest) (at + 8) then) (sym long)
          ∙ (behind.read then
          ∙ ap (λ (l : List ℕ). then l rest behind.next) (append_assoc table (m ∷ []) row)))));
    }

-- so many rows are read behind others
record RowsAgain (n words : ℕ) (rows table rest : List ℕ) (at : ℕ) : Type 0 where
  next : ℕ
  read : (then : Then (List ℕ))
      → with_rows n words table (table_bytes rows ++ rest) at then ≡ then (table ++ rows) rest next

rows_again : (n words place : ℕ) (rows table : List ℕ) → rows_fault words n place rows ≡ None → FitLongs rows
    → (rest : List ℕ) (at : ℕ) → RowsAgain n words rows table rest at
unfolding table_bytes
rows_again zero words place [] table h fit rest at = record {
  next = at;
  read = λ then. ap (λ (l : List ℕ). then l rest at) (sym (append-nil table));
}
rows_again zero words place (x ∷ rows) table h fit rest at =
    absurd (none-some (TableFault.OtherLength (place + suc (length rows))) (sym h))
rows_again (suc n) words place rows table h fit rest at =
    let f : IsFront 4 words place rows (λ at rest. rows_fault words n at rest) =
    front_of 4 words place rows (λ at rest. rows_fault words n at rest) h in
    let both = fit_both (f.entries ∷ f.row) f.more (subst FitLongs f.whole fit) in
    let own : RowAgain 4 words (f.entries ∷ f.row) table (table_bytes f.more ++ rest) at =
    row_again 4 words f.entries f.row table f.few f.long both.0 (table_bytes f.more ++ rest) at in
    let behind : RowsAgain n words f.more (table ++ (f.entries ∷ f.row)) rest own.next =
    rows_again n words (place + 1 + 4 * f.entries) f.more (table ++ (f.entries ∷ f.row)) f.behind both.1 rest own.next in
    record {
      next = behind.next;
      read = λ then.
          ap (λ (l : List ℕ). with_rows (suc n) words table (table_bytes l ++ rest) at then) f.whole
          ∙ (ap (λ (l : List ℕ). with_rows (suc n) words table l at then) (flat (f.entries ∷ f.row) f.more rest)
          ∙ (own.read (λ table rest next. with_rows n words table rest next then)
          ∙ (behind.read then
          ∙ ap (λ (l : List ℕ). then l rest behind.next)
          (append_assoc table (f.entries ∷ f.row) f.more ∙ ap (λ (l : List ℕ). table ++ l) (sym f.whole)))));
    }

-- a table is read
pub record TableAgain (paths passes : ℕ) (table rest : List ℕ) (at : ℕ) : Type 0 where
  pub next : ℕ
  pub read : (then : Then (List ℕ))
      → with_table paths passes (table_bytes table ++ rest) at then ≡ then table rest next

pub table_again : (paths passes : ℕ) (table : List ℕ) → layout_fault paths passes table ≡ None → FitLongs table
    → (rest : List ℕ) (at : ℕ) → TableAgain paths passes table rest at
unfolding table_bytes
table_again zero passes [] h fit rest at = record { next = at; read = λ then. refl }
table_again zero passes (x ∷ table) h fit rest at =
    absurd (none-some (TableFault.OtherLength (0 + suc (length table))) (sym h))
table_again (suc paths) passes table h fit rest at =
    let words : ℕ = words_in (suc paths) in
    let f : IsFront 3 words 0 table (λ at rest. rows_fault words passes at rest) =
    front_of 3 words 0 table (λ at rest. rows_fault words passes at rest) h in
    let both = fit_both (f.entries ∷ f.row) f.more (subst FitLongs f.whole fit) in
    let own : RowAgain 3 words (f.entries ∷ f.row) [] (table_bytes f.more ++ rest) at =
    row_again 3 words f.entries f.row [] f.few f.long both.0 (table_bytes f.more ++ rest) at in
    let behind : RowsAgain passes words f.more (f.entries ∷ f.row) rest own.next =
    rows_again passes words (0 + 1 + 3 * f.entries) f.more (f.entries ∷ f.row) f.behind both.1 rest own.next in
    record {
      next = behind.next;
      read = λ then.
          ap (λ (l : List ℕ). with_table (suc paths) passes (table_bytes l ++ rest) at then) f.whole
          ∙ (ap (λ (l : List ℕ). with_table (suc paths) passes l at then) (flat (f.entries ∷ f.row) f.more rest)
          ∙ (own.read (λ table rest next. with_rows passes words table rest next then)
          ∙ (behind.read then ∙ ap (λ (l : List ℕ). then l rest behind.next) (sym f.whole))));
    }
