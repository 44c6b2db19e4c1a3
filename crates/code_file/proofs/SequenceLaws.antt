-- Words, operations, rows and functions, one after another, at the front of bytes.
use Rattle.std.proofs.Common.{◌≡◌, refl, sym, ap, subst, ◌∙◌, ℕ, zero, suc, ◌+◌, ◌*◌, Bool, true}
use Rattle.std.proofs.Common.{List, [], ◌∷◌, ◌++◌, length, drop, Option, None, ℤ, append_assoc, length-append, arith}
use Rattle.std.specs.Prelude.{nat_le}
use Rattle.std.proofs.lemmas.List.{append-nil}
use Rattle.std.proofs.lemmas.Bool.{le-leb}
use Rattle.stack_ops.specs.declared.operation.Op.{Op}
use Rattle.code_runs.specs.Tables.{TableFault, rows_fault, layout_fault, words_in}
use Rattle.code_runs.specs.Tables as tables
use Rattle.code_runs.specs.CodeChecks.{globals_fault, numbers_fault}
use Rattle.gcov_items.specs.Items.{word_bytes, long_bytes}
use Rattle.code_file.specs.declared.fault.CodeFault.TheVariants as fault
use Rattle.code_file.specs.OpItems.{number_bytes, op_bytes}
use Rattle.code_file.specs.Spelling.{words_bytes, numbers_bytes, ops_bytes, table_bytes}
use Rattle.code_file.specs.Reading.{Told, with_field, with_long, with_number, with_op, with_ops, with_longs, with_row}
use Rattle.code_file.specs.Reading.{with_rows, with_table, with_globals, wanted}
use Rattle.code_file.proofs.Outcomes.{Then, AreBytes, bytes_both, Outcome, nothing, followed, tested}
use Rattle.code_file.proofs.ItemLaws.{IsLong, long_outcome, IsField, field_outcome, IsNumberField, number_outcome}
use Rattle.code_file.proofs.OpLaws.{IsOp, op_outcome}

-- ---- words

-- a test of each word, by those before it
abbrev pub Tests : Type 0
Tests = List (List ℕ → ℕ → Bool)

-- words, each with its test, behind these words
abbrev pub with_words : Tests → List ℕ → List ℕ → ℕ → Then (List ℕ) → Told
with_words [] ws bytes at then = then ws bytes at
with_words (t ∷ ts) ws bytes at then =
    with_field (t ws) bytes at (λ w rest next. with_words ts (ws ++ w ∷ []) rest next then)

-- words that pass their tests
abbrev pub Pass : Tests → List ℕ → List ℕ → Type 0
Pass [] ws [] = Unit {0}
Pass [] ws (w ∷ more) = ⊥
Pass (t ∷ ts) ws [] = ⊥
Pass (t ∷ ts) ws (w ∷ more) = (t ws w ≡ true) × Pass ts (ws ++ w ∷ []) more

pub record AreWords (ts : Tests) (ws used all : List ℕ) : Type 0 where
  pub more : List ℕ
  pub joined : all ≡ ws ++ more
  pub pass : Pass ts ws more
  pub spelled : AreBytes used → used ≡ words_bytes more

pub words_outcome : (ts : Tests) (ws : List ℕ) (at : ℕ) (bytes : List ℕ)
    → Outcome (λ bytes then. with_words ts ws bytes at then) (AreWords ts ws) at bytes
unfolding words_bytes
words_outcome [] ws at bytes =
    nothing (AreWords [] ws) at bytes ws (record {
      more = [];
      joined = sym (append-nil ws);
      pass = tt;
      spelled = λ are. refl;
    })
words_outcome (t ∷ ts) ws at bytes =
    followed (λ bytes then. with_field (t ws) bytes at then)
    (λ w next bytes then. with_words ts (ws ++ w ∷ []) bytes next then) (IsField (t ws))
    (λ w next. AreWords ts (ws ++ w ∷ [])) (AreWords (t ∷ ts) ws) at bytes (field_outcome (t ws) at bytes)
    (λ w next rest. words_outcome ts (ws ++ w ∷ []) next rest)
    (λ w used all after g k. record {
      more = w ∷ k.more;
      joined = k.joined ∙ append_assoc ws (w ∷ []) k.more;
      pass = (g.0, k.pass);
      spelled = λ are. (let b = bytes_both used after are in
          ap (λ (l : List ℕ). l ++ after) (g.1.1 b.0) ∙ ap (λ (l : List ℕ). word_bytes w ++ l) (k.spelled b.1));
    })

-- ---- operations

pub record AreOps (n : ℕ) (ops : List Op) (used : List ℕ) (all : List Op × List ℕ) : Type 0 where
  pub more : List Op
  pub joined : all.0 ≡ ops ++ more
  pub size : length more ≡ n
  pub numbers : AreBytes used → (start : ℕ) → numbers_fault start more ≡ None
  pub spelled : AreBytes used → used ≡ ops_bytes more

pub ops_outcome : (n : ℕ) (ops : List Op) (places : List ℕ) (at : ℕ) (bytes : List ℕ)
    → Outcome (λ bytes then. with_ops n ops places bytes at (λ os ps. then (os, ps))) (AreOps n ops) at bytes
unfolding ops_bytes
ops_outcome zero ops places at bytes =
    nothing (AreOps 0 ops) at bytes (ops, places) (record {
      more = [];
      joined = sym (append-nil ops);
      size = refl;
      numbers = λ are start. refl;
      spelled = λ are. refl;
    })
ops_outcome (suc n) ops places at bytes =
    followed (λ bytes then. with_op bytes at then)
    (λ o next bytes then. with_ops n (ops ++ o ∷ []) (places ++ at ∷ []) bytes next (λ os ps. then (os, ps))) IsOp
    (λ o next. AreOps n (ops ++ o ∷ [])) (AreOps (suc n) ops) at bytes (op_outcome at bytes)
    (λ o next rest. ops_outcome n (ops ++ o ∷ []) (places ++ at ∷ []) next rest)
    (λ o used all after g k. record {
      more = o ∷ k.more;
      joined = k.joined ∙ append_assoc ops (o ∷ []) k.more;
      size = ap suc k.size;
      numbers = λ are start. (let b = bytes_both used after are in
          rw ((g b.0).0) (k.numbers b.1 (suc start)));
      spelled = λ are. (let b = bytes_both used after are in
          ap (λ (l : List ℕ). l ++ after) (g b.0).1 ∙ ap (λ (l : List ℕ). op_bytes o ++ l) (k.spelled b.1));
    })

-- ---- globals

pub record AreGlobals (n : ℕ) (globals : List ℤ) (used : List ℕ) (all : List ℤ) : Type 0 where
  pub more : List ℤ
  pub joined : all ≡ globals ++ more
  pub size : length more ≡ n
  pub numbers : AreBytes used → globals_fault more ≡ None
  pub spelled : AreBytes used → used ≡ numbers_bytes more

pub globals_outcome : (n : ℕ) (globals : List ℤ) (at : ℕ) (bytes : List ℕ)
    → Outcome (λ bytes then. with_globals n globals bytes at then) (AreGlobals n globals) at bytes
unfolding numbers_bytes
globals_outcome zero globals at bytes =
    nothing (AreGlobals 0 globals) at bytes globals (record {
      more = [];
      joined = sym (append-nil globals);
      size = refl;
      numbers = λ are. refl;
      spelled = λ are. refl;
    })
globals_outcome (suc n) globals at bytes =
    followed (λ bytes then. with_number (fault.Field at) bytes at then)
    (λ x next bytes then. with_globals n (globals ++ x ∷ []) bytes next then) IsNumberField
    (λ x next. AreGlobals n (globals ++ x ∷ [])) (AreGlobals (suc n) globals) at bytes
    (number_outcome (fault.Field at) tt at bytes)
    (λ x next rest. globals_outcome n (globals ++ x ∷ []) next rest)
    (λ x used all after g k. record {
      more = x ∷ k.more;
      joined = k.joined ∙ append_assoc globals (x ∷ []) k.more;
      size = ap suc k.size;
      numbers = λ are. (let b = bytes_both used after are in rw ((g.1 b.0).0) (k.numbers b.1));
      spelled = λ are. (let b = bytes_both used after are in
          ap (λ (l : List ℕ). l ++ after) (g.1 b.0).1 ∙ ap (λ (l : List ℕ). number_bytes x ++ l) (k.spelled b.1));
    })

-- ---- tables

pub record AreLongs (n : ℕ) (table used all : List ℕ) : Type 0 where
  pub more : List ℕ
  pub joined : all ≡ table ++ more
  pub size : length more ≡ n
  pub taken : length used ≡ 8 * length more
  pub spelled : AreBytes used → used ≡ table_bytes more

pub longs_outcome : (n : ℕ) (table : List ℕ) (at : ℕ) (bytes : List ℕ)
    → Outcome (λ bytes then. with_longs n table bytes at then) (AreLongs n table) at bytes
unfolding table_bytes
longs_outcome zero table at bytes =
    nothing (AreLongs 0 table) at bytes table (record {
      more = [];
      joined = sym (append-nil table);
      size = refl;
      taken = refl;
      spelled = λ are. refl;
    })
longs_outcome (suc n) table at bytes =
    followed (λ bytes then. with_long bytes at then)
    (λ x next bytes then. with_longs n (table ++ x ∷ []) bytes next then) IsLong
    (λ x next. AreLongs n (table ++ x ∷ [])) (AreLongs (suc n) table) at bytes (long_outcome at bytes)
    (λ x next rest. longs_outcome n (table ++ x ∷ []) next rest)
    (λ x used all after g k. record {
      more = x ∷ k.more;
      joined = k.joined ∙ append_assoc table (x ∷ []) k.more;
      size = ap suc k.size;
      taken = (let l = length-append used after in let a = g.0 in let t = k.taken in omega (arith, l, a, t));
      spelled = λ are. (let b = bytes_both used after are in
          ap (λ (l : List ℕ). l ++ after) (g.1 b.0) ∙ ap (λ (l : List ℕ). long_bytes x ++ l) (k.spelled b.1));
    })

pub record IsRowOf (size words : ℕ) (table used all : List ℕ) : Type 0 where
  pub entries : ℕ
  pub rest : List ℕ
  pub joined : all ≡ table ++ (entries ∷ rest)
  pub few : nat_le entries words ≡ true
  pub long : length rest ≡ size * entries
  pub taken : length used ≡ 8 * length (entries ∷ rest)
  pub spelled : AreBytes used → used ≡ table_bytes (entries ∷ rest)

row_outcome : (size words : ℕ) (table : List ℕ) (at : ℕ) (bytes : List ℕ)
    → Outcome (λ bytes then. with_row size words table bytes at then) (IsRowOf size words table) at bytes
unfolding table_bytes
row_outcome size words table at bytes =
    followed (λ bytes then. with_long bytes at then)
    (λ m next bytes then. wanted (nat_le m words) (fault.Field at)
    (with_longs (size * m) (table ++ m ∷ []) bytes next then)) IsLong
    (λ m next used all. (nat_le m words ≡ true) × AreLongs (size * m) (table ++ m ∷ []) used all)
    (IsRowOf size words table) at bytes (long_outcome at bytes)
    (λ m next rest. tested (λ bytes then. with_longs (size * m) (table ++ m ∷ []) bytes next then)
    (AreLongs (size * m) (table ++ m ∷ [])) next rest (fault.Field at) (nat_le m words) tt
    (longs_outcome (size * m) (table ++ m ∷ []) next rest))
    (λ m used all after g k. record {
      entries = m;
      rest = k.1.more;
      joined = k.1.joined ∙ append_assoc table (m ∷ []) k.1.more;
      few = k.0;
      long = k.1.size;
      taken = (let l = length-append used after in let a = g.0 in let t = k.1.taken in omega (arith, l, a, t));
      spelled = λ are. (let b = bytes_both used after are in
          ap (λ (l : List ℕ). l ++ after) (g.1 b.0) ∙ ap (λ (l : List ℕ). long_bytes m ++ l) (k.1.spelled b.1));
    })

-- a row that is there is passed over
row_passed : (size words at m : ℕ) (row rest : List ℕ) (then : ℕ → List ℕ → Option TableFault)
    → nat_le m words ≡ true → length row ≡ size * m
    → tables.with_row size words at (m ∷ (row ++ rest)) then ≡ then (at + 1 + size * m) rest
row_passed size words at m row rest then few long =
    let room : nat_le (size * m) (length (row ++ rest)) ≡ true =
    le-leb (size * m) (length (row ++ rest)) (let l = length-append row rest in omega (arith, l, long)) in
    let left : drop (size * m) (row ++ rest) ≡ rest = subst (λ n. drop n (row ++ rest) ≡ rest) long (front_dropped row rest) in
    rw few (rw room (ap (then (at + 1 + size * m)) left))
  where
    front_dropped : (xs ys : List ℕ) → drop (length xs) (xs ++ ys) ≡ ys
    front_dropped [] ys = refl
    front_dropped (x ∷ xs) ys = front_dropped xs ys

flat_both : (xs ys : List ℕ) → table_bytes (xs ++ ys) ≡ table_bytes xs ++ table_bytes ys
unfolding table_bytes
flat_both [] ys = refl
flat_both (x ∷ xs) ys =
    ap (λ (l : List ℕ). long_bytes x ++ l) (flat_both xs ys)
    ∙ sym (append_assoc (long_bytes x) (table_bytes xs) (table_bytes ys))

pub record AreRows (n words : ℕ) (table used all : List ℕ) : Type 0 where
  pub more : List ℕ
  pub joined : all ≡ table ++ more
  pub layout : (at : ℕ) → rows_fault words n at more ≡ None
  pub taken : length used ≡ 8 * length more
  pub spelled : AreBytes used → used ≡ table_bytes more

rows_outcome : (n words : ℕ) (table : List ℕ) (at : ℕ) (bytes : List ℕ)
    → Outcome (λ bytes then. with_rows n words table bytes at then) (AreRows n words table) at bytes
unfolding table_bytes
rows_outcome zero words table at bytes =
    nothing (AreRows 0 words table) at bytes table (record {
      more = [];
      joined = sym (append-nil table);
      layout = λ at. refl;
      taken = refl;
      spelled = λ are. refl;
    })
rows_outcome (suc n) words table at bytes =
    followed (λ bytes then. with_row 4 words table bytes at then)
    (λ t next bytes then. with_rows n words t bytes next then) (IsRowOf 4 words table)
    (λ t next. AreRows n words t) (AreRows (suc n) words table) at bytes (row_outcome 4 words table at bytes)
    (λ t next rest. rows_outcome n words t next rest)
    (λ t used all after g k. record {
      more = (g.entries ∷ g.rest) ++ k.more;
      joined = k.joined ∙ (ap (λ (l : List ℕ). l ++ k.more) g.joined
          ∙ append_assoc table (g.entries ∷ g.rest) k.more);
      layout = λ at. row_passed 4 words at g.entries g.rest k.more (λ at rest. rows_fault words n at rest) g.few g.long
          ∙ k.layout (at + 1 + 4 * g.entries);
      taken = (let l = length-append used after in let m = length-append (g.entries ∷ g.rest) k.more in
          let a = g.taken in let t = k.taken in omega (arith, l, m, a, t));
      spelled = λ are. (let b = bytes_both used after are in
          ap (λ (l : List ℕ). l ++ after) (g.spelled b.0)
          ∙ (ap (λ (l : List ℕ). table_bytes (g.entries ∷ g.rest) ++ l) (k.spelled b.1)
          ∙ sym (flat_both (g.entries ∷ g.rest) k.more)));
    })

-- the table of a function with so many paths and rows
pub record IsTable (paths passes : ℕ) (used table : List ℕ) : Type 0 where
  pub layout : layout_fault paths passes table ≡ None
  pub taken : length used ≡ 8 * length table
  pub spelled : AreBytes used → used ≡ table_bytes table

pub table_outcome : (paths passes : ℕ) (at : ℕ) (bytes : List ℕ)
    → Outcome (λ bytes then. with_table paths passes bytes at then) (IsTable paths passes) at bytes
unfolding table_bytes
table_outcome zero passes at bytes =
    nothing (IsTable 0 passes) at bytes [] (record { layout = refl; taken = refl; spelled = λ are. refl })
table_outcome (suc paths) passes at bytes =
    followed (λ bytes then. with_row 3 (words_in (suc paths)) [] bytes at then)
    (λ t next bytes then. with_rows passes (words_in (suc paths)) t bytes next then)
    (IsRowOf 3 (words_in (suc paths)) []) (λ t next. AreRows passes (words_in (suc paths)) t)
    (IsTable (suc paths) passes) at bytes (row_outcome 3 (words_in (suc paths)) [] at bytes)
    (λ t next rest. rows_outcome passes (words_in (suc paths)) t next rest)
    (λ t used all after g k.
    let whole : all ≡ (g.entries ∷ g.rest) ++ k.more = k.joined ∙ ap (λ (l : List ℕ). l ++ k.more) g.joined in
    record {
      layout = rw whole (row_passed 3 (words_in (suc paths)) 0 g.entries g.rest k.more
          (λ at rest. rows_fault (words_in (suc paths)) passes at rest) g.few g.long
          ∙ k.layout (0 + 1 + 3 * g.entries));
      taken = (let l = length-append used after in let m = length-append (g.entries ∷ g.rest) k.more in
          let a = g.taken in let t = k.taken in let w = ap length whole in omega (arith, l, m, a, t, w));
      spelled = λ are. (let b = bytes_both used after are in
          ap (λ (l : List ℕ). l ++ after) (g.spelled b.0)
          ∙ (ap (λ (l : List ℕ). table_bytes (g.entries ∷ g.rest) ++ l) (k.spelled b.1)
          ∙ (sym (flat_both (g.entries ∷ g.rest) k.more) ∙ ap table_bytes (sym whole))));
    })
