-- Functions at the front of bytes, and all items of a file.
use Rattle.std.proofs.Common.{◌≡◌, refl, sym, ap, subst, ◌∙◌, ℕ, zero, suc, ◌+◌, ◌*◌, ◌≤◌, ◌==◌, ◌&&◌, ◌||◌}
use Rattle.std.proofs.Common.{Bool, true, false, List, [], ◌∷◌, ◌++◌, length, map, get_or, None, ℤ, append_assoc}
use Rattle.std.proofs.Common.{length-append, eqb-true, arith}
use Rattle.std.specs.Prelude.{nat_lt, nat_le}
use Rattle.std.proofs.lemmas.List.{append-nil, length-map}
use Rattle.std.proofs.lemmas.Bool.{leb-true}
use Rattle.cov_base.specs.Limits.{parameter_limit, array_limit, arc_limit}
use Rattle.stack_ops.specs.declared.operation.Op.{Op}
use Rattle.stack_ops.specs.Code.{FunctionValue, CodeValue}
use Rattle.code_runs.specs.Limits.{cell_limit, depth_limit, path_limit, number_limit, instruction_limit}
use Rattle.code_runs.specs.Tables.{words_in, layout_fault}
use Rattle.code_runs.specs.CodeChecks.{numbers_in, numbers_fault, fields_kept}
use Rattle.code_runs.specs.CodeChecks.{function_items, functions_items, items_fault, globals_fault}
use Rattle.code_runs.proofs.CheckLaws.{and-both}
use Rattle.code_file.specs.declared.fault.CodeFault.TheVariants as fault
use Rattle.code_file.specs.declared.head.Head.{Head}
use Rattle.code_file.specs.Spelling.{magic, version, flag, function_words, function_bytes, words_bytes, ops_bytes}
use Rattle.code_file.specs.Spelling.{table_bytes, functions_bytes, numbers_bytes, code_bytes}
use Rattle.code_file.specs.Reading.{Told, Placed, counted_only, with_word, with_ops, with_table, with_function}
use Rattle.code_file.specs.Reading.{with_functions, with_globals, wanted, with_field}
use Rattle.gcov_items.specs.Items.{word_bytes}
use Rattle.code_file.specs.Told.{Items, items_of, with_head, with_items}
use Rattle.code_file.proofs.Outcomes.{Then, AreBytes, bytes_both, Outcome, nothing, followed, mapped, tested}
use Rattle.code_file.proofs.ItemLaws.{IsWord, word_outcome, IsField, field_outcome}
use Rattle.code_file.proofs.SequenceLaws.{Tests, with_words, Pass, AreWords, words_outcome, AreOps, ops_outcome}
use Rattle.code_file.proofs.SequenceLaws.{AreGlobals, globals_outcome, IsTable, table_outcome}

-- ---- one function

-- the tests of the numbers of a function, by those before
abbrev pub tests : Bool → ℕ → ℕ → Tests
tests covered numbers start =
    (λ ws n. nat_le n parameter_limit)
    ∷ (λ ws n. nat_le (get_or ws 0 0) n && nat_le n cell_limit)
    ∷ (λ ws n. nat_le n depth_limit)
    ∷ (λ ws n. nat_le n 1)
    ∷ (λ ws n. counted_only covered n)
    ∷ (λ ws n. counted_only covered n && nat_le n arc_limit)
    ∷ (λ ws n. counted_only covered n && nat_le n path_limit
    && nat_le (numbers + (get_or ws 5 0 + words_in n)) number_limit)
    ∷ (λ ws n. nat_le n arc_limit && (nat_lt 0 (get_or ws 6 0) || n == 0))
    ∷ (λ ws n. nat_lt 0 n && nat_le (start + n) instruction_limit)
    ∷ []

-- a function of its numbers, its instructions and its table
abbrev pub function_of : List ℕ → List Op → List ℕ → FunctionValue
function_of ws ops table = record {
  params = get_or ws 0 0;
  cells = get_or ws 1 0;
  depth = get_or ws 2 0;
  gives = get_or ws 3 0 == 1;
  checksum = get_or ws 4 0;
  counters = get_or ws 5 0;
  paths = get_or ws 6 0;
  passes = get_or ws 7 0;
  ops = ops;
  table = table;
}

-- the instructions and the table of a function with these numbers
abbrev pub with_body : List ℕ → List ℕ → ℕ → Then Placed → Told
with_body ws bytes at then =
    with_ops (get_or ws 8 0) [] [] bytes at (λ ops places bytes here.
    with_table (get_or ws 6 0) (get_or ws 7 0) bytes here (λ table bytes at.
    then (record { function = function_of ws ops table; places = places; table = here }) bytes at))

in_words : (covered : Bool) (numbers start : ℕ) (bytes : List ℕ) (at : ℕ) (then : Then Placed)
    → with_function covered numbers start bytes at then
    ≡ with_words (tests covered numbers start) [] bytes at (λ ws rest next. with_body ws rest next then)
in_words covered numbers start bytes at then = refl

record IsBody (ws : List ℕ) (at : ℕ) (used : List ℕ) (f : Placed) : Type 0 where
  ops : List Op
  table : List ℕ
  is : f.function ≡ function_of ws ops table
  size : length ops ≡ get_or ws 8 0
  numbers : AreBytes used → (start : ℕ) → numbers_fault start ops ≡ None
  layout : layout_fault (get_or ws 6 0) (get_or ws 7 0) table ≡ None
  within : f.table + 8 * length table ≡ at + length used
  spelled : AreBytes used → used ≡ ops_bytes ops ++ table_bytes table

body_outcome : (ws : List ℕ) (at : ℕ) (bytes : List ℕ)
    → Outcome (λ bytes then. with_body ws bytes at then) (IsBody ws at) at bytes
body_outcome ws at bytes =
    followed (λ bytes then. with_ops (get_or ws 8 0) [] [] bytes at (λ os ps. then (os, ps)))
    (λ x here bytes then. with_table (get_or ws 6 0) (get_or ws 7 0) bytes here (λ table bytes next.
    then (record { function = function_of ws x.0 table; places = x.1; table = here }) bytes next))
    (AreOps (get_or ws 8 0) [])
    (λ x here used f. (table : List ℕ) × (f ≡ record {
      function = function_of ws x.0 table;
      places = x.1;
      table = here;
    }) × IsTable (get_or ws 6 0) (get_or ws 7 0) used table)
    (IsBody ws at) at bytes (ops_outcome (get_or ws 8 0) [] [] at bytes)
    (λ x here rest. mapped (λ bytes then. with_table (get_or ws 6 0) (get_or ws 7 0) bytes here then)
    (λ (table : List ℕ). record { function = function_of ws x.0 table; places = x.1; table = here })
    (IsTable (get_or ws 6 0) (get_or ws 7 0))
    (λ used f. (table : List ℕ) × (f ≡ record {
      function = function_of ws x.0 table;
      places = x.1;
      table = here;
    }) × IsTable (get_or ws 6 0) (get_or ws 7 0) used table)
    here rest (table_outcome (get_or ws 6 0) (get_or ws 7 0) here rest) (λ used table k. (table, refl, k)))
    (λ x used f after g k. record {
      ops = x.0;
      table = k.0;
      is = ap (λ (p : Placed). p.function) k.1;
      size = ap length g.joined ∙ g.size;
      numbers = λ are start. rw g.joined (g.numbers (bytes_both used after are).0 start);
      layout = k.2.layout;
      within = (let l = length-append used after in let t = k.2.taken in let p = ap (λ (p : Placed). p.table) k.1 in
          omega (arith, l, t, p));
      spelled = λ are. (let b = bytes_both used after are in
          ap (λ (l : List ℕ). l ++ after) (g.spelled b.0 ∙ ap ops_bytes (sym g.joined))
          ∙ ap (λ (l : List ℕ). ops_bytes x.0 ++ l) (k.2.spelled b.1));
    })

pub record IsFunction (covered : Bool) (numbers start at : ℕ) (used : List ℕ) (f : Placed) : Type 0 where
  pub items : AreBytes used → (c : CodeValue) (k : ℕ) → c.covered ≡ covered
      → function_items c k numbers start f.function ≡ None
  pub within : f.table + 8 * length f.function.table ≡ at + length used
  pub spelled : AreBytes used → used ≡ function_bytes f.function

-- what the numbers of a function are that pass their tests: they keep the rules, and are those that are written
record Nine (covered : Bool) (numbers start : ℕ) (ws : List ℕ) (ops : List Op) (table : List ℕ) : Type 0 where
  kept : (c : CodeValue) → c.covered ≡ covered → fields_kept c numbers start (function_of ws ops table) ≡ true
  words : function_words (function_of ws ops table) ≡ ws

flag_back : (n : ℕ) → nat_le n 1 ≡ true → flag (n == 1) ≡ n
flag_back zero h = refl
flag_back (suc zero) h = refl
flag_back (suc (suc n)) h = absurd (omega (arith, leb-true (suc (suc n)) 1 h))

nothing_counted : (b : Bool) (g i j : ℕ) → counted_only b g ≡ true → counted_only b i ≡ true
    → counted_only b j ≡ true → (b || (i == 0 && (j == 0 && g == 0))) ≡ true
nothing_counted true g i j x y z = refl
nothing_counted false g i j x y z = rw (x, y, z) refl

nine : (covered : Bool) (numbers start : ℕ) (ws : List ℕ) (ops : List Op) (table : List ℕ)
    → Pass (tests covered numbers start) [] ws → length ops ≡ get_or ws 8 0 → Nine covered numbers start ws ops table
nine covered numbers start [] ops table h size = absurd h
nine covered numbers start (a ∷ []) ops table h size = absurd h.1
nine covered numbers start (a ∷ b ∷ []) ops table h size = absurd h.1.1
nine covered numbers start (a ∷ b ∷ d ∷ []) ops table h size = absurd h.1.1.1
nine covered numbers start (a ∷ b ∷ d ∷ e ∷ []) ops table h size = absurd h.1.1.1.1
nine covered numbers start (a ∷ b ∷ d ∷ e ∷ g ∷ []) ops table h size = absurd h.1.1.1.1.1
nine covered numbers start (a ∷ b ∷ d ∷ e ∷ g ∷ i ∷ []) ops table h size = absurd h.1.1.1.1.1.1
nine covered numbers start (a ∷ b ∷ d ∷ e ∷ g ∷ i ∷ j ∷ []) ops table h size = absurd h.1.1.1.1.1.1.1
nine covered numbers start (a ∷ b ∷ d ∷ e ∷ g ∷ i ∷ j ∷ k ∷ []) ops table h size = absurd h.1.1.1.1.1.1.1.1
nine covered numbers start (a ∷ b ∷ d ∷ e ∷ g ∷ i ∷ j ∷ k ∷ l ∷ m ∷ ws) ops table h size =
    absurd h.1.1.1.1.1.1.1.1.1
nine covered numbers start (a ∷ b ∷ d ∷ e ∷ g ∷ i ∷ j ∷ k ∷ l ∷ []) ops table h size =
    let cells = and-both (nat_le a b) (nat_le b cell_limit) h.1.0 in
    let counters = and-both (counted_only covered i) (nat_le i arc_limit) h.1.1.1.1.1.0 in
    let paths = and-both (counted_only covered j && nat_le j path_limit)
    (nat_le (numbers + (i + words_in j)) number_limit) h.1.1.1.1.1.1.0 in
    let paths1 = and-both (counted_only covered j) (nat_le j path_limit) paths.0 in
    let passes = and-both (nat_le k arc_limit) (nat_lt 0 j || k == 0) h.1.1.1.1.1.1.1.0 in
    let sizes = and-both (nat_lt 0 l) (nat_le (start + l) instruction_limit) h.1.1.1.1.1.1.1.1.0 in
    let params : nat_le a parameter_limit ≡ true = h.0 in
    let depth : nat_le d depth_limit ≡ true = h.1.1.0 in
    record {
      kept = λ c same. rw (
        same,
        size,
        cells.0,
        sizes.0,
        params,
        cells.1,
        depth,
        counters.1,
        paths1.1,
        passes.0,
        passes.1,
        nothing_counted covered g i j h.1.1.1.1.0 counters.0 paths1.0,
        paths.1,
        sizes.1,
      ) refl;
      words = rw (flag_back e h.1.1.1.0, size) refl;
    }

function_outcome : (covered : Bool) (numbers start : ℕ) (at : ℕ) (bytes : List ℕ)
    → Outcome (λ bytes then. with_function covered numbers start bytes at then) (IsFunction covered numbers start at)
    at bytes
unfolding words_bytes
function_outcome covered numbers start at bytes =
    followed (λ bytes then. with_words (tests covered numbers start) [] bytes at then)
    (λ ws next bytes then. with_body ws bytes next then) (AreWords (tests covered numbers start) [])
    (λ ws next. IsBody ws next) (IsFunction covered numbers start at) at bytes
    (words_outcome (tests covered numbers start) [] at bytes) (λ ws next rest. body_outcome ws next rest)
    (λ ws used f after g k.
    let n : Nine covered numbers start ws k.ops k.table =
    nine covered numbers start ws k.ops k.table
    (subst (λ (l : List ℕ). Pass (tests covered numbers start) [] l) (sym g.joined) g.pass) k.size in
    record {
      items = λ are c place same. (let b = bytes_both used after are in
          rw (k.is, n.kept c same, k.numbers b.1 start, k.layout) refl);
      within = (let l = length-append used after in let w = k.within in
          let t = ap (λ (v : FunctionValue). length v.table) k.is in omega (arith, l, w, t));
      spelled = λ are. (let b = bytes_both used after are in
          ap (λ (l : List ℕ). l ++ after) (g.spelled b.0 ∙ ap words_bytes (sym g.joined ∙ sym n.words))
          ∙ (ap (λ (l : List ℕ). words_bytes (function_words (function_of ws k.ops k.table)) ++ l) (k.spelled b.1)
          ∙ ap function_bytes (sym k.is)));
    })

-- ---- functions

-- tables end at this place or before it
abbrev pub Within : ℕ → List Placed → Type 0
Within n [] = Unit {0}
Within n (f ∷ fs) = (f.table + 8 * length f.function.table ≤ n) × Within n fs

further : (n m : ℕ) (fs : List Placed) → n ≤ m → Within n fs → Within m fs
further n m [] le h = tt
further n m (f ∷ fs) le h = let a = h.0 in (omega (arith, a, le), further n m fs le h.1)

abbrev pub functions_in : List Placed → List FunctionValue
functions_in fs = map (λ f. f.function) fs

pub record AreFunctions (n : ℕ) (covered : Bool) (numbers start at : ℕ) (functions : List Placed) (used : List ℕ)
    (all : List Placed) : Type 0 where
  pub more : List Placed
  pub joined : all ≡ functions ++ more
  pub size : length more ≡ n
  pub items : AreBytes used → (c : CodeValue) (k : ℕ) → c.covered ≡ covered
      → functions_items c k numbers start (functions_in more) ≡ None
  pub within : Within (at + length used) more
  pub spelled : AreBytes used → used ≡ functions_bytes (functions_in more)

functions_outcome : (n : ℕ) (covered : Bool) (numbers start : ℕ) (functions : List Placed) (at : ℕ) (bytes : List ℕ)
    → Outcome (λ bytes then. with_functions n covered numbers start functions bytes at then)
    (AreFunctions n covered numbers start at functions) at bytes
unfolding functions_bytes
functions_outcome zero covered numbers start functions at bytes =
    nothing (AreFunctions 0 covered numbers start at functions) at bytes functions (record {
      more = [];
      joined = sym (append-nil functions);
      size = refl;
      items = λ are c k same. refl;
      within = tt;
      spelled = λ are. refl;
    })
functions_outcome (suc n) covered numbers start functions at bytes =
    followed (λ bytes then. with_function covered numbers start bytes at then)
    (λ f next bytes then. with_functions n covered (numbers + numbers_in f.function) (start + length f.function.ops)
    (functions ++ f ∷ []) bytes next then)
    (IsFunction covered numbers start at)
    (λ f next. AreFunctions n covered (numbers + numbers_in f.function) (start + length f.function.ops) next
    (functions ++ f ∷ []))
    (AreFunctions (suc n) covered numbers start at functions) at bytes (function_outcome covered numbers start at bytes)
    (λ f next rest. functions_outcome n covered (numbers + numbers_in f.function) (start + length f.function.ops)
    (functions ++ f ∷ []) next rest)
    (λ f used all after g k.
    let l = length-append used after in
    record {
      more = f ∷ k.more;
      joined = k.joined ∙ append_assoc functions (f ∷ []) k.more;
      size = ap suc k.size;
      items = λ are c place same. (let b = bytes_both used after are in
          rw (g.items b.0 c place same) (k.items b.1 c (suc place) same));
      within = (let w = g.within in (
        omega (arith, l, w),
        further (at + length used + length after) (at + length (used ++ after)) k.more (omega (arith, l)) k.within,
      ));
      spelled = λ are. (let b = bytes_both used after are in
          ap (λ (m : List ℕ). m ++ after) (g.spelled b.0)
          ∙ ap (λ (m : List ℕ). function_bytes f.function ++ m) (k.spelled b.1));
    })

-- ---- all items

spell : (w : ℕ) (ws used after : List ℕ) → used ≡ word_bytes w → after ≡ words_bytes ws
    → used ++ after ≡ words_bytes (w ∷ ws)
unfolding words_bytes
spell w ws used after e f = ap (λ (l : List ℕ). l ++ after) e ∙ ap (λ (l : List ℕ). word_bytes w ++ l) f

spell_one : (w : ℕ) (used : List ℕ) → used ≡ word_bytes w → used ≡ words_bytes (w ∷ [])
unfolding words_bytes
spell_one w used e = e ∙ sym (append-nil (word_bytes w))

-- what stands in the head of a file behind the stamp
abbrev IsEnd : ℕ → ℕ → List ℕ → Head → Type 0
IsEnd stamp covered used h =
    (h.stamp ≡ stamp) × (h.covered ≡ (covered == 1)) × (nat_le h.globals array_limit ≡ true)
    × (AreBytes used → used ≡ words_bytes (h.main ∷ h.globals ∷ []))

end_outcome : (stamp covered : ℕ) (at : ℕ) (bytes : List ℕ)
    → Outcome (λ bytes then. with_word bytes at (λ main bytes next.
    with_field (λ n. nat_le n array_limit) bytes next (λ count. then (record {
      stamp = stamp;
      covered = covered == 1;
      main = main;
      main_at = at;
      globals = count;
    })))) (IsEnd stamp covered) at bytes
end_outcome stamp covered at bytes =
    followed (λ bytes then. with_word bytes at then)
    (λ main next bytes then. with_field (λ n. nat_le n array_limit) bytes next (λ count. then (record {
      stamp = stamp;
      covered = covered == 1;
      main = main;
      main_at = at;
      globals = count;
    }))) IsWord
    (λ main next used h. (count : ℕ) × (h ≡ record {
      stamp = stamp;
      covered = covered == 1;
      main = main;
      main_at = at;
      globals = count;
    }) × IsField (λ n. nat_le n array_limit) used count)
    (IsEnd stamp covered) at bytes (word_outcome at bytes)
    (λ main next rest. mapped (λ bytes then. with_field (λ n. nat_le n array_limit) bytes next then)
    (λ count. record { stamp = stamp; covered = covered == 1; main = main; main_at = at; globals = count })
    (IsField (λ n. nat_le n array_limit))
    (λ used h. (count : ℕ) × (h ≡ record {
      stamp = stamp;
      covered = covered == 1;
      main = main;
      main_at = at;
      globals = count;
    }) × IsField (λ n. nat_le n array_limit) used count)
    next rest (field_outcome (λ n. nat_le n array_limit) next rest) (λ used count k. (count, refl, k)))
    (λ main used h after g k. (
      ap (λ (v : Head). v.stamp) k.1,
      ap (λ (v : Head). v.covered) k.1,
      rw k.1 k.2.0,
      λ are. (let b = bytes_both used after are in
          rw k.1 (spell main (k.0 ∷ []) used after (g.1 b.0) (spell_one k.0 after (k.2.1.1 b.1)))),
    ))

-- what stands in the head of a file behind the version
abbrev IsRest : List ℕ → Head → Type 0
IsRest used h =
    (nat_le h.globals array_limit ≡ true)
    × (AreBytes used → used ≡ words_bytes (h.stamp ∷ flag h.covered ∷ h.main ∷ h.globals ∷ []))

rest_outcome : (at : ℕ) (bytes : List ℕ)
    → Outcome (λ bytes then. with_word bytes at (λ stamp bytes at.
    with_field (λ n. nat_le n 1) bytes at (λ covered bytes main_at.
    with_word bytes main_at (λ main bytes at.
    with_field (λ n. nat_le n array_limit) bytes at (λ count. then (record {
      stamp = stamp;
      covered = covered == 1;
      main = main;
      main_at = main_at;
      globals = count;
    })))))) IsRest at bytes
rest_outcome at bytes =
    followed (λ bytes then. with_word bytes at then)
    (λ stamp next bytes then. with_field (λ n. nat_le n 1) bytes next (λ covered bytes main_at.
    with_word bytes main_at (λ main bytes at.
    with_field (λ n. nat_le n array_limit) bytes at (λ count. then (record {
      stamp = stamp;
      covered = covered == 1;
      main = main;
      main_at = main_at;
      globals = count;
    }))))) IsWord
    (λ stamp next used h. (h.stamp ≡ stamp) × (nat_le h.globals array_limit ≡ true)
    × (AreBytes used → used ≡ words_bytes (flag h.covered ∷ h.main ∷ h.globals ∷ [])))
    IsRest at bytes (word_outcome at bytes)
    (λ stamp next rest. followed (λ bytes then. with_field (λ n. nat_le n 1) bytes next then)
    (λ covered main_at bytes then. with_word bytes main_at (λ main bytes at.
    with_field (λ n. nat_le n array_limit) bytes at (λ count. then (record {
      stamp = stamp;
      covered = covered == 1;
      main = main;
      main_at = main_at;
      globals = count;
    })))) (IsField (λ n. nat_le n 1)) (λ covered main_at. IsEnd stamp covered)
    (λ used h. (h.stamp ≡ stamp) × (nat_le h.globals array_limit ≡ true)
    × (AreBytes used → used ≡ words_bytes (flag h.covered ∷ h.main ∷ h.globals ∷ [])))
    next rest (field_outcome (λ n. nat_le n 1) next rest)
    (λ covered main_at rest. end_outcome stamp covered main_at rest)
    (λ covered used h after g k. (
      k.0,
      k.2,
      λ are. (let b = bytes_both used after are in
          spell (flag h.covered) (h.main ∷ h.globals ∷ []) used after
          (g.1.1 b.0 ∙ ap word_bytes (sym (ap flag k.1 ∙ flag_back covered g.0))) (k.3 b.1)),
    )))
    (λ stamp used h after g k. (
      k.1,
      λ are. (let b = bytes_both used after are in
          spell h.stamp (flag h.covered ∷ h.main ∷ h.globals ∷ []) used after
          (g.1 b.0 ∙ ap word_bytes (sym k.0)) (k.2 b.1)),
    ))

-- what the head of a file is
pub record IsHead (used : List ℕ) (h : Head) : Type 0 where
  pub few : nat_le h.globals array_limit ≡ true
  pub spelled : AreBytes used
      → used ≡ words_bytes (magic ∷ version ∷ h.stamp ∷ flag h.covered ∷ h.main ∷ h.globals ∷ [])

-- what stands in the head of a file behind the magic word
abbrev IsBehindMagic : List ℕ → Head → Type 0
IsBehindMagic used h =
    (nat_le h.globals array_limit ≡ true)
    × (AreBytes used → used ≡ words_bytes (version ∷ h.stamp ∷ flag h.covered ∷ h.main ∷ h.globals ∷ []))

behind_magic : (at : ℕ) (bytes : List ℕ)
    → Outcome (λ bytes then. with_word bytes at (λ v bytes after.
    wanted (v == version) (fault.Version at) (with_word bytes after (λ stamp bytes at.
    with_field (λ n. nat_le n 1) bytes at (λ covered bytes main_at.
    with_word bytes main_at (λ main bytes at.
    with_field (λ n. nat_le n array_limit) bytes at (λ count. then (record {
      stamp = stamp;
      covered = covered == 1;
      main = main;
      main_at = main_at;
      globals = count;
    })))))))) IsBehindMagic at bytes
behind_magic at bytes =
    followed (λ bytes then. with_word bytes at then)
    (λ v next bytes then. wanted (v == version) (fault.Version at) (with_word bytes next (λ stamp bytes at.
    with_field (λ n. nat_le n 1) bytes at (λ covered bytes main_at.
    with_word bytes main_at (λ main bytes at.
    with_field (λ n. nat_le n array_limit) bytes at (λ count. then (record {
      stamp = stamp;
      covered = covered == 1;
      main = main;
      main_at = main_at;
      globals = count;
    }))))))) IsWord
    (λ v next used h. ((v == version) ≡ true) × IsRest used h) IsBehindMagic at bytes (word_outcome at bytes)
    (λ v next rest. tested (λ bytes then. with_word bytes next (λ stamp bytes at.
    with_field (λ n. nat_le n 1) bytes at (λ covered bytes main_at.
    with_word bytes main_at (λ main bytes at.
    with_field (λ n. nat_le n array_limit) bytes at (λ count. then (record {
      stamp = stamp;
      covered = covered == 1;
      main = main;
      main_at = main_at;
      globals = count;
    })))))) IsRest next rest (fault.Version at) (v == version) tt (rest_outcome next rest))
    (λ v used h after g k. (
      k.1.0,
      λ are. (let b = bytes_both used after are in
          spell version (h.stamp ∷ flag h.covered ∷ h.main ∷ h.globals ∷ []) used after
          (g.1 b.0 ∙ ap word_bytes (eqb-true v version k.0)) (k.1.1 b.1)),
    ))

head_outcome : (bytes : List ℕ) → Outcome (λ bytes then. with_head bytes then) IsHead 0 bytes
head_outcome bytes =
    followed (λ bytes then. with_word bytes 0 then)
    (λ m next bytes then. wanted (m == magic) (fault.Magic 0) (with_word bytes next (λ v bytes after.
    wanted (v == version) (fault.Version next) (with_word bytes after (λ stamp bytes at.
    with_field (λ n. nat_le n 1) bytes at (λ covered bytes main_at.
    with_word bytes main_at (λ main bytes at.
    with_field (λ n. nat_le n array_limit) bytes at (λ count. then (record {
      stamp = stamp;
      covered = covered == 1;
      main = main;
      main_at = main_at;
      globals = count;
    }))))))))) IsWord
    (λ m next used h. ((m == magic) ≡ true) × IsBehindMagic used h) IsHead 0 bytes (word_outcome 0 bytes)
    (λ m next rest. tested (λ bytes then. with_word bytes next (λ v bytes after.
    wanted (v == version) (fault.Version next) (with_word bytes after (λ stamp bytes at.
    with_field (λ n. nat_le n 1) bytes at (λ covered bytes main_at.
    with_word bytes main_at (λ main bytes at.
    with_field (λ n. nat_le n array_limit) bytes at (λ count. then (record {
      stamp = stamp;
      covered = covered == 1;
      main = main;
      main_at = main_at;
      globals = count;
    })))))))) IsBehindMagic next rest (fault.Magic 0) (m == magic) tt (behind_magic next rest))
    (λ m used h after g k. record {
      few = k.1.0;
      spelled = λ are. (let b = bytes_both used after are in
          spell magic (version ∷ h.stamp ∷ flag h.covered ∷ h.main ∷ h.globals ∷ []) used after
          (g.1 b.0 ∙ ap word_bytes (eqb-true m magic k.0)) (k.1.1 b.1));
    })

-- ---- the whole file

-- what stands behind the head of a file
record IsBehind (h : Head) (next : ℕ) (used : List ℕ) (i : Items) : Type 0 where
  globals : List ℤ
  functions : List Placed
  is : i ≡ items_of h globals functions
  size : length globals ≡ h.globals
  numbers : AreBytes used → globals_fault globals ≡ None
  items : AreBytes used → (c : CodeValue) → c.covered ≡ h.covered
      → functions_items c 0 0 0 (functions_in functions) ≡ None
  within : Within (next + length used) functions
  spelled : AreBytes used → used
      ≡ numbers_bytes globals
      ++ (words_bytes (length (functions_in functions) ∷ []) ++ functions_bytes (functions_in functions))

-- functions behind their number
record IsCounted (h : Head) (globals : List ℤ) (next : ℕ) (used : List ℕ) (i : Items) : Type 0 where
  functions : List Placed
  is : i ≡ items_of h globals functions
  items : AreBytes used → (c : CodeValue) → c.covered ≡ h.covered
      → functions_items c 0 0 0 (functions_in functions) ≡ None
  within : Within (next + length used) functions
  spelled : AreBytes used → used
      ≡ words_bytes (length (functions_in functions) ∷ []) ++ functions_bytes (functions_in functions)

counted_outcome : (h : Head) (globals : List ℤ) (at : ℕ) (bytes : List ℕ)
    → Outcome (λ bytes then. with_word bytes at (λ count bytes next.
    with_functions count h.covered 0 0 [] bytes next (λ functions. then (items_of h globals functions))))
    (IsCounted h globals at) at bytes
counted_outcome h globals at bytes =
    followed (λ bytes then. with_word bytes at then)
    (λ count next bytes then. with_functions count h.covered 0 0 [] bytes next (λ functions.
    then (items_of h globals functions))) IsWord
    (λ count next used i. (functions : List Placed) × (i ≡ items_of h globals functions)
    × AreFunctions count h.covered 0 0 next [] used functions)
    (IsCounted h globals at) at bytes (word_outcome at bytes)
    (λ count next rest. mapped (λ bytes then. with_functions count h.covered 0 0 [] bytes next then)
    (λ functions. items_of h globals functions) (AreFunctions count h.covered 0 0 next [])
    (λ used i. (functions : List Placed) × (i ≡ items_of h globals functions)
    × AreFunctions count h.covered 0 0 next [] used functions)
    next rest (functions_outcome count h.covered 0 0 [] next rest) (λ used functions k. (functions, refl, k)))
    (λ count used i after g k.
    let l = length-append used after in
    let own : k.0 ≡ k.2.more = k.2.joined in
    record {
      functions = k.0;
      is = k.1;
      items = λ are c same. rw own (k.2.items (bytes_both used after are).1 c 0 same);
      within = rw own (further (at + length used + length after) (at + length (used ++ after)) k.2.more
          (omega (arith, l)) k.2.within);
      spelled = λ are. (let b = bytes_both used after are in
          let many : length (functions_in k.0) ≡ count =
          length-map k.0 (λ (f : Placed). f.function) ∙ (ap length own ∙ k.2.size) in
          ap (λ (m : List ℕ). m ++ after) (spell_one (length (functions_in k.0)) used
          (g.1 b.0 ∙ ap word_bytes (sym many)))
          ∙ ap (λ (m : List ℕ). words_bytes (length (functions_in k.0) ∷ []) ++ m)
          (k.2.spelled b.1 ∙ ap (λ (fs : List Placed). functions_bytes (functions_in fs)) (sym own)));
    })

behind_outcome : (h : Head) (at : ℕ) (bytes : List ℕ)
    → Outcome (λ bytes then. with_globals h.globals [] bytes at (λ globals bytes at.
    with_word bytes at (λ count bytes at.
    with_functions count h.covered 0 0 [] bytes at (λ functions. then (items_of h globals functions)))))
    (IsBehind h at) at bytes
behind_outcome h at bytes =
    followed (λ bytes then. with_globals h.globals [] bytes at then)
    (λ globals next bytes then. with_word bytes next (λ count bytes at.
    with_functions count h.covered 0 0 [] bytes at (λ functions. then (items_of h globals functions))))
    (AreGlobals h.globals []) (λ globals next. IsCounted h globals next) (IsBehind h at) at bytes
    (globals_outcome h.globals [] at bytes) (λ globals next rest. counted_outcome h globals next rest)
    (λ globals used i after g k.
    let l = length-append used after in
    record {
      globals = globals;
      functions = k.functions;
      is = k.is;
      size = ap length g.joined ∙ g.size;
      numbers = λ are. rw g.joined (g.numbers (bytes_both used after are).0);
      items = λ are. k.items (bytes_both used after are).1;
      within = further (at + length used + length after) (at + length (used ++ after)) k.functions (omega (arith, l))
          k.within;
      spelled = λ are. (let b = bytes_both used after are in
          ap (λ (m : List ℕ). m ++ after) (g.spelled b.0 ∙ ap numbers_bytes (sym g.joined))
          ∙ ap (λ (m : List ℕ). numbers_bytes globals ++ m) (k.spelled b.1));
    })

pub record AreItems (used : List ℕ) (i : Items) : Type 0 where
  pub items : AreBytes used → items_fault i.code ≡ None
  pub same : i.code.functions ≡ functions_in i.functions
  pub within : Within (length used) i.functions
  pub spelled : AreBytes used → used ≡ code_bytes i.code

pub items_outcome : (bytes : List ℕ) → Outcome (λ bytes then. with_items bytes then) AreItems 0 bytes
items_outcome bytes =
    followed (λ bytes then. with_head bytes then)
    (λ h next bytes then. with_globals h.globals [] bytes next (λ globals bytes at.
    with_word bytes at (λ count bytes at.
    with_functions count h.covered 0 0 [] bytes at (λ functions. then (items_of h globals functions)))))
    IsHead (λ h next. IsBehind h next) AreItems 0 bytes (head_outcome bytes)
    (λ h next rest. behind_outcome h next rest)
    (λ h used i after g k.
    let l = length-append used after in
    record {
      items = λ are. (let b = bytes_both used after are in
          rw (k.is, k.size, g.few, k.numbers b.1) (k.items b.1 (items_of h k.globals k.functions).code refl));
      same = rw k.is refl;
      within = rw k.is (further (0 + length used + length after) (length (used ++ after)) k.functions (omega (arith, l))
          k.within);
      spelled = λ are. (let b = bytes_both used after are in
          rw k.is (ap (λ (m : List ℕ). m ++ after) (g.spelled b.0
          ∙ ap (λ n. words_bytes (magic ∷ version ∷ h.stamp ∷ flag h.covered ∷ h.main ∷ n ∷ [])) (sym k.size))
          ∙ ap (λ (m : List ℕ). words_bytes (magic ∷ version ∷ h.stamp ∷ flag h.covered ∷ h.main
          ∷ length k.globals ∷ []) ++ m) (k.spelled b.1)));
    })
