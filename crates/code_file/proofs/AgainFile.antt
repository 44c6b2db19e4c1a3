-- What is spelled is read again: functions and whole files.
use Rattle.std.proofs.Common.{◌≡◌, refl, sym, ap, subst, ◌∙◌, ℕ, suc, ◌+◌, ◌^◌, ◌<◌, ◌==◌, ◌&&◌, ◌||◌}
use Rattle.std.proofs.Common.{Bool, true, false, List, [], ◌∷◌, ◌++◌, length, Option, Some, None}
use Rattle.std.proofs.Common.{append_assoc, arith}
use Rattle.std.specs.Prelude.{nat_lt, nat_le, slice_get}
use Rattle.std.specs.List.{All}
use Rattle.std.proofs.lemmas.Bool.{leb-true}
use Rattle.std.proofs.lemmas.List.{append-nil}
use Rattle.std.proofs.lemmas.Option.{slice_get_within, none-some}
use Rattle.cov_base.specs.Limits.{parameter_limit, array_limit, arc_limit}
use Rattle.stack_ops.specs.Code.{FunctionValue, CodeValue}
use Rattle.code_runs.specs.Limits.{cell_limit, depth_limit, path_limit, number_limit, instruction_limit}
use Rattle.code_runs.specs.Checks.{Rule, broken}
use Rattle.code_runs.specs.Tables.{table_word}
use Rattle.code_runs.specs.CodeChecks.{unless_at, limits_kept, counts_nothing, fields_kept, numbers_in}
use Rattle.code_runs.specs.CodeChecks.{numbers_fault, function_items, functions_items, globals_fault}
use Rattle.code_runs.specs.CodeChecks.{items_fault, main_kept, counted_from, row_fault, function_values}
use Rattle.code_runs.specs.CodeChecks.{functions_values, values_fault, code_fault}
use Rattle.code_runs.proofs.CheckLaws.{or-none, and-both}
use Rattle.code_runs.proofs.CodeLaws.{unless_at-none}
use Rattle.code_checks.proofs.FieldLaws.{fields_known, layout_known}
use Rattle.gcov_items.specs.Items.{word_bytes}
use Rattle.code_file.specs.declared.fault.CodeFault.TheVariants as fault
use Rattle.code_file.specs.declared.head.Head.{Head}
use Rattle.code_file.specs.InWords.{IsFunctionInWords, IsCodeInWords}
use Rattle.code_file.specs.Spelling.{magic, version, flag, words_bytes, numbers_bytes, ops_bytes, table_bytes}
use Rattle.code_file.specs.Spelling.{function_words, function_bytes, functions_bytes, code_words, code_bytes}
use Rattle.code_file.specs.Reading.{Told, File, Placed, told, wanted, counted_only, with_word, with_field}
use Rattle.code_file.specs.Reading.{with_table, with_function, with_functions, with_globals, placed_fault}
use Rattle.code_file.specs.Reading.{at_byte, at_entry}
use Rattle.code_file.specs.Told.{items_of, with_head}
use Rattle.code_file.proofs.Outcomes.{Then}
use Rattle.code_file.proofs.SequenceLaws.{Tests, with_words, Pass}
use Rattle.code_file.proofs.FunctionLaws.{tests, with_body, function_of, functions_in}
use Rattle.code_file.proofs.FileLaws.{judge}
use Rattle.code_file.proofs.WriteLaws.{functions_few}
use Rattle.code_file.proofs.AgainLaws.{word_again, field_again}
use Rattle.code_file.proofs.AgainParts.{OpsAgain, ops_again, GlobalsAgain, globals_again, TableAgain, table_again}

-- ---- the numbers of a function

-- numbers that fit words
abbrev Fit : List ℕ → Type 0
Fit [] = Unit {0}
Fit (w ∷ ws) = (w < 2 ^ 32) × Fit ws

-- words that pass their tests are read behind others
record WordsAgain (ts : Tests) (ws before rest : List ℕ) (at : ℕ) : Type 0 where
  next : ℕ
  read : (then : Then (List ℕ))
      → with_words ts before (words_bytes ws ++ rest) at then ≡ then (before ++ ws) rest next

words_again : (ts : Tests) (ws before : List ℕ) → Pass ts before ws → Fit ws → (rest : List ℕ) (at : ℕ)
    → WordsAgain ts ws before rest at
unfolding words_bytes
words_again [] [] before h fit rest at = record {
  next = at;
  read = λ then. ap (λ (l : List ℕ). then l rest at) (sym (append-nil before));
}
words_again [] (w ∷ ws) before h fit rest at = absurd h
words_again (t ∷ ts) [] before h fit rest at = absurd h
words_again (t ∷ ts) (w ∷ ws) before h fit rest at =
    let behind : WordsAgain ts ws (before ++ w ∷ []) rest (at + 4) =
    words_again ts ws (before ++ w ∷ []) h.1 fit.1 rest (at + 4) in
    record {
      next = behind.next;
      read = λ then.
          ap (λ (l : List ℕ). with_words (t ∷ ts) before l at then) (append_assoc (word_bytes w) (words_bytes ws) rest)
          ∙ (field_again (t before) w fit.0 h.0 (words_bytes ws ++ rest) at
          (λ w rest next. with_words ts (before ++ w ∷ []) rest next then)
          ∙ (behind.read then
          ∙ ap (λ (l : List ℕ). then l rest behind.next) (append_assoc before (w ∷ []) ws)));
    }

flag_few : (b : Bool) → nat_le (flag b) 1 ≡ true
flag_few true = refl
flag_few false = refl

flag_small : (b : Bool) → flag b < 2 ^ 32
flag_small true = omega arith
flag_small false = omega arith

flag_is : (b : Bool) → (flag b == 1) ≡ b
flag_is true = refl
flag_is false = refl

counted : (b : Bool) (i j g : ℕ) → (b || (i == 0 && (j == 0 && g == 0))) ≡ true
    → (counted_only b i ≡ true) × (counted_only b j ≡ true) × (counted_only b g ≡ true)
counted true i j g h = (refl, refl, refl)
counted false i j g h =
    let k = and-both (i == 0) (j == 0 && g == 0) h in let l = and-both (j == 0) (g == 0) k.1 in (k.0, l.0, l.1)

-- the numbers of a function that breaks no rule pass their tests and fit words
record Nine (covered : Bool) (numbers start : ℕ) (f : FunctionValue) : Type 0 where
  pass : Pass (tests covered numbers start) [] (function_words f)
  fit : Fit (function_words f)

nine : (c : CodeValue) (numbers start : ℕ) (f : FunctionValue) → fields_kept c numbers start f ≡ true
    → f.checksum < 2 ^ 32 → Nine c.covered numbers start f
nine c numbers start f h sum =
    let a = and-both (limits_kept f) ((c.covered || counts_nothing f)
    && (nat_le (numbers + numbers_in f) number_limit && nat_le (start + length f.ops) instruction_limit)) h in
    let counts = and-both (c.covered || counts_nothing f)
    (nat_le (numbers + numbers_in f) number_limit && nat_le (start + length f.ops) instruction_limit) a.1 in
    let totals = and-both (nat_le (numbers + numbers_in f) number_limit)
    (nat_le (start + length f.ops) instruction_limit) counts.1 in
    let l0 = and-both (nat_le f.params f.cells) _ a.0 in
    let l1 = and-both (nat_lt 0 (length f.ops)) _ l0.1 in
    let l2 = and-both (nat_le f.params parameter_limit) _ l1.1 in
    let l3 = and-both (nat_le f.cells cell_limit) _ l2.1 in
    let l4 = and-both (nat_le f.depth depth_limit) _ l3.1 in
    let l5 = and-both (nat_le f.counters arc_limit) _ l4.1 in
    let l6 = and-both (nat_le f.paths path_limit) _ l5.1 in
    let l7 = and-both (nat_le f.passes arc_limit) (nat_lt 0 f.paths || f.passes == 0) l6.1 in
    let only = counted c.covered f.counters f.paths f.checksum counts.0 in
    let params = leb-true f.params parameter_limit l2.0 in
    let cells = leb-true f.cells cell_limit l3.0 in
    let depth = leb-true f.depth depth_limit l4.0 in
    let counters = leb-true f.counters arc_limit l5.0 in
    let paths = leb-true f.paths path_limit l6.0 in
    let passes = leb-true f.passes arc_limit l7.0 in
    let size = leb-true (start + length f.ops) instruction_limit totals.1 in
    record {
      pass = (
        l2.0,
        (
          rw (l0.0, l3.0) refl,
          (
            l4.0,
            (
              flag_few f.gives,
              (
                only.2,
                (
                  rw (only.0, l5.0) refl,
                  (rw (only.1, l6.0, totals.0) refl, (rw (l7.0, l7.1) refl, (rw (l1.0, totals.1) refl, tt))),
                ),
              ),
            ),
          ),
        ),
      );
      fit = (
        omega (arith, params),
        (
          omega (arith, cells),
          (
            omega (arith, depth),
            (
              flag_small f.gives,
              (
                sum,
                (
                  omega (arith, counters),
                  (omega (arith, paths), (omega (arith, passes), (omega (arith, size), tt))),
                ),
              ),
            ),
          ),
        ),
      );
    }

-- ---- a function

record FunctionAgain (covered : Bool) (numbers start : ℕ) (f : FunctionValue) (rest : List ℕ) (at : ℕ) : Type 0 where
  places : List ℕ
  table : ℕ
  next : ℕ
  read : (then : Then Placed) → with_function covered numbers start (function_bytes f ++ rest) at then
      ≡ then (record { function = f; places = places; table = table }) rest next

function_back : (f : FunctionValue) → function_of (function_words f) f.ops f.table ≡ f
function_back f =
    ap (λ b. record {
      params = f.params;
      cells = f.cells;
      depth = f.depth;
      gives = b;
      checksum = f.checksum;
      counters = f.counters;
      paths = f.paths;
      passes = f.passes;
      ops = f.ops;
      table = f.table;
    }) (flag_is f.gives)

function_again : (c : CodeValue) (k numbers start : ℕ) (f : FunctionValue) → function_items c k numbers start f ≡ None
    → IsFunctionInWords f → (rest : List ℕ) (at : ℕ) → FunctionAgain c.covered numbers start f rest at
function_again c k numbers start f h fit rest at =
    let n : Nine c.covered numbers start f =
    nine c numbers start f (fields_known c k numbers start f h) fit.checksum in
    let ops = (or-none (numbers_fault start f.ops) _
    (or-none (unless_at (fields_kept c numbers start f) k Rule.Field) _ h).1).0 in
    let body : List ℕ = ops_bytes f.ops ++ table_bytes f.table in
    let words : WordsAgain (tests c.covered numbers start) (function_words f) [] (body ++ rest) at =
    words_again (tests c.covered numbers start) (function_words f) [] n.pass n.fit (body ++ rest) at in
    let os : OpsAgain f.ops [] [] (table_bytes f.table ++ rest) words.next =
    ops_again f.ops [] [] start ops fit.ops (table_bytes f.table ++ rest) words.next in
    let table : TableAgain f.paths f.passes f.table rest os.next =
    table_again f.paths f.passes f.table (layout_known c k numbers start f h) fit.table rest os.next in
    record {
      places = os.more;
      table = os.next;
      next = table.next;
      read = λ then.
          ap (λ (l : List ℕ). with_function c.covered numbers start l at then)
          (append_assoc (words_bytes (function_words f)) body rest)
          ∙ (words.read (λ ws rest next. with_body ws rest next then)
          ∙ (ap (λ (l : List ℕ). with_body (function_words f) l words.next then)
          (append_assoc (ops_bytes f.ops) (table_bytes f.table) rest)
          ∙ (os.read (λ ops places bytes here.
          with_table f.paths f.passes bytes here (λ table bytes at.
          then (record { function = function_of (function_words f) ops table; places = places; table = here }) bytes at))
          ∙ (table.read (λ table bytes at.
          then (record {
            function = function_of (function_words f) f.ops table;
            places = os.more;
            table = os.next;
          }) bytes at)
          ∙ ap (λ (g : FunctionValue). then (record { function = g; places = os.more; table = os.next }) rest table.next)
          (function_back f)))));
    }

-- ---- functions

record FunctionsAgain (covered : Bool) (numbers start : ℕ) (fs : List FunctionValue) (before : List Placed)
    (rest : List ℕ) (at : ℕ) : Type 0 where
  more : List Placed
  next : ℕ
  same : functions_in more ≡ fs
  read : (then : Then (List Placed))
      → with_functions (length fs) covered numbers start before (functions_bytes fs ++ rest) at then
      ≡ then (before ++ more) rest next

functions_again : (c : CodeValue) (k numbers start : ℕ) (fs : List FunctionValue) (before : List Placed)
    → functions_items c k numbers start fs ≡ None → All (λ f. IsFunctionInWords f) fs → (rest : List ℕ) (at : ℕ)
    → FunctionsAgain c.covered numbers start fs before rest at
unfolding functions_bytes
functions_again c k numbers start [] before h fit rest at = record {
  more = [];
  next = at;
  same = refl;
  read = λ then. ap (λ (l : List Placed). then l rest at) (sym (append-nil before));
}
functions_again c k numbers start (f ∷ fs) before h fit rest at =
    let both = or-none (function_items c k numbers start f) _ h in
    let own : FunctionAgain c.covered numbers start f (functions_bytes fs ++ rest) at =
    function_again c k numbers start f both.0 (fit 0 f (omega arith)) (functions_bytes fs ++ rest) at in
    let first : Placed = record { function = f; places = own.places; table = own.table } in
    let behind : FunctionsAgain c.covered (numbers + numbers_in f) (start + length f.ops) fs (before ++ first ∷ [])
    rest own.next =
    functions_again c (suc k) (numbers + numbers_in f) (start + length f.ops) fs (before ++ first ∷ []) both.1
    (λ i d lt. fit (suc i) d (omega (arith, lt))) rest own.next in
    record {
      more = first ∷ behind.more;
      next = behind.next;
      same = ap (λ (l : List FunctionValue). f ∷ l) behind.same;
      read = λ then.
          ap (λ (l : List ℕ). with_functions (length (f ∷ fs)) c.covered numbers start before l at then)
          (append_assoc (function_bytes f) (functions_bytes fs) rest)
          ∙ (own.read (λ f rest next. with_functions (length fs) c.covered (numbers + numbers_in f.function)
          (start + length f.function.ops) (before ++ f ∷ []) rest next then)
          ∙ (behind.read then
          ∙ ap (λ (l : List Placed). then l rest behind.next) (append_assoc before (first ∷ []) behind.more)));
    }

-- ---- no fault of values

at_byte_none : (places : List ℕ) (start : ℕ) (b : Option (ℕ × Rule)) → counted_from start b ≡ None
    → at_byte places b ≡ None
at_byte_none places start None h = refl
at_byte_none places start (Some b) h = absurd (none-some (start + b.0, b.1) (sym h))

at_entry_none : (table : ℕ) (w : Option ℕ) → row_fault w ≡ None → at_entry table w ≡ None
at_entry_none table None h = refl
at_entry_none table (Some w) h = absurd (none-some (w, Rule.Row) (sym h))

placed_none : (c : CodeValue) (start : ℕ) (fs : List Placed) → functions_values c start (functions_in fs) ≡ None
    → placed_fault c fs ≡ None
placed_none c start [] h = refl
placed_none c start (f ∷ fs) h =
    let both = or-none (function_values c start f.function) _ h in
    let own = or-none (counted_from start (broken c f.function)) _ both.0 in
    rw (
      at_byte_none f.places start (broken c f.function) own.0,
      at_entry_none f.table (table_word f.function.paths f.function.passes f.function.table) own.1,
    ) (placed_none c (start + length f.function.ops) fs both.1)

-- ---- the file

small_main : (o : Option FunctionValue) → main_kept o ≡ true → (f : FunctionValue) × (o ≡ Some f)
small_main None h = absurd (cc)
small_main (Some f) h = (f, refl)

-- the head of a file, by parts
abbrev from_main : ℕ → ℕ → Then Head → List ℕ → ℕ → Told
from_main stamp covered then bytes main_at =
    with_word bytes main_at (λ main bytes at.
    with_field (λ n. nat_le n array_limit) bytes at (λ count. then (record {
      stamp = stamp;
      covered = covered == 1;
      main = main;
      main_at = main_at;
      globals = count;
    })))

abbrev from_covered : ℕ → Then Head → List ℕ → ℕ → Told
from_covered stamp then bytes at =
    with_field (λ n. nat_le n 1) bytes at (λ covered bytes main_at. from_main stamp covered then bytes main_at)

abbrev from_version : Then Head → List ℕ → ℕ → Told
from_version then bytes at =
    with_word bytes at (λ v bytes next. wanted (v == version) (fault.Version at)
    (with_word bytes next (λ stamp bytes at. from_covered stamp then bytes at)))

abbrev head_with : CodeValue → Bool → Head
head_with c covered = record {
  stamp = c.stamp;
  covered = covered;
  main = c.main;
  main_at = 16;
  globals = length c.globals;
}

head_again : (c : CodeValue) → c.stamp < 2 ^ 32 → c.main < 2 ^ 32 → nat_le (length c.globals) array_limit ≡ true
    → (rest : List ℕ) (then : Then Head)
    → with_head (words_bytes (code_words c) ++ rest) then ≡ then (head_with c c.covered) rest 24
unfolding words_bytes
head_again c stamp main few rest then =
    let n : ℕ = length c.globals in
    let le = leb-true n array_limit few in
    let k5 : List ℕ = word_bytes n ++ rest in
    let k4 : List ℕ = word_bytes c.main ++ k5 in
    let k3 : List ℕ = word_bytes (flag c.covered) ++ k4 in
    let k2 : List ℕ = word_bytes c.stamp ++ k3 in
    let k1 : List ℕ = word_bytes version ++ k2 in
    word_again magic (omega arith) k1 0 (λ m bytes at. wanted (m == magic) (fault.Magic 0) (from_version then bytes at))
    ∙ (word_again version (omega arith) k2 4 (λ v bytes next. wanted (v == version) (fault.Version 4)
    (with_word bytes next (λ stamp bytes at. from_covered stamp then bytes at)))
    ∙ (word_again c.stamp stamp k3 8 (λ stamp bytes at. from_covered stamp then bytes at)
    ∙ (field_again (λ n. nat_le n 1) (flag c.covered) (flag_small c.covered) (flag_few c.covered) k4 12
    (λ covered bytes main_at. from_main c.stamp covered then bytes main_at)
    ∙ (word_again c.main main k5 16 (λ main bytes at.
    with_field (λ n. nat_le n array_limit) bytes at (λ count. then (record {
      stamp = c.stamp;
      covered = flag c.covered == 1;
      main = main;
      main_at = 16;
      globals = count;
    })))
    ∙ (field_again (λ n. nat_le n array_limit) n (omega (arith, le)) few rest 20 (λ count. then (record {
      stamp = c.stamp;
      covered = flag c.covered == 1;
      main = c.main;
      main_at = 16;
      globals = count;
    }))
    ∙ ap (λ b. then (head_with c b) rest 24) (flag_is c.covered))))))

-- the items of a code and what comes of them
record Facts (c : CodeValue) : Type 0 where
  few : nat_le (length c.globals) array_limit ≡ true
  globals : globals_fault c.globals ≡ None
  functions : functions_items c 0 0 0 c.functions ≡ None
  count : length c.functions < 2 ^ 32
  main : main_kept (slice_get c.functions c.main) ≡ true
  small : c.main < 2 ^ 32
  values : functions_values c 0 c.functions ≡ None

facts : (c : CodeValue) → code_fault c ≡ None → Facts c
facts c h =
    let both = or-none (items_fault c) (values_fault c) h in
    let first = or-none (unless_at (nat_le (length c.globals) array_limit) 0 Rule.Field) _ both.0 in
    let rest = or-none (globals_fault c.globals) _ first.1 in
    let values = or-none (unless_at (main_kept (slice_get c.functions c.main)) 0 Rule.Field) _ both.1 in
    let main = unless_at-none (main_kept (slice_get c.functions c.main)) 0 Rule.Field values.0 in
    let count = functions_few c 0 0 0 c.functions (omega arith) rest.1 in
    let there = small_main (slice_get c.functions c.main) main in
    let within = slice_get_within c.functions c.main there.0 there.1 in
    record {
      few = unless_at-none (nat_le (length c.globals) array_limit) 0 Rule.Field first.0;
      globals = rest.0;
      functions = rest.1;
      count = omega (arith, count);
      main = main;
      small = omega (arith, count, within);
      values = values.1;
    }

judged : (c : CodeValue) (h : Head) (more : List Placed) (at : ℕ) → (items_of h c.globals more).code ≡ c
    → main_kept (slice_get c.functions c.main) ≡ true → functions_values c 0 c.functions ≡ None
    → judge (items_of h c.globals more) [] at ≡ File c
judged c h more at same main values =
    let code : CodeValue = (items_of h c.globals more).code in
    let kept : main_kept (slice_get code.functions code.main) ≡ true =
    subst (λ (v : CodeValue). main_kept (slice_get v.functions v.main) ≡ true) (sym same) main in
    let none : functions_values code 0 code.functions ≡ None =
    subst (λ (v : CodeValue). functions_values v 0 v.functions ≡ None) (sym same) values in
    rw (kept, placed_none code 0 more none) (ap File same)

counted_again : (n : ℕ) → n < 2 ^ 32 → (rest : List ℕ) (at : ℕ) (then : Then ℕ)
    → with_word (words_bytes (n ∷ []) ++ rest) at then ≡ then n rest (at + 4)
unfolding words_bytes
counted_again n lt rest at then = word_again n lt rest at then

pub file_again : (c : CodeValue) → code_fault c ≡ None → IsCodeInWords c → told (code_bytes c) ≡ File c
file_again c h fit =
    let f : Facts c = facts c h in
    let count : ℕ = length c.functions in
    let head : Head = head_with c c.covered in
    let tail : List ℕ = words_bytes (count ∷ []) ++ functions_bytes c.functions in
    let globals : GlobalsAgain c.globals [] tail 24 = globals_again c.globals [] f.globals tail 24 in
    let functions : FunctionsAgain c.covered 0 0 c.functions [] [] (globals.next + 4) =
    functions_again c 0 0 0 c.functions [] f.functions fit.functions [] (globals.next + 4) in
    head_again c fit.stamp f.small f.few (numbers_bytes c.globals ++ tail) (λ h bytes at.
    with_globals h.globals [] bytes at (λ globals bytes at.
    with_word bytes at (λ count bytes at.
    with_functions count h.covered 0 0 [] bytes at (λ functions. judge (items_of h globals functions)))))
    ∙ (globals.read (λ globals bytes at.
    with_word bytes at (λ count bytes at.
    with_functions count c.covered 0 0 [] bytes at (λ functions. judge (items_of head globals functions))))
    ∙ (counted_again count f.count (functions_bytes c.functions) globals.next (λ count bytes at.
    with_functions count c.covered 0 0 [] bytes at (λ functions. judge (items_of head c.globals functions)))
    ∙ (ap (λ (l : List ℕ). with_functions count c.covered 0 0 [] l (globals.next + 4)
    (λ functions. judge (items_of head c.globals functions))) (sym (append-nil (functions_bytes c.functions)))
    ∙ (functions.read (λ functions. judge (items_of head c.globals functions))
    ∙ judged c head functions.more functions.next
    (ap (λ (fs : List FunctionValue). record {
      stamp = c.stamp;
      covered = c.covered;
      main = c.main;
      globals = c.globals;
      functions = fs;
    }) functions.same) f.main f.values))))
