-- Functions with their places.
use Rattle.std.proofs.Common.{◌≡◌, refl, sym, ap, subst, ◌∙◌, ℕ, suc, ◌+◌, ◌*◌, ◌<◌, ◌≤◌, true, false}
use Rattle.std.proofs.Common.{List, [], ◌∷◌, ◌++◌, length, map, drop, drop-cons, get_or, Option, Some, None, Result, Ok, Err, ℤ, arith}
use Rattle.std.specs.Prelude.{slice_get, nat_le}
use Rattle.std.specs.Result.{IsErrAnd}
use Rattle.std.proofs.lemmas.Result.{err_from_is_err_and}
use Rattle.std.specs.Option.{option_or}
use Rattle.std.proofs.lemmas.List.{append-nil}
use Rattle.stack_ops.specs.Code.{FunctionValue, CodeValue}
use Rattle.code_runs.specs.Checks.{Rule, broken}
use Rattle.code_runs.specs.Tables.{table_word}
use Rattle.code_runs.specs.CodeChecks.{numbers_in, function_items, functions_items, items_fault, main_kept}
use Rattle.code_runs.specs.CodeChecks.{code_fault, globals_fault, unless_at}
use Rattle.code_runs.proofs.CheckLaws.{or-none}
use Rattle.code_checks.proofs.FieldLaws.{layout_known}
use Rattle.code_file.specs.declared.fault.CodeFault.{CodeFault}
use Rattle.code_file.specs.declared.fault.CodeFault.TheVariants as fault
use Rattle.code_file.specs.declared.head.Head.{Head}
use Rattle.code_checks.specs.declared.rules.RuleFault.{RuleFault}
use Rattle.code_checks.specs.Seen.{placed as placed_rule}
use Rattle.code_file.specs.Checking.{fault_at}
use Rattle.cov_base.specs.Limits.{array_limit}
use Rattle.cov_base.specs.declared.refusal.Refusal.{Refusal}
use Rattle.cov_base.specs.declared.refusal.Refusal.TheVariants as refusal
use Rattle.gcov_items.specs.Items.{ReaderValue, left}
use Rattle.code_file.specs.Reading.{Told, File, Fault, Placed, told, placed_fault, at_byte, at_entry}
use Rattle.code_file.specs.Taking.{PlacesValue, placed, all_placed, HavePlaces, FitsPlaces, FitAll, function_fault}
use Rattle.code_file.specs.Taking.{told_of, items_in, Reads, Takes, with_items_here}
use Rattle.code_file.specs.Told.{Items, items_of, with_items}
use Rattle.code_file.proofs.Outcomes.{Then, AreBytes, Outcome, takes, refuses, ends}
use Rattle.code_file.proofs.FunctionLaws.{Within, AreItems, items_outcome}
use Rattle.code_file.proofs.RowLaws.{entry_within}
use Rattle.code_file.proofs.FileLaws.{judge, no_file, same_file, same_short, empty, code_none}

-- ---- one more function with its places

pub placed_more : (fs : List FunctionValue) (ps : List PlacesValue) (f : FunctionValue) (p : PlacesValue)
    → HavePlaces fs ps → all_placed (fs ++ f ∷ []) (ps ++ p ∷ []) ≡ all_placed fs ps ++ placed f p ∷ []
placed_more [] [] f p h = refl
placed_more [] (q ∷ ps) f p h = absurd h
placed_more (g ∷ fs) [] f p h = absurd h
placed_more (g ∷ fs) (q ∷ ps) f p h = ap (λ (l : List Placed). placed g q ∷ l) (placed_more fs ps f p h.1)

pub places_more : (fs : List FunctionValue) (ps : List PlacesValue) (f : FunctionValue) (p : PlacesValue)
    → HavePlaces fs ps → length p.ops ≡ length f.ops → HavePlaces (fs ++ f ∷ []) (ps ++ p ∷ [])
places_more [] [] f p h e = (e, tt)
places_more [] (q ∷ ps) f p h e = absurd h
places_more (g ∷ fs) [] f p h e = absurd h
places_more (g ∷ fs) (q ∷ ps) f p h e = (h.0, places_more fs ps f p h.1 e)

-- ---- places that fit

pub in_placed : (fs : List FunctionValue) (ps : List PlacesValue) → HavePlaces fs ps
    → map (λ f. f.function) (all_placed fs ps) ≡ fs
in_placed [] [] h = refl
in_placed [] (p ∷ ps) h = absurd h
in_placed (f ∷ fs) [] h = absurd h
in_placed (f ∷ fs) (p ∷ ps) h = ap (λ (l : List FunctionValue). f ∷ l) (in_placed fs ps h.1)

pub fit_all : (c : CodeValue) (k numbers start n : ℕ) (fs : List FunctionValue) (ps : List PlacesValue)
    → functions_items c k numbers start fs ≡ None → Within n (all_placed fs ps) → HavePlaces fs ps → FitAll n fs ps
fit_all c k numbers start n [] [] h w p = tt
fit_all c k numbers start n [] (q ∷ ps) h w p = absurd p
fit_all c k numbers start n (f ∷ fs) [] h w p = absurd p
fit_all c k numbers start n (f ∷ fs) (q ∷ ps) h w p =
    let both = or-none (function_items c k numbers start f) _ h in (
      record { ops = p.0; layout = layout_known c k numbers start f both.0; table = w.0 },
      fit_all c (suc k) (numbers + numbers_in f) (start + length f.ops) n fs ps both.1 w.1 p.1,
    )

-- the next function and its places
pub record Next (n : ℕ) (c : CodeValue) (fs : List FunctionValue) (ps : List PlacesValue) (k : ℕ) (f : FunctionValue)
    (p : PlacesValue) : Type 0 where
  pub own : FitsPlaces n f p
  pub rest : FitAll n (drop (k + 1) fs) (drop (k + 1) ps)
  pub told : placed_fault c (all_placed (drop k fs) (drop k ps))
      ≡ option_or (function_fault c (placed f p)) (placed_fault c (all_placed (drop (k + 1) fs) (drop (k + 1) ps)))

or_assoc : {A : Type 0} (a b d : Option A) → option_or a (option_or b d) ≡ option_or (option_or a b) d
or_assoc (Some a) b d = refl
or_assoc None b d = refl

-- as many places as functions
pub as_many : (n : ℕ) (fs : List FunctionValue) (ps : List PlacesValue) → FitAll n fs ps → length ps ≡ length fs
as_many n [] [] h = refl
as_many n [] (p ∷ ps) h = absurd h
as_many n (f ∷ fs) [] h = absurd h
as_many n (f ∷ fs) (p ∷ ps) h = ap suc (as_many n fs ps h.1)

pub next_of : (n : ℕ) (c : CodeValue) (fs : List FunctionValue) (ps : List PlacesValue) (k : ℕ) (f : FunctionValue)
    (p : PlacesValue) → k < length fs → k < length ps → f ≡ get_or fs k f → p ≡ get_or ps k p
    → FitAll n (drop k fs) (drop k ps) → Next n c fs ps k f p
next_of n c fs ps k f p lt less is same h =
    let after : suc k ≡ k + 1 = omega arith in
    let functions : drop k fs ≡ f ∷ drop (k + 1) fs =
    drop-cons fs k f lt ∙ (ap (λ (g : FunctionValue). g ∷ drop (suc k) fs) (sym is) ∙ ap (λ i. f ∷ drop i fs) after) in
    let places : drop k ps ≡ p ∷ drop (k + 1) ps =
    drop-cons ps k p less ∙ (ap (λ (q : PlacesValue). q ∷ drop (suc k) ps) (sym same)
    ∙ ap (λ i. p ∷ drop i ps) after) in
    let both : FitAll n (f ∷ drop (k + 1) fs) (p ∷ drop (k + 1) ps) =
    subst (λ (l : List FunctionValue). FitAll n l (p ∷ drop (k + 1) ps)) functions
    (subst (λ (l : List PlacesValue). FitAll n (drop k fs) l) places h) in
    record {
      own = both.0;
      rest = both.1;
      told = ap (λ (l : List FunctionValue). placed_fault c (all_placed l (drop k ps))) functions
          ∙ (ap (λ (l : List PlacesValue). placed_fault c (all_placed (f ∷ drop (k + 1) fs) l)) places
          ∙ or_assoc (at_byte p.ops (broken c f)) (at_entry p.table (table_word f.paths f.passes f.table))
          (placed_fault c (all_placed (drop (k + 1) fs) (drop (k + 1) ps))));
    }

-- ---- the fault of a function

pub broken_found : (c : CodeValue) (f : FunctionValue) (p : PlacesValue) (b : RuleFault) (at : ℕ)
    → Some (placed_rule b) ≡ broken c f → at ≡ get_or p.ops b.place 0
    → Some (fault_at (record { place = at; rule = b.rule })) ≡ function_fault c (placed f p)
broken_found c f p b at e same =
    rw same (ap (λ (o : Option (ℕ × Rule)). option_or (at_byte p.ops o)
    (at_entry p.table (table_word f.paths f.passes f.table))) e)

pub entry_found : (c : CodeValue) (f : FunctionValue) (p : PlacesValue) (entry at : ℕ) → None ≡ broken c f
    → Some entry ≡ table_word f.paths f.passes f.table → at ≡ p.table + 8 * entry
    → Some (fault.Row at) ≡ function_fault c (placed f p)
entry_found c f p entry at none e same =
    rw same (ap (λ (o : Option ℕ). at_entry p.table o) e
    ∙ ap (λ (o : Option (ℕ × Rule)). option_or (at_byte p.ops o)
    (at_entry p.table (table_word f.paths f.passes f.table))) none)

-- an entry stands before the end of the bytes
pub entry_room : (n : ℕ) (f : FunctionValue) (p : PlacesValue) (entry paths passes : ℕ) (table : List ℕ)
    → paths ≡ f.paths → passes ≡ f.passes → table ≡ f.table → Some entry ≡ table_word paths passes table
    → FitsPlaces n f p → p.table + 8 * entry ≤ n
entry_room n f p entry paths passes table a b d e fit =
    let is : table_word f.paths f.passes f.table ≡ Some entry =
    sym (e ∙ (ap (λ n. table_word n passes table) a ∙ (ap (λ n. table_word f.paths n table) b
    ∙ ap (λ (l : List ℕ). table_word f.paths f.passes l) d))) in
    let lt = entry_within f.paths f.passes f.table entry fit.layout is in
    let le = fit.table in
    omega (arith, lt, le)

pub nothing_found : (c : CodeValue) (f : FunctionValue) (p : PlacesValue) → None ≡ broken c f
    → None ≡ table_word f.paths f.passes f.table → None ≡ function_fault c (placed f p)
nothing_found c f p none e =
    ap (λ (o : Option ℕ). at_entry p.table o) e
    ∙ ap (λ (o : Option (ℕ × Rule)). option_or (at_byte p.ops o)
    (at_entry p.table (table_word f.paths f.passes f.table))) none

-- ---- the fault of functions, one after another

pub values_on : (n : ℕ) (c : CodeValue) (fs : List FunctionValue) (ps : List PlacesValue) (k : ℕ) (f : FunctionValue)
    (p : PlacesValue) (whole : Option CodeFault) → Next n c fs ps k f p
    → placed_fault c (all_placed (drop k fs) (drop k ps)) ≡ whole → function_fault c (placed f p) ≡ None
    → placed_fault c (all_placed (drop (k + 1) fs) (drop (k + 1) ps)) ≡ whole
values_on n c fs ps k f p whole next told none =
    sym (next.told ∙ ap (λ (o : Option CodeFault). option_or o
    (placed_fault c (all_placed (drop (k + 1) fs) (drop (k + 1) ps)))) none) ∙ told

pub values_found : (n : ℕ) (c : CodeValue) (fs : List FunctionValue) (ps : List PlacesValue) (k : ℕ)
    (f : FunctionValue) (p : PlacesValue) (whole : Option CodeFault) (found : CodeFault) → Next n c fs ps k f p
    → placed_fault c (all_placed (drop k fs) (drop k ps)) ≡ whole → Some found ≡ function_fault c (placed f p)
    → Some found ≡ whole
values_found n c fs ps k f p whole found next told some =
    ap (λ (o : Option CodeFault). option_or o
    (placed_fault c (all_placed (drop (k + 1) fs) (drop (k + 1) ps)))) some ∙ (sym next.told ∙ told)

-- ---- all items

-- the items of a head, its globals and its functions
pub items_made : (h : Head) (globals : List ℤ) (fs : List FunctionValue) (ps : List PlacesValue) → HavePlaces fs ps
    → items_of h globals (all_placed fs ps) ≡ items_in (record {
      stamp = h.stamp;
      covered = h.covered;
      main = h.main;
      globals = globals;
      functions = fs;
    }) h.main_at ps
items_made h globals fs ps have =
    ap (λ (l : List FunctionValue). record {
      code = record {
        stamp = h.stamp;
        covered = h.covered;
        main = h.main;
        globals = globals;
        functions = l;
      };
      main_at = h.main_at;
      functions = all_placed fs ps;
    }) (in_placed fs ps have)

fits_have : (n : ℕ) (fs : List FunctionValue) (ps : List PlacesValue) → FitAll n fs ps → HavePlaces fs ps
fits_have n [] [] h = tt
fits_have n [] (p ∷ ps) h = absurd h
fits_have n (f ∷ fs) [] h = absurd h
fits_have n (f ∷ fs) (p ∷ ps) h = (h.0.ops, fits_have n fs ps h.1)

-- a code with nothing wrong
pub code_known : (n : ℕ) (c : CodeValue) (m : ℕ) (ps : List PlacesValue) → FitAll n c.functions ps
    → items_fault c ≡ None → main_kept (slice_get c.functions c.main) ≡ true
    → placed_fault c (all_placed c.functions ps) ≡ None → code_fault c ≡ None
code_known n c m ps fit items main values =
    code_none (items_in c m ps) items (sym (in_placed c.functions ps (fits_have n c.functions ps fit))) main values

pub values_none : (c : CodeValue) (fs gs : List FunctionValue) (ps qs : List PlacesValue) (o : Option CodeFault)
    → fs ≡ gs → ps ≡ qs → o ≡ placed_fault c (all_placed fs ps) → o ≡ None
    → placed_fault c (all_placed gs qs) ≡ None
values_none c fs gs ps qs o e d h none =
    sym (ap (λ (l : List FunctionValue). placed_fault c (all_placed l ps)) e
    ∙ ap (λ (l : List PlacesValue). placed_fault c (all_placed gs l)) d) ∙ (sym h ∙ none)

pub reads_made : (c : CodeValue) (m : ℕ) (ps : List PlacesValue) (made : CodeValue)
    → main_kept (slice_get c.functions c.main) ≡ true → placed_fault c (all_placed c.functions ps) ≡ None → made ≡ c
    → Reads (told_of (items_in c m ps)) (Ok made)
reads_made c m ps made main values same = rw (main, values) same

pub reads_main : (c : CodeValue) (m : ℕ) (ps : List PlacesValue) → main_kept (slice_get c.functions c.main) ≡ false
    → Reads (told_of (items_in c m ps)) (Err (refusal.Refused (fault.Field m)))
reads_main c m ps main = rw main refl

pub reads_value : (c : CodeValue) (m : ℕ) (ps : List PlacesValue) (f : CodeFault)
    → main_kept (slice_get c.functions c.main) ≡ true → Some f ≡ placed_fault c (all_placed c.functions ps)
    → Reads (told_of (items_in c m ps)) (Err (refusal.Refused f))
reads_value c m ps f main values = rw (main, sym values) refl

-- ---- items that a reader gave

-- a function with its places as two functions, from which they can be told again
coded_places : Placed → FunctionValue
coded_places f = record {
  params = f.table;
  cells = 0;
  depth = 0;
  gives = false;
  checksum = 0;
  counters = 0;
  paths = 0;
  passes = 0;
  ops = [];
  table = f.places;
}

abbrev coded : List Placed → List FunctionValue
coded [] = []
coded (f ∷ fs) = f.function ∷ coded_places f ∷ coded fs

abbrev decoded : List FunctionValue → List Placed
decoded [] = []
decoded (f ∷ []) = []
decoded (f ∷ g ∷ fs) = record { function = f; places = g.table; table = g.params } ∷ decoded fs

decoded_coded : (fs : List Placed) → decoded (coded fs) ≡ fs
unfolding coded_places
decoded_coded [] = refl
decoded_coded (f ∷ fs) = ap (λ (l : List Placed). f ∷ l) (decoded_coded fs)

-- a code that tells what functions and places the items have
functions_code : Items → CodeValue
functions_code i = record { stamp = 0; covered = false; main = 0; globals = []; functions = coded i.functions }

abbrev tell_code : Then Items
tell_code i rest at = File i.code

tell_functions : Then Items
tell_functions i rest at = File (functions_code i)

tell_rest : Then Items
tell_rest i rest at = Fault (fault.Short (length rest))

-- items that two readings gave
record Alike (i x : Items) (rest : List ℕ) : Type 0 where
  code : i.code ≡ x.code
  functions : i.functions ≡ x.functions
  none : rest ≡ []

alike : (i x : Items) (rest : List ℕ) (at n : ℕ) → ((then : Then Items) → then i [] n ≡ then x rest at)
    → Alike i x rest
unfolding tell_functions functions_code tell_rest
alike i x rest at n h =
    let functions : functions_code i ≡ functions_code x = same_file (functions_code i) (functions_code x) (h tell_functions) in
    record {
      code = same_file i.code x.code (h tell_code);
      functions = sym (decoded_coded i.functions)
          ∙ (ap (λ (c : CodeValue). decoded c.functions) functions ∙ decoded_coded x.functions);
      none = empty rest (sym (same_short 0 (length rest) (h tell_rest)));
    }

-- what is known of items that fill the bytes
pub record Known (n : ℕ) (i : Items) : Type 0 where
  pub items : items_fault i.code ≡ None
  pub within : Within n i.functions

pub known : (bytes : List ℕ) (i : Items) (n : ℕ) → AreBytes bytes
    → ((then : Then Items) → with_items bytes then ≡ then i [] n) → Known (length bytes) i
known bytes i n are h = go (items_outcome bytes)
  where
    go : Outcome (λ bytes then. with_items bytes then) AreItems 0 bytes → Known (length bytes) i
    go (refuses f is k) =
        absurd (no_file i.code f (sym (h tell_code) ∙ (ap (λ (l : List ℕ). with_items l tell_code) (sym (append-nil bytes))
        ∙ k [] tell_code)))
    go (ends k) = absurd (no_file i.code (fault.Short (0 + length bytes)) (sym (h tell_code) ∙ k tell_code))
    go (takes x used rest e g goes) =
        let a : Alike i x rest =
        alike i x rest (0 + length used) n
        (λ then. sym (h then) ∙ (ap (λ (l : List ℕ). with_items l then) e ∙ goes rest then)) in
        let whole : bytes ≡ used = e ∙ (ap (λ (l : List ℕ). used ++ l) a.none ∙ append-nil used) in
        record {
          items = subst (λ (c : CodeValue). items_fault c ≡ None) (sym a.code) (g.items (subst AreBytes whole are));
          within = subst (λ (fs : List Placed). Within (length bytes) fs) (sym a.functions)
              (subst (λ (l : List ℕ). Within (length l) x.functions) (sym whole) g.within);
        }

-- ---- what comes of items

-- nothing is left behind them
pub told_whole : (bytes rest : List ℕ) (i : Items) (at : ℕ)
    → ((then : Then Items) → with_items bytes then ≡ then i rest at) → length rest ≡ 0 → told bytes ≡ told_of i
told_whole bytes [] i at h e = h judge
told_whole bytes (b ∷ rest) i at h e = absurd (omega (arith, e))

-- something is
pub told_extra : (bytes rest : List ℕ) (i : Items) (at : ℕ)
    → ((then : Then Items) → with_items bytes then ≡ then i rest at) → (length rest ≡ 0 → ⊥)
    → told bytes ≡ Fault (fault.Extra at)
told_extra bytes [] i at h e = absurd (e refl)
told_extra bytes (b ∷ rest) i at h e = h judge

-- ---- reading

are_bytes : (xs : List ℕ) → ((i : ℕ) → get_or xs i 0 < 256) → AreBytes xs
are_bytes [] h = tt
are_bytes (x ∷ xs) h = (h 0, are_bytes xs (λ i. h (suc i)))

-- a reader at the first byte
abbrev pub at_first : List ℕ → ReaderValue
at_first bytes = record { bytes = bytes; at = 0 }

no_memory : (t : Told) → Reads t (Err refusal.NoMemory)
no_memory (File c) = tt
no_memory (Fault f) = tt

stopped_reading : {X : Type 0} (seen : X → Items) (bytes : List ℕ) (old new : ReaderValue) (e : Refusal CodeFault)
    → old ≡ at_first bytes → Takes seen with_items_here old new (Err e) → Reads (told bytes) (Err e)
stopped_reading seen bytes old new (refusal.Refused f) is h =
    let same : with_items_here (left old) old.at judge ≡ told bytes =
    ap (λ (r : ReaderValue). with_items_here (left r) r.at judge) is in
    rw (sym same ∙ h judge) refl
stopped_reading seen bytes old new refusal.NoMemory is h = no_memory (told bytes)

pub reads_err : {X : Type 0} (seen : X → Items) (bytes : List ℕ) (old new : ReaderValue) (e : Refusal CodeFault)
    (r : Result CodeValue (Refusal CodeFault)) → old ≡ at_first bytes → IsErrAnd r (λ y. y ≡ e)
    → Takes seen with_items_here old new (Err e) → Reads (told bytes) r
reads_err seen bytes old new e r is err h =
    let p = err_from_is_err_and r err in rw (p.1, p.2) (stopped_reading seen bytes old new e is h)

-- the items of bytes, by a reader at the first
here : (bytes : List ℕ) (old new : ReaderValue) (i : Items) → old ≡ at_first bytes
    → ((then : Then Items) → with_items_here (left old) old.at then ≡ then i (left new) new.at)
    → (then : Then Items) → with_items bytes then ≡ then i (left new) new.at
here bytes old new i is h then =
    sym (ap (λ (r : ReaderValue). with_items_here (left r) r.at then) is) ∙ h then

pub reads_extra : (bytes : List ℕ) (old new : ReaderValue) (i : Items) (count place : ℕ) → old ≡ at_first bytes
    → ((then : Then Items) → with_items_here (left old) old.at then ≡ then i (left new) new.at)
    → count ≡ length (left new) → (count ≡ 0 → ⊥) → place ≡ new.at
    → Reads (told bytes) (Err (refusal.Refused (fault.Extra place)))
reads_extra bytes old new i count place is h many some same =
    rw (told_extra bytes (left new) i new.at (here bytes old new i is h) (λ e. some (many ∙ e)))
    (ap (λ n. fault.Extra n) same)

pub reads_checked : (bytes : List ℕ) (old new : ReaderValue) (i : Items) (count : ℕ)
    (r : Result CodeValue (Refusal CodeFault)) → old ≡ at_first bytes
    → ((then : Then Items) → with_items_here (left old) old.at then ≡ then i (left new) new.at)
    → count ≡ length (left new) → count ≡ 0 → Reads (told_of i) r → Reads (told bytes) r
reads_checked bytes old new i count r is h many none k =
    rw (told_whole bytes (left new) i new.at (here bytes old new i is h) (sym many ∙ none)) k

left_none : (l : List ℕ) → length l ≡ 0 → l ≡ []
left_none l e = empty l e

pub known_here : (bytes : List ℕ) (old new : ReaderValue) (i : Items) (count : ℕ) → old ≡ at_first bytes
    → ((then : Then Items) → with_items_here (left old) old.at then ≡ then i (left new) new.at)
    → count ≡ length (left new) → count ≡ 0 → ((k : ℕ) → get_or bytes k 0 < 256) → Known (length bytes) i
known_here bytes old new i count is h many none fits =
    known bytes i new.at (are_bytes bytes fits) (λ then. here bytes old new i is h then
    ∙ ap (λ (l : List ℕ). then i l new.at) (left_none (left new) (sym many ∙ none)))

pub fits_known : (n : ℕ) (c : CodeValue) (m : ℕ) (ps : List PlacesValue) → Known n (items_in c m ps)
    → HavePlaces c.functions ps → FitAll n c.functions ps
fits_known n c m ps k have =
    let globals = or-none (unless_at (nat_le (length c.globals) array_limit) 0 Rule.Field) _ k.items in
    let functions = or-none (globals_fault c.globals) _ globals.1 in
    fit_all c 0 0 0 n c.functions ps functions.1 k.within have
