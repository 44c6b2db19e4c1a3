-- What bytes are as a code file.
use Rattle.std.proofs.Common.{◌≡◌, refl, sym, ap, subst, ◌∙◌, ℕ, ◌+◌, ◌<◌, Bool, true, false, List}
use Rattle.std.proofs.Common.{[], ◌∷◌, ◌++◌, length, Option, Some, None, append_assoc, length-append, arith}
use Rattle.std.specs.Prelude.{slice_get, slice_index_or}
use Rattle.std.specs.Option.{option_or}
use Rattle.std.proofs.lemmas.List.{append-nil}
use Rattle.std.proofs.lemmas.Option.{same_Some, none-some}
use Rattle.stack_ops.specs.Code.{FunctionValue, CodeValue}
use Rattle.code_runs.specs.Checks.{Rule, broken}
use Rattle.code_runs.specs.Tables.{table_word}
use Rattle.code_runs.specs.CodeChecks.{main_kept, functions_values}
use Rattle.code_runs.specs.CodeChecks.{items_fault, code_fault}
use Rattle.code_runs.proofs.CheckLaws.{or-none}
use Rattle.code_file.specs.declared.fault.CodeFault.{CodeFault}
use Rattle.code_file.specs.declared.fault.CodeFault.TheVariants as fault
use Rattle.code_file.specs.Spelling.{code_bytes}
use Rattle.code_file.specs.Reading.{File, Fault, Placed, told, wanted, unless_fault, placed_fault, at_byte, at_entry}
use Rattle.code_file.specs.Reading.{checked, fault_of}
use Rattle.code_file.specs.Told.{Items, with_items}
use Rattle.code_file.specs.Laws.{IsLaid}
use Rattle.code_file.proofs.Outcomes.{Then, AreBytes, IsItemFault, Outcome, takes, refuses, ends}
use Rattle.code_file.proofs.FunctionLaws.{functions_in, AreItems, items_outcome}

-- what goes on behind all items
abbrev pub judge : Then Items
judge i rest at = checked rest at i.main_at i.code i.functions

pub by_items : (bytes : List ℕ) → told bytes ≡ with_items bytes judge
by_items bytes = refl

-- ---- no fault in functions with places

at_byte-none : (places : List ℕ) (b : Option (ℕ × Rule)) → at_byte places b ≡ None → b ≡ None
at_byte-none places None h = refl
at_byte-none places (Some b) h = absurd (cc)

at_entry-none : (table : ℕ) (w : Option ℕ) → at_entry table w ≡ None → w ≡ None
at_entry-none table None h = refl
at_entry-none table (Some w) h = absurd (cc)

values_none : (c : CodeValue) (start : ℕ) (fs : List Placed) → placed_fault c fs ≡ None
    → functions_values c start (functions_in fs) ≡ None
values_none c start [] h = refl
values_none c start (f ∷ fs) h =
    let first = or-none (at_byte f.places (broken c f.function)) _ h in
    let second = or-none (at_entry f.table (table_word f.function.paths f.function.passes f.function.table)) _ first.1 in
    rw (
      at_byte-none f.places (broken c f.function) first.0,
      at_entry-none f.table (table_word f.function.paths f.function.passes f.function.table) second.0,
    )
    (values_none c (start + length f.function.ops) fs second.1)

pub same_file : (c d : CodeValue) → File c ≡ File d → c ≡ d
same_file c d h = cc

-- what comes of all items is the file of their code only where nothing else is wrong
record Judged (rest : List ℕ) (i : Items) (c : CodeValue) : Type 0 where
  none : rest ≡ []
  main : main_kept (slice_get i.code.functions i.code.main) ≡ true
  values : placed_fault i.code i.functions ≡ None
  same : i.code ≡ c

judged_file : (rest : List ℕ) (at : ℕ) (i : Items) (c : CodeValue) → judge i rest at ≡ File c → Judged rest i c
judged_file (b ∷ rest) at i c h = absurd (cc)
judged_file [] at i c h =
    go (main_kept (slice_get i.code.functions i.code.main)) (placed_fault i.code i.functions) refl refl h
  where
    go : (b : Bool) (o : Option CodeFault) → main_kept (slice_get i.code.functions i.code.main) ≡ b
        → placed_fault i.code i.functions ≡ o
        → wanted b (fault.Field i.main_at) (unless_fault o i.code) ≡ File c → Judged [] i c
    go false o m p e = absurd (cc)
    go true (Some f) m p e = absurd (cc)
    go true None m p e = record { none = refl; main = m; values = p; same = same_file i.code c e }

pub code_none : (i : Items) → items_fault i.code ≡ None → i.code.functions ≡ functions_in i.functions
    → main_kept (slice_get i.code.functions i.code.main) ≡ true → placed_fault i.code i.functions ≡ None
    → code_fault i.code ≡ None
code_none i items same main values =
    rw (items, main) (subst (λ (fs : List FunctionValue). functions_values i.code 0 fs ≡ None) (sym same)
    (values_none i.code 0 i.functions values))

pub no_file : (c : CodeValue) (f : CodeFault) → File c ≡ Fault f → ⊥
no_file c f e = cc

same_fault : (f g : CodeFault) → Fault f ≡ Fault g → f ≡ g
same_fault f g e = cc

pub same_short : (m n : ℕ) → Fault (fault.Short m) ≡ Fault (fault.Short n) → m ≡ n
same_short m n e = cc

same_extra : (m n : ℕ) → Fault (fault.Extra m) ≡ Fault (fault.Extra n) → m ≡ n
same_extra m n e = cc

short_apart : (m n : ℕ) → Fault (fault.Short m) ≡ Fault (fault.Extra n) → ⊥
short_apart m n e = cc

-- a fault of an item is neither that the bytes end nor that more stand there
item_short : (f : CodeFault) (n : ℕ) → IsItemFault f → Fault f ≡ Fault (fault.Short n) → ⊥
item_short f n is e = subst IsItemFault (same_fault f (fault.Short n) e) is

item_extra : (f : CodeFault) (n : ℕ) → IsItemFault f → Fault f ≡ Fault (fault.Extra n) → ⊥
item_extra f n is e = subst IsItemFault (same_fault f (fault.Extra n) e) is

rule_fault : (r : Rule) (n : ℕ) → IsItemFault (fault_of r n)
rule_fault Rule.Field n = tt
rule_fault Rule.Opcode n = tt
rule_fault Rule.Jump n = tt
rule_fault Rule.BackJump n = tt
rule_fault Rule.Depth n = tt
rule_fault Rule.Cell n = tt
rule_fault Rule.Counter n = tt
rule_fault Rule.Row n = tt

-- so is one of instructions and tables
value_fault : (c : CodeValue) (fs : List Placed) (f : CodeFault) → placed_fault c fs ≡ Some f → IsItemFault f
value_fault c [] f h = absurd (none-some f h)
value_fault c (p ∷ ps) f h =
    go (broken c p.function) (table_word p.function.paths p.function.passes p.function.table) (value_fault c ps f) h
  where
    go : (b : Option (ℕ × Rule)) (w : Option ℕ) → (placed_fault c ps ≡ Some f → IsItemFault f)
        → option_or (at_byte p.places b) (option_or (at_entry p.table w) (placed_fault c ps)) ≡ Some f → IsItemFault f
    go (Some b) w on e = subst IsItemFault (same_Some _ f e) (rule_fault b.1 (slice_index_or p.places b.0 0))
    go None (Some w) on e = subst IsItemFault (same_Some _ f e) tt
    go None None on e = on e

-- what is wrong with items that fill the bytes
judged_fault : (at : ℕ) (i : Items) (f : CodeFault) → judge i [] at ≡ Fault f → IsItemFault f
judged_fault at i f h = go (main_kept (slice_get i.code.functions i.code.main)) (placed_fault i.code i.functions) refl h
  where
    go : (b : Bool) (o : Option CodeFault) → placed_fault i.code i.functions ≡ o
        → wanted b (fault.Field i.main_at) (unless_fault o i.code) ≡ Fault f → IsItemFault f
    go false o p e = subst IsItemFault (same_fault (fault.Field i.main_at) f e) tt
    go true (Some g) p e =
        subst IsItemFault (same_fault g f e) (value_fault i.code i.functions g p)
    go true None p e = absurd (no_file i.code f e)

-- what shows how many bytes are left behind all items
abbrev leaves : Then Items
leaves i rest at = Fault (fault.Short (length rest))

laid_by : (bytes used : List ℕ) (i : Items) → bytes ≡ used ++ []
    → ((tail : List ℕ) (then : Then Items) → with_items (used ++ tail) then ≡ then i tail (0 + length used))
    → (then : Then Items) → with_items bytes then ≡ then i [] (length bytes)
laid_by bytes used i e goes then =
    ap (λ (l : List ℕ). with_items l then) e
    ∙ (goes [] then ∙ ap (λ n. then i [] n) (let l = ap length (e ∙ append-nil used) in omega (arith, l)))

pub empty : (l : List ℕ) → length l ≡ 0 → l ≡ []
empty [] e = refl
empty (x ∷ l) e = absurd (omega (arith, e))

-- ---- the laws

pub file_spelled : (bytes : List ℕ) → AreBytes bytes → (c : CodeValue) → told bytes ≡ File c
    → (bytes ≡ code_bytes c) × (code_fault c ≡ None)
file_spelled bytes are c h = go (items_outcome bytes)
  where
    go : Outcome (λ bytes then. with_items bytes then) AreItems 0 bytes
        → (bytes ≡ code_bytes c) × (code_fault c ≡ None)
    go (refuses f is k) = absurd (no_file c f (sym h ∙ (ap told (sym (append-nil bytes)) ∙ k [] judge)))
    go (ends k) = absurd (no_file c (fault.Short (0 + length bytes)) (sym h ∙ k judge))
    go (takes i used rest e g goes) =
        let j : Judged rest i c = judged_file rest (0 + length used) i c (sym (goes rest judge) ∙ (ap told (sym e) ∙ h)) in
        let whole : bytes ≡ used = e ∙ (ap (λ (l : List ℕ). used ++ l) j.none ∙ append-nil used) in
        let own : AreBytes used = subst AreBytes whole are in (
          whole ∙ (g.spelled own ∙ ap code_bytes j.same),
          subst (λ (v : CodeValue). code_fault v ≡ None) j.same
              (code_none i (g.items own) g.same j.main j.values),
        )

pub file_laid : (bytes : List ℕ) (c : CodeValue) → told bytes ≡ File c → IsLaid bytes
file_laid bytes c h = go (items_outcome bytes)
  where
    go : Outcome (λ bytes then. with_items bytes then) AreItems 0 bytes → IsLaid bytes
    go (refuses f is k) = absurd (no_file c f (sym h ∙ (ap told (sym (append-nil bytes)) ∙ k [] judge)))
    go (ends k) = absurd (no_file c (fault.Short (0 + length bytes)) (sym h ∙ k judge))
    go (takes i used rest e g goes) =
        let j : Judged rest i c = judged_file rest (0 + length used) i c (sym (goes rest judge) ∙ (ap told (sym e) ∙ h)) in
        let whole : bytes ≡ used ++ [] = e ∙ ap (λ (l : List ℕ). used ++ l) j.none in
        (i, laid_by bytes used i whole goes)

pub front_short : (front more : List ℕ) → 0 < length more → IsLaid (front ++ more)
    → told front ≡ Fault (fault.Short (length front))
front_short front more lt laid = go (items_outcome front)
  where
    go : Outcome (λ bytes then. with_items bytes then) AreItems 0 front → told front ≡ Fault (fault.Short (length front))
    go (ends k) = k judge ∙ ap (λ n. Fault (fault.Short n)) (omega arith)
    go (refuses f is k) = absurd (item_short f 0 is (sym (k more leaves) ∙ laid.1 leaves))
    go (takes i used rest e g goes) =
        let split : front ++ more ≡ used ++ (rest ++ more) =
        ap (λ (l : List ℕ). l ++ more) e ∙ append_assoc used rest more in
        let same : length (rest ++ more) ≡ 0 =
        same_short (length (rest ++ more)) 0
        (sym (goes (rest ++ more) leaves) ∙ (ap (λ (l : List ℕ). with_items l leaves) (sym split) ∙ laid.1 leaves)) in
        let l = length-append rest more in absurd (omega (arith, same, l, lt))

pub more_extra : (front more : List ℕ) → 0 < length more → IsLaid front
    → told (front ++ more) ≡ Fault (fault.Extra (length front))
more_extra front [] lt laid = absurd (omega (arith, lt))
more_extra front (b ∷ more) lt laid = go (items_outcome front)
  where
    go : Outcome (λ bytes then. with_items bytes then) AreItems 0 front
        → told (front ++ (b ∷ more)) ≡ Fault (fault.Extra (length front))
    go (ends k) = absurd (short_apart (0 + length front) 0 (sym (k (λ i rest at. Fault (fault.Extra 0)))
        ∙ laid.1 (λ i rest at. Fault (fault.Extra 0))))
    go (refuses f is k) =
        absurd (item_short f 0 is (sym (k [] leaves)
        ∙ (ap (λ (l : List ℕ). with_items l leaves) (append-nil front) ∙ laid.1 leaves)))
    go (takes i used rest e g goes) =
        let none : rest ≡ [] =
        empty rest (same_short (length rest) 0
        (sym (goes rest leaves) ∙ (ap (λ (l : List ℕ). with_items l leaves) (sym e) ∙ laid.1 leaves))) in
        let whole : front ≡ used = e ∙ (ap (λ (l : List ℕ). used ++ l) none ∙ append-nil used) in
        ap (λ (l : List ℕ). told (l ++ (b ∷ more))) whole
        ∙ (goes (b ∷ more) judge ∙ ap (λ n. Fault (fault.Extra n)) (let l = ap length whole in omega (arith, l)))

pub none_front : (front more : List ℕ) (c d : CodeValue) → told front ≡ File c → told (front ++ more) ≡ File d
    → more ≡ []
none_front front [] c d h k = refl
none_front front (b ∷ more) c d h k =
    absurd (no_file d (fault.Extra (length front))
    (sym k ∙ more_extra front (b ∷ more) (omega arith) (file_laid front c h)))

pub short_end : (bytes : List ℕ) (n : ℕ) → told bytes ≡ Fault (fault.Short n) → n ≡ length bytes
short_end bytes n h = go (items_outcome bytes)
  where
    go : Outcome (λ bytes then. with_items bytes then) AreItems 0 bytes → n ≡ length bytes
    go (ends k) = let same = same_short n (0 + length bytes) (sym h ∙ k judge) in omega (arith, same)
    go (refuses f is k) =
        absurd (item_short f n is (sym (k [] judge) ∙ (ap told (append-nil bytes) ∙ h)))
    go (takes i used rest e g goes) = left rest (sym (goes rest judge) ∙ (ap told (sym e) ∙ h))
      where
        left : (rest : List ℕ) → judge i rest (0 + length used) ≡ Fault (fault.Short n) → n ≡ length bytes
        left [] k = absurd (judged_fault (0 + length used) i (fault.Short n) k)
        left (b ∷ rest) k = absurd (short_apart n (0 + length used) (sym k))

pub extra_more : (bytes : List ℕ) (n : ℕ) → told bytes ≡ Fault (fault.Extra n)
    → (front more : List ℕ) × (bytes ≡ front ++ more) × (0 < length more) × (n ≡ length front) × IsLaid front
extra_more bytes n h = go (items_outcome bytes)
  where
    go : Outcome (λ bytes then. with_items bytes then) AreItems 0 bytes
        → (front more : List ℕ) × (bytes ≡ front ++ more) × (0 < length more) × (n ≡ length front) × IsLaid front
    go (ends k) = absurd (short_apart (0 + length bytes) n (sym (k judge) ∙ h))
    go (refuses f is k) =
        absurd (item_extra f n is (sym (k [] judge) ∙ (ap told (append-nil bytes) ∙ h)))
    go (takes i used [] e g goes) =
        absurd (judged_fault (0 + length used) i (fault.Extra n) (sym (goes [] judge) ∙ (ap told (sym e) ∙ h)))
    go (takes i used (b ∷ rest) e g goes) = (
      used,
      b ∷ rest,
      e,
      omega arith,
      (let same = same_extra (0 + length used) n (sym (goes (b ∷ rest) judge) ∙ (ap told (sym e) ∙ h)) in
          omega (arith, same)),
      (i, laid_by used used i (sym (append-nil used)) goes),
    )
