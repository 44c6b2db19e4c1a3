-- What one change does to files, and a change at the end of others.
use Rattle.std.proofs.Common.{◌≡◌, ◌≢◌, ℕ, Bool, true, false, cond, List, [], ◌∷◌, ◌++◌, length, take, refl, sym, ap, ◌∙◌}
use Rattle.std.specs.Prelude.{Option, Some, None, Result, Ok, Err, OnOk, OnErr, String, Vec, option_map, bytes_eq, string_bytes}
use Rattle.std.specs.Global.{Global}
use Rattle.std.proofs.lemmas.Option.{same_Some}
use Rattle.std.proofs.Math.Seq.{take-length}
use Rattle.std.proofs.lemmas.Slice.Eq.{bytes_eq-Decides}
use Rattle.cov_outside.specs.Outside.{Files}
use Rattle.cov_outside.specs.FileCalls.{KeepsOthers, Puts, Renamed, Renames}
use Rattle.cov_outside.specs.declared.faults.CallFault.{CallFault}
use Rattle.cov_outside.specs.Changes.{changed, found_after, files_after}
use Rattle.cov_outside.specs.declared.change_log.Change.{Change}

never_true : (b : Bool) → (b ≡ true → ⊥) → b ≡ false
never_true true never = absurd (never refl)
never_true false never = refl

same_name : (name : List ℕ) → bytes_eq name name ≡ true
same_name name = (bytes_eq-Decides name name).1 refl

other_name : (name other : List ℕ) → other ≢ name → bytes_eq name other ≡ false
other_name name other apart =
    never_true (bytes_eq name other) (λ e. apart (sym ((bytes_eq-Decides name other).0 e)))

-- a change at the end is the last one
found_after-push : (cs : List Change) (c : Change) (name : List ℕ) (found : Option (List ℕ))
    → found_after (cs ++ c ∷ []) name found
    ≡ changed (string_bytes c.name) (option_map (λ v. v.items) c.bytes) (string_bytes c.gone)
    (λ other. found_after cs name found) name
found_after-push [] c name found = refl
found_after-push (d ∷ cs) c name found =
    found_after-push cs c name
    (changed (string_bytes d.name) (option_map (λ v. v.items) d.bytes) (string_bytes d.gone) (λ other. found) name)

-- the files once one change more is done
pub files_after-push : (before after : List Change) (name : String Global) (bytes : Option (Vec ℕ Global))
    (gone : String Global) (n g : List ℕ)
    → after ≡ before ++ record { name = name; bytes = bytes; gone = gone } ∷ [] → string_bytes name ≡ n
    → string_bytes gone ≡ g
    → files_after after ≡ changed n (option_map (λ v. v.items) bytes) g (files_after before)
files_after-push before after name bytes gone n g added named went =
    rw (added, ← named, ← went)
    (λ i. λ other. found_after-push before (record { name = name; bytes = bytes; gone = gone }) other None i)

-- a change leaves each other name
pub changed_keeps : (name : List ℕ) (value : Option (List ℕ)) (gone other : List ℕ) (x y : Files)
    → y ≡ changed name value gone x → other ≢ name → other ≢ gone → y other ≡ x other
changed_keeps name value gone other x y e named went =
    ap (λ f. f other) e
    ∙ (ap (λ b. cond b value (cond (bytes_eq gone other) None (x other))) (other_name name other named)
    ∙ ap (λ b. cond b None (x other)) (other_name gone other went))

-- bytes under a name
pub changed_puts : (name bytes : List ℕ) (x y : Files) → y ≡ changed name (Some bytes) name x → Puts name bytes x y
changed_puts name bytes x y e =
    record {
      there = ap (λ f. f name) e ∙ ap (λ b. cond b (Some bytes) (cond b None (x name))) (same_name name);
      others = λ other apart. changed_keeps name (Some bytes) name other x y e apart apart;
    }

-- the bytes of one name under another, where the one goes
pub changed_renames : (from to : List ℕ) (x y : Files) → y ≡ changed to (x from) from x → Renamed from to x y
changed_renames from to x y e =
    record {
      moved = ap (λ f. f to) e
          ∙ ap (λ b. cond b (x from) (cond (bytes_eq from to) None (x to))) (same_name to);
      gone = λ apart. ap (λ f. f from) e
          ∙ (ap (λ b. cond b (x from) (cond (bytes_eq from from) None (x from))) (other_name to from apart)
          ∙ ap (λ b. cond b None (x from)) (same_name from));
      others = λ other went named. changed_keeps to (x from) from other x y e named went;
    }

-- a change, or none where memory ran out, leaves each name but its own
pub kept_by_change : (name : List ℕ) (value : Option (List ℕ)) (result : Result (Unit {0}) CallFault)
    (before after : List Change)
    → OnOk result (files_after after ≡ changed name value name (files_after before))
    → OnErr result (after ≡ before) → KeepsOthers name (files_after before) (files_after after)
kept_by_change name value (Ok done) before after ok err other apart =
    changed_keeps name value name other (files_after before) (files_after after) ok apart apart
kept_by_change name value (Err fault) before after ok err other apart = ap (λ cs. files_after cs other) err

-- a change that renames, or none where memory ran out
pub renamed_by_change : (from to : List ℕ) (value : Option (List ℕ)) (result : Result (Unit {0}) CallFault)
    (before after : List Change) → value ≡ files_after before from
    → OnOk result (files_after after ≡ changed to value from (files_after before)) → OnErr result (after ≡ before)
    → Renames from to result (files_after before) (files_after after)
renamed_by_change from to value (Ok done) before after is ok err =
    changed_renames from to (files_after before) (files_after after)
    (ok ∙ ap (λ v. changed to v from (files_after before)) is)
renamed_by_change from to value (Err fault) before after is ok err = λ other. ap (λ cs. files_after cs other) err

-- a piece behind the bytes that were under a name
pub written : (x0 x1 y : Files) (n name piece old items new : List ℕ) → x1 ≡ x0 → n ≡ name → x0 name ≡ Some old
    → Some items ≡ x1 n → new ≡ items ++ piece → y ≡ changed n (Some new) n x1
    → Puts name (old ++ take (length piece) piece) x0 y
written x0 x1 y n name piece old items new same named found copied added ok =
    let is : items ≡ old = same_Some _ _ (copied ∙ (ap (λ f. f n) same ∙ (ap x0 named ∙ found))) in
    let whole : new ≡ old ++ take (length piece) piece =
    added ∙ (ap (λ xs. xs ++ piece) is ∙ ap (λ xs. old ++ xs) (sym (take-length piece))) in
    changed_puts name (old ++ take (length piece) piece) x0 y
    (ok ∙ (ap (λ b. changed n (Some b) n x1) whole
    ∙ (ap (λ m. changed m (Some (old ++ take (length piece) piece)) m x1) named
    ∙ ap (λ x. changed name (Some (old ++ take (length piece) piece)) name x) same)))
