-- Records and functions one after the other, as loops take them.
use Rattle.std.proofs.Common.{◌≡◌, ◌≤◌, ◌<◌, ◌+◌, ◌-◌, sym, ap, ◌∙◌, ℕ, suc, true, false, cond}
use Rattle.std.proofs.Common.{List, Result, Ok, Err, arith}
use Rattle.std.proofs.lemmas.Bool.{cond-true, cond-false}
use Rattle.cov_base.specs.declared.refusal.Refusal.{Refusal}
use Rattle.cov_base.specs.declared.refusal.Refusal.TheVariants as refusal
use Rattle.gcov_items.specs.Items.{ReaderValue, left}
use Rattle.gcov_records.specs.declared.fault.FileFault.{FileFault}
use Rattle.gcov_records.specs.Reading.{Got, on_got, Gives}
use Rattle.gcno_format.specs.Layout.{ProgressValue}
use Rattle.gcno_format.specs.Reading.{next_record, is_over, records}

abbrev Answer : Type 0
Answer = Result (Got ProgressValue) FileFault

abbrev pub at_end : ProgressValue → List ℕ → ℕ → Answer
at_end p rest at = Ok (record { value = p; rest = rest; at = at })

unrolled : (most i : ℕ) (p : ProgressValue) (bytes : List ℕ) (at : ℕ) (total : Answer) → i < most
    → records (most - i) p bytes at ≡ total
    → cond (is_over p bytes) (at_end p bytes at)
    (on_got (next_record p bytes at) (λ q. records (most - (i + 1)) q)) ≡ total
unrolled most i p bytes at total lt h =
    let k : most - i ≡ suc (most - (i + 1)) = omega (arith, lt) in
    sym (ap (λ n. records n p bytes at) k) ∙ h

-- nothing is left to be read
pub is_done : (most i : ℕ) (p : ProgressValue) (bytes : List ℕ) (at : ℕ) (total : Answer) → i < most
    → is_over p bytes ≡ true → records (most - i) p bytes at ≡ total → total ≡ at_end p bytes at
is_done most i p bytes at total lt over h =
    sym (unrolled most i p bytes at total lt h) ∙ cond-true (is_over p bytes) _ _ over

-- no more records may be read
pub is_spent : (most i : ℕ) (p : ProgressValue) (bytes : List ℕ) (at : ℕ) (total : Answer) → most ≤ i
    → records (most - i) p bytes at ≡ total → total ≡ at_end p bytes at
is_spent most i p bytes at total le h =
    let k : most - i ≡ 0 = omega (arith, le) in
    sym h ∙ ap (λ n. records n p bytes at) k

-- a record was read
pub goes_on : (most i : ℕ) (p q : ProgressValue) (bytes rest : List ℕ) (at next : ℕ) (total : Answer) → i < most
    → is_over p bytes ≡ false → next_record p bytes at ≡ at_end q rest next
    → records (most - i) p bytes at ≡ total → records (most - (i + 1)) q rest next ≡ total
goes_on most i p q bytes rest at next total lt over step h =
    sym (ap (λ o. on_got o (λ q. records (most - (i + 1)) q)) step)
    ∙ (sym (cond-false (is_over p bytes) (at_end p bytes at) _ over) ∙ unrolled most i p bytes at total lt h)

-- a record was refused, or memory ran out
pub stops : (e : Refusal FileFault) (most i : ℕ) (p : ProgressValue) (first old new : ReaderValue)
    (start : ProgressValue) → i < most → is_over p (left old) ≡ false
    → Gives (λ (p : ProgressValue). p) (next_record p) old new (Err e)
    → records (most - i) p (left old) old.at ≡ records most start (left first) first.at
    → Gives (λ (p : ProgressValue). p) (records most start) first new (Err e)
stops (refusal.Refused found) most i p first old new start lt over step h =
    sym (unrolled most i p (left old) old.at (records most start (left first) first.at) lt h)
    ∙ (cond-false (is_over p (left old)) (at_end p (left old) old.at) _ over
    ∙ ap (λ o. on_got o (λ q. records (most - (i + 1)) q)) step)
stops refusal.NoMemory most i p first old new start lt over step h = tt
