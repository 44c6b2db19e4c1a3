-- What goes wrong at a part of what is read.
use Rattle.std.proofs.Common.{◌≡◌, ◌∙◌, ℕ, List, Result, Err}
use Rattle.std.specs.Result.{IsErrAnd}
use Rattle.std.proofs.lemmas.Result.{err_from_is_err_and}
use Rattle.cov_base.specs.declared.refusal.Refusal.{Refusal}
use Rattle.cov_base.specs.declared.refusal.Refusal.TheVariants as refusal
use Rattle.gcov_items.specs.Items.{ReaderValue, left}
use Rattle.code_file.specs.declared.fault.CodeFault.{CodeFault}
use Rattle.code_file.specs.Reading.{Told}
use Rattle.code_file.specs.Taking.{Takes}
use Rattle.code_file.proofs.Outcomes.{Then}

-- what goes wrong at a part is what goes wrong at the whole
stopped : {X Y A B : Type 0} (seen : X → A) (view : Y → B) (whole : List ℕ → ℕ → Then A → Told)
    (part : List ℕ → ℕ → Then B → Told) (behind : Then A → Then B) (start old new : ReaderValue)
    (e : Refusal CodeFault)
    → ((then : Then A) → whole (left start) start.at then ≡ part (left old) old.at (behind then))
    → Takes view part old new (Err e) → Takes seen whole start new (Err e)
stopped seen view whole part behind start old new (refusal.Refused f) so h = λ then. so then ∙ h (behind then)
stopped seen view whole part behind start old new refusal.NoMemory so h = tt

-- the same of what `?` returns there
pub stops : {X Y A B : Type 0} (seen : X → A) (view : Y → B) (whole : List ℕ → ℕ → Then A → Told)
    (part : List ℕ → ℕ → Then B → Told) (behind : Then A → Then B) (start old new : ReaderValue)
    (e : Refusal CodeFault) (r : Result X (Refusal CodeFault)) → IsErrAnd r (λ y. y ≡ e)
    → ((then : Then A) → whole (left start) start.at then ≡ part (left old) old.at (behind then))
    → Takes view part old new (Err e) → Takes seen whole start new r
stops seen view whole part behind start old new e r is so h =
    let p = err_from_is_err_and r is in
    rw (p.1, p.2) (stopped seen view whole part behind start old new e so h)
