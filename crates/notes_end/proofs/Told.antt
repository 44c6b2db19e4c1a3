-- What the reader's answers say of bytes behind a file.
use Rattle.std.proofs.Common.{◌≡◌, refl, sym, ap, subst, ℕ, List, [], ◌∷◌, Result, Ok, Err, inl, inr, ◌⊎◌}
use Rattle.cov_base.specs.declared.refusal.Refusal.{Refusal}
use Rattle.cov_base.specs.declared.refusal.Refusal.TheVariants as refusal
use Rattle.gcov_records.specs.declared.fault.FileFault.{FileFault}
use Rattle.gcov_records.specs.declared.fault.FileFault.TheVariants as fault
use Rattle.gcov_records.proofs.Spelled.{IsBytes}
use Rattle.gcno_format.specs.Notes.{NotesValue}
use Rattle.gcno_format.specs.Layout.{LayoutValue, FileValue}
use Rattle.gcno_format.specs.Reading.{laid_out}
use Rattle.gcno_format.specs.Values.{FirstFails, Told}
use Rattle.notes_end.specs.Ends.{IsExtraExactly}
use Rattle.notes_end.proofs.Stops.{has_behind}
use Rattle.notes_end.proofs.Behind.{extra_there}

-- a fault of a net isn't Extra
no_extra : (ls : List LayoutValue) (n : ℕ) → FirstFails ls (fault.Extra n) → ⊥
no_extra [] n f = f
no_extra (l ∷ ls) n (inl f) = f
no_extra (l ∷ ls) n (inr f) = no_extra ls n f.1

told_extra : (n : ℕ) (read : Result FileValue FileFault) → Told read (Err (refusal.Refused (fault.Extra n)))
    → read ≡ Err (fault.Extra n)
told_extra n (Ok file) t = absurd (no_extra file.functions n t)
told_extra n (Err found) t = ap (λ (f : FileFault). Err f) (sym t)

only_extra : (n : ℕ) (answer : Result NotesValue (Refusal FileFault)) → Told (Err (fault.Extra n)) answer
    → (answer ≡ Err (refusal.Refused (fault.Extra n))) ⊎ (answer ≡ Err refusal.NoMemory)
only_extra n (Ok notes) t = absurd t
only_extra n (Err (refusal.Refused found)) t = inl (ap (λ (f : FileFault). Err (refusal.Refused f)) t)
only_extra n (Err refusal.NoMemory) t = inr refl

pub exactly : (bytes : List ℕ) → IsBytes bytes → IsExtraExactly bytes
exactly bytes fits = record {
  extra = λ n t. has_behind bytes n fits (told_extra n (laid_out bytes) t);
  more = λ n answer h t. only_extra n answer (subst (λ r. Told r answer) (extra_there bytes n fits h) t);
}
