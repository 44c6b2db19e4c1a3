-- What is read of a code file is written as the same bytes.
use Rattle.std.proofs.Common.{◌≡◌, sym, ap, ◌∙◌, ℕ, zero, suc, ◌<◌, List, [], ◌∷◌, get_or, Ok, Err}
use Rattle.cov_base.specs.declared.refusal.Refusal.TheVariants as refusal
use Rattle.stack_ops.specs.Code.{CodeValue}
use Rattle.code_file.specs.declared.fault.CodeFault.{CodeFault}
use Rattle.code_file.specs.Reading.{Told, File, Fault, told}
use Rattle.code_file.specs.Spelling.{code_bytes}
use Rattle.code_file.specs.Taking.{Reads}
use Rattle.code_file.proofs.Outcomes.{AreBytes}
use Rattle.code_file.proofs.FileLaws.{file_spelled}
use Rattle.code_rows.specs.Rewriting.{IsCodeFile}

are_bytes : (xs : List ℕ) → ((i : ℕ) → get_or xs i 0 < 256) → AreBytes xs
are_bytes [] h = tt
are_bytes (x ∷ xs) h = (h 0, are_bytes xs (λ i. h (suc i)))

file_of : (t : Told) (made : CodeValue) → Reads t (Ok made) → t ≡ File made
file_of (File c) made h = ap File (sym h)
file_of (Fault f) made h = absurd h

none_of : (t : Told) (f : CodeFault) (c : CodeValue) → Reads t (Err (refusal.Refused f)) → t ≡ File c → ⊥
none_of (File d) f c h e = h
none_of (Fault g) f c h e = cc

-- what was read is written as the same bytes
pub same_bytes : (bytes written : List ℕ) (made code : CodeValue) → ((i : ℕ) → get_or bytes i 0 < 256)
    → Reads (told bytes) (Ok made) → code ≡ made → written ≡ code_bytes code → (written ≡ bytes) × IsCodeFile bytes
same_bytes bytes written made code fits h same spelled =
    let is : told bytes ≡ File made = file_of (told bytes) made h in (
      spelled ∙ (ap code_bytes same ∙ sym (file_spelled bytes (are_bytes bytes fits) made is).0),
      (made, is),
    )

pub no_file : (bytes : List ℕ) (f : CodeFault) → Reads (told bytes) (Err (refusal.Refused f)) → IsCodeFile bytes → ⊥
no_file bytes f h is = none_of (told bytes) f is.0 h is.1
