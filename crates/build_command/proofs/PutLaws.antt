-- What replacing both files of a program comes to.
use Rattle.std.proofs.Common.{◌≡◌, ◌∙◌, ap, subst, inr, ℕ, List}
use Rattle.std.specs.Prelude.{Option, Result, Ok, Err, IfErr}
use Rattle.cov_outside.specs.Outside.{Files}
use Rattle.code_file.specs.Spelling.{code_bytes}
use Rattle.code_file.specs.Reading.{File, told}
use Rattle.gcno_format.specs.Spelling.{notes_bytes}
use Rattle.covered_code.specs.declared.covered.Covered.{Covered}
use Rattle.cov_answers.specs.declared.answers.End.{End}
use Rattle.command_steps.specs.Names.{code_name, notes_name}
use Rattle.command_steps.specs.Puts.{put, Puts, IsUnput}
use Rattle.build_command.specs.Build.{PutsBoth, put_notes}

-- the notes were replaced, and the code was or wasn't
pub both_put : {T : Type 0} (name : List ℕ) (covered : Covered) (before middle after : Option Files)
    (r : Result T End) (notes code : List ℕ) → told code ≡ File covered.code → code ≡ code_bytes covered.code
    → notes ≡ notes_bytes covered.notes → middle ≡ put (notes_name name) notes before
    → Puts middle after (code_name name) code r → IfErr r IsUnput → PutsBoth name covered before after r
both_put name covered before middle after (Ok done) notes code reads spelled noted first second kind =
    let now : middle ≡ put_notes name covered before =
    first ∙ ap (λ (b : List ℕ). put (notes_name name) b before) noted in (
      subst (λ (b : List ℕ). told b ≡ File covered.code) spelled reads,
      second ∙ (ap (λ (b : List ℕ). put (code_name name) b middle) spelled
          ∙ ap (λ (f : Option Files). put (code_name name) (code_bytes covered.code) f) now),
    )
both_put name covered before middle after (Err end) notes code reads spelled noted first second kind =
    (kind, inr (second ∙ (first ∙ ap (λ (b : List ℕ). put (notes_name name) b before) noted)))
