-- What the program does with its words and the outside, and the exit status that it gives.
use Rattle.std.specs.Prelude.{◌≡◌, ℕ, List, Result, Ok, Err, Vec, String, IfSome, map, string_bytes}
use Rattle.std.specs.Global.{Global}
use Rattle.cov_outside.specs.Outside.{Rose}
use Rattle.cov_answers.specs.declared.answers.End.{End}
use Rattle.cov_answers.specs.Answers.{IsTold, line_of, status_of}
use Rattle.cov_words.specs.Reading.{reading}
use Rattle.cov_program.specs.Outside.{Observed}
use Rattle.cov_program.specs.Performs.{Performs, Stands}

-- Where there are no words, the line of the answer is told, and nothing else changes.
pub record TellsOnly {S K F : Type 0} (before after : Observed) (end : End) (input input' : S) (output output' : K)
    (folder folder' : F) : Type 0 where
  pub line : IfSome before.errors (λ errors. IsTold (line_of end) errors after.errors
      (Rose before.error_faults after.error_faults) (Rose before.error_wants after.error_wants))
  pub input_stands : input' ≡ input
  pub output_stands : output' ≡ output
  pub folder_stands : folder' ≡ folder

-- The program ends with the status of an answer: that of the top call on its words, or why there are none.
abbrev pub Finishes : {S K E F : Type 0} → Result (Vec (String Global) Global) End → Observed → Observed → ℕ → S → S
    → K → K → E → E → F → F → Type 0
Finishes (Ok words) before after status input input' output output' errors errors' folder folder' =
    (end : End) × (status ≡ status_of end) × Performs (reading (map string_bytes words.items)) before after end
    × Stands (reading (map string_bytes words.items)) end input input' output output' errors errors' folder folder'
Finishes (Err end) before after status input input' output output' errors errors' folder folder' =
    (status ≡ status_of end) × TellsOnly before after end input input' output output' folder folder'
