-- What is observed of the outside at a moment.
use Rattle.std.specs.Prelude.{ℕ, List, Option, Some, None}
use Rattle.cov_outside.specs.Outside.{Files}

-- The files, the bytes of standard input that no read took yet and the bytes written to the output, where they are told, and the counts
-- of faults and of wants of memory.
pub record Outside : Type 0 where
  pub files : Option Files
  pub input : Option (List ℕ)
  pub output : Option (List ℕ)
  pub folder_faults : ℕ
  pub input_faults : ℕ
  pub output_faults : ℕ
  pub output_wants : ℕ

-- The same, and the bytes written to the error output with its counts.
pub record Observed : Type 0 where
  pub outside : Outside
  pub errors : Option (List ℕ)
  pub error_faults : ℕ
  pub error_wants : ℕ

-- what is told of the file of this name
abbrev pub file_at : Option Files → List ℕ → Option (Option (List ℕ))
file_at None name = None
file_at (Some files) name = Some (files name)
