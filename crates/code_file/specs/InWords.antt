-- Which numbers of a code have to fit words, or longs, to stand in a file: those that no rule bounds.
use Rattle.std.specs.Prelude.{ℕ, ◌^◌, ◌<◌, List, [], ◌∷◌}
use Rattle.std.specs.List.{All}
use Rattle.stack_ops.specs.Code.{FunctionValue, CodeValue}
use Rattle.code_file.specs.declared.op_items.Fields.{Fields}
use Rattle.code_file.specs.declared.op_items.Fields.TheVariants as fields
use Rattle.code_file.specs.OpItems.{fields_of}

-- these numbers fit words
abbrev pub FitWords : List ℕ → Type 0
FitWords numbers = All (λ n. n < 2 ^ 32) numbers

-- the words among the fields of an operation
abbrev pub words_of : Fields → List ℕ
words_of (fields.At t line) = line ∷ []
words_of (fields.Word w) = w ∷ []
words_of (fields.Words w v) = w ∷ v ∷ []
words_of (fields.Case n w) = w ∷ []
words_of f = []

-- the checksum of a function and the words of its instructions fit words, the numbers of its table longs
pub record IsFunctionInWords (f : FunctionValue) : Type 0 where
  pub checksum : f.checksum < 2 ^ 32
  pub ops : All (λ o. FitWords (words_of (fields_of o))) f.ops
  pub table : All (λ n. n < 2 ^ 64) f.table

-- so do those of all functions of a code, and its stamp fits a word
pub record IsCodeInWords (c : CodeValue) : Type 0 where
  pub stamp : c.stamp < 2 ^ 32
  pub functions : All (λ f. IsFunctionInWords f) c.functions
