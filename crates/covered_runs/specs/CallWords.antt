-- What the calls of a function make of its path words.
use Rattle.std.specs.Prelude.{◌≡◌, ℕ, ◌==◌, cond, List, [], ◌∷◌, length, replicate, Some, slice_get}
use Rattle.std.specs.List.{fold}
use Rattle.stack_ops.specs.declared.operation.Op.{Op}
use Rattle.stack_ops.specs.declared.operation.Op.TheVariants as op
use Rattle.stack_ops.specs.Code.{FunctionValue, CodeValue}
use Rattle.word_rules.specs.WordRules.{Words, words_of, begin_row, pass_row, begin_by, pass_by}
use Rattle.code_runs.specs.Tables.{words_in, begin_of, pass_of}
use Rattle.code_runs.specs.CodeRun.{Marked, Tally}

-- What an operation that a call marks makes of its path bits and of the path words of its function, by the rows of the
-- function's table. Only paths that begin or go on change them.
abbrev pub marked_by : List ℕ → Words → Op → Words
marked_by table ws op.PathBegin = begin_by (begin_row (begin_of table)) ws
marked_by table ws (op.PathPass n) = pass_by (pass_row (pass_of n table)) ws
marked_by table ws o = ws

-- as many words as a function has, all 0
abbrev pub no_words : FunctionValue → List ℕ
no_words f = replicate (words_in f.paths) 0

-- what a call that marks these operations makes of its function's path words: its path bits are its own, and 0 as it
-- begins
abbrev pub after_call : FunctionValue → List ℕ → List Op → List ℕ
after_call f seen ops = (fold (marked_by f.table) (words_of (no_words f) seen) ops).seen

-- what calls make of the path words of function i, one behind another
abbrev pub after_calls : FunctionValue → ℕ → List ℕ → List Marked → List ℕ
after_calls f i seen [] = seen
after_calls f i seen (m ∷ marks) = after_calls f i (cond (m.function == i) (after_call f seen m.ops) seen) marks

-- the path words of function i after these calls; all are 0 before
abbrev pub words_by : FunctionValue → ℕ → List Marked → List ℕ
words_by f i marks = after_calls f i (no_words f) marks

-- a run has counted all counters and path words of each function of its code, and no others
pub record IsWhole (c : CodeValue) (t : Tally) : Type 0 where
  pub counters_of : length t.counters ≡ length c.functions
  pub words_of : length t.words ≡ length c.functions
  pub counters : (i : ℕ) (f : FunctionValue) → slice_get c.functions i ≡ Some f
      → (ns : List ℕ) × (slice_get t.counters i ≡ Some ns) × (length ns ≡ f.counters)
