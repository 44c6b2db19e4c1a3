-- What the operations that count make of the counts, on both sides.
use Rattle.std.proofs.Common.{◌≡◌, refl, ap, ℕ, zero, suc, List, [], ◌∷◌, set, Some}
use Rattle.std.specs.Prelude.{slice_get, slice_index_or}
use Rattle.std.proofs.lemmas.Option.{same_Some, none-some}
use Rattle.code_runs.specs.CodeRun.{at_index}
use Rattle.stack_ops.specs.declared.operation.Op.TheVariants as op
use Rattle.stack_ops.specs.Code.{FunctionValue, CodeValue}
use Rattle.word_rules.specs.WordRules.{begin_by, pass_by, begin_row, pass_row}
use Rattle.word_rules.specs.WordRules as rule
use Rattle.code_runs.specs.CodeRun.{does, Goes_on}
use Rattle.code_runs.specs.Tables.{begin_of, pass_of}
use Rattle.stack_machine.specs.Counts.{CountsValue}
use Rattle.stack_machine.specs.declared.run.Run.{Run}
use Rattle.stack_machine.specs.Points.{Ghosts, counters_of, words_of, point, marking}

-- the counters of a function are counted once, and all others and the words stay
pub counted-counters : (cs : List CountsValue) (i n : ℕ) (v w : CountsValue) → slice_get cs i ≡ Some v
    → w ≡ record v { counters = at_index suc n v.counters } → counters_of (set cs i w) ≡ at_index (at_index suc n) i (counters_of cs)
counted-counters [] i n v w is e = absurd (none-some v is)
counted-counters (x ∷ xs) zero n v w is e =
    let same : x ≡ v = same_Some x v is in rw (e, same) refl
counted-counters (x ∷ xs) (suc i) n v w is e = ap (λ l. x.counters ∷ l) (counted-counters xs i n v w is e)

pub same-words : (cs : List CountsValue) (i : ℕ) (v w : CountsValue) → slice_get cs i ≡ Some v → w.words ≡ v.words
    → words_of (set cs i w) ≡ words_of cs
same-words [] i v w is e = absurd (none-some v is)
same-words (x ∷ xs) zero v w is e =
    let same : x ≡ v = same_Some x v is in rw (e, same) refl
same-words (x ∷ xs) (suc i) v w is e = ap (λ l. x.words ∷ l) (same-words xs i v w is e)

pub same-counters : (cs : List CountsValue) (i : ℕ) (v w : CountsValue) → slice_get cs i ≡ Some v → w.counters ≡ v.counters
    → counters_of (set cs i w) ≡ counters_of cs
same-counters [] i v w is e = absurd (none-some v is)
same-counters (x ∷ xs) zero v w is e =
    let same : x ≡ v = same_Some x v is in rw (e, same) refl
same-counters (x ∷ xs) (suc i) v w is e = ap (λ l. x.counters ∷ l) (same-counters xs i v w is e)

-- the words of a function become others
pub other-words : (cs : List CountsValue) (i : ℕ) (w : CountsValue) → words_of (set cs i w) ≡ set (words_of cs) i w.words
other-words [] i w = refl
other-words (x ∷ xs) zero w = refl
other-words (x ∷ xs) (suc i) w = ap (λ l. x.words ∷ l) (other-words xs i w)

pub words-there : (cs : List CountsValue) (i : ℕ) (v : CountsValue) → slice_get cs i ≡ Some v
    → slice_index_or (words_of cs) i [] ≡ v.words
words-there [] i v is = absurd (none-some v is)
words-there (x ∷ xs) zero v is = ap (λ (w : CountsValue). w.words) (same_Some x v is)
words-there (x ∷ xs) (suc i) v is = words-there xs i v is

-- a run with other counts of its function and other path bits, at the next instruction
pub record Marked (r n : Run) (v w : CountsValue) : Type 0 where
  pub there : slice_get r.counts.items r.function ≡ Some v
  pub counts : n.counts.items ≡ set r.counts.items r.function w
  pub store : n.store ≡ r.store
  pub frames : n.frames ≡ r.frames
  pub globals : n.globals ≡ r.globals
  pub function : n.function ≡ r.function
  pub at : n.at ≡ suc r.at
  pub turns : n.turns ≡ r.turns

pub begins-walk : (c : CodeValue) (f : FunctionValue) (r n : Run) (s : Ghosts) (v w : CountsValue) (table : List ℕ)
    → f.table ≡ table → Marked r n v w → w.counters ≡ v.counters → n.bits.below ≡ r.bits.below
    → begin_by (begin_row (begin_of table)) (rule.words_of r.bits.bits v.words) ≡ rule.words_of n.bits.bits w.words
    → does c f op.PathBegin (point r s) ≡ Goes_on (point n (marking op.PathBegin s))
begins-walk c f r n s v w table e m counters below h =
    rw (
      e,
      words-there r.counts.items r.function v m.there,
      h,
      m.counts,
      below,
      m.store,
      m.frames,
      m.globals,
      m.function,
      m.at,
      m.turns,
      same-counters r.counts.items r.function v w m.there counters,
      other-words r.counts.items r.function w,
    )
    refl

pub passes-arc : (c : CodeValue) (f : FunctionValue) (r n : Run) (s : Ghosts) (v w : CountsValue) (i : ℕ) (table : List ℕ)
    → f.table ≡ table → Marked r n v w → w.counters ≡ v.counters → n.bits.below ≡ r.bits.below
    → pass_by (pass_row (pass_of i table)) (rule.words_of r.bits.bits v.words) ≡ rule.words_of n.bits.bits w.words
    → does c f (op.PathPass i) (point r s) ≡ Goes_on (point n (marking (op.PathPass i) s))
passes-arc c f r n s v w i table e m counters below h =
    rw (
      e,
      words-there r.counts.items r.function v m.there,
      h,
      m.counts,
      below,
      m.store,
      m.frames,
      m.globals,
      m.function,
      m.at,
      m.turns,
      same-counters r.counts.items r.function v w m.there counters,
      other-words r.counts.items r.function w,
    )
    refl

pub counts-once : (c : CodeValue) (f : FunctionValue) (r n : Run) (s : Ghosts) (v w : CountsValue) (i : ℕ) → Marked r n v w
    → n.bits ≡ r.bits → w ≡ record v { counters = at_index suc i v.counters }
    → does c f (op.Count i) (point r s) ≡ Goes_on (point n (marking (op.Count i) s))
counts-once c f r n s v w i m bits e =
    rw (
      m.counts,
      bits,
      m.store,
      m.frames,
      m.globals,
      m.function,
      m.at,
      m.turns,
      counted-counters r.counts.items r.function i v w m.there e,
      same-words r.counts.items r.function v w m.there (ap (λ (u : CountsValue). u.words) e),
    ) refl
