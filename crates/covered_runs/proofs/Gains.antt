-- Words seen only gain bits, and what a call adds to them is told by its own path bits alone: so the order in which calls
-- add theirs is the same to the words.
use Rattle.std.proofs.Common.{◌≡◌, refl, sym, ap, ap₂, ◌∙◌, ℕ, zero, suc, ◌==◌, Bool, true, false, cond, max}
use Rattle.std.proofs.Common.{List, [], ◌∷◌, ◌++◌, length, replicate, set, get_or, bit_or, bit_and, fold, arith}
use Rattle.std.specs.Int.{bit_at}
use Rattle.std.proofs.lemmas.Nat.Bits.{bit_at_or, same_from_bits}
use Rattle.std.proofs.lemmas.List.Sums.{fold-append}
use Rattle.stack_ops.specs.declared.operation.Op.{Op}
use Rattle.stack_ops.specs.declared.operation.Op.TheVariants as op
use Rattle.stack_ops.specs.Code.{FunctionValue}
use Rattle.word_rules.specs.WordRules.{BeginEntry, PassEntry, Words, words_of, begun, passed, begin_by, begin_row, pass_row}
use Rattle.code_runs.specs.Tables.{begin_of, pass_of}
use Rattle.code_runs.specs.CodeRun.{Marked}
use Rattle.covered_runs.specs.CallWords.{marked_by, no_words, after_call, after_calls}

-- a word of those seen, by its number, gains bits
abbrev pub gained : List ℕ → ℕ × ℕ → List ℕ
gained seen g = set seen g.0 (bit_or (get_or seen g.0 0) g.1)

or_swap : (x a b : ℕ) → bit_or (bit_or x a) b ≡ bit_or (bit_or x b) a
or_swap x a b = same_from_bits _ _ (λ i.
    bit_at_or (bit_or x a) b i ∙ (ap (λ n. max n (bit_at b i)) (bit_at_or x a i)
    ∙ (greatest (bit_at x i) (bit_at a i) (bit_at b i)
    ∙ sym (bit_at_or (bit_or x b) a i ∙ ap (λ n. max n (bit_at a i)) (bit_at_or x b i)))))
  where
    greatest : (a b c : ℕ) → max (max a b) c ≡ max (max a c) b
    greatest a b c = omega arith

gained_swap : (s : List ℕ) (i a j b : ℕ) → gained (gained s (i, a)) (j, b) ≡ gained (gained s (j, b)) (i, a)
gained_swap [] i a j b = refl
gained_swap (x ∷ s) zero a zero b = ap (λ n. n ∷ s) (or_swap x a b)
gained_swap (x ∷ s) zero a (suc j) b = refl
gained_swap (x ∷ s) (suc i) a zero b = refl
gained_swap (x ∷ s) (suc i) a (suc j) b = ap (λ l. x ∷ l) (gained_swap s i a j b)

swap_one : (s : List ℕ) (g : ℕ × ℕ) (hs : List (ℕ × ℕ)) → fold gained (gained s g) hs ≡ gained (fold gained s hs) g
swap_one s g [] = refl
swap_one s g (h ∷ hs) =
    ap (λ t. fold gained t hs) (gained_swap s g.0 g.1 h.0 h.1) ∙ swap_one (gained s h) g hs

swap_all : (s : List ℕ) (gs hs : List (ℕ × ℕ)) → fold gained (fold gained s gs) hs ≡ fold gained (fold gained s hs) gs
swap_all s [] hs = refl
swap_all s (g ∷ gs) hs = swap_all (gained s g) gs hs ∙ ap (λ t. fold gained t gs) (swap_one s g hs)

gained_long : (s : List ℕ) (gs : List (ℕ × ℕ)) → length (fold gained s gs) ≡ length s
gained_long s [] = refl
gained_long s (g ∷ gs) = gained_long (gained s g) gs ∙ one s g.0 (bit_or (get_or s g.0 0) g.1)
  where
    one : (s : List ℕ) (i x : ℕ) → length (set s i x) ≡ length s
    one [] i x = refl
    one (y ∷ s) zero x = refl
    one (y ∷ s) (suc i) x = ap suc (one s i x)

-- a step makes these path bits of some, and whatever words were seen, they gain these bits
pub record Gains (step : Words → Words) (bits : List ℕ) : Type 0 where
  pub to : List ℕ
  pub by : List (ℕ × ℕ)
  pub is : (seen : List ℕ) → step (words_of bits seen) ≡ words_of to (fold gained seen by)

fold_gains : {E : Type 0} (step : Words → E → Words) → ((e : E) (bits : List ℕ) → Gains (λ ws. step ws e) bits)
    → (es : List E) (bits : List ℕ) → Gains (λ ws. fold step ws es) bits
fold_gains step each [] bits = record { to = bits; by = []; is = λ seen. refl }
fold_gains step each (e ∷ es) bits =
    let one = each e bits in
    let rest = fold_gains step each es one.to in
    record {
      to = rest.to;
      by = one.by ++ rest.by;
      is = λ seen.
          ap (λ ws. fold step ws es) (one.is seen) ∙ rest.is (fold gained seen one.by)
          ∙ ap (λ s. words_of rest.to s) (sym (fold-append gained seen one.by rest.by));
    }

begun_gains : (e : BeginEntry) (bits : List ℕ) → Gains (λ ws. begun ws e) bits
begun_gains e bits = record { to = set bits e.word e.begin; by = (e.word, e.done) ∷ []; is = λ seen. refl }

passed_gains : (e : PassEntry) (bits : List ℕ) → Gains (λ ws. passed ws e) bits
passed_gains e bits = record {
  to = set bits e.word (bit_or (bit_and (get_or bits e.word 0) e.keep) e.start);
  by = (e.word, bit_and (bit_and (get_or bits e.word 0) e.keep) e.finish) ∷ [];
  is = λ seen. refl;
}

begin_gains : (row : List BeginEntry) (bits : List ℕ) → Gains (λ ws. begin_by row ws) bits
begin_gains row bits =
    let g = fold_gains begun begun_gains row (replicate (length bits) 0) in
    record { to = g.to; by = g.by; is = g.is }

stay_gains : (table : List ℕ) (o : Op) (bits : List ℕ) → ((ws : Words) → marked_by table ws o ≡ ws)
    → Gains (λ ws. marked_by table ws o) bits
stay_gains table o bits stays = record { to = bits; by = []; is = λ seen. stays (words_of bits seen) }

-- what an operation adds
pub op_gains : (table : List ℕ) (o : Op) (bits : List ℕ) → Gains (λ ws. marked_by table ws o) bits
op_gains table op.PathBegin bits =
    let g = begin_gains (begin_row (begin_of table)) bits in
    record { to = g.to; by = g.by; is = g.is }
op_gains table (op.PathPass w) bits =
    let g = fold_gains passed passed_gains (pass_row (pass_of w table)) bits in
    record { to = g.to; by = g.by; is = g.is }
op_gains table (op.Push n) bits = stay_gains table (op.Push n) bits (λ ws. refl)
op_gains table op.Dup bits = stay_gains table op.Dup bits (λ ws. refl)
op_gains table op.Drop bits = stay_gains table op.Drop bits (λ ws. refl)
op_gains table op.Swap bits = stay_gains table op.Swap bits (λ ws. refl)
op_gains table op.Over bits = stay_gains table op.Over bits (λ ws. refl)
op_gains table (op.Convert t) bits = stay_gains table (op.Convert t) bits (λ ws. refl)
op_gains table op.Not bits = stay_gains table op.Not bits (λ ws. refl)
op_gains table (op.LoadLocal w) bits = stay_gains table (op.LoadLocal w) bits (λ ws. refl)
op_gains table (op.StoreLocal w) bits = stay_gains table (op.StoreLocal w) bits (λ ws. refl)
op_gains table (op.LoadGlobal w) bits = stay_gains table (op.LoadGlobal w) bits (λ ws. refl)
op_gains table (op.StoreGlobal w) bits = stay_gains table (op.StoreGlobal w) bits (λ ws. refl)
op_gains table (op.CheckIndex size line) bits = stay_gains table (op.CheckIndex size line) bits (λ ws. refl)
op_gains table (op.LoadLocalAt base size) bits = stay_gains table (op.LoadLocalAt base size) bits (λ ws. refl)
op_gains table (op.StoreLocalAt base size) bits = stay_gains table (op.StoreLocalAt base size) bits (λ ws. refl)
op_gains table (op.LoadGlobalAt base size) bits = stay_gains table (op.LoadGlobalAt base size) bits (λ ws. refl)
op_gains table (op.StoreGlobalAt base size) bits = stay_gains table (op.StoreGlobalAt base size) bits (λ ws. refl)
op_gains table (op.Mul t line) bits = stay_gains table (op.Mul t line) bits (λ ws. refl)
op_gains table (op.Div t line) bits = stay_gains table (op.Div t line) bits (λ ws. refl)
op_gains table (op.Rem t line) bits = stay_gains table (op.Rem t line) bits (λ ws. refl)
op_gains table (op.Add t line) bits = stay_gains table (op.Add t line) bits (λ ws. refl)
op_gains table (op.Sub t line) bits = stay_gains table (op.Sub t line) bits (λ ws. refl)
op_gains table (op.Shl t line) bits = stay_gains table (op.Shl t line) bits (λ ws. refl)
op_gains table (op.Shr t line) bits = stay_gains table (op.Shr t line) bits (λ ws. refl)
op_gains table (op.Less t line) bits = stay_gains table (op.Less t line) bits (λ ws. refl)
op_gains table (op.Greater t line) bits = stay_gains table (op.Greater t line) bits (λ ws. refl)
op_gains table (op.LessEqual t line) bits = stay_gains table (op.LessEqual t line) bits (λ ws. refl)
op_gains table (op.GreaterEqual t line) bits = stay_gains table (op.GreaterEqual t line) bits (λ ws. refl)
op_gains table (op.Equal t line) bits = stay_gains table (op.Equal t line) bits (λ ws. refl)
op_gains table (op.NotEqual t line) bits = stay_gains table (op.NotEqual t line) bits (λ ws. refl)
op_gains table (op.And t line) bits = stay_gains table (op.And t line) bits (λ ws. refl)
op_gains table (op.Xor t line) bits = stay_gains table (op.Xor t line) bits (λ ws. refl)
op_gains table (op.Or t line) bits = stay_gains table (op.Or t line) bits (λ ws. refl)
op_gains table (op.Minus t line) bits = stay_gains table (op.Minus t line) bits (λ ws. refl)
op_gains table (op.Complement t line) bits = stay_gains table (op.Complement t line) bits (λ ws. refl)
op_gains table op.GetChar bits = stay_gains table op.GetChar bits (λ ws. refl)
op_gains table (op.PutChar line) bits = stay_gains table (op.PutChar line) bits (λ ws. refl)
op_gains table (op.Jump to) bits = stay_gains table (op.Jump to) bits (λ ws. refl)
op_gains table (op.Back to) bits = stay_gains table (op.Back to) bits (λ ws. refl)
op_gains table (op.IfZero to) bits = stay_gains table (op.IfZero to) bits (λ ws. refl)
op_gains table (op.IfNot to) bits = stay_gains table (op.IfNot to) bits (λ ws. refl)
op_gains table (op.CaseJump n to) bits = stay_gains table (op.CaseJump n to) bits (λ ws. refl)
op_gains table (op.Call g line) bits = stay_gains table (op.Call g line) bits (λ ws. refl)
op_gains table op.Return bits = stay_gains table op.Return bits (λ ws. refl)
op_gains table op.Exit bits = stay_gains table op.Exit bits (λ ws. refl)
op_gains table (op.Count n) bits = stay_gains table (op.Count n) bits (λ ws. refl)

-- what a call adds
call_gains : (f : FunctionValue) (ops : List Op) (bits : List ℕ) → Gains (λ ws. fold (marked_by f.table) ws ops) bits
call_gains f ops bits = fold_gains (marked_by f.table) (op_gains f.table) ops bits

-- the path bits of a call that has marked these operations
abbrev pub bits_by : FunctionValue → List Op → List ℕ
bits_by f ops = (fold (marked_by f.table) (words_of (no_words f) []) ops).bits

-- the words of a call that has marked these operations
pub call_is : (f : FunctionValue) (ops : List Op) (seen : List ℕ)
    → fold (marked_by f.table) (words_of (no_words f) seen) ops ≡ words_of (bits_by f ops) (after_call f seen ops)
call_is f ops seen =
    let g = call_gains f ops (no_words f) in
    g.is seen ∙ ap₂ (λ b s. words_of b s) (sym (ap (λ (ws : Words). ws.bits) (g.is [])))
    (sym (ap (λ (ws : Words). ws.seen) (g.is seen)))

-- what calls add
record Adds (f : FunctionValue) (i : ℕ) (marks : List Marked) : Type 0 where
  by : List (ℕ × ℕ)
  is : (seen : List ℕ) → after_calls f i seen marks ≡ fold gained seen by

more_add : (f : FunctionValue) (i : ℕ) (m : Marked) (marks : List Marked) (z : Bool) → (m.function == i) ≡ z
    → Adds f i marks → Adds f i (m ∷ marks)
more_add f i m marks true e rest =
    let g = call_gains f m.ops (no_words f) in record {
      by = g.by ++ rest.by;
      is = λ seen. ap (λ c. after_calls f i (cond c (after_call f seen m.ops) seen) marks) e
          ∙ ap (λ s. after_calls f i s marks) (ap (λ (ws : Words). ws.seen) (g.is seen))
          ∙ rest.is (fold gained seen g.by) ∙ sym (fold-append gained seen g.by rest.by);
    }
more_add f i m marks false e rest = record {
  by = rest.by;
  is = λ seen. ap (λ c. after_calls f i (cond c (after_call f seen m.ops) seen) marks) e ∙ rest.is seen;
}

calls_add : (f : FunctionValue) (i : ℕ) (marks : List Marked) → Adds f i marks
calls_add f i [] = record { by = []; is = λ seen. refl }
calls_add f i (m ∷ marks) = more_add f i m marks (m.function == i) refl (calls_add f i marks)

-- bits that are gained before calls might as well be gained behind them
pub calls_swap : (f : FunctionValue) (i : ℕ) (marks : List Marked) (seen : List ℕ) (gs : List (ℕ × ℕ))
    → after_calls f i (fold gained seen gs) marks ≡ fold gained (after_calls f i seen marks) gs
calls_swap f i marks seen gs =
    let a = calls_add f i marks in
    a.is (fold gained seen gs) ∙ swap_all seen gs a.by ∙ ap (λ s. fold gained s gs) (sym (a.is seen))

-- words keep their number
pub calls_long : (f : FunctionValue) (i : ℕ) (marks : List Marked) (seen : List ℕ)
    → length (after_calls f i seen marks) ≡ length seen
calls_long f i marks seen =
    let a = calls_add f i marks in
    ap (λ (l : List ℕ). length l) (a.is seen) ∙ gained_long seen a.by
