-- What each instruction keeps of path bits and counts: their sizes, and how great a counter may be.
use Rattle.std.proofs.Common.{◌≡◌, refl, sym, ap, ◌∙◌, ℕ, zero, suc, ◌≤◌, Bool, true, false, cond, List, [], ◌∷◌}
use Rattle.std.proofs.Common.{length, Option, Some, None, arith}
use Rattle.std.specs.Prelude.{ℤ, pos, map, nat_lt, replicate, slice_get, slice_set, slice_index_or}
use Rattle.std.specs.List.{fold}
use Rattle.std.specs.Ordering.{int_eq}
use Rattle.std.proofs.lemmas.List.{length-replicate, length-set}
use Rattle.cov_base.specs.Limits.{frame_limit}
use Rattle.stack_ops.specs.declared.endings.Outcome.TheVariants as outcome
use Rattle.stack_ops.specs.declared.endings.Trap.TheVariants as trap
use Rattle.stack_ops.specs.declared.operation.Op.{Op}
use Rattle.stack_ops.specs.declared.operation.Op.TheVariants as op
use Rattle.stack_ops.specs.Code.{FunctionValue, CodeValue}
use Rattle.stack_ops.specs.Effect.{Step, effect}
use Rattle.word_rules.specs.WordRules.{BeginEntry, PassEntry, Words, begun, passed, begin_row, pass_row, begin_by, pass_by}
use Rattle.code_runs.specs.CodeRun.{Waiting, Point, Tally, Move, Goes_on, Over, Broken, at_index, path_words, next}
use Rattle.code_runs.specs.CodeRun.{with_turn, with_top, begins, calls, over, goes_back, leaves, with_state, stepped, state_of}
use Rattle.code_runs.specs.CodeRun.{does, bits_in, first, move, in_function, at_instruction}
use Rattle.code_runs.specs.Counts.{value, counter}
use Rattle.code_runs.specs.Tables.{words_in, begin_of, pass_of}
use Rattle.stack_machine.specs.Held.{Sized}

-- each call that waits has as many path words as its function
abbrev pub AllWide : CodeValue → List Waiting → Type 0
AllWide c [] = Unit {0}
AllWide c (w ∷ ws) = (length w.bits ≡ bits_in (slice_get c.functions w.function)) × AllWide c ws

-- so has the innermost call, counts have their sizes, and no counter passes a bound
pub record Tidy (c : CodeValue) (most : ℕ) (p : Point) : Type 0 where
  pub own : length p.bits ≡ bits_in (slice_get c.functions p.function)
  pub callers : AllWide c p.callers
  pub sized : Sized c p.tally.counters p.tally.words
  pub within : (f n : ℕ) → counter f n p.tally.counters ≤ most

-- the same of what comes of an instruction
abbrev pub TidyMove : CodeValue → ℕ → Move → Type 0
TidyMove c most (Goes_on p) = Tidy c most p
TidyMove c most (Over ran) = Sized c ran.tally.counters ran.tally.words
TidyMove c most Broken = Unit {0}

-- ---- lists

lengths-at : (n : ℕ) (xs : List ℕ) → length (at_index suc n xs) ≡ length xs
lengths-at n [] = refl
lengths-at zero (x ∷ xs) = refl
lengths-at (suc n) (x ∷ xs) = ap suc (lengths-at n xs)

counted-lengths : (n f : ℕ) (cs : List (List ℕ))
    → map (λ ns. length ns) (at_index (at_index suc n) f cs) ≡ map (λ ns. length ns) cs
counted-lengths n f [] = refl
counted-lengths n zero (x ∷ xs) = ap (λ k. k ∷ map (λ ns. length ns) xs) (lengths-at n x)
counted-lengths n (suc f) (x ∷ xs) = ap (λ ks. length x ∷ ks) (counted-lengths n f xs)

value-at : (n m : ℕ) (xs : List ℕ) → value m (at_index suc n xs) ≤ suc (value m xs)
value-at n m [] = omega arith
value-at zero zero (x ∷ xs) = omega arith
value-at zero (suc m) (x ∷ xs) = omega arith
value-at (suc n) zero (x ∷ xs) = omega arith
value-at (suc n) (suc m) (x ∷ xs) = value-at n m xs

counter-at : (n f m g : ℕ) (cs : List (List ℕ)) → counter g m (at_index (at_index suc n) f cs) ≤ suc (counter g m cs)
counter-at n f m g [] = omega arith
counter-at n zero m zero (x ∷ xs) = value-at n m x
counter-at n zero m (suc g) (x ∷ xs) = omega arith
counter-at n (suc f) m zero (x ∷ xs) = omega arith
counter-at n (suc f) m (suc g) (x ∷ xs) = counter-at n f m g xs

set-lengths : (xs : List (List ℕ)) (i : ℕ) (x : List ℕ) → length x ≡ length (slice_index_or xs i [])
    → map (λ ns. length ns) (slice_set xs i x) ≡ map (λ ns. length ns) xs
set-lengths [] i x e = refl
set-lengths (y ∷ ys) zero x e = ap (λ k. k ∷ map (λ ns. length ns) ys) e
set-lengths (y ∷ ys) (suc i) x e = ap (λ ks. length y ∷ ks) (set-lengths ys i x e)

-- ---- words

begun-long : (row : List BeginEntry) (w : Words)
    → (length (fold begun w row).bits ≡ length w.bits) × (length (fold begun w row).seen ≡ length w.seen)
begun-long [] w = (refl, refl)
begun-long (e ∷ es) w =
    let h = begun-long es (begun w e) in
    (h.0 ∙ length-set w.bits e.word _, h.1 ∙ length-set w.seen e.word _)

begin-long : (row : List BeginEntry) (w : Words)
    → (length (begin_by row w).bits ≡ length w.bits) × (length (begin_by row w).seen ≡ length w.seen)
begin-long row w =
    let h = begun-long row (record { bits = replicate (length w.bits) 0; seen = w.seen }) in
    (h.0 ∙ length-replicate (length w.bits) 0, h.1)

pass-long : (row : List PassEntry) (w : Words)
    → (length (pass_by row w).bits ≡ length w.bits) × (length (pass_by row w).seen ≡ length w.seen)
pass-long [] w = (refl, refl)
pass-long (e ∷ es) w =
    let h = pass-long es (passed w e) in
    (h.0 ∙ length-set w.bits e.word _, h.1 ∙ length-set w.seen e.word _)

-- ---- moves

module _ (c : CodeValue) (k : ℕ) where
  more : (t : Tally) → ((f n : ℕ) → counter f n t.counters ≤ k) → (f n : ℕ) → counter f n t.counters ≤ suc k
  more t h f n = let a = h f n in omega (arith, a)

  -- a point with the same calls, bits and counts
  same_tidy : (p q : Point) → Tidy c k p → q.function ≡ p.function → q.bits ≡ p.bits → q.callers ≡ p.callers
      → q.tally ≡ p.tally → Tidy c (suc k) q
  same_tidy p q h e1 e2 e3 e4 = record {
    own = rw (e1, e2) h.own;
    callers = rw e3 h.callers;
    sized = rw e4 h.sized;
    within = rw e4 (more p.tally h.within);
  }

  turn_tidy : (p : Point) (t : ℕ) (then : Point → Move) → Tidy c k p
      → ((u : ℕ) → TidyMove c (suc k) (then (record p { turns = u }))) → TidyMove c (suc k) (with_turn t p then)
  turn_tidy p zero then h go = h.sized
  turn_tidy p (suc t) then h go = go t

  top_tidy : (os : List ℤ) (p : Point) (then : ℤ → Point → Move)
      → ((a : ℤ) (rest : List ℤ) → TidyMove c (suc k) (then a (record p { operands = rest })))
      → TidyMove c (suc k) (with_top os p then)
  top_tidy [] p then go = tt
  top_tidy (a ∷ rest) p then go = go a rest

  step_tidy : (s : Step) (p : Point) → Tidy c k p → TidyMove c (suc k) (stepped s p)
  step_tidy (Step.Goes q) p h = same_tidy p (next (with_state q p)) h refl refl refl refl
  step_tidy (Step.Traps t line) p h = h.sized
  step_tidy Step.Stuck p h = tt

  begin_tidy : (g : FunctionValue) (i t : ℕ) (p : Point) → slice_get c.functions i ≡ Some g → Tidy c k p
      → TidyMove c (suc k) (begins g i (record p { turns = t }))
  begin_tidy g i t p is h = record {
    own = length-replicate (words_in g.paths) 0 ∙ sym (ap bits_in is);
    callers = (h.own, h.callers);
    sized = h.sized;
    within = more p.tally h.within;
  }

  call_tidy : (o : Option FunctionValue) (i line : ℕ) (p : Point) → slice_get c.functions i ≡ o → Tidy c k p
      → TidyMove c (suc k) (calls o i line p)
  call_tidy None i line p is h = tt
  call_tidy (Some g) i line p is h =
      turn_tidy p p.turns _ h (λ t. deep (nat_lt (suc (length p.callers)) frame_limit) t)
    where
      deep : (b : Bool) (t : ℕ) → TidyMove c (suc k) (cond b (begins g i (record p { turns = t }))
          (over (outcome.Trapped trap.CallDepth line) (record p { turns = t })))
      deep true t = begin_tidy g i t p is h
      deep false t = h.sized

  back_tidy : (given : List ℤ) (status : ℤ) (ws : List Waiting) (p : Point) → AllWide c ws → Tidy c k p
      → TidyMove c (suc k) (goes_back ws given status p)
  back_tidy given status [] p wide h = h.sized
  back_tidy given status (w ∷ ws) p wide h = record {
    own = wide.0;
    callers = wide.1;
    sized = h.sized;
    within = more p.tally h.within;
  }

  leave_tidy : (b : Bool) (p : Point) → Tidy c k p → TidyMove c (suc k) (leaves b p)
  leave_tidy true p h =
      top_tidy p.operands p _ (λ a rest. back_tidy (a ∷ []) a p.callers (record p { operands = rest }) h.callers
      (record { own = h.own; callers = h.callers; sized = h.sized; within = h.within }))
  leave_tidy false p h = back_tidy [] (pos 0) p.callers p h.callers h

  -- a point behind an instruction that marks and has other path words, as many
  words_tidy : (p q : Point) (w : Words) → Tidy c k p → length w.bits ≡ length p.bits
      → length w.seen ≡ length (slice_index_or p.tally.words p.function []) → q.function ≡ p.function
      → q.bits ≡ w.bits → q.callers ≡ p.callers → q.tally.counters ≡ p.tally.counters
      → q.tally.words ≡ slice_set p.tally.words p.function w.seen → Tidy c (suc k) q
  words_tidy p q w h long seen e1 e2 e3 e4 e5 = record {
    own = rw (e1, e2) (long ∙ h.own);
    callers = rw e3 h.callers;
    sized = record {
      counters = rw e4 h.sized.counters;
      words = rw e5 (set-lengths p.tally.words p.function w.seen seen ∙ h.sized.words);
    };
    within = rw e4 (more p.tally h.within);
  }

  case_tidy : (b : Bool) (p q r : Point) → Tidy c (suc k) q → Tidy c (suc k) r → TidyMove c (suc k) (Goes_on (cond b q r))
  case_tidy true p q r h e = h
  case_tidy false p q r h e = e

  pub does_tidy : (f : FunctionValue) (o : Op) (p : Point) → Tidy c k p → TidyMove c (suc k) (does c f o p)
  does_tidy f (op.Jump w) p h = same_tidy p (record p { at = w }) h refl refl refl refl
  does_tidy f (op.Back w) p h =
      turn_tidy p p.turns _ h (λ t. same_tidy p (record p { turns = t; at = w }) h refl refl refl refl)
  does_tidy f (op.IfZero w) p h = top_tidy p.operands p _ (λ a rest.
      same_tidy p (record p { operands = rest; at = cond (int_eq a (pos 0)) w (suc p.at) }) h refl refl refl refl)
  does_tidy f (op.IfNot w) p h = top_tidy p.operands p _ (λ a rest.
      same_tidy p (record p { operands = rest; at = cond (int_eq a (pos 0)) (suc p.at) w }) h refl refl refl refl)
  does_tidy f (op.CaseJump n w) p h = top_tidy p.operands p _ (λ a rest.
      case_tidy (int_eq n a) p (record p { operands = rest; at = w }) (next p)
      (same_tidy p (record p { operands = rest; at = w }) h refl refl refl refl)
      (same_tidy p (next p) h refl refl refl refl))
  does_tidy f (op.Call g line) p h = call_tidy (slice_get c.functions g) g line p refl h
  does_tidy f op.Return p h = leave_tidy f.gives p h
  does_tidy f op.Exit p h = top_tidy p.operands p _ (λ a rest. h.sized)
  does_tidy f (op.Count n) p h = record {
    own = h.own;
    callers = h.callers;
    sized = record { counters = counted-lengths n p.function p.tally.counters ∙ h.sized.counters; words = h.sized.words };
    within = λ g m. (let a = counter-at n p.function m g p.tally.counters in let b = h.within g m in omega (arith, a, b));
  }
  does_tidy f op.PathBegin p h =
      let w : Words = begin_by (begin_row (begin_of f.table)) (path_words p) in
      let long = begin-long (begin_row (begin_of f.table)) (path_words p) in
      words_tidy p _ w h long.0 long.1 refl refl refl refl refl
  does_tidy f (op.PathPass n) p h =
      let w : Words = pass_by (pass_row (pass_of n f.table)) (path_words p) in
      let long = pass-long (pass_row (pass_of n f.table)) (path_words p) in
      words_tidy p _ w h long.0 long.1 refl refl refl refl refl
  does_tidy f o p h = step_tidy (effect o (state_of p)) p h

-- the first point of a run is tidy
pub first_tidy : (c : CodeValue) (input : List ℕ) (turns : ℕ) → Tidy c 0 (first c input turns)
first_tidy c input turns = record {
  own = length-replicate {A = ℕ} (bits_in (slice_get c.functions c.main)) 0;
  callers = tt;
  sized = record { counters = zeros (λ f. f.counters) c.functions; words = zeros (λ f. words_in f.paths) c.functions };
  within = λ f n. none f n c.functions;
}
  where
    zeros : (size : FunctionValue → ℕ) (fs : List FunctionValue)
        → map (λ (ns : List ℕ). length ns) (map (λ f. replicate (size f) 0) fs) ≡ map size fs
    zeros size [] = refl
    zeros size (f ∷ fs) = rw (length-replicate {A = ℕ} (size f) 0, zeros size fs) refl

    zero-value : (n k : ℕ) → value n (replicate k 0) ≤ 0
    zero-value n zero = omega arith
    zero-value zero (suc k) = omega arith
    zero-value (suc n) (suc k) = zero-value n k

    none : (f n : ℕ) (fs : List FunctionValue) → counter f n (map (λ f. replicate f.counters 0) fs) ≤ 0
    none f n [] = omega arith
    none zero n (g ∷ fs) = zero-value n g.counters
    none (suc f) n (g ∷ fs) = none f n fs

-- what comes of the next instruction is tidy
pub move_tidy : (c : CodeValue) (k : ℕ) (p : Point) → Tidy c k p → TidyMove c (suc k) (move c p)
move_tidy c k p h = in_it (slice_get c.functions p.function)
  where
    at_it : (f : FunctionValue) (o : Option Op) → TidyMove c (suc k) (at_instruction c f o p)
    at_it f None = tt
    at_it f (Some o) = does_tidy c k f o p h

    in_it : (f : Option FunctionValue) → TidyMove c (suc k) (in_function c f p)
    in_it None = tt
    in_it (Some f) = at_it f (slice_get f.ops p.at)
