-- The path words of functions are what their calls have marked.
use Rattle.std.proofs.Common.{◌≡◌, refl, sym, ap, subst, ◌∙◌, ℕ, zero, suc, ◌<◌, ◌≤◌, ◌==◌, Bool, true, false, cond}
use Rattle.std.proofs.Common.{List, [], ◌∷◌, ◌++◌, length, Option, Some, None, arith, map, replicate, eqb-true, eq-eqb}
use Rattle.std.proofs.Common.{fold, set, get_or}
use Rattle.std.specs.Prelude.{ℤ, pos, nat_lt, slice_get}
use Rattle.std.proofs.lemmas.Option.{same_Some, none-some, get_or_from_slice_get}
use Rattle.std.proofs.lemmas.List.{length-replicate, length-set, set-get_or}
use Rattle.std.proofs.lemmas.List.Sums.{fold-append}
use Rattle.std.specs.Ordering.{int_eq}
use Rattle.cov_base.specs.Limits.{frame_limit}
use Rattle.stack_ops.specs.declared.operation.Op.{Op}
use Rattle.stack_ops.specs.declared.operation.Op.TheVariants as op
use Rattle.stack_ops.specs.declared.endings.Outcome.TheVariants as outcome
use Rattle.stack_ops.specs.declared.endings.Trap.TheVariants as trap
use Rattle.stack_ops.specs.Code.{FunctionValue, CodeValue}
use Rattle.stack_ops.specs.Effect.{Step, effect}
use Rattle.stack_ops.specs.Shapes.{is_step}
use Rattle.word_rules.specs.WordRules.{Words, words_of}
use Rattle.code_runs.specs.Tables.{words_in}
use Rattle.code_runs.specs.CodeRun.{at_index, Waiting, Point, Tally, Move, Goes_on, Over, Broken, does, stepped, state_of}
use Rattle.code_runs.specs.CodeRun.{with_turn, with_top, with_state, path_words, Marked, marked_too, move}
use Rattle.code_runs.specs.CodeRun.{in_function, at_instruction, first, then_goes, goes, Ran, CodeRun, marks, calls}
use Rattle.code_runs.specs.CodeRun.{begins, over, goes_back, leaves, next, bits_in}
use Rattle.code_runs.specs.Sound.{Sound}
use Rattle.code_runs.specs.Fits.{FitsIn, Fits}
use Rattle.code_runs.specs.Laws.{FitsOn}
use Rattle.code_runs.proofs.NeverStuck.{keeps, first_fits}
use Rattle.code_runs.proofs.PlainSteps.{Plain, plain}
use Rattle.covered_runs.specs.CallWords.{marked_by, no_words, after_call, after_calls, words_by, IsWhole}
use Rattle.covered_runs.proofs.Gains.{gained, op_gains, bits_by, call_is, calls_swap}

-- ---- marks, and the bits of calls

-- the path bits of a call of function number g that has marked these operations, where the code has the function
abbrev Bits : CodeValue → ℕ → List ℕ → List Op → Type 0
Bits c g bits ops = (f : FunctionValue) → slice_get c.functions g ≡ Some f → bits ≡ bits_by f ops

-- the marks of this number are of this function, and the call has the path bits that they make
abbrev Heads : CodeValue → List Marked → ℕ → ℕ → List ℕ → Type 0
Heads c [] k g bits = ⊥
Heads c (m ∷ marks) zero g bits = (m.function ≡ g) × Bits c g bits m.ops
Heads c (m ∷ marks) (suc k) g bits = Heads c marks k g bits

-- the calls that wait have such bits; each has a lower number than the one above it
abbrev Waits : CodeValue → List Marked → ℕ → List Waiting → Type 0
Waits c marks k [] = Unit {0}
Waits c marks k (w ∷ ws) = (w.call < k) × Heads c marks w.call w.function w.bits × Waits c marks w.call ws

heads-within : (c : CodeValue) (marks : List Marked) (k g : ℕ) (bits : List ℕ) → Heads c marks k g bits → k < length marks
heads-within c [] k g bits h = absurd h
heads-within c (m ∷ marks) zero g bits h = omega arith
heads-within c (m ∷ marks) (suc k) g bits h = let i = heads-within c marks k g bits h in omega (arith, i)

heads-front : (c : CodeValue) (marks : List Marked) (m : Marked) (k g : ℕ) (bits : List ℕ) → Heads c marks k g bits
    → Heads c (marks ++ m ∷ []) k g bits
heads-front c [] m k g bits h = absurd h
heads-front c (n ∷ marks) m zero g bits h = h
heads-front c (n ∷ marks) m (suc k) g bits h = heads-front c marks m k g bits h

heads-last : (c : CodeValue) (marks : List Marked) (m : Marked) (bits : List ℕ) → Bits c m.function bits m.ops
    → Heads c (marks ++ m ∷ []) (length marks) m.function bits
heads-last c [] m bits h = (refl, h)
heads-last c (n ∷ marks) m bits h = heads-last c marks m bits h

-- other calls keep their bits
heads-other : (c : CodeValue) (o : Op) (i : ℕ) (marks : List Marked) (k g : ℕ) (bits : List ℕ) → k < i
    → Heads c marks k g bits → Heads c (at_index (marked_too o) i marks) k g bits
heads-other c o i [] k g bits lt h = absurd h
heads-other c o zero (m ∷ marks) k g bits lt h = absurd (omega (arith, lt))
heads-other c o (suc i) (m ∷ marks) zero g bits lt h = h
heads-other c o (suc i) (m ∷ marks) (suc k) g bits lt h = heads-other c o i marks k g bits (omega (arith, lt)) h

-- the bits of a call that marks an operation more
bits-on : (f : FunctionValue) (o : Op) (ops : List Op) (seen : List ℕ)
    → (marked_by f.table (words_of (bits_by f ops) seen) o).bits ≡ bits_by f (ops ++ o ∷ [])
bits-on f o ops seen =
    let g = op_gains f.table o (bits_by f ops) in
    let all = call_is f (ops ++ o ∷ []) [] in
    ap (λ (ws : Words). ws.bits) (g.is seen) ∙ sym (ap (λ (ws : Words). ws.bits) (g.is (after_call f [] ops)))
    ∙ sym (ap (λ (ws : Words). (marked_by f.table ws o).bits) (call_is f ops []))
    ∙ sym (ap (λ (ws : Words). ws.bits) (fold-append (marked_by f.table) (words_of (no_words f) []) ops (o ∷ [])))
    ∙ ap (λ (ws : Words). ws.bits) all

heads-on : (c : CodeValue) (f : FunctionValue) (o : Op) (marks : List Marked) (k g : ℕ) (bits seen : List ℕ)
    → slice_get c.functions g ≡ Some f → Heads c marks k g bits
    → Heads c (at_index (marked_too o) k marks) k g ((marked_by f.table (words_of bits seen) o).bits)
heads-on c f o [] k g bits seen is h = absurd h
heads-on c f o (m ∷ marks) zero g bits seen is h = (
  h.0,
  (λ e there. (let same : f ≡ e = same_Some f e (sym is ∙ there) in
      ap (λ (b : List ℕ). (marked_by f.table (words_of b seen) o).bits) (h.1 f is) ∙ bits-on f o m.ops seen
      ∙ ap (λ (x : FunctionValue). bits_by x (m.ops ++ o ∷ [])) same)),
)
heads-on c f o (m ∷ marks) (suc k) g bits seen is h = heads-on c f o marks k g bits seen is h

-- ---- words

-- a call marks an operation more
words-on : (c : CodeValue) (f : FunctionValue) (o : Op) (marks : List Marked) (k g : ℕ) (bits seen : List ℕ)
    → slice_get c.functions g ≡ Some f → Heads c marks k g bits
    → after_calls f g seen (at_index (marked_too o) k marks)
    ≡ (marked_by f.table (words_of bits (after_calls f g seen marks)) o).seen
words-on c f o [] k g bits seen is h = absurd h
words-on c f o (m ∷ marks) zero g bits seen is h =
    let ops = m.ops in
    let q = op_gains f.table o (bits_by f ops) in
    let one : after_call f seen (ops ++ o ∷ []) ≡ fold gained (after_call f seen ops) q.by =
    ap (λ (ws : Words). ws.seen) (fold-append (marked_by f.table) (words_of (no_words f) seen) ops (o ∷ [])
    ∙ ap (λ (ws : Words). marked_by f.table ws o) (call_is f ops seen)
    ∙ q.is (after_call f seen ops)) in
    let last : (marked_by f.table (words_of bits (after_calls f g (after_call f seen ops) marks)) o).seen
    ≡ fold gained (after_calls f g (after_call f seen ops) marks) q.by =
    ap (λ (b : List ℕ). (marked_by f.table (words_of b (after_calls f g (after_call f seen ops) marks)) o).seen)
    (h.1 f is)
    ∙ ap (λ (ws : Words). ws.seen) (q.is (after_calls f g (after_call f seen ops) marks)) in
    by (m.function == g) (eq-eqb m.function g h.0)
    (ap (λ s. after_calls f g s marks) one ∙ calls_swap f g marks (after_call f seen ops) q.by ∙ sym last)
  where
    by : (z : Bool) → z ≡ true
        → after_calls f g (after_call f seen (m.ops ++ o ∷ [])) marks
        ≡ (marked_by f.table (words_of bits (after_calls f g (after_call f seen m.ops) marks)) o).seen
        → after_calls f g (cond z (after_call f seen (m.ops ++ o ∷ [])) seen) marks
        ≡ (marked_by f.table (words_of bits (after_calls f g (cond z (after_call f seen m.ops) seen) marks)) o).seen
    by true e so = so
    by false e so = absurd (cc)
words-on c f o (m ∷ marks) (suc k) g bits seen is h =
    words-on c f o marks k g bits (cond (m.function == g) (after_call f seen m.ops) seen) is h

-- another function's words stay
words-other : (c : CodeValue) (f : FunctionValue) (i : ℕ) (o : Op) (marks : List Marked) (k g : ℕ) (bits seen : List ℕ)
    → (g ≡ i → ⊥) → Heads c marks k g bits
    → after_calls f i seen (at_index (marked_too o) k marks) ≡ after_calls f i seen marks
words-other c f i o [] k g bits seen ne h = absurd h
words-other c f i o (m ∷ marks) zero g bits seen ne h = by (m.function == i) refl
  where
    by : (z : Bool) → (m.function == i) ≡ z
        → after_calls f i (cond z (after_call f seen (m.ops ++ o ∷ [])) seen) marks
        ≡ after_calls f i (cond z (after_call f seen m.ops) seen) marks
    by true e = absurd (ne (sym h.0 ∙ eqb-true m.function i e))
    by false e = refl
words-other c f i o (m ∷ marks) (suc k) g bits seen ne h =
    words-other c f i o marks k g bits (cond (m.function == i) (after_call f seen m.ops) seen) ne h

-- a call that begins has marked nothing
words-added : (f : FunctionValue) (i g : ℕ) (marks : List Marked) (seen : List ℕ)
    → after_calls f i seen (marks ++ record { function = g; ops = [] } ∷ []) ≡ after_calls f i seen marks
words-added f i g [] seen = by (g == i)
  where
    by : (z : Bool) → cond z seen seen ≡ seen
    by true = refl
    by false = refl
words-added f i g (m ∷ marks) seen = words-added f i g marks (cond (m.function == i) (after_call f seen m.ops) seen)

-- ---- along a run

-- what has been counted
record Told (c : CodeValue) (t : Tally) : Type 0 where
  words : (i : ℕ) (f : FunctionValue) → slice_get c.functions i ≡ Some f
      → slice_get t.words i ≡ Some (words_by f i t.marks)
  whole : IsWhole c t

-- the bits and words at a point are what its calls have marked
record Traced (c : CodeValue) (p : Point) : Type 0 where
  here : Heads c p.tally.marks p.call p.function p.bits
  waits : Waits c p.tally.marks p.call p.callers
  told : Told c p.tally

abbrev Keeps : CodeValue → Move → Type 0
Keeps c (Goes_on p) = Traced c p
Keeps c (Over ran) = Told c ran.tally
Keeps c Broken = Unit {0}

waits-front : (c : CodeValue) (marks : List Marked) (m : Marked) (k : ℕ) (ws : List Waiting) → Waits c marks k ws
    → Waits c (marks ++ m ∷ []) k ws
waits-front c marks m k [] h = tt
waits-front c marks m k (w ∷ ws) h =
    (h.0, heads-front c marks m w.call w.function w.bits h.1, waits-front c marks m w.call ws h.2)

waits-other : (c : CodeValue) (o : Op) (i : ℕ) (marks : List Marked) (k : ℕ) (ws : List Waiting) → k ≤ i
    → Waits c marks k ws → Waits c (at_index (marked_too o) i marks) k ws
waits-other c o i marks k [] le h = tt
waits-other c o i marks k (w ∷ ws) le h =
    let lt : w.call < k = h.0 in (
      lt,
      heads-other c o i marks w.call w.function w.bits (omega (arith, lt, le)) h.1,
      waits-other c o i marks w.call ws (omega (arith, lt, le)) h.2,
    )

-- the counters after one of them counts
index-on : (m g k : ℕ) (cs : List ℕ) (all : List (List ℕ)) → slice_get all k ≡ Some cs
    → (ds : List ℕ) × (slice_get (at_index (at_index suc m) g all) k ≡ Some ds) × (length ds ≡ length cs)
index-on m g k cs [] at = absurd (none-some cs at)
index-on m zero zero cs (x ∷ all) at = (at_index suc m x, refl, sizes m x ∙ ap length (same_Some x cs at))
  where
    sizes : (k : ℕ) (xs : List ℕ) → length (at_index suc k xs) ≡ length xs
    sizes k [] = refl
    sizes zero (x ∷ xs) = refl
    sizes (suc k) (x ∷ xs) = ap suc (sizes k xs)
index-on m zero (suc k) cs (x ∷ all) at = (cs, at, refl)
index-on m (suc g) zero cs (x ∷ all) at = (cs, at, refl)
index-on m (suc g) (suc k) cs (x ∷ all) at = index-on m g k cs all at

index-long : (m g : ℕ) (all : List (List ℕ)) → length (at_index (at_index suc m) g all) ≡ length all
index-long m g [] = refl
index-long m zero (x ∷ all) = refl
index-long m (suc g) (x ∷ all) = ap suc (index-long m g all)

-- a member that was set, and the others
set-there : (all : List (List ℕ)) (g : ℕ) (x y : List ℕ) → slice_get all g ≡ Some x → slice_get (set all g y) g ≡ Some y
set-there [] g x y at = absurd (none-some x at)
set-there (z ∷ all) zero x y at = refl
set-there (z ∷ all) (suc g) x y at = set-there all g x y at

set-other : (all : List (List ℕ)) (g i : ℕ) (y : List ℕ) → (g ≡ i → ⊥) → slice_get (set all g y) i ≡ slice_get all i
set-other [] g i y ne = refl
set-other (z ∷ all) zero zero y ne = absurd (ne refl)
set-other (z ∷ all) zero (suc i) y ne = refl
set-other (z ∷ all) (suc g) zero y ne = refl
set-other (z ∷ all) (suc g) (suc i) y ne = set-other all g i y (λ e. ne (ap suc e))

module _ (c : CodeValue) (f : FunctionValue) where
  same_keeps : (p q : Point) → Traced c p → q.call ≡ p.call → q.function ≡ p.function → q.callers ≡ p.callers
      → q.bits ≡ p.bits → q.tally ≡ p.tally → Keeps c (Goes_on q)
  same_keeps p q h e1 e2 e3 e4 e5 = record {
    here = rw (e1, e2, e4, e5) h.here;
    waits = rw (e1, e3, e5) h.waits;
    told = rw e5 h.told;
  }

  turn_keeps : (p : Point) (t : ℕ) (then : Point → Move) → Traced c p
      → ((t : ℕ) → Keeps c (then (record p { turns = t }))) → Keeps c (with_turn t p then)
  turn_keeps p zero then h go = h.told
  turn_keeps p (suc t) then h go = go t

  top_keeps : (os : List ℤ) (p : Point) (then : ℤ → Point → Move)
      → ((a : ℤ) (rest : List ℤ) → Keeps c (then a (record p { operands = rest }))) → Keeps c (with_top os p then)
  top_keeps [] p then go = tt
  top_keeps (a ∷ rest) p then go = go a rest

  step_keeps : (p : Point) (s : Step) → Traced c p → Keeps c (stepped s p)
  step_keeps p (Step.Goes q) h = same_keeps p (next (with_state q p)) h refl refl refl refl refl
  step_keeps p (Step.Traps t line) h = h.told
  step_keeps p Step.Stuck h = tt

  plain_keeps : (o : Op) (p : Point) → is_step o ≡ true → Traced c p → Keeps c (does c f o p)
  plain_keeps o p is h = let q : Plain o = plain o is in
      subst (Keeps c) (sym (q.step c f p)) (step_keeps p (effect o (state_of p)) h)

  back_keeps : (given : List ℤ) (status : ℤ) (ws : List Waiting) (p : Point) → Traced c p
      → Waits c p.tally.marks p.call ws → Keeps c (goes_back ws given status p)
  back_keeps given status [] p h k = h.told
  back_keeps given status (w ∷ ws) p h k = record { here = k.1; waits = k.2; told = h.told }

  marked_keeps : (o : Op) (p : Point) (bits : List ℕ) (counters words : List (List ℕ))
      → slice_get c.functions p.function ≡ Some f → Traced c p
      → bits ≡ (marked_by f.table (path_words p) o).bits
      → words ≡ set p.tally.words p.function ((marked_by f.table (path_words p) o).seen)
      → length counters ≡ length c.functions
      → ((i : ℕ) (g : FunctionValue) → slice_get c.functions i ≡ Some g
      → (ns : List ℕ) × (slice_get counters i ≡ Some ns) × (length ns ≡ g.counters))
      → Keeps c (Goes_on (record p {
        at = suc p.at;
        bits = bits;
        tally = record {
          counters = counters;
          words = words;
          marks = at_index (marked_too o) p.call p.tally.marks;
        };
      }))
  marked_keeps o p bits counters words is h bits_are words_are many each = record {
    here = subst (λ b. Heads c (at_index (marked_too o) p.call p.tally.marks) p.call p.function b) (sym bits_are)
        (heads-on c f o p.tally.marks p.call p.function p.bits (get_or p.tally.words p.function []) is h.here);
    waits = waits-other c o p.call p.tally.marks p.call p.callers (omega arith) h.waits;
    told = record {
      words = λ i g there. subst (λ (ws : List (List ℕ)). slice_get ws i
          ≡ Some (words_by g i (at_index (marked_too o) p.call p.tally.marks))) (sym words_are)
          (by i g there (p.function == i) refl);
      whole = record {
        counters_of = many;
        words_of = ap (λ (ws : List (List ℕ)). length ws) words_are
            ∙ length-set p.tally.words p.function ((marked_by f.table (path_words p) o).seen) ∙ h.told.whole.words_of;
        counters = each;
      };
    };
  }
    where
      old : slice_get p.tally.words p.function ≡ Some (words_by f p.function p.tally.marks)
      old = h.told.words p.function f is

      same : words_by f p.function (at_index (marked_too o) p.call p.tally.marks)
          ≡ (marked_by f.table (path_words p) o).seen
      same = words-on c f o p.tally.marks p.call p.function p.bits (no_words f) is h.here
          ∙ ap (λ (s : List ℕ). (marked_by f.table (words_of p.bits s) o).seen)
          (sym (get_or_from_slice_get p.tally.words p.function (words_by f p.function p.tally.marks) [] old))

      by : (i : ℕ) (g : FunctionValue) → slice_get c.functions i ≡ Some g → (z : Bool) → (p.function == i) ≡ z
          → slice_get (set p.tally.words p.function ((marked_by f.table (path_words p) o).seen)) i
          ≡ Some (words_by g i (at_index (marked_too o) p.call p.tally.marks))
      by i g there true e =
          let at : p.function ≡ i = eqb-true p.function i e in
          let fg : f ≡ g = same_Some f g (sym is ∙ (rw at there)) in
          subst (λ (k : ℕ). slice_get (set p.tally.words p.function ((marked_by f.table (path_words p) o).seen)) k
          ≡ Some (words_by g k (at_index (marked_too o) p.call p.tally.marks))) at
          (subst (λ (x : FunctionValue). slice_get (set p.tally.words p.function ((marked_by f.table (path_words p) o).seen))
          p.function ≡ Some (words_by x p.function (at_index (marked_too o) p.call p.tally.marks))) fg
          (set-there p.tally.words p.function (words_by f p.function p.tally.marks)
          ((marked_by f.table (path_words p) o).seen) old ∙ ap Some (sym same)))
      by i g there false e =
          let ne : p.function ≡ i → ⊥ = (λ at. (let t : (p.function == i) ≡ true = eq-eqb p.function i at in cc)) in
          set-other p.tally.words p.function i ((marked_by f.table (path_words p) o).seen) ne
          ∙ h.told.words i g there
          ∙ ap Some (sym (words-other c g i o p.tally.marks p.call p.function p.bits (no_words g) ne h.here))

  does_keeps : (o : Op) (p : Point) → slice_get c.functions p.function ≡ Some f → Traced c p → Keeps c (does c f o p)
  does_keeps (op.Jump w) p is h = same_keeps p (record p { at = w }) h refl refl refl refl refl
  does_keeps (op.Back w) p is h =
      turn_keeps p p.turns _ h (λ t. same_keeps p (record p { turns = t; at = w }) h refl refl refl refl refl)
  does_keeps (op.IfZero w) p is h =
      top_keeps p.operands p _ (λ a rest. same_keeps p
      (record p { operands = rest; at = cond (int_eq a (pos 0)) w (suc p.at) }) h refl refl refl refl refl)
  does_keeps (op.IfNot w) p is h =
      top_keeps p.operands p _ (λ a rest. same_keeps p
      (record p { operands = rest; at = cond (int_eq a (pos 0)) (suc p.at) w }) h refl refl refl refl refl)
  does_keeps (op.CaseJump m w) p is h = top_keeps p.operands p _ (λ a rest. by (int_eq m a) rest)
    where
      by : (z : Bool) (rest : List ℤ) → Keeps c (Goes_on (cond z (record p { operands = rest; at = w }) (next p)))
      by true rest = same_keeps p (record p { operands = rest; at = w }) h refl refl refl refl refl
      by false rest = same_keeps p (next p) h refl refl refl refl refl
  does_keeps (op.Call g line) p is h = by (slice_get c.functions g) refl
    where
      deep : (z : Bool) (k : FunctionValue) (t : ℕ) → slice_get c.functions g ≡ Some k
          → Keeps c (cond z (begins k g (record p { turns = t }))
          (over (outcome.Trapped trap.CallDepth line) (record p { turns = t })))
      deep true k t there = record {
        here = heads-last c p.tally.marks (record { function = g; ops = [] }) (replicate (words_in k.paths) 0)
            (λ e at. ap (λ (x : FunctionValue). no_words x) (same_Some k e (sym there ∙ at)));
        waits = (
          heads-within c p.tally.marks p.call p.function p.bits h.here,
          heads-front c p.tally.marks (record { function = g; ops = [] }) p.call p.function p.bits h.here,
          waits-front c p.tally.marks (record { function = g; ops = [] }) p.call p.callers h.waits,
        );
        told = record {
          words = λ i e at. h.told.words i e at ∙ ap Some (sym (words-added e i g p.tally.marks (no_words e)));
          whole = record {
            counters_of = h.told.whole.counters_of;
            words_of = h.told.whole.words_of;
            counters = h.told.whole.counters;
          };
        };
      }
      deep false k t there = h.told

      by : (o : Option FunctionValue) → slice_get c.functions g ≡ o → Keeps c (calls o g line p)
      by None at = tt
      by (Some k) at =
          turn_keeps p p.turns _ h (λ t. deep (nat_lt (suc (length p.callers)) frame_limit) k t at)
  does_keeps op.Return p is h = by f.gives
    where
      by : (z : Bool) → Keeps c (leaves z p)
      by true = top_keeps p.operands p _
          (λ a rest. back_keeps (a ∷ []) a p.callers (record p { operands = rest })
          (record { here = h.here; waits = h.waits; told = h.told }) h.waits)
      by false = back_keeps [] (pos 0) p.callers p h h.waits
  does_keeps op.Exit p is h = top_keeps p.operands p _ (λ a rest. h.told)
  does_keeps (op.Count m) p is h =
      marked_keeps (op.Count m) p p.bits (at_index (at_index suc m) p.function p.tally.counters) p.tally.words is h refl
      (sym (set-get_or p.tally.words p.function []))
      (index-long m p.function p.tally.counters ∙ h.told.whole.counters_of)
      (λ i g there. (let q = h.told.whole.counters i g there in
      let j = index-on m p.function i q.0 p.tally.counters q.1 in
      (j.0, j.1, j.2 ∙ q.2)))
  does_keeps op.PathBegin p is h =
      marked_keeps op.PathBegin p ((marked_by f.table (path_words p) op.PathBegin).bits) p.tally.counters
      (set p.tally.words p.function ((marked_by f.table (path_words p) op.PathBegin).seen)) is h refl refl
      h.told.whole.counters_of h.told.whole.counters
  does_keeps (op.PathPass w) p is h =
      marked_keeps (op.PathPass w) p ((marked_by f.table (path_words p) (op.PathPass w)).bits) p.tally.counters
      (set p.tally.words p.function ((marked_by f.table (path_words p) (op.PathPass w)).seen)) is h refl refl
      h.told.whole.counters_of h.told.whole.counters
  does_keeps (op.Push n) p is h = plain_keeps (op.Push n) p refl h
  does_keeps op.Dup p is h = plain_keeps op.Dup p refl h
  does_keeps op.Drop p is h = plain_keeps op.Drop p refl h
  does_keeps op.Swap p is h = plain_keeps op.Swap p refl h
  does_keeps op.Over p is h = plain_keeps op.Over p refl h
  does_keeps (op.Convert t) p is h = plain_keeps (op.Convert t) p refl h
  does_keeps op.Not p is h = plain_keeps op.Not p refl h
  does_keeps (op.LoadLocal w) p is h = plain_keeps (op.LoadLocal w) p refl h
  does_keeps (op.StoreLocal w) p is h = plain_keeps (op.StoreLocal w) p refl h
  does_keeps (op.LoadGlobal w) p is h = plain_keeps (op.LoadGlobal w) p refl h
  does_keeps (op.StoreGlobal w) p is h = plain_keeps (op.StoreGlobal w) p refl h
  does_keeps (op.CheckIndex size line) p is h = plain_keeps (op.CheckIndex size line) p refl h
  does_keeps (op.LoadLocalAt base size) p is h = plain_keeps (op.LoadLocalAt base size) p refl h
  does_keeps (op.StoreLocalAt base size) p is h = plain_keeps (op.StoreLocalAt base size) p refl h
  does_keeps (op.LoadGlobalAt base size) p is h = plain_keeps (op.LoadGlobalAt base size) p refl h
  does_keeps (op.StoreGlobalAt base size) p is h = plain_keeps (op.StoreGlobalAt base size) p refl h
  does_keeps (op.Mul t line) p is h = plain_keeps (op.Mul t line) p refl h
  does_keeps (op.Div t line) p is h = plain_keeps (op.Div t line) p refl h
  does_keeps (op.Rem t line) p is h = plain_keeps (op.Rem t line) p refl h
  does_keeps (op.Add t line) p is h = plain_keeps (op.Add t line) p refl h
  does_keeps (op.Sub t line) p is h = plain_keeps (op.Sub t line) p refl h
  does_keeps (op.Shl t line) p is h = plain_keeps (op.Shl t line) p refl h
  does_keeps (op.Shr t line) p is h = plain_keeps (op.Shr t line) p refl h
  does_keeps (op.Less t line) p is h = plain_keeps (op.Less t line) p refl h
  does_keeps (op.Greater t line) p is h = plain_keeps (op.Greater t line) p refl h
  does_keeps (op.LessEqual t line) p is h = plain_keeps (op.LessEqual t line) p refl h
  does_keeps (op.GreaterEqual t line) p is h = plain_keeps (op.GreaterEqual t line) p refl h
  does_keeps (op.Equal t line) p is h = plain_keeps (op.Equal t line) p refl h
  does_keeps (op.NotEqual t line) p is h = plain_keeps (op.NotEqual t line) p refl h
  does_keeps (op.And t line) p is h = plain_keeps (op.And t line) p refl h
  does_keeps (op.Xor t line) p is h = plain_keeps (op.Xor t line) p refl h
  does_keeps (op.Or t line) p is h = plain_keeps (op.Or t line) p refl h
  does_keeps (op.Minus t line) p is h = plain_keeps (op.Minus t line) p refl h
  does_keeps (op.Complement t line) p is h = plain_keeps (op.Complement t line) p refl h
  does_keeps op.GetChar p is h = plain_keeps op.GetChar p refl h
  does_keeps (op.PutChar line) p is h = plain_keeps (op.PutChar line) p refl h

-- what a move of a run leaves
moves_keep : (c : CodeValue) (p : Point) → Fits c p → Traced c p → Keeps c (move c p)
moves_keep c p fits h =
    let i : FitsIn c fits.function fits.depths p = fits.fits in
    subst (λ g. Keeps c (in_function c g p)) (sym i.there) (at (slice_get fits.function.ops p.at) i.there)
  where
    at : (o : Option Op) → slice_get c.functions p.function ≡ Some fits.function
        → Keeps c (at_instruction c fits.function o p)
    at None there = tt
    at (Some o) there = does_keeps c fits.function o p there h

goes_keep : (k : ℕ) (c : CodeValue) → Sound c → (p : Point) → Fits c p → Traced c p → (ran : Ran)
    → goes k c p ≡ Some ran → Told c ran.tally
goes_keep zero c sound p fits h ran e = absurd (none-some ran e)
goes_keep (suc k) c sound p fits h ran e =
    by (move c p) (keeps c sound p fits) (moves_keep c p fits h) (λ q fits h e. goes_keep k c sound q fits h ran e) e
  where
    by : (m : Move) → FitsOn c m → Keeps c m
        → ((q : Point) → Fits c q → Traced c q → goes k c q ≡ Some ran → Told c ran.tally)
        → then_goes m (λ q. goes k c q) ≡ Some ran → Told c ran.tally
    by (Goes_on q) fits h go e = go q fits h e
    by (Over other) fits h go e = subst (λ (r : Ran). Told c r.tally) (same_Some other ran e) h
    by Broken fits h go e = absurd fits

-- ---- as a run begins

long_map : {A B : Type 0} (v : A → B) (xs : List A) → length (map v xs) ≡ length xs
long_map v [] = refl
long_map v (x ∷ xs) = ap suc (long_map v xs)

map_at : {A B : Type 0} (v : A → B) (xs : List A) (i : ℕ) (x : A) → slice_get xs i ≡ Some x
    → slice_get (map v xs) i ≡ Some (v x)
map_at v [] i x at = absurd (none-some x at)
map_at v (y ∷ xs) zero x at = ap (λ z. Some (v z)) (same_Some y x at)
map_at v (y ∷ xs) (suc i) x at = map_at v xs i x at

first_traced : (c : CodeValue) (input : List ℕ) (turns : ℕ) → Traced c (first c input turns)
first_traced c input turns = record {
  here = (refl, (λ f there. ap (λ (o : Option FunctionValue). replicate {A = ℕ} (bits_in o) 0) there));
  waits = tt;
  told = record {
    words = λ i f there. map_at no_words c.functions i f there
        ∙ ap Some (sym (words-added f i c.main [] (no_words f)));
    whole = record {
      counters_of = long_map (λ f. replicate f.counters 0) c.functions;
      words_of = long_map no_words c.functions;
      counters = λ i f there. (
        replicate f.counters 0,
        map_at (λ f. replicate f.counters 0) c.functions i f there,
        length-replicate f.counters 0,
      );
    };
  };
}

told : (c : CodeValue) → Sound c → (input : List ℕ) (turns : ℕ) (ran : Ran) → CodeRun c input turns ran
    → Told c ran.tally
told c sound input turns ran h =
    goes_keep h.0 c sound (first c input turns) (first_fits c sound input turns) (first_traced c input turns) ran h.1

-- path words are what the calls marked
pub words_are_marks : (c : CodeValue) → Sound c → (input : List ℕ) (turns : ℕ) (ran : Ran) → CodeRun c input turns ran
    → (i : ℕ) (f : FunctionValue) → slice_get c.functions i ≡ Some f
    → slice_get ran.tally.words i ≡ Some (words_by f i ran.tally.marks)
words_are_marks c sound input turns ran h = (told c sound input turns ran h).words

-- each function has its counters and words
pub tallies_are_whole : (c : CodeValue) → Sound c → (input : List ℕ) (turns : ℕ) (ran : Ran)
    → CodeRun c input turns ran → IsWhole c ran.tally
tallies_are_whole c sound input turns ran h = (told c sound input turns ran h).whole
