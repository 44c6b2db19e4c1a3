-- Counters are how often the calls of a function have marked.
use Rattle.std.proofs.Common.{◌≡◌, refl, sym, ap, subst, ◌∙◌, ℕ, zero, suc, ◌+◌, ◌<◌, ◌==◌, Bool, true, false, cond}
use Rattle.std.proofs.Common.{List, [], ◌∷◌, ◌++◌, length, Option, Some, None, arith, map, replicate, eqb-true, eq-eqb}
use Rattle.std.specs.Prelude.{slice_get}
use Rattle.std.proofs.lemmas.Option.{same_Some, none-some}
use Rattle.std.proofs.lemmas.List.{length-replicate}
use Rattle.stack_ops.specs.declared.operation.Op.{Op}
use Rattle.stack_ops.specs.declared.operation.Op.TheVariants as op
use Rattle.std.specs.Prelude.{ℤ, pos, nat_lt}
use Rattle.std.proofs.lemmas.Bool.{ltb-true}
use Rattle.stack_ops.specs.declared.endings.Outcome.TheVariants as outcome
use Rattle.stack_ops.specs.declared.endings.Trap.TheVariants as trap
use Rattle.std.specs.Ordering.{int_eq}
use Rattle.cov_base.specs.Limits.{frame_limit}
use Rattle.stack_ops.specs.Code.{FunctionValue, CodeValue}
use Rattle.stack_ops.specs.Effect.{Step, effect}
use Rattle.stack_ops.specs.Shapes.{is_step}
use Rattle.word_rules.specs.WordRules.{begin_row, pass_row, begin_by, pass_by}
use Rattle.code_runs.specs.Tables.{begin_of, pass_of}
use Rattle.code_runs.specs.CodeRun.{at_index, Waiting, Point, Move, Goes_on, Over, Broken, does, stepped, state_of}
use Rattle.code_runs.specs.CodeRun.{with_turn, with_top, with_state, with_words, path_words, Marked, marked_too, move}
use Rattle.code_runs.specs.CodeRun.{in_function, at_instruction, first, then_goes, goes, Ran, CodeRun, marks, calls}
use Rattle.code_runs.specs.CodeRun.{begins, over, goes_back, leaves, next}
use Rattle.code_runs.specs.Checks.{counter_there}
use Rattle.code_runs.specs.Counts.{once, often, total, value, counter}
use Rattle.code_runs.specs.Sound.{Sound}
use Rattle.code_runs.specs.Fits.{FitsIn, Fits}
use Rattle.code_runs.specs.Laws.{FitsOn}
use Rattle.code_runs.proofs.NeverStuck.{keeps, first_fits}
use Rattle.code_runs.proofs.PlainSteps.{Plain, plain}

-- the marks of this number are of this function
abbrev Heads : List Marked → ℕ → ℕ → Type 0
Heads [] k g = ⊥
Heads (m ∷ marks) zero g = m.function ≡ g
Heads (m ∷ marks) (suc k) g = Heads marks k g

often-join : (n : ℕ) (xs ys : List Op) → often n (xs ++ ys) ≡ often n xs + often n ys
often-join n [] ys = omega arith
often-join n (x ∷ xs) ys = let h = often-join n xs ys in omega (arith, h)

-- one call marks one operation more
total-on : (f n k g : ℕ) (o : Op) (marks : List Marked) → Heads marks k g
    → total f n (at_index (marked_too o) k marks) ≡ total f n marks + cond (g == f) (once n o) 0
total-on f n k g o [] at = absurd at
total-on f n zero g o (m ∷ marks) at =
    let more : often n (m.ops ++ o ∷ []) ≡ often n m.ops + once n o = often-join n m.ops (o ∷ []) ∙ omega arith in
    rw at (by (g == f) more)
  where
    by : (z : Bool) → often n (m.ops ++ o ∷ []) ≡ often n m.ops + once n o
        → cond z (often n (m.ops ++ o ∷ [])) 0 + total f n marks
        ≡ cond z (often n m.ops) 0 + total f n marks + cond z (once n o) 0
    by true e = omega (arith, e)
    by false e = omega arith
total-on f n (suc k) g o (m ∷ marks) at = let i = total-on f n k g o marks at in omega (arith, i)

-- a call that begins has marked nothing
total-added : (f n g : ℕ) (marks : List Marked)
    → total f n (marks ++ record { function = g; ops = [] } ∷ []) ≡ total f n marks
total-added f n g [] = by (g == f)
  where
    by : (z : Bool) → cond z 0 0 + 0 ≡ 0
    by true = refl
    by false = refl
total-added f n g (m ∷ marks) = let i = total-added f n g marks in omega (arith, i)

other-cond : (a b x : ℕ) → (a ≡ b → ⊥) → cond (a == b) x 0 ≡ 0
other-cond a b x ne = by (a == b) refl
  where
    by : (z : Bool) → (a == b) ≡ z → cond z x 0 ≡ 0
    by true is = absurd (ne (eqb-true a b is))
    by false is = refl

suc-cond : (a b x : ℕ) → cond (suc a == suc b) x 0 ≡ cond (a == b) x 0
suc-cond a b x = by (a == b) refl
  where
    by : (z : Bool) → (a == b) ≡ z → cond (suc a == suc b) x 0 ≡ cond z x 0
    by true is = let same : a ≡ b = eqb-true a b is in rw (eq-eqb (suc a) (suc b) (ap suc same)) refl
    by false is = other-cond (suc a) (suc b) x (λ e. ne (omega (arith, e)))
      where
        ne : a ≡ b → ⊥
        ne e = let t : (a == b) ≡ true = eq-eqb a b e in cc

value-on : (n m : ℕ) (xs : List ℕ) → m < length xs → value n (at_index suc m xs) ≡ value n xs + cond (m == n) 1 0
value-on n m [] lt = absurd (omega (arith, lt))
value-on zero zero (x ∷ xs) lt = omega arith
value-on zero (suc m) (x ∷ xs) lt = let z = other-cond (suc m) 0 1 (λ e. omega (arith, e)) in omega (arith, z)
value-on (suc n) zero (x ∷ xs) lt = let z = other-cond 0 (suc n) 1 (λ e. omega (arith, e)) in omega (arith, z)
value-on (suc n) (suc m) (x ∷ xs) lt = let h = value-on n m xs (omega (arith, lt)) in let z = suc-cond m n 1 in
    omega (arith, h, z)

pub counter-on : (f n g m : ℕ) (cs : List ℕ) (all : List (List ℕ)) → slice_get all g ≡ Some cs → m < length cs
    → counter f n (at_index (at_index suc m) g all) ≡ counter f n all + cond (g == f) (cond (m == n) 1 0) 0
counter-on f n g m cs [] at lt = absurd (none-some cs at)
counter-on zero n zero m cs (c ∷ all) at lt =
    value-on n m c (subst (λ (l : List ℕ). m < length l) (sym (same_Some c cs at)) lt)
counter-on zero n (suc g) m cs (c ∷ all) at lt = let z =
    other-cond (suc g) 0 (cond (m == n) 1 0) (λ e. omega (arith, e)) in omega (arith, z)
counter-on (suc f) n zero m cs (c ∷ all) at lt = let z =
    other-cond 0 (suc f) (cond (m == n) 1 0) (λ e. omega (arith, e)) in omega (arith, z)
counter-on (suc f) n (suc g) m cs (c ∷ all) at lt =
    let h = counter-on f n g m cs all at lt in let z = suc-cond g f (cond (m == n) 1 0) in omega (arith, h, z)

-- ---- along a run

-- the calls that wait are of the functions of their marks
abbrev CallsKnown : List Marked → List Waiting → Type 0
CallsKnown marks [] = Unit {0}
CallsKnown marks (w ∷ ws) = Heads marks w.call w.function × CallsKnown marks ws

-- each function has all its counters
abbrev Room : CodeValue → List (List ℕ) → Type 0
Room c counters =
    (g : ℕ) (f : FunctionValue) → slice_get c.functions g ≡ Some f
    → (cs : List ℕ) × (slice_get counters g ≡ Some cs) × (length cs ≡ f.counters)

-- the counters at a point are what its calls have marked
record Tallied (c : CodeValue) (p : Point) : Type 0 where
  here : Heads p.tally.marks p.call p.function
  waits : CallsKnown p.tally.marks p.callers
  room : Room c p.tally.counters
  counts : (f n : ℕ) → counter f n p.tally.counters ≡ total f n p.tally.marks

abbrev Keeps : CodeValue → Move → Type 0
Keeps c (Goes_on p) = Tallied c p
Keeps c (Over ran) = (f n : ℕ) → counter f n ran.tally.counters ≡ total f n ran.tally.marks
Keeps c Broken = Unit {0}

index-on : (m g k : ℕ) (cs : List ℕ) (all : List (List ℕ)) → slice_get all k ≡ Some cs
    → (ds : List ℕ) × (slice_get (at_index (at_index suc m) g all) k ≡ Some ds) × (length ds ≡ length cs)
index-on m g k cs [] at = absurd (none-some cs at)
index-on m zero zero cs (x ∷ all) at = (at_index suc m x, refl, sizes m x ∙ ap length (same_Some x cs at))
  where
    sizes : (k : ℕ) (xs : List ℕ) → length (at_index suc k xs) ≡ length xs
    sizes k [] = refl
    sizes zero (x ∷ xs) = refl
    sizes (suc k) (x ∷ xs) = ap suc (sizes k xs)
index-on m zero (suc k) cs (x ∷ all) at = (cs, at, refl)
index-on m (suc g) zero cs (x ∷ all) at = (cs, at, refl)
index-on m (suc g) (suc k) cs (x ∷ all) at = index-on m g k cs all at

front-at : (marks : List Marked) (m : Marked) (k g : ℕ) → Heads marks k g → Heads (marks ++ m ∷ []) k g
front-at [] m k g at = absurd at
front-at (n ∷ marks) m zero g at = at
front-at (n ∷ marks) m (suc k) g at = front-at marks m k g at

last-at : (marks : List Marked) (m : Marked) → Heads (marks ++ m ∷ []) (length marks) m.function
last-at [] m = refl
last-at (n ∷ marks) m = last-at marks m

-- one operation more leaves the functions of marks
marked-at : (o : Op) (i : ℕ) (marks : List Marked) (k g : ℕ) → Heads marks k g
    → Heads (at_index (marked_too o) i marks) k g
marked-at o i [] k g at = absurd at
marked-at o zero (n ∷ marks) zero g at = at
marked-at o zero (n ∷ marks) (suc k) g at = at
marked-at o (suc i) (n ∷ marks) zero g at = at
marked-at o (suc i) (n ∷ marks) (suc k) g at = marked-at o i marks k g at

known-more : (marks : List Marked) (m : Marked) (ws : List Waiting) → CallsKnown marks ws
    → CallsKnown (marks ++ m ∷ []) ws
known-more marks m [] h = tt
known-more marks m (w ∷ ws) h = (front-at marks m w.call w.function h.0, known-more marks m ws h.1)

known-marked : (o : Op) (i : ℕ) (marks : List Marked) (ws : List Waiting) → CallsKnown marks ws
    → CallsKnown (at_index (marked_too o) i marks) ws
known-marked o i marks [] h = tt
known-marked o i marks (w ∷ ws) h = (marked-at o i marks w.call w.function h.0, known-marked o i marks ws h.1)

module _ (c : CodeValue) (f : FunctionValue) where
  same_keeps : (p q : Point) → Tallied c p → q.call ≡ p.call → q.function ≡ p.function → q.callers ≡ p.callers
      → q.tally ≡ p.tally → Keeps c (Goes_on q)
  same_keeps p q h e1 e2 e3 e4 = record {
    here = rw (e1, e2, e4) h.here;
    waits = rw (e3, e4) h.waits;
    room = rw e4 h.room;
    counts = rw e4 h.counts;
  }

  turn_keeps : (p : Point) (t : ℕ) (then : Point → Move) → Tallied c p
      → ((t : ℕ) → Keeps c (then (record p { turns = t }))) → Keeps c (with_turn t p then)
  turn_keeps p zero then h go = h.counts
  turn_keeps p (suc t) then h go = go t

  top_keeps : (os : List ℤ) (p : Point) (then : ℤ → Point → Move)
      → ((a : ℤ) (rest : List ℤ) → Keeps c (then a (record p { operands = rest }))) → Keeps c (with_top os p then)
  top_keeps [] p then go = tt
  top_keeps (a ∷ rest) p then go = go a rest

  step_keeps : (p : Point) (s : Step) → Tallied c p → Keeps c (stepped s p)
  step_keeps p (Step.Goes q) h = same_keeps p (next (with_state q p)) h refl refl refl refl
  step_keeps p (Step.Traps t line) h = h.counts
  step_keeps p Step.Stuck h = tt

  plain_keeps : (o : Op) (p : Point) → is_step o ≡ true → Tallied c p → Keeps c (does c f o p)
  plain_keeps o p is h = let q : Plain o = plain o is in
      subst (Keeps c) (sym (q.step c f p)) (step_keeps p (effect o (state_of p)) h)

  back_keeps : (given : List ℤ) (status : ℤ) (ws : List Waiting) (p : Point) → Tallied c p → CallsKnown p.tally.marks ws
      → Keeps c (goes_back ws given status p)
  back_keeps given status [] p h k = h.counts
  back_keeps given status (w ∷ ws) p h k = record { here = k.0; waits = k.1; room = h.room; counts = h.counts }

  marked_keeps : (o : Op) (p : Point) (bits : List ℕ) (words : List (List ℕ)) → Tallied c p
      → ((n : ℕ) → once n o ≡ 0) → Keeps c (Goes_on (record p {
        at = suc p.at;
        bits = bits;
        tally = record {
          counters = p.tally.counters;
          words = words;
          marks = at_index (marked_too o) p.call p.tally.marks;
        };
      }))
  marked_keeps o p bits words h zero_ = record {
    here = marked-at o p.call p.tally.marks p.call p.function h.here;
    waits = known-marked o p.call p.tally.marks p.callers h.waits;
    room = h.room;
    counts = λ g n. (let t = total-on g n p.call p.function o p.tally.marks h.here in
        let e = h.counts g n in
        let z = zero_ n in
        let w : cond (p.function == g) (once n o) 0 ≡ 0 = flat (p.function == g) (once n o) z in
        omega (arith, t, e, w));
  }
    where
      flat : (z : Bool) (a : ℕ) → a ≡ 0 → cond z a 0 ≡ 0
      flat true a e = e
      flat false a e = refl

  does_keeps : (o : Op) (p : Point) → slice_get c.functions p.function ≡ Some f → counter_there f o ≡ true → Tallied c p
      → Keeps c (does c f o p)
  does_keeps (op.Jump w) p is ok h = same_keeps p (record p { at = w }) h refl refl refl refl
  does_keeps (op.Back w) p is ok h =
      turn_keeps p p.turns _ h (λ t. same_keeps p (record p { turns = t; at = w }) h refl refl refl refl)
  does_keeps (op.IfZero w) p is ok h =
      top_keeps p.operands p _ (λ a rest. same_keeps p
      (record p { operands = rest; at = cond (int_eq a (pos 0)) w (suc p.at) }) h refl refl refl refl)
  does_keeps (op.IfNot w) p is ok h =
      top_keeps p.operands p _ (λ a rest. same_keeps p
      (record p { operands = rest; at = cond (int_eq a (pos 0)) (suc p.at) w }) h refl refl refl refl)
  does_keeps (op.CaseJump m w) p is ok h = top_keeps p.operands p _ (λ a rest. by (int_eq m a) rest)
    where
      by : (z : Bool) (rest : List ℤ) → Keeps c (Goes_on (cond z (record p { operands = rest; at = w }) (next p)))
      by true rest = same_keeps p (record p { operands = rest; at = w }) h refl refl refl refl
      by false rest = same_keeps p (next p) h refl refl refl refl
  does_keeps (op.Call g line) p is ok h = by (slice_get c.functions g)
    where
      deep : (z : Bool) (k : FunctionValue) (t : ℕ)
          → Keeps c (cond z (begins k g (record p { turns = t }))
          (over (outcome.Trapped trap.CallDepth line) (record p { turns = t })))
      deep true k t = record {
        here = last-at p.tally.marks (record { function = g; ops = [] });
        waits = (
          front-at p.tally.marks (record { function = g; ops = [] }) p.call p.function h.here,
          known-more p.tally.marks (record { function = g; ops = [] }) p.callers h.waits,
        );
        room = h.room;
        counts = λ i n. h.counts i n ∙ sym (total-added i n g p.tally.marks);
      }
      deep false k t = h.counts

      by : (o : Option FunctionValue) → Keeps c (calls o g line p)
      by None = tt
      by (Some k) = turn_keeps p p.turns _ h (λ t. deep (nat_lt (suc (length p.callers)) frame_limit) k t)
  does_keeps op.Return p is ok h = by f.gives
    where
      by : (z : Bool) → Keeps c (leaves z p)
      by true = top_keeps p.operands p _
          (λ a rest. back_keeps (a ∷ []) a p.callers (record p { operands = rest })
          (record { here = h.here; waits = h.waits; room = h.room; counts = h.counts }) h.waits)
      by false = back_keeps [] (pos 0) p.callers p h h.waits
  does_keeps op.Exit p is ok h = top_keeps p.operands p _ (λ a rest. h.counts)
  does_keeps (op.Count m) p is ok h =
      let r = h.room p.function f is in
      let lt : m < length r.0 = (let a : m < f.counters = ltb-true m f.counters ok in
      let b : length r.0 ≡ f.counters = r.2 in
      omega (arith, a, b)) in
      record {
        here = marked-at (op.Count m) p.call p.tally.marks p.call p.function h.here;
        waits = known-marked (op.Count m) p.call p.tally.marks p.callers h.waits;
        room = λ g k there. (let q = h.room g k there in
            let j = index-on m p.function g q.0 p.tally.counters q.1 in
            (j.0, j.1, j.2 ∙ q.2));
        counts = λ g n. (let t = total-on g n p.call p.function (op.Count m) p.tally.marks h.here in
            let e = h.counts g n in
            let u = counter-on g n p.function m r.0 p.tally.counters r.1 lt in
            omega (arith, t, e, u));
      }
  does_keeps op.PathBegin p is ok h =
      let r : Point = marks op.PathBegin (with_words (begin_by (begin_row (begin_of f.table)) (path_words p)) p) in
      marked_keeps op.PathBegin p r.bits r.tally.words h (λ n. refl)
  does_keeps (op.PathPass w) p is ok h =
      let r : Point = marks (op.PathPass w) (with_words (pass_by (pass_row (pass_of w f.table)) (path_words p)) p) in
      marked_keeps (op.PathPass w) p r.bits r.tally.words h (λ n. refl)
  does_keeps (op.Push n) p is ok h = plain_keeps (op.Push n) p refl h
  does_keeps op.Dup p is ok h = plain_keeps op.Dup p refl h
  does_keeps op.Drop p is ok h = plain_keeps op.Drop p refl h
  does_keeps op.Swap p is ok h = plain_keeps op.Swap p refl h
  does_keeps op.Over p is ok h = plain_keeps op.Over p refl h
  does_keeps (op.Convert t) p is ok h = plain_keeps (op.Convert t) p refl h
  does_keeps op.Not p is ok h = plain_keeps op.Not p refl h
  does_keeps (op.LoadLocal w) p is ok h = plain_keeps (op.LoadLocal w) p refl h
  does_keeps (op.StoreLocal w) p is ok h = plain_keeps (op.StoreLocal w) p refl h
  does_keeps (op.LoadGlobal w) p is ok h = plain_keeps (op.LoadGlobal w) p refl h
  does_keeps (op.StoreGlobal w) p is ok h = plain_keeps (op.StoreGlobal w) p refl h
  does_keeps (op.CheckIndex size line) p is ok h = plain_keeps (op.CheckIndex size line) p refl h
  does_keeps (op.LoadLocalAt base size) p is ok h = plain_keeps (op.LoadLocalAt base size) p refl h
  does_keeps (op.StoreLocalAt base size) p is ok h = plain_keeps (op.StoreLocalAt base size) p refl h
  does_keeps (op.LoadGlobalAt base size) p is ok h = plain_keeps (op.LoadGlobalAt base size) p refl h
  does_keeps (op.StoreGlobalAt base size) p is ok h = plain_keeps (op.StoreGlobalAt base size) p refl h
  does_keeps (op.Mul t line) p is ok h = plain_keeps (op.Mul t line) p refl h
  does_keeps (op.Div t line) p is ok h = plain_keeps (op.Div t line) p refl h
  does_keeps (op.Rem t line) p is ok h = plain_keeps (op.Rem t line) p refl h
  does_keeps (op.Add t line) p is ok h = plain_keeps (op.Add t line) p refl h
  does_keeps (op.Sub t line) p is ok h = plain_keeps (op.Sub t line) p refl h
  does_keeps (op.Shl t line) p is ok h = plain_keeps (op.Shl t line) p refl h
  does_keeps (op.Shr t line) p is ok h = plain_keeps (op.Shr t line) p refl h
  does_keeps (op.Less t line) p is ok h = plain_keeps (op.Less t line) p refl h
  does_keeps (op.Greater t line) p is ok h = plain_keeps (op.Greater t line) p refl h
  does_keeps (op.LessEqual t line) p is ok h = plain_keeps (op.LessEqual t line) p refl h
  does_keeps (op.GreaterEqual t line) p is ok h = plain_keeps (op.GreaterEqual t line) p refl h
  does_keeps (op.Equal t line) p is ok h = plain_keeps (op.Equal t line) p refl h
  does_keeps (op.NotEqual t line) p is ok h = plain_keeps (op.NotEqual t line) p refl h
  does_keeps (op.And t line) p is ok h = plain_keeps (op.And t line) p refl h
  does_keeps (op.Xor t line) p is ok h = plain_keeps (op.Xor t line) p refl h
  does_keeps (op.Or t line) p is ok h = plain_keeps (op.Or t line) p refl h
  does_keeps (op.Minus t line) p is ok h = plain_keeps (op.Minus t line) p refl h
  does_keeps (op.Complement t line) p is ok h = plain_keeps (op.Complement t line) p refl h
  does_keeps op.GetChar p is ok h = plain_keeps op.GetChar p refl h
  does_keeps (op.PutChar line) p is ok h = plain_keeps (op.PutChar line) p refl h

-- what a move of a run leaves
moves_keep : (c : CodeValue) (p : Point) → Fits c p → Tallied c p → Keeps c (move c p)
moves_keep c p fits h =
    let i : FitsIn c fits.function fits.depths p = fits.fits in
    subst (λ g. Keeps c (in_function c g p)) (sym i.there) (at (slice_get fits.function.ops p.at) refl i)
  where
    at : (o : Option Op) → slice_get fits.function.ops p.at ≡ o → FitsIn c fits.function fits.depths p
        → Keeps c (at_instruction c fits.function o p)
    at None is i = tt
    at (Some o) is i = does_keeps c fits.function o p i.there
        (i.typed.each p.at o (length p.operands) is i.at).counter h

goes_keep : (k : ℕ) (c : CodeValue) → Sound c → (p : Point) → Fits c p → Tallied c p → (ran : Ran)
    → goes k c p ≡ Some ran → (f n : ℕ) → counter f n ran.tally.counters ≡ total f n ran.tally.marks
goes_keep zero c sound p fits h ran e = absurd (none-some ran e)
goes_keep (suc k) c sound p fits h ran e =
    by (move c p) (keeps c sound p fits) (moves_keep c p fits h) (λ q fits h e. goes_keep k c sound q fits h ran e) e
  where
    by : (m : Move) → FitsOn c m → Keeps c m
        → ((q : Point) → Fits c q → Tallied c q → goes k c q ≡ Some ran → (f n : ℕ) → counter f n ran.tally.counters
        ≡ total f n ran.tally.marks)
        → then_goes m (λ q. goes k c q) ≡ Some ran → (f n : ℕ) → counter f n ran.tally.counters
        ≡ total f n ran.tally.marks
    by (Goes_on q) fits h go e = go q fits h e
    by (Over other) fits h go e = subst (λ (r : Ran). (f n : ℕ) → counter f n r.tally.counters
        ≡ total f n r.tally.marks) (same_Some other ran e) h
    by Broken fits h go e = absurd fits

-- ---- as a run begins

no_value : (n m : ℕ) → value n (replicate m 0) ≡ 0
no_value n zero = refl
no_value zero (suc m) = refl
no_value (suc n) (suc m) = no_value n m

no_counter : (f n : ℕ) (fs : List FunctionValue) → counter f n (map (λ f. replicate f.counters 0) fs) ≡ 0
no_counter f n [] = refl
no_counter zero n (g ∷ fs) = no_value n g.counters
no_counter (suc f) n (g ∷ fs) = no_counter f n fs

first_room : (fs : List FunctionValue) (g : ℕ) (f : FunctionValue) → slice_get fs g ≡ Some f
    → (cs : List ℕ) × (slice_get (map (λ f. replicate f.counters 0) fs) g ≡ Some cs) × (length cs ≡ f.counters)
first_room [] g f at = absurd (none-some f at)
first_room (h ∷ fs) zero f at = (
  replicate h.counters 0,
  refl,
  length-replicate h.counters 0 ∙ ap (λ (f : FunctionValue). f.counters)
      (same_Some h f at),
)
first_room (h ∷ fs) (suc g) f at = first_room fs g f at

first_total : (f n g : ℕ) → total f n (record { function = g; ops = [] } ∷ []) ≡ 0
first_total f n g = by (g == f)
  where
    by : (z : Bool) → cond z 0 0 + 0 ≡ 0
    by true = refl
    by false = refl

first_tallied : (c : CodeValue) (input : List ℕ) (turns : ℕ) → Tallied c (first c input turns)
first_tallied c input turns = record {
  here = refl;
  waits = tt;
  room = first_room c.functions;
  counts = λ f n. no_counter f n c.functions ∙ sym (first_total f n c.main);
}

-- counters are what the calls marked
pub counters_are_marks :
    (c : CodeValue) → Sound c → (input : List ℕ) (turns : ℕ) (ran : Ran) → CodeRun c input turns ran
    → (f n : ℕ) → counter f n ran.tally.counters ≡ total f n ran.tally.marks
counters_are_marks c sound input turns ran h =
    goes_keep h.0 c sound (first c input turns) (first_fits c sound input turns) (first_tallied c input turns) ran h.1
