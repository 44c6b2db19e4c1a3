-- Runs keep how many counters and path words there are.
use Rattle.std.proofs.Common.{◌≡◌, refl, sym, ap, subst, ◌∙◌, ℕ, zero, suc, Bool, true, false, cond, List, [], ◌∷◌}
use Rattle.std.proofs.Common.{length, map, set, get_or, Option, Some, None, replicate}
use Rattle.std.specs.Prelude.{ℤ, pos, nat_lt, slice_get}
use Rattle.std.specs.List.{fold}
use Rattle.std.specs.Ordering.{int_eq}
use Rattle.std.proofs.lemmas.Option.{same_Some, none-some}
use Rattle.std.proofs.lemmas.List.{length-set, length-replicate}
use Rattle.cov_base.specs.Limits.{frame_limit}
use Rattle.stack_ops.specs.declared.operation.Op.{Op}
use Rattle.stack_ops.specs.declared.operation.Op.TheVariants as op
use Rattle.stack_ops.specs.declared.endings.Outcome.TheVariants as outcome
use Rattle.stack_ops.specs.declared.endings.Trap.TheVariants as trap
use Rattle.stack_ops.specs.Code.{FunctionValue, CodeValue}
use Rattle.stack_ops.specs.Effect.{Step, effect}
use Rattle.stack_ops.specs.Shapes.{is_step}
use Rattle.word_rules.specs.WordRules.{Words, BeginEntry, PassEntry, begun, passed, begin_row, pass_row}
use Rattle.code_runs.specs.Tables.{words_in, begin_of, pass_of}
use Rattle.code_runs.specs.CodeRun.{at_index, Waiting, Point, Tally, Move, Goes_on, Over, Broken}
use Rattle.code_runs.specs.CodeRun.{does, stepped, state_of}
use Rattle.code_runs.specs.CodeRun.{with_turn, with_top, move, in_function, at_instruction, first}
use Rattle.code_runs.specs.CodeRun.{then_goes, goes, Ran, CodeRun, calls, begins, over, goes_back, leaves, next}
use Rattle.code_runs.proofs.PlainSteps.{Plain, plain}

-- how long lists are
abbrev pub lengths : List (List ℕ) → List ℕ
lengths lists = map (λ ns. length ns) lists

-- two tallies have as many counters and path words of each function
pub record Alike (old new : Tally) : Type 0 where
  pub counters : lengths new.counters ≡ lengths old.counters
  pub words : lengths new.words ≡ lengths old.words

itself : (t : Tally) → Alike t t
itself t = record { counters = refl; words = refl }

-- what comes of an instruction has as many as there were
abbrev Keeps : Tally → Move → Type 0
Keeps t (Goes_on p) = Alike t p.tally
Keeps t (Over ran) = Alike t ran.tally
Keeps t Broken = Unit {0}

at_index-long : (n : ℕ) (xs : List ℕ) → length (at_index suc n xs) ≡ length xs
at_index-long n [] = refl
at_index-long zero (x ∷ xs) = refl
at_index-long (suc n) (x ∷ xs) = ap suc (at_index-long n xs)

-- a counter counts
counters-kept : (m g : ℕ) (all : List (List ℕ)) → lengths (at_index (at_index suc m) g all) ≡ lengths all
counters-kept m g [] = refl
counters-kept m zero (x ∷ all) = ap (λ n. n ∷ lengths all) (at_index-long m x)
counters-kept m (suc g) (x ∷ all) = ap (λ ns. length x ∷ ns) (counters-kept m g all)

-- the words of a function become others, as many
words-kept : (g : ℕ) (all : List (List ℕ)) (seen : List ℕ) → length seen ≡ length (get_or all g [])
    → lengths (set all g seen) ≡ lengths all
words-kept g [] seen e = refl
words-kept zero (x ∷ all) seen e = ap (λ n. n ∷ lengths all) e
words-kept (suc g) (x ∷ all) seen e = ap (λ ns. length x ∷ ns) (words-kept g all seen e)

begun-long : (row : List BeginEntry) (ws : Words) → length (fold begun ws row).seen ≡ length ws.seen
begun-long [] ws = refl
begun-long (e ∷ row) ws = begun-long row (begun ws e) ∙ length-set ws.seen e.word _

passed-long : (row : List PassEntry) (ws : Words) → length (fold passed ws row).seen ≡ length ws.seen
passed-long [] ws = refl
passed-long (e ∷ row) ws = passed-long row (passed ws e) ∙ length-set ws.seen e.word _

module _ (c : CodeValue) (f : FunctionValue) where
  turn_keeps : (p : Point) (n : ℕ) (then : Point → Move) → ((t : ℕ) → Keeps p.tally (then (record p { turns = t })))
      → Keeps p.tally (with_turn n p then)
  turn_keeps p zero then k = itself p.tally
  turn_keeps p (suc t) then k = k t

  top_keeps : (os : List ℤ) (p : Point) (then : ℤ → Point → Move)
      → ((a : ℤ) (rest : List ℤ) → Keeps p.tally (then a (record p { operands = rest })))
      → Keeps p.tally (with_top os p then)
  top_keeps [] p then k = tt
  top_keeps (a ∷ rest) p then k = k a rest

  step_keeps : (p : Point) (s : Step) → Keeps p.tally (stepped s p)
  step_keeps p (Step.Goes s) = itself p.tally
  step_keeps p (Step.Traps t line) = itself p.tally
  step_keeps p Step.Stuck = tt

  plain_keeps : (o : Op) (p : Point) → is_step o ≡ true → Keeps p.tally (does c f o p)
  plain_keeps o p is = let q : Plain o = plain o is in
      subst (Keeps p.tally) (sym (q.step c f p)) (step_keeps p (effect o (state_of p)))

  back_keeps : (given : List ℤ) (status : ℤ) (ws : List Waiting) (p : Point)
      → Keeps p.tally (goes_back ws given status p)
  back_keeps given status [] p = itself p.tally
  back_keeps given status (w ∷ ws) p = itself p.tally

  does_keeps : (o : Op) (p : Point) → Keeps p.tally (does c f o p)
  does_keeps (op.Jump w) p = itself p.tally
  does_keeps (op.Back w) p = turn_keeps p p.turns _ (λ t. itself p.tally)
  does_keeps (op.IfZero w) p = top_keeps p.operands p _ (λ a rest. itself p.tally)
  does_keeps (op.IfNot w) p = top_keeps p.operands p _ (λ a rest. itself p.tally)
  does_keeps (op.CaseJump m w) p = top_keeps p.operands p _ (λ a rest. by (int_eq m a) rest)
    where
      by : (z : Bool) (rest : List ℤ)
          → Keeps p.tally (Goes_on (cond z (record p { operands = rest; at = w }) (next p)))
      by true rest = itself p.tally
      by false rest = itself p.tally
  does_keeps (op.Call g line) p = by (slice_get c.functions g)
    where
      deep : (z : Bool) (k : FunctionValue) (t : ℕ)
          → Keeps p.tally (cond z (begins k g (record p { turns = t }))
          (over (outcome.Trapped trap.CallDepth line) (record p { turns = t })))
      deep true k t = record { counters = refl; words = refl }
      deep false k t = itself p.tally

      by : (o : Option FunctionValue) → Keeps p.tally (calls o g line p)
      by None = tt
      by (Some k) = turn_keeps p p.turns _ (λ t. deep (nat_lt (suc (length p.callers)) frame_limit) k t)
  does_keeps op.Return p = by f.gives
    where
      by : (z : Bool) → Keeps p.tally (leaves z p)
      by true = top_keeps p.operands p _ (λ a rest. back_keeps (a ∷ []) a p.callers (record p { operands = rest }))
      by false = back_keeps [] (pos 0) p.callers p
  does_keeps op.Exit p = top_keeps p.operands p _ (λ a rest. itself p.tally)
  does_keeps (op.Count m) p = record { counters = counters-kept m p.function p.tally.counters; words = refl }
  does_keeps op.PathBegin p = record {
    counters = refl;
    words = words-kept p.function p.tally.words _ (begun-long (begin_row (begin_of f.table)) _);
  }
  does_keeps (op.PathPass w) p = record {
    counters = refl;
    words = words-kept p.function p.tally.words _ (passed-long (pass_row (pass_of w f.table)) _);
  }
  does_keeps (op.Push n) p = plain_keeps (op.Push n) p refl
  does_keeps op.Dup p = plain_keeps op.Dup p refl
  does_keeps op.Drop p = plain_keeps op.Drop p refl
  does_keeps op.Swap p = plain_keeps op.Swap p refl
  does_keeps op.Over p = plain_keeps op.Over p refl
  does_keeps (op.Convert t) p = plain_keeps (op.Convert t) p refl
  does_keeps op.Not p = plain_keeps op.Not p refl
  does_keeps (op.LoadLocal w) p = plain_keeps (op.LoadLocal w) p refl
  does_keeps (op.StoreLocal w) p = plain_keeps (op.StoreLocal w) p refl
  does_keeps (op.LoadGlobal w) p = plain_keeps (op.LoadGlobal w) p refl
  does_keeps (op.StoreGlobal w) p = plain_keeps (op.StoreGlobal w) p refl
  does_keeps (op.CheckIndex size line) p = plain_keeps (op.CheckIndex size line) p refl
  does_keeps (op.LoadLocalAt base size) p = plain_keeps (op.LoadLocalAt base size) p refl
  does_keeps (op.StoreLocalAt base size) p = plain_keeps (op.StoreLocalAt base size) p refl
  does_keeps (op.LoadGlobalAt base size) p = plain_keeps (op.LoadGlobalAt base size) p refl
  does_keeps (op.StoreGlobalAt base size) p = plain_keeps (op.StoreGlobalAt base size) p refl
  does_keeps (op.Mul t line) p = plain_keeps (op.Mul t line) p refl
  does_keeps (op.Div t line) p = plain_keeps (op.Div t line) p refl
  does_keeps (op.Rem t line) p = plain_keeps (op.Rem t line) p refl
  does_keeps (op.Add t line) p = plain_keeps (op.Add t line) p refl
  does_keeps (op.Sub t line) p = plain_keeps (op.Sub t line) p refl
  does_keeps (op.Shl t line) p = plain_keeps (op.Shl t line) p refl
  does_keeps (op.Shr t line) p = plain_keeps (op.Shr t line) p refl
  does_keeps (op.Less t line) p = plain_keeps (op.Less t line) p refl
  does_keeps (op.Greater t line) p = plain_keeps (op.Greater t line) p refl
  does_keeps (op.LessEqual t line) p = plain_keeps (op.LessEqual t line) p refl
  does_keeps (op.GreaterEqual t line) p = plain_keeps (op.GreaterEqual t line) p refl
  does_keeps (op.Equal t line) p = plain_keeps (op.Equal t line) p refl
  does_keeps (op.NotEqual t line) p = plain_keeps (op.NotEqual t line) p refl
  does_keeps (op.And t line) p = plain_keeps (op.And t line) p refl
  does_keeps (op.Xor t line) p = plain_keeps (op.Xor t line) p refl
  does_keeps (op.Or t line) p = plain_keeps (op.Or t line) p refl
  does_keeps (op.Minus t line) p = plain_keeps (op.Minus t line) p refl
  does_keeps (op.Complement t line) p = plain_keeps (op.Complement t line) p refl
  does_keeps op.GetChar p = plain_keeps op.GetChar p refl
  does_keeps (op.PutChar line) p = plain_keeps (op.PutChar line) p refl

moves_keep : (c : CodeValue) (p : Point) → Keeps p.tally (move c p)
moves_keep c p = by (slice_get c.functions p.function)
  where
    at : (f : FunctionValue) (o : Option Op) → Keeps p.tally (at_instruction c f o p)
    at f None = tt
    at f (Some o) = does_keeps c f o p

    by : (g : Option FunctionValue) → Keeps p.tally (in_function c g p)
    by None = tt
    by (Some f) = at f (slice_get f.ops p.at)

goes_keep : (k : ℕ) (c : CodeValue) (p : Point) (ran : Ran) → goes k c p ≡ Some ran → Alike p.tally ran.tally
goes_keep zero c p ran e = absurd (none-some ran e)
goes_keep (suc k) c p ran e = by (move c p) (moves_keep c p) (λ q e. goes_keep k c q ran e) e
  where
    by : (m : Move) → Keeps p.tally m → ((q : Point) → goes k c q ≡ Some ran → Alike q.tally ran.tally)
        → then_goes m (λ q. goes k c q) ≡ Some ran → Alike p.tally ran.tally
    by (Goes_on q) h go e = let r = go q e in
        record { counters = r.counters ∙ h.counters; words = r.words ∙ h.words }
    by (Over other) h go e = subst (λ (r : Ran). Alike p.tally r.tally) (same_Some other ran e) h
    by Broken h go e = absurd (none-some ran e)

lengths-of : (size : FunctionValue → ℕ) (fs : List FunctionValue)
    → lengths (map (λ f. replicate {A = ℕ} (size f) 0) fs) ≡ map size fs
lengths-of size [] = refl
lengths-of size (f ∷ fs) =
    ap (λ n. n ∷ lengths (map (λ f. replicate {A = ℕ} (size f) 0) fs)) (length-replicate (size f) 0)
    ∙ ap (λ ns. size f ∷ ns) (lengths-of size fs)

-- after a run each function has as many counters and path words as its code says
pub record Shaped (c : CodeValue) (t : Tally) : Type 0 where
  pub counters : lengths t.counters ≡ map (λ f. f.counters) c.functions
  pub words : lengths t.words ≡ map (λ f. words_in f.paths) c.functions

pub run_shaped : (c : CodeValue) (input : List ℕ) (turns : ℕ) (ran : Ran) → CodeRun c input turns ran
    → Shaped c ran.tally
run_shaped c input turns ran h =
    let a = goes_keep h.0 c (first c input turns) ran h.1 in record {
      counters = a.counters ∙ lengths-of (λ f. f.counters) c.functions;
      words = a.words ∙ lengths-of (λ f. words_in f.paths) c.functions;
    }
