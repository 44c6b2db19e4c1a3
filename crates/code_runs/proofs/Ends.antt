-- Each run of a code that keeps the rules ends.
use Rattle.std.proofs.Common.{◌≡◌, refl, sym, subst, ◌∙◌, ℕ, zero, suc, ◌+◌, ◌*◌, ◌<◌, ◌≤◌, Bool, true, false, cond}
use Rattle.std.proofs.Common.{List, [], ◌∷◌, length, Option, Some, None, arith}
use Rattle.std.specs.Prelude.{ℤ, pos, nat_lt, slice_get}
use Rattle.std.specs.Ordering.{int_eq}
use Rattle.std.proofs.lemmas.Option.{same_Some, none-some, slice_get_within}
use Rattle.stack_ops.specs.declared.endings.Outcome.TheVariants as outcome
use Rattle.stack_ops.specs.declared.endings.Trap.TheVariants as trap
use Rattle.stack_ops.specs.declared.operation.Op.{Op}
use Rattle.stack_ops.specs.declared.operation.Op.TheVariants as op
use Rattle.cov_base.specs.Limits.{frame_limit}
use Rattle.stack_ops.specs.Code.{FunctionValue, CodeValue}
use Rattle.stack_ops.specs.Effect.{Step, effect}
use Rattle.stack_ops.specs.Shapes.{is_step}
use Rattle.code_runs.specs.CodeRun.{Waiting, Point, Move, Goes_on, Over, Broken, Ran, move, in_function, at_instruction}
use Rattle.code_runs.specs.CodeRun.{does, stepped, state_of, with_turn, with_top, calls, begins, over, goes_back}
use Rattle.code_runs.specs.CodeRun.{leaves, next, with_state, first, then_goes, goes, CodeRun}
use Rattle.code_runs.specs.Checks.{later}
use Rattle.code_runs.specs.Sound.{Sound}
use Rattle.code_runs.proofs.PlainSteps.{Plain, plain}
use Rattle.code_runs.specs.Fits.{FitsIn, Fits}
use Rattle.code_runs.specs.Counts.{size_of, left, waiting, sizes, weight}
use Rattle.code_runs.specs.Laws.{FitsOn, LighterThan}
use Rattle.code_runs.proofs.NeverStuck.{keeps, first_fits}

size_within : (fs : List FunctionValue) (i : ℕ) → size_of (slice_get fs i) ≤ sizes fs
size_within [] i = omega arith
size_within (f ∷ fs) zero = omega arith
size_within (f ∷ fs) (suc i) = let h = size_within fs i in omega (arith, h)

module _ (c : CodeValue) (f : FunctionValue) (n : ℕ) where
  turn_light : (p : Point) (t : ℕ) (then : Point → Move)
      → ((u : ℕ) → t ≡ suc u → LighterThan c n (then (record p { turns = u }))) → LighterThan c n (with_turn t p then)
  turn_light p zero then go = tt
  turn_light p (suc t) then go = go t refl

  top_light : (os : List ℤ) (p : Point) (then : ℤ → Point → Move)
      → ((a : ℤ) (rest : List ℤ) → LighterThan c n (then a (record p { operands = rest })))
      → LighterThan c n (with_top os p then)
  top_light [] p then go = tt
  top_light (a ∷ rest) p then go = go a rest

  -- later in the same call, with as many turns
  on_light : (p q : Point) → weight c p ≡ n → p.at < size_of (slice_get c.functions p.function) → p.at < q.at
      → q.turns ≡ p.turns → q.function ≡ p.function → q.callers ≡ p.callers → weight c q < n
  on_light p q e lt at e1 e2 e3 = rw (e1, e2, e3) (omega (arith, e, lt, at))

  step_light : (p : Point) (s : Step) → weight c p ≡ n → p.at < size_of (slice_get c.functions p.function)
      → LighterThan c n (stepped s p)
  step_light p (Step.Goes q) e lt = on_light p (next (with_state q p)) e lt (omega arith) refl refl refl
  step_light p (Step.Traps t line) e lt = tt
  step_light p Step.Stuck e lt = tt

  plain_light : (o : Op) (p : Point) → is_step o ≡ true → weight c p ≡ n
      → p.at < size_of (slice_get c.functions p.function) → LighterThan c n (does c f o p)
  plain_light o p is e lt = let q : Plain o = plain o is in
      subst (LighterThan c n) (sym (q.step c f p)) (step_light p (effect o (state_of p)) e lt)

  -- a turn less outweighs a call from its start, and a place from the start
  turn_less : (t : ℕ) (p q : Point) → weight c p ≡ n → p.turns ≡ suc t → q.turns ≡ t → q.function ≡ p.function
      → q.callers ≡ p.callers → weight c q < n
  turn_less t p q e is e1 e2 e3 =
      let h = size_within c.functions p.function in
      let d : suc t * suc (sizes c.functions) + (left c p.function p.at + waiting c p.callers) ≡ n = rw is at e in
      rw (e1, e2, e3) (omega (arith, d, h))

  call_less : (g : FunctionValue) (i t : ℕ) (p : Point) → weight c p ≡ n → p.turns ≡ suc t
      → p.at < size_of (slice_get c.functions p.function)
      → LighterThan c n (begins g i (record p { turns = t }))
  call_less g i t p e is lt =
      let h = size_within c.functions i in
      let d : suc t * suc (sizes c.functions) + (left c p.function p.at + waiting c p.callers) ≡ n = rw is at e in
      omega (arith, d, h, lt)

  called_light : (o : Option FunctionValue) (g line : ℕ) (p : Point) → weight c p ≡ n
      → p.at < size_of (slice_get c.functions p.function) → LighterThan c n (calls o g line p)
  called_light None g line p e lt = tt
  called_light (Some h) g line p e lt =
      turn_light p p.turns _ (λ t is. deep (nat_lt (suc (length p.callers)) frame_limit) t is)
    where
      deep : (b : Bool) (t : ℕ) → p.turns ≡ suc t
          → LighterThan c n (cond b (begins h g (record p { turns = t }))
          (over (outcome.Trapped trap.CallDepth line) (record p { turns = t })))
      deep true t is = call_less h g t p e is lt
      deep false t is = tt

  back_light : (given : List ℤ) (status : ℤ) (ws : List Waiting) (p : Point)
      → p.turns * suc (sizes c.functions) + (left c p.function p.at + waiting c ws) ≡ n
      → p.at < size_of (slice_get c.functions p.function) → LighterThan c n (goes_back ws given status p)
  back_light given status [] p e lt = tt
  back_light given status (w ∷ ws) p e lt = omega (arith, e, lt)

  leaves_light : (b : Bool) (p : Point) → weight c p ≡ n → p.at < size_of (slice_get c.functions p.function)
      → LighterThan c n (leaves b p)
  leaves_light true p e lt = top_light p.operands p _
      (λ a rest. back_light (a ∷ []) a p.callers (record p { operands = rest }) e lt)
  leaves_light false p e lt = back_light [] (pos 0) p.callers p e lt

  test_light : (b : Bool) (w : ℕ) (p : Point) → weight c p ≡ n → p.at < size_of (slice_get c.functions p.function)
      → p.at < w → p.at < cond b w (suc p.at)
  test_light true w p e lt to = to
  test_light false w p e lt to = omega arith

  test_light' : (b : Bool) (w : ℕ) (p : Point) → p.at < w → p.at < cond b (suc p.at) w
  test_light' true w p to = omega arith
  test_light' false w p to = to

  case_light : (b : Bool) (w : ℕ) (p q : Point) → weight c (record q { at = w }) < n → weight c (next p) < n
      → LighterThan c n (Goes_on (cond b (record q { at = w }) (next p)))
  case_light true w p q t e = t
  case_light false w p q t e = e

  does_light : (o : Op) (p : Point) → weight c p ≡ n → p.at < size_of (slice_get c.functions p.function)
      → ((w : ℕ) → later o ≡ Some w → p.at < w) → LighterThan c n (does c f o p)
  does_light (op.Jump w) p e lt to = on_light p (record p { at = w }) e lt (to w refl) refl refl refl
  does_light (op.Back w) p e lt to =
      turn_light p p.turns _ (λ t is. turn_less t p (record p { turns = t; at = w }) e is refl refl refl)
  does_light (op.IfZero w) p e lt to =
      top_light p.operands p _ (λ a rest. on_light p
      (record p { operands = rest; at = cond (int_eq a (pos 0)) w (suc p.at) }) e lt
      (test_light (int_eq a (pos 0)) w p e lt (to w refl)) refl refl refl)
  does_light (op.IfNot w) p e lt to =
      top_light p.operands p _ (λ a rest. on_light p
      (record p { operands = rest; at = cond (int_eq a (pos 0)) (suc p.at) w }) e lt
      (test_light' (int_eq a (pos 0)) w p (to w refl)) refl refl refl)
  does_light (op.CaseJump m w) p e lt to =
      top_light p.operands p _ (λ a rest. case_light (int_eq m a) w p (record p { operands = rest })
      (on_light p (record p { operands = rest; at = w }) e lt (to w refl) refl refl refl)
      (on_light p (next p) e lt (omega arith) refl refl refl))
  does_light (op.Call g line) p e lt to = called_light (slice_get c.functions g) g line p e lt
  does_light op.Return p e lt to = leaves_light f.gives p e lt
  does_light op.Exit p e lt to = top_light p.operands p _ (λ a rest. tt)
  does_light (op.Count m) p e lt to = on_light p (next p) e lt (omega arith) refl refl refl
  does_light op.PathBegin p e lt to = on_light p (next p) e lt (omega arith) refl refl refl
  does_light (op.PathPass w) p e lt to = on_light p (next p) e lt (omega arith) refl refl refl
  does_light (op.Push n) p e lt to = plain_light (op.Push n) p refl e lt
  does_light op.Dup p e lt to = plain_light op.Dup p refl e lt
  does_light op.Drop p e lt to = plain_light op.Drop p refl e lt
  does_light op.Swap p e lt to = plain_light op.Swap p refl e lt
  does_light op.Over p e lt to = plain_light op.Over p refl e lt
  does_light (op.Convert t) p e lt to = plain_light (op.Convert t) p refl e lt
  does_light op.Not p e lt to = plain_light op.Not p refl e lt
  does_light (op.LoadLocal w) p e lt to = plain_light (op.LoadLocal w) p refl e lt
  does_light (op.StoreLocal w) p e lt to = plain_light (op.StoreLocal w) p refl e lt
  does_light (op.LoadGlobal w) p e lt to = plain_light (op.LoadGlobal w) p refl e lt
  does_light (op.StoreGlobal w) p e lt to = plain_light (op.StoreGlobal w) p refl e lt
  does_light (op.CheckIndex size line) p e lt to = plain_light (op.CheckIndex size line) p refl e lt
  does_light (op.LoadLocalAt base size) p e lt to = plain_light (op.LoadLocalAt base size) p refl e lt
  does_light (op.StoreLocalAt base size) p e lt to = plain_light (op.StoreLocalAt base size) p refl e lt
  does_light (op.LoadGlobalAt base size) p e lt to = plain_light (op.LoadGlobalAt base size) p refl e lt
  does_light (op.StoreGlobalAt base size) p e lt to = plain_light (op.StoreGlobalAt base size) p refl e lt
  does_light (op.Mul t line) p e lt to = plain_light (op.Mul t line) p refl e lt
  does_light (op.Div t line) p e lt to = plain_light (op.Div t line) p refl e lt
  does_light (op.Rem t line) p e lt to = plain_light (op.Rem t line) p refl e lt
  does_light (op.Add t line) p e lt to = plain_light (op.Add t line) p refl e lt
  does_light (op.Sub t line) p e lt to = plain_light (op.Sub t line) p refl e lt
  does_light (op.Shl t line) p e lt to = plain_light (op.Shl t line) p refl e lt
  does_light (op.Shr t line) p e lt to = plain_light (op.Shr t line) p refl e lt
  does_light (op.Less t line) p e lt to = plain_light (op.Less t line) p refl e lt
  does_light (op.Greater t line) p e lt to = plain_light (op.Greater t line) p refl e lt
  does_light (op.LessEqual t line) p e lt to = plain_light (op.LessEqual t line) p refl e lt
  does_light (op.GreaterEqual t line) p e lt to = plain_light (op.GreaterEqual t line) p refl e lt
  does_light (op.Equal t line) p e lt to = plain_light (op.Equal t line) p refl e lt
  does_light (op.NotEqual t line) p e lt to = plain_light (op.NotEqual t line) p refl e lt
  does_light (op.And t line) p e lt to = plain_light (op.And t line) p refl e lt
  does_light (op.Xor t line) p e lt to = plain_light (op.Xor t line) p refl e lt
  does_light (op.Or t line) p e lt to = plain_light (op.Or t line) p refl e lt
  does_light (op.Minus t line) p e lt to = plain_light (op.Minus t line) p refl e lt
  does_light (op.Complement t line) p e lt to = plain_light (op.Complement t line) p refl e lt
  does_light op.GetChar p e lt to = plain_light op.GetChar p refl e lt
  does_light (op.PutChar line) p e lt to = plain_light (op.PutChar line) p refl e lt

-- each instruction of a code that keeps the rules makes a run lighter
pub lighter : (c : CodeValue) (p : Point) → Fits c p → LighterThan c (weight c p) (move c p)
lighter c p fits =
    let h : FitsIn c fits.function fits.depths p = fits.fits in
    subst (λ g. LighterThan c (weight c p) (in_function c g p)) (sym h.there)
    (at (slice_get fits.function.ops p.at) refl h)
  where
    at : (o : Option Op) → slice_get fits.function.ops p.at ≡ o → FitsIn c fits.function fits.depths p
        → LighterThan c (weight c p) (at_instruction c fits.function o p)
    at None is h = tt
    at (Some o) is h = does_light c fits.function (weight c p) o p refl
        (rw h.there (slice_get_within fits.function.ops p.at o is))
        (λ w to. ((h.typed.each p.at o (length p.operands) is h.at).to w to).0)

-- a run from a point that fits ends within as many instructions as its weight
pub ends_within : (k : ℕ) (c : CodeValue) → Sound c → (p : Point) → Fits c p → weight c p < k
    → (ran : Ran) × (goes k c p ≡ Some ran)
ends_within zero c sound p fits lt = absurd (omega (arith, lt))
ends_within (suc k) c sound p fits lt =
    by (move c p) (keeps c sound p fits) (lighter c p fits) (λ q. ends_within k c sound q)
  where
    by : (m : Move) → FitsOn c m → LighterThan c (weight c p) m
        → ((q : Point) → Fits c q → weight c q < k → (ran : Ran) × (goes k c q ≡ Some ran))
        → (ran : Ran) × (then_goes m (λ q. goes k c q) ≡ Some ran)
    by (Goes_on q) good light go = go q good (omega (arith, light, lt))
    by (Over ran) good light go = (ran, refl)
    by Broken good light go = absurd good

-- each run of a code that keeps the rules comes to something
pub each_ends : (c : CodeValue) → Sound c → (input : List ℕ) (n : ℕ) → (ran : Ran) × CodeRun c input n ran
each_ends c sound input n =
    let h = ends_within (suc (weight c (first c input n))) c sound (first c input n) (first_fits c sound input n)
    (omega arith) in (h.0, (suc (weight c (first c input n)), h.1))

-- a run comes to one thing, by however many instructions it is found
same_goes : (k m : ℕ) (c : CodeValue) (p : Point) (a b : Ran) → goes k c p ≡ Some a → goes m c p ≡ Some b → b ≡ a
same_goes zero m c p a b h e = absurd (none-some a h)
same_goes (suc k) zero c p a b h e = absurd (none-some b e)
same_goes (suc k) (suc m) c p a b h e = by (move c p) h e (λ q h e. same_goes k m c q a b h e)
  where
    by : (n : Move) → then_goes n (λ q. goes k c q) ≡ Some a → then_goes n (λ q. goes m c q) ≡ Some b
        → ((q : Point) → goes k c q ≡ Some a → goes m c q ≡ Some b → b ≡ a) → b ≡ a
    by (Goes_on q) h e go = go q h e
    by (Over ran) h e go = sym (same_Some ran b e) ∙ same_Some ran a h
    by Broken h e go = absurd (none-some a h)

-- a run comes to one thing only
pub one_run :
    (c : CodeValue) (input : List ℕ) (turns : ℕ) (ran other : Ran) → CodeRun c input turns ran
    → CodeRun c input turns other → other ≡ ran
one_run c input turns ran other h e = same_goes h.0 e.0 c (first c input turns) ran other h.1 e.1
