-- A code that keeps the rules is never stuck.
use Rattle.std.proofs.Common.{◌≡◌, ◌≢◌, refl, sym, ap, subst, ◌∙◌, ℕ, zero, suc, ◌+◌, ◌-◌, ◌≤◌, Bool, true, false, cond}
use Rattle.std.proofs.Common.{List, [], ◌∷◌, length, reverse, take, replicate, Option, Some, None, arith, length-append}
use Rattle.std.proofs.Common.{length-drop, eqb-true}
use Rattle.std.specs.Prelude.{ℤ, pos, nat_lt, slice_get}
use Rattle.std.specs.Ordering.{int_eq}
use Rattle.std.proofs.lemmas.Option.{slice_get_within}
use Rattle.std.proofs.lemmas.Bool.{ltb-true}
use Rattle.std.proofs.lemmas.List.{length-replicate, length-reverse, length-take-le}
use Rattle.stack_ops.specs.declared.endings.Trap.TheVariants as trap
use Rattle.stack_ops.specs.declared.endings.Outcome.TheVariants as outcome
use Rattle.stack_ops.specs.declared.operation.Op.{Op}
use Rattle.stack_ops.specs.declared.operation.Op.TheVariants as op
use Rattle.cov_base.specs.Limits.{frame_limit}
use Rattle.stack_ops.specs.Code.{FunctionValue, CodeValue}
use Rattle.stack_ops.specs.Effect.{Step, effect}
use Rattle.stack_ops.specs.Shapes.{takes, gives, takes_in, gives_in, given_by, is_step}
use Rattle.code_runs.specs.CodeRun.{Waiting, Point, Move, Goes_on, Broken, move, in_function, does, stepped, state_of}
use Rattle.code_runs.specs.CodeRun.{with_turn, with_top, calls, begins, over, at_instruction, goes_back, leaves, next}
use Rattle.code_runs.specs.CodeRun.{first}
use Rattle.code_runs.specs.Sound.{Suits, Kept, Sound}
use Rattle.code_runs.specs.Fits.{Waits, FitsIn, Fits}
use Rattle.code_runs.specs.Laws.{FitsOn, Reaches}
use Rattle.code_runs.proofs.StepShapes.{there, Leaves, row_sized}
use Rattle.code_runs.proofs.PlainSteps.{Plain, plain}

module _ (c : CodeValue) (sound : Sound c) (f : FunctionValue) (depths : List ℕ) where
  -- with the instruction at a point, of a function with so many operands
  turn_good : (t : ℕ) (p : Point) (then : Point → Move) → ((t : ℕ) → FitsOn c (then (record p { turns = t })))
      → FitsOn c (with_turn t p then)
  turn_good zero p then go = tt
  turn_good (suc t) p then go = go t

  top_good : (os : List ℤ) (p : Point) (then : ℤ → Point → Move) → 1 ≤ length os
      → ((a : ℤ) (rest : List ℤ) → length os ≡ suc (length rest) → FitsOn c (then a (record p { operands = rest })))
      → FitsOn c (with_top os p then)
  top_good [] p then le go = absurd (omega (arith, le))
  top_good (a ∷ rest) p then le go = go a rest refl

  step_good : (o : Op) (p : Point) (s : Step) → FitsIn c f depths p
      → slice_get depths (suc p.at) ≡ Some (length p.operands - takes o + gives o)
      → Leaves (state_of p) (length p.operands - takes o + gives o) s → FitsOn c (stepped s p)
  step_good o p (Step.Goes q) fits on sized = record {
    function = f;
    depths = depths;
    fits = record {
      there = fits.there;
      typed = fits.typed;
      at = on ∙ ap Some (sym sized.operands);
      cells = sized.cells ∙ fits.cells;
      globals = sized.globals ∙ fits.globals;
      waits = fits.waits;
    };
  }
  step_good o p (Step.Traps t line) fits on sized = tt
  step_good o p Step.Stuck fits on sized = absurd sized

  plain_good : (o : Op) (p : Point) → is_step o ≡ true → FitsIn c f depths p
      → Suits c f depths p.at o (length p.operands) → FitsOn c (does c f o p)
  plain_good o p is fits s =
      let q : Plain o = plain o is in
      let t : takes_in c.functions f o ≡ takes o = q.taken c.functions f in
      let g : gives_in c.functions o ≡ gives o = q.given c.functions in
      let taken : takes o ≤ length p.operands = rw (sym t) s.taken in
      subst (FitsOn c) (sym (q.step c f p))
      (step_good o p (effect o (state_of p)) fits (s.on q.on ∙ ap Some (rw (t, g) refl))
      (row_sized o p.operands (state_of p) is taken (q.cells c f p.cells p.globals s.cell fits.cells fits.globals)))

  -- the same point, at another instruction and with other operands
  goes_good : (p q : Point) → FitsIn c f depths p → slice_get depths q.at ≡ Some (length q.operands)
      → q.function ≡ p.function → q.cells ≡ p.cells → q.globals ≡ p.globals → q.callers ≡ p.callers
      → FitsOn c (Goes_on q)
  goes_good p q fits at e1 e2 e3 e4 = record {
    function = f;
    depths = depths;
    fits = record {
      there = rw e1 fits.there;
      typed = fits.typed;
      at = at;
      cells = rw e2 fits.cells;
      globals = rw e3 fits.globals;
      waits = rw e4 fits.waits;
    };
  }

  by_test : (b : Bool) (w i n : ℕ) → slice_get depths w ≡ Some n → slice_get depths i ≡ Some n
      → slice_get depths (cond b w i) ≡ Some n
  by_test true w i n t e = t
  by_test false w i n t e = e

  case_good : (b : Bool) (w : ℕ) (p q : Point) → FitsOn c (Goes_on (record q { at = w })) → FitsOn c (Goes_on (next p))
      → FitsOn c (Goes_on (cond b (record q { at = w }) (next p)))
  case_good true w p q t e = t
  case_good false w p q t e = e

  back_good : (given : List ℤ) (status : ℤ) (ws : List Waiting) (p : Point) → length given ≡ given_by f
      → length p.globals ≡ length c.globals
      → Waits c f ws → FitsOn c (goes_back ws given status p)
  back_good given status [] p e gs waits = tt
  back_good given status (w ∷ ws) p e gs waits = record {
    function = waits.0;
    depths = waits.1.depths;
    fits = record {
      there = waits.1.there;
      typed = waits.1.typed;
      at = waits.1.at ∙ ap Some (rw (length-append given w.operands, e) (omega arith));
      cells = waits.1.cells;
      globals = gs;
      waits = waits.2;
    };
  }

  leaves_good : (b : Bool) (p : Point) → f.gives ≡ b → FitsIn c f depths p → length p.operands ≡ given_by f
      → FitsOn c (leaves b p)
  leaves_good true p is fits e = top_good p.operands p _ (rw (e, is) (omega arith))
      (λ a rest size. back_good (a ∷ []) a p.callers _ (rw is refl) fits.globals fits.waits)
  leaves_good false p is fits e = back_good [] (pos 0) p.callers p (rw is refl) fits.globals fits.waits

  called_good : (g : ℕ) (line : ℕ) (p : Point) (o : Option FunctionValue) → slice_get c.functions g ≡ o → o ≢ None
      → FitsIn c f depths p → Suits c f depths p.at (op.Call g line) (length p.operands) → FitsOn c (calls o g line p)
  called_good g line p None is some fits s = absurd (some refl)
  called_good g line p (Some h) is some fits s =
      let kept : Kept c h = sound.each g h is in
      let taken : h.params ≤ length p.operands = rw is at s.taken in
      let on : slice_get depths (suc p.at) ≡ Some (length p.operands - h.params + given_by h) = rw is at (s.on refl) in
      turn_good p.turns p _ (λ t. deep (nat_lt (suc (length p.callers)) frame_limit) t kept taken on)
    where
      deep : (b : Bool) (t : ℕ) → Kept c h → h.params ≤ length p.operands
          → slice_get depths (suc p.at) ≡ Some (length p.operands - h.params + given_by h)
          → FitsOn c (cond b (begins h g (record p { turns = t }))
          (over (outcome.Trapped trap.CallDepth line) (record p { turns = t })))
      deep false t kept taken on = tt
      deep true t kept taken on = record {
        function = h;
        depths = kept.depths;
        fits = record {
          there = is;
          typed = kept.typed;
          at = kept.typed.start;
          cells = rw (
            length-append (reverse (take h.params p.operands)) (replicate (h.cells - h.params) (pos 0)),
            length-reverse (take h.params p.operands),
            length-take-le h.params p.operands taken,
            length-replicate (h.cells - h.params) (pos 0),
          )
              (omega (arith, kept.params));
          globals = fits.globals;
          waits = (
            f,
            record {
              there = fits.there;
              depths = depths;
              typed = fits.typed;
              at = on ∙ ap Some (rw (length-drop h.params p.operands) refl);
              cells = fits.cells;
            },
            fits.waits,
          );
        };
      }

  does_good : (o : Op) (p : Point) → FitsIn c f depths p → Suits c f depths p.at o (length p.operands)
      → FitsOn c (does c f o p)
  does_good (op.Jump w) p fits s = goes_good p _ fits (s.to w refl).1 refl refl refl refl
  does_good (op.Back w) p fits s = turn_good p.turns p _ (λ t. goes_good p _ fits (s.back w refl).1 refl refl refl refl)
  does_good (op.IfZero w) p fits s = top_good p.operands p _ s.taken (λ a rest size. goes_good p _ fits
      (by_test (int_eq a (pos 0)) w (suc p.at) (length rest) ((s.to w refl).1 ∙ ap Some (omega (arith, size)))
      (s.on refl ∙ ap Some (omega (arith, size)))) refl refl refl refl)
  does_good (op.IfNot w) p fits s = top_good p.operands p _ s.taken (λ a rest size. goes_good p _ fits
      (by_test (int_eq a (pos 0)) (suc p.at) w (length rest) (s.on refl ∙ ap Some (omega (arith, size)))
      ((s.to w refl).1 ∙ ap Some (omega (arith, size)))) refl refl refl refl)
  does_good (op.CaseJump n w) p fits s =
      top_good p.operands p _ s.taken (λ a rest size. case_good (int_eq n a) w p (record p { operands = rest })
      (goes_good p _ fits ((s.to w refl).1 ∙ ap Some (omega (arith, size))) refl refl refl refl)
      (goes_good p _ fits (s.on refl ∙ ap Some (omega (arith, s.taken))) refl refl refl refl))
  does_good (op.Call g line) p fits s =
      called_good g line p (slice_get c.functions g) refl
      (there c.functions g (ltb-true g (length c.functions) s.cell)) fits s
  does_good op.Return p fits s = leaves_good f.gives p refl fits (eqb-true _ _ s.returned)
  does_good op.Exit p fits s = top_good p.operands p _ s.taken (λ a rest size. tt)
  does_good (op.Count n) p fits s = goes_good p _ fits (s.on refl ∙ ap Some (omega arith)) refl refl refl refl
  does_good op.PathBegin p fits s = goes_good p _ fits (s.on refl ∙ ap Some (omega arith)) refl refl refl refl
  does_good (op.PathPass w) p fits s = goes_good p _ fits (s.on refl ∙ ap Some (omega arith)) refl refl refl refl
  does_good (op.Push n) p fits s = plain_good (op.Push n) p refl fits s
  does_good op.Dup p fits s = plain_good op.Dup p refl fits s
  does_good op.Drop p fits s = plain_good op.Drop p refl fits s
  does_good op.Swap p fits s = plain_good op.Swap p refl fits s
  does_good op.Over p fits s = plain_good op.Over p refl fits s
  does_good (op.Convert t) p fits s = plain_good (op.Convert t) p refl fits s
  does_good op.Not p fits s = plain_good op.Not p refl fits s
  does_good (op.LoadLocal w) p fits s = plain_good (op.LoadLocal w) p refl fits s
  does_good (op.StoreLocal w) p fits s = plain_good (op.StoreLocal w) p refl fits s
  does_good (op.LoadGlobal w) p fits s = plain_good (op.LoadGlobal w) p refl fits s
  does_good (op.StoreGlobal w) p fits s = plain_good (op.StoreGlobal w) p refl fits s
  does_good (op.CheckIndex size line) p fits s = plain_good (op.CheckIndex size line) p refl fits s
  does_good (op.LoadLocalAt base size) p fits s = plain_good (op.LoadLocalAt base size) p refl fits s
  does_good (op.StoreLocalAt base size) p fits s = plain_good (op.StoreLocalAt base size) p refl fits s
  does_good (op.LoadGlobalAt base size) p fits s = plain_good (op.LoadGlobalAt base size) p refl fits s
  does_good (op.StoreGlobalAt base size) p fits s = plain_good (op.StoreGlobalAt base size) p refl fits s
  does_good (op.Mul t line) p fits s = plain_good (op.Mul t line) p refl fits s
  does_good (op.Div t line) p fits s = plain_good (op.Div t line) p refl fits s
  does_good (op.Rem t line) p fits s = plain_good (op.Rem t line) p refl fits s
  does_good (op.Add t line) p fits s = plain_good (op.Add t line) p refl fits s
  does_good (op.Sub t line) p fits s = plain_good (op.Sub t line) p refl fits s
  does_good (op.Shl t line) p fits s = plain_good (op.Shl t line) p refl fits s
  does_good (op.Shr t line) p fits s = plain_good (op.Shr t line) p refl fits s
  does_good (op.Less t line) p fits s = plain_good (op.Less t line) p refl fits s
  does_good (op.Greater t line) p fits s = plain_good (op.Greater t line) p refl fits s
  does_good (op.LessEqual t line) p fits s = plain_good (op.LessEqual t line) p refl fits s
  does_good (op.GreaterEqual t line) p fits s = plain_good (op.GreaterEqual t line) p refl fits s
  does_good (op.Equal t line) p fits s = plain_good (op.Equal t line) p refl fits s
  does_good (op.NotEqual t line) p fits s = plain_good (op.NotEqual t line) p refl fits s
  does_good (op.And t line) p fits s = plain_good (op.And t line) p refl fits s
  does_good (op.Xor t line) p fits s = plain_good (op.Xor t line) p refl fits s
  does_good (op.Or t line) p fits s = plain_good (op.Or t line) p refl fits s
  does_good (op.Minus t line) p fits s = plain_good (op.Minus t line) p refl fits s
  does_good (op.Complement t line) p fits s = plain_good (op.Complement t line) p refl fits s
  does_good op.GetChar p fits s = plain_good op.GetChar p refl fits s
  does_good (op.PutChar line) p fits s = plain_good (op.PutChar line) p refl fits s

-- a point that fits comes to one that fits, or ends; it is never stuck
pub keeps : (c : CodeValue) → Sound c → (p : Point) → Fits c p → FitsOn c (move c p)
keeps c sound p fits =
    let h : FitsIn c fits.function fits.depths p = fits.fits in
    subst (λ g. FitsOn c (in_function c g p)) (sym h.there)
    (at (slice_get fits.function.ops p.at) refl
    (there fits.function.ops p.at (rw (sym h.typed.size) (slice_get_within fits.depths p.at _ h.at))) h)
  where
    at : (o : Option Op) → slice_get fits.function.ops p.at ≡ o → o ≢ None → FitsIn c fits.function fits.depths p
        → FitsOn c (at_instruction c fits.function o p)
    at None is some h = absurd (some refl)
    at (Some o) is some h = does_good c sound fits.function fits.depths o p h
        (h.typed.each p.at o (length p.operands) is h.at)

-- a run begins at a point that fits
pub first_fits : (c : CodeValue) → Sound c → (input : List ℕ) (n : ℕ) → Fits c (first c input n)
first_fits c sound input n =
    let kept : Kept c sound.main = sound.each c.main sound.main sound.there in
    record {
      function = sound.main;
      depths = kept.depths;
      fits = record {
        there = sound.there;
        typed = kept.typed;
        at = kept.typed.start;
        cells = rw (sound.there, length-replicate (sound.main.cells) (pos 0)) refl;
        globals = refl;
        waits = tt;
      };
    }

-- what a point that fits leads to fits
reached : (k : ℕ) (c : CodeValue) → Sound c → (p q : Point) → Fits c p → Reaches k c p q → Fits c q
reached zero c sound p q fits h = subst (Fits c) h fits
reached (suc k) c sound p q fits h = reached k c sound h.0 q (subst (FitsOn c) h.1 (keeps c sound p fits)) h.2

-- at no point of a run does something miss
pub never_stuck :
    (c : CodeValue) → Sound c → (input : List ℕ) (turns k : ℕ) (p : Point) → Reaches k c (first c input turns) p
    → move c p ≢ Broken
never_stuck c sound input turns k p h e =
    subst (FitsOn c) e (keeps c sound p (reached k c sound (first c input turns) p (first_fits c sound input turns) h))
