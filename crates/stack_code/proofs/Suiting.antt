-- Single instructions that keep the rules.
use Rattle.std.proofs.Common.{◌≡◌, refl, sym, ap, subst, ◌∙◌, ℕ, suc, ◌+◌, ◌-◌, ◌<◌, ◌≤◌, true}
use Rattle.std.proofs.Common.{List, length, Some, None, arith}
use Rattle.std.specs.Prelude.{ℤ, slice_get}
use Rattle.std.proofs.lemmas.Option.{same_Some, none-some}
use Rattle.std.proofs.lemmas.Bool.{lt-ltb, eq-eqb}
use Rattle.stack_ops.specs.declared.operation.Op.{Op}
use Rattle.stack_ops.specs.declared.operation.Op.TheVariants as op
use Rattle.stack_ops.specs.Code.{FunctionValue, CodeValue}
use Rattle.stack_ops.specs.Shapes.{takes, gives, given_by}
use Rattle.code_runs.specs.Checks.{behind, counter_there, row_there}
use Rattle.code_runs.specs.Sound.{Suits}
use Rattle.stack_code.specs.Checked.{Mark}
use Rattle.stack_code.specs.Emits.{IsMark}
use Rattle.stack_code.specs.Emits as emits
use Rattle.stack_code.proofs.LightSteps.{Light}

no_way : (w : ℕ) (A : Type 0) → None ≡ Some w → A
no_way w A e = absurd (none-some w e)

module _ (c : CodeValue) (f : FunctionValue) (ds : List ℕ) where
  -- an instruction has so many operands, and keeps the rules with them
  pub record Kept_at (i : ℕ) (o : Op) : Type 0 where
    pub depth : ℕ
    pub at : slice_get ds i ≡ Some depth
    pub within : depth ≤ f.depth
    pub suits : Suits c f ds i o depth

  same_at : (i a b : ℕ) → a ≡ b → slice_get ds i ≡ Some a → slice_get ds i ≡ Some b
  same_at i a b e h = h ∙ ap Some e

  to_one : (i v d : ℕ) → i < v → slice_get ds v ≡ Some d → (w : ℕ) → Some v ≡ Some w
      → (i < w) × (slice_get ds w ≡ Some d)
  to_one i v d lt at w e = subst (λ w. (i < w) × (slice_get ds w ≡ Some d)) (same_Some v w e) (lt, at)

  pub light_kept : (i : ℕ) (o : Op) (d : ℕ) → Light c f o → takes o ≤ d → d ≤ f.depth
      → d - takes o + gives o ≤ f.depth → slice_get ds i ≡ Some d
      → slice_get ds (suc i) ≡ Some (d - takes o + gives o) → Kept_at i o
  light_kept i o d l taken deep room at on =
      let same : behind c.functions f o d ≡ d - takes o + gives o = rw (l.taken, l.given) refl in record {
        depth = d;
        at = at;
        within = deep;
        suits = record {
          taken = rw l.taken taken;
          room = rw same room;
          on = λ e. same_at (suc i) (d - takes o + gives o) (behind c.functions f o d) (sym same) on;
          to = λ w e. no_way w _ (sym l.ahead ∙ e);
          back = λ w e. no_way w _ (sym l.behind ∙ e);
          returned = l.returned d;
          cell = l.cell;
          counter = l.counter;
          row = l.row;
        };
      }

  mark_light : (o : Op) → Mark f o → Light c f o
  mark_light o m = by o m.mark m.counter m.row
    where
      by : (o : Op) → IsMark o → counter_there f o ≡ true → row_there f o ≡ true → Light c f o
      by _ (emits.count n) k r = record {
        taken = refl;
        given = refl;
        on = refl;
        ahead = refl;
        behind = refl;
        returned = λ d. refl;
        cell = refl;
        counter = k;
        row = r;
      }
      by _ emits.begin k r = record {
        taken = refl;
        given = refl;
        on = refl;
        ahead = refl;
        behind = refl;
        returned = λ d. refl;
        cell = refl;
        counter = k;
        row = r;
      }
      by _ (emits.pass n) k r = record {
        taken = refl;
        given = refl;
        on = refl;
        ahead = refl;
        behind = refl;
        returned = λ d. refl;
        cell = refl;
        counter = k;
        row = r;
      }

  mark_shape : (o : Op) → IsMark o → (takes o ≡ 0) × (gives o ≡ 0)
  mark_shape _ (emits.count n) = (refl, refl)
  mark_shape _ emits.begin = (refl, refl)
  mark_shape _ (emits.pass n) = (refl, refl)

  pub mark_kept : (i : ℕ) (o : Op) (d : ℕ) → Mark f o → d ≤ f.depth → slice_get ds i ≡ Some d
      → slice_get ds (suc i) ≡ Some d → Kept_at i o
  mark_kept i o d m deep at on =
      let s = mark_shape o m.mark in let t : takes o ≡ 0 = s.0 in let g : gives o ≡ 0 = s.1 in
      let same : d ≡ d - takes o + gives o = omega (arith, t, g) in
      light_kept i o d (mark_light o m) (omega (arith, t)) deep (omega (arith, same, deep)) at
      (same_at (suc i) d (d - takes o + gives o) same on)

  pub jump_kept : (i w d : ℕ) → i < w → d ≤ f.depth → slice_get ds i ≡ Some d → slice_get ds w ≡ Some d
      → Kept_at i (op.Jump w)
  jump_kept i w d lt deep at to = record {
    depth = d;
    at = at;
    within = deep;
    suits = record {
      taken = omega arith;
      room = omega (arith, deep);
      on = λ e. absurd (cc);
      to = to_one i w d lt to;
      back = λ w e. no_way w _ e;
      returned = refl;
      cell = refl;
      counter = refl;
      row = refl;
    };
  }

  pub back_kept : (i w d : ℕ) → w ≤ i → d ≤ f.depth → slice_get ds i ≡ Some d → slice_get ds w ≡ Some d
      → Kept_at i (op.Back w)
  back_kept i w d le deep at to = record {
    depth = d;
    at = at;
    within = deep;
    suits = record {
      taken = omega arith;
      room = omega (arith, deep);
      on = λ e. absurd (cc);
      to = λ w e. no_way w _ e;
      back = λ v e. subst (λ v. (v ≤ i) × (slice_get ds v ≡ Some d)) (same_Some w v e) (le, to);
      returned = refl;
      cell = refl;
      counter = refl;
      row = refl;
    };
  }

  pub zero_kept : (i w d : ℕ) → i < w → 1 ≤ d → d ≤ f.depth → slice_get ds i ≡ Some d → slice_get ds w ≡ Some (d - 1)
      → slice_get ds (suc i) ≡ Some (d - 1) → Kept_at i (op.IfZero w)
  zero_kept i w d lt one deep at to on = record {
    depth = d;
    at = at;
    within = deep;
    suits = record {
      taken = one;
      room = omega (arith, deep);
      on = λ e. same_at (suc i) (d - 1) (d - 1 + 0) (omega arith) on;
      to = to_one i w (d - 1) lt to;
      back = λ w e. no_way w _ e;
      returned = refl;
      cell = refl;
      counter = refl;
      row = refl;
    };
  }

  pub case_kept : (i w d : ℕ) (n : ℤ) → i < w → 1 ≤ d → d ≤ f.depth → slice_get ds i ≡ Some d
      → slice_get ds w ≡ Some (d - 1) → slice_get ds (suc i) ≡ Some d → Kept_at i (op.CaseJump n w)
  case_kept i w d n lt one deep at to on = record {
    depth = d;
    at = at;
    within = deep;
    suits = record {
      taken = one;
      room = omega (arith, deep, one);
      on = λ e. same_at (suc i) d (d - 1 + 1) (omega (arith, one)) on;
      to = to_one i w (d - 1) lt to;
      back = λ w e. no_way w _ e;
      returned = refl;
      cell = refl;
      counter = refl;
      row = refl;
    };
  }

  pub drop_kept : (i d : ℕ) → 1 ≤ d → d ≤ f.depth → slice_get ds i ≡ Some d → slice_get ds (suc i) ≡ Some (d - 1)
      → Kept_at i op.Drop
  drop_kept i d one deep at on =
      light_kept i op.Drop d (record {
        taken = refl;
        given = refl;
        on = refl;
        ahead = refl;
        behind = refl;
        returned = λ d. refl;
        cell = refl;
        counter = refl;
        row = refl;
      }) one deep (omega (arith, deep)) at
      (same_at (suc i) (d - 1) (d - 1 + 0) (omega arith) on)

  pub call_kept : (i called line d : ℕ) (h : FunctionValue) → slice_get c.functions called ≡ Some h → h.params ≤ d
      → d ≤ f.depth → d - h.params + given_by h ≤ f.depth → called < length c.functions → slice_get ds i ≡ Some d
      → slice_get ds (suc i) ≡ Some (d - h.params + given_by h) → Kept_at i (op.Call called line)
  call_kept i called line d h there taken deep room inside at on =
      let same : behind c.functions f (op.Call called line) d ≡ d - h.params + given_by h = rw there refl in record {
        depth = d;
        at = at;
        within = deep;
        suits = record {
          taken = rw there taken;
          room = rw same room;
          on = λ e. same_at (suc i) (d - h.params + given_by h) (behind c.functions f (op.Call called line) d)
              (sym same) on;
          to = λ w e. no_way w _ e;
          back = λ w e. no_way w _ e;
          returned = refl;
          cell = lt-ltb called (length c.functions) inside;
          counter = refl;
          row = refl;
        };
      }

  pub return_kept : (i d : ℕ) → d ≡ given_by f → d ≤ f.depth → slice_get ds i ≡ Some d → Kept_at i op.Return
  return_kept i d given deep at = record {
    depth = d;
    at = at;
    within = deep;
    suits = record {
      taken = omega (arith, given);
      room = omega (arith, deep);
      on = λ e. absurd (cc);
      to = λ w e. no_way w _ e;
      back = λ w e. no_way w _ e;
      returned = eq-eqb d (given_by f) given;
      cell = refl;
      counter = refl;
      row = refl;
    };
  }

  pub exit_kept : (i d : ℕ) → 1 ≤ d → d ≤ f.depth → slice_get ds i ≡ Some d → Kept_at i op.Exit
  exit_kept i d one deep at = record {
    depth = d;
    at = at;
    within = deep;
    suits = record {
      taken = one;
      room = omega (arith, deep);
      on = λ e. absurd (cc);
      to = λ w e. no_way w _ e;
      back = λ w e. no_way w _ e;
      returned = refl;
      cell = refl;
      counter = refl;
      row = refl;
    };
  }
