-- What the definitions make of the operations that act on the lists alone, and of the others.
use Rattle.std.proofs.Common.{◌≡◌, refl, ℕ, ◌+◌, ◌<◌, ◌≤◌, true, false, List, length, arith}
use Rattle.std.specs.Prelude.{ℤ, nat_lt, nat_le}
use Rattle.std.proofs.lemmas.Bool.{ltb-true}
use Rattle.std.proofs.lemmas.Bool.{leb-true}
use Rattle.stack_ops.specs.declared.operation.Op.{Op}
use Rattle.stack_ops.specs.declared.operation.Op.TheVariants as op
use Rattle.stack_ops.specs.Code.{FunctionValue, CodeValue}
use Rattle.stack_ops.specs.Effect.{State, Step, effect}
use Rattle.stack_ops.specs.Shapes.{takes, gives, takes_in, gives_in, is_step, HasCells}
use Rattle.code_runs.specs.CodeRun.{Point, does, stepped, state_of}
use Rattle.code_runs.specs.Checks.{cells_there, falls}

pub record Plain (o : Op) : Type 0 where
  pub step : (c : CodeValue) (f : FunctionValue) (p : Point) → does c f o p ≡ stepped (effect o (state_of p)) p
  pub taken : (fs : List FunctionValue) (f : FunctionValue) → takes_in fs f o ≡ takes o
  pub given : (fs : List FunctionValue) → gives_in fs o ≡ gives o
  pub on : falls o ≡ true
  pub cells : (c : CodeValue) (f : FunctionValue) (xs gs : List ℤ) → cells_there c f o ≡ true → length xs ≡ f.cells
      → length gs ≡ length c.globals → HasCells o xs gs

lt_is : (w n m : ℕ) → nat_lt w n ≡ true → m ≡ n → w < m
lt_is w n m h e = let lt : w < n = ltb-true w n h in omega (arith, lt, e)

le_is : (w n m : ℕ) → nat_le w n ≡ true → m ≡ n → w ≤ m
le_is w n m h e = let le : w ≤ n = leb-true w n h in omega (arith, le, e)

pub plain : (o : Op) → is_step o ≡ true → Plain o
plain (op.Push n) s = record {
  step = λ c f p. refl;
  taken = λ fs f. refl;
  given = λ fs. refl;
  on = refl;
  cells = λ c f xs gs h e g. tt;
}
plain op.Dup s = record {
  step = λ c f p. refl;
  taken = λ fs f. refl;
  given = λ fs. refl;
  on = refl;
  cells = λ c f xs gs h e g. tt;
}
plain op.Drop s = record {
  step = λ c f p. refl;
  taken = λ fs f. refl;
  given = λ fs. refl;
  on = refl;
  cells = λ c f xs gs h e g. tt;
}
plain op.Swap s = record {
  step = λ c f p. refl;
  taken = λ fs f. refl;
  given = λ fs. refl;
  on = refl;
  cells = λ c f xs gs h e g. tt;
}
plain op.Over s = record {
  step = λ c f p. refl;
  taken = λ fs f. refl;
  given = λ fs. refl;
  on = refl;
  cells = λ c f xs gs h e g. tt;
}
plain (op.Convert t) s = record {
  step = λ c f p. refl;
  taken = λ fs f. refl;
  given = λ fs. refl;
  on = refl;
  cells = λ c f xs gs h e g. tt;
}
plain op.Not s = record {
  step = λ c f p. refl;
  taken = λ fs f. refl;
  given = λ fs. refl;
  on = refl;
  cells = λ c f xs gs h e g. tt;
}
plain (op.LoadLocal w) s = record {
  step = λ c f p. refl;
  taken = λ fs f. refl;
  given = λ fs. refl;
  on = refl;
  cells = λ c f xs gs h e g. lt_is w _ _ h e;
}
plain (op.StoreLocal w) s = record {
  step = λ c f p. refl;
  taken = λ fs f. refl;
  given = λ fs. refl;
  on = refl;
  cells = λ c f xs gs h e g. lt_is w _ _ h e;
}
plain (op.LoadGlobal w) s = record {
  step = λ c f p. refl;
  taken = λ fs f. refl;
  given = λ fs. refl;
  on = refl;
  cells = λ c f xs gs h e g. lt_is w _ _ h g;
}
plain (op.StoreGlobal w) s = record {
  step = λ c f p. refl;
  taken = λ fs f. refl;
  given = λ fs. refl;
  on = refl;
  cells = λ c f xs gs h e g. lt_is w _ _ h g;
}
plain (op.CheckIndex size line) s =
    record { step = λ c f p. refl; taken = λ fs f. refl; given = λ fs. refl; on = refl; cells = λ c f xs gs h e g. tt }
plain (op.LoadLocalAt base size) s =
    record {
      step = λ c f p. refl;
      taken = λ fs f. refl;
      given = λ fs. refl;
      on = refl;
      cells = λ c f xs gs h e g. le_is (base + size) _ _ h e;
    }
plain (op.StoreLocalAt base size) s =
    record {
      step = λ c f p. refl;
      taken = λ fs f. refl;
      given = λ fs. refl;
      on = refl;
      cells = λ c f xs gs h e g. le_is (base + size) _ _ h e;
    }
plain (op.LoadGlobalAt base size) s =
    record {
      step = λ c f p. refl;
      taken = λ fs f. refl;
      given = λ fs. refl;
      on = refl;
      cells = λ c f xs gs h e g. le_is (base + size) _ _ h g;
    }
plain (op.StoreGlobalAt base size) s =
    record {
      step = λ c f p. refl;
      taken = λ fs f. refl;
      given = λ fs. refl;
      on = refl;
      cells = λ c f xs gs h e g. le_is (base + size) _ _ h g;
    }
plain (op.Mul t line) s = record {
  step = λ c f p. refl;
  taken = λ fs f. refl;
  given = λ fs. refl;
  on = refl;
  cells = λ c f xs gs h e g. tt;
}
plain (op.Div t line) s = record {
  step = λ c f p. refl;
  taken = λ fs f. refl;
  given = λ fs. refl;
  on = refl;
  cells = λ c f xs gs h e g. tt;
}
plain (op.Rem t line) s = record {
  step = λ c f p. refl;
  taken = λ fs f. refl;
  given = λ fs. refl;
  on = refl;
  cells = λ c f xs gs h e g. tt;
}
plain (op.Add t line) s = record {
  step = λ c f p. refl;
  taken = λ fs f. refl;
  given = λ fs. refl;
  on = refl;
  cells = λ c f xs gs h e g. tt;
}
plain (op.Sub t line) s = record {
  step = λ c f p. refl;
  taken = λ fs f. refl;
  given = λ fs. refl;
  on = refl;
  cells = λ c f xs gs h e g. tt;
}
plain (op.Shl t line) s = record {
  step = λ c f p. refl;
  taken = λ fs f. refl;
  given = λ fs. refl;
  on = refl;
  cells = λ c f xs gs h e g. tt;
}
plain (op.Shr t line) s = record {
  step = λ c f p. refl;
  taken = λ fs f. refl;
  given = λ fs. refl;
  on = refl;
  cells = λ c f xs gs h e g. tt;
}
plain (op.Less t line) s = record {
  step = λ c f p. refl;
  taken = λ fs f. refl;
  given = λ fs. refl;
  on = refl;
  cells = λ c f xs gs h e g. tt;
}
plain (op.Greater t line) s = record {
  step = λ c f p. refl;
  taken = λ fs f. refl;
  given = λ fs. refl;
  on = refl;
  cells = λ c f xs gs h e g. tt;
}
plain (op.LessEqual t line) s =
    record { step = λ c f p. refl; taken = λ fs f. refl; given = λ fs. refl; on = refl; cells = λ c f xs gs h e g. tt }
plain (op.GreaterEqual t line) s =
    record { step = λ c f p. refl; taken = λ fs f. refl; given = λ fs. refl; on = refl; cells = λ c f xs gs h e g. tt }
plain (op.Equal t line) s = record {
  step = λ c f p. refl;
  taken = λ fs f. refl;
  given = λ fs. refl;
  on = refl;
  cells = λ c f xs gs h e g. tt;
}
plain (op.NotEqual t line) s = record {
  step = λ c f p. refl;
  taken = λ fs f. refl;
  given = λ fs. refl;
  on = refl;
  cells = λ c f xs gs h e g. tt;
}
plain (op.And t line) s = record {
  step = λ c f p. refl;
  taken = λ fs f. refl;
  given = λ fs. refl;
  on = refl;
  cells = λ c f xs gs h e g. tt;
}
plain (op.Xor t line) s = record {
  step = λ c f p. refl;
  taken = λ fs f. refl;
  given = λ fs. refl;
  on = refl;
  cells = λ c f xs gs h e g. tt;
}
plain (op.Or t line) s = record {
  step = λ c f p. refl;
  taken = λ fs f. refl;
  given = λ fs. refl;
  on = refl;
  cells = λ c f xs gs h e g. tt;
}
plain (op.Minus t line) s = record {
  step = λ c f p. refl;
  taken = λ fs f. refl;
  given = λ fs. refl;
  on = refl;
  cells = λ c f xs gs h e g. tt;
}
plain (op.Complement t line) s =
    record { step = λ c f p. refl; taken = λ fs f. refl; given = λ fs. refl; on = refl; cells = λ c f xs gs h e g. tt }
plain op.GetChar s = record {
  step = λ c f p. refl;
  taken = λ fs f. refl;
  given = λ fs. refl;
  on = refl;
  cells = λ c f xs gs h e g. tt;
}
plain (op.PutChar line) s = record {
  step = λ c f p. refl;
  taken = λ fs f. refl;
  given = λ fs. refl;
  on = refl;
  cells = λ c f xs gs h e g. tt;
}
plain (op.Jump to) s = absurd (cc)
plain (op.Back to) s = absurd (cc)
plain (op.IfZero to) s = absurd (cc)
plain (op.IfNot to) s = absurd (cc)
plain (op.CaseJump n to) s = absurd (cc)
plain (op.Call g line) s = absurd (cc)
plain op.Return s = absurd (cc)
plain op.Exit s = absurd (cc)
plain (op.Count n) s = absurd (cc)
plain op.PathBegin s = absurd (cc)
plain (op.PathPass w) s = absurd (cc)

-- an operation that is none of these is stuck where only the lists are seen
pub stuck_else : (o : Op) (s : State) → is_step o ≡ false → effect o s ≡ Step.Stuck
stuck_else (op.Push n) s is = absurd (cc)
stuck_else op.Dup s is = absurd (cc)
stuck_else op.Drop s is = absurd (cc)
stuck_else op.Swap s is = absurd (cc)
stuck_else op.Over s is = absurd (cc)
stuck_else (op.Convert t) s is = absurd (cc)
stuck_else op.Not s is = absurd (cc)
stuck_else (op.LoadLocal w) s is = absurd (cc)
stuck_else (op.StoreLocal w) s is = absurd (cc)
stuck_else (op.LoadGlobal w) s is = absurd (cc)
stuck_else (op.StoreGlobal w) s is = absurd (cc)
stuck_else (op.CheckIndex size line) s is = absurd (cc)
stuck_else (op.LoadLocalAt base size) s is = absurd (cc)
stuck_else (op.StoreLocalAt base size) s is = absurd (cc)
stuck_else (op.LoadGlobalAt base size) s is = absurd (cc)
stuck_else (op.StoreGlobalAt base size) s is = absurd (cc)
stuck_else (op.Mul t line) s is = absurd (cc)
stuck_else (op.Div t line) s is = absurd (cc)
stuck_else (op.Rem t line) s is = absurd (cc)
stuck_else (op.Add t line) s is = absurd (cc)
stuck_else (op.Sub t line) s is = absurd (cc)
stuck_else (op.Shl t line) s is = absurd (cc)
stuck_else (op.Shr t line) s is = absurd (cc)
stuck_else (op.Less t line) s is = absurd (cc)
stuck_else (op.Greater t line) s is = absurd (cc)
stuck_else (op.LessEqual t line) s is = absurd (cc)
stuck_else (op.GreaterEqual t line) s is = absurd (cc)
stuck_else (op.Equal t line) s is = absurd (cc)
stuck_else (op.NotEqual t line) s is = absurd (cc)
stuck_else (op.And t line) s is = absurd (cc)
stuck_else (op.Xor t line) s is = absurd (cc)
stuck_else (op.Or t line) s is = absurd (cc)
stuck_else (op.Minus t line) s is = absurd (cc)
stuck_else (op.Complement t line) s is = absurd (cc)
stuck_else op.GetChar s is = absurd (cc)
stuck_else (op.PutChar line) s is = absurd (cc)
stuck_else (op.Jump to) s is = refl
stuck_else (op.Back to) s is = refl
stuck_else (op.IfZero to) s is = refl
stuck_else (op.IfNot to) s is = refl
stuck_else (op.CaseJump n to) s is = refl
stuck_else (op.Call g line) s is = refl
stuck_else op.Return s is = refl
stuck_else op.Exit s is = refl
stuck_else (op.Count n) s is = refl
stuck_else op.PathBegin s is = refl
stuck_else (op.PathPass w) s is = refl
