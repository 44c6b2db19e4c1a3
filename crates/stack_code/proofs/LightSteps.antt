-- Operations on the lists alone, as instructions: they lead to the next one only, and name what is there.
use Rattle.std.proofs.Common.{◌≡◌, refl, ℕ, ◌+◌, true, List, length}
use Rattle.std.proofs.Common.{None, arith}
use Rattle.std.specs.Prelude.{ℤ}
use Rattle.std.proofs.lemmas.Bool.{lt-ltb, le-leb}
use Rattle.stack_ops.specs.declared.operation.Op.{Op}
use Rattle.stack_ops.specs.declared.operation.Op.TheVariants as op
use Rattle.stack_ops.specs.Code.{FunctionValue, CodeValue}
use Rattle.stack_ops.specs.Shapes.{takes, gives, takes_in, gives_in, is_step, HasCells}
use Rattle.code_runs.specs.Checks.{later, earlier, falls, returns_well, cells_there, counter_there, row_there}

-- the rules that such an operation keeps by itself
pub record Light (c : CodeValue) (f : FunctionValue) (o : Op) : Type 0 where
  pub taken : takes_in c.functions f o ≡ takes o
  pub given : gives_in c.functions o ≡ gives o
  pub on : falls o ≡ true
  pub ahead : later o ≡ None
  pub behind : earlier o ≡ None
  pub returned : (d : ℕ) → returns_well f o d ≡ true
  pub cell : cells_there c f o ≡ true
  pub counter : counter_there f o ≡ true
  pub row : row_there f o ≡ true

module _ (c : CodeValue) (f : FunctionValue) where
  so : (o : Op) → takes_in c.functions f o ≡ takes o → gives_in c.functions o ≡ gives o → falls o ≡ true
      → later o ≡ None → earlier o ≡ None → ((d : ℕ) → returns_well f o d ≡ true) → counter_there f o ≡ true
      → row_there f o ≡ true → cells_there c f o ≡ true → Light c f o
  so o t g n l e r k w h = record {
    taken = t;
    given = g;
    on = n;
    ahead = l;
    behind = e;
    returned = r;
    cell = h;
    counter = k;
    row = w;
  }

  pub light : (o : Op) → is_step o ≡ true → (locals outer : List ℤ) → length locals ≡ f.cells
      → length outer ≡ length c.globals → HasCells o locals outer → Light c f o
  light (op.Push n) s locals outer e g h = so (op.Push n) refl refl refl refl refl (λ d. refl) refl refl refl
  light op.Dup s locals outer e g h = so op.Dup refl refl refl refl refl (λ d. refl) refl refl refl
  light op.Drop s locals outer e g h = so op.Drop refl refl refl refl refl (λ d. refl) refl refl refl
  light op.Swap s locals outer e g h = so op.Swap refl refl refl refl refl (λ d. refl) refl refl refl
  light op.Over s locals outer e g h = so op.Over refl refl refl refl refl (λ d. refl) refl refl refl
  light (op.Convert t) s locals outer e g h = so (op.Convert t) refl refl refl refl refl (λ d. refl) refl refl refl
  light op.Not s locals outer e g h = so op.Not refl refl refl refl refl (λ d. refl) refl refl refl
  light (op.LoadLocal w) s locals outer e g h =
      so (op.LoadLocal w) refl refl refl refl refl (λ d. refl) refl refl (lt-ltb w f.cells (omega (arith, h, e)))
  light (op.StoreLocal w) s locals outer e g h =
      so (op.StoreLocal w) refl refl refl refl refl (λ d. refl) refl refl (lt-ltb w f.cells (omega (arith, h, e)))
  light (op.LoadGlobal w) s locals outer e g h =
      so (op.LoadGlobal w) refl refl refl refl refl (λ d. refl) refl refl
      (lt-ltb w (length c.globals) (omega (arith, h, g)))
  light (op.StoreGlobal w) s locals outer e g h =
      so (op.StoreGlobal w) refl refl refl refl refl (λ d. refl) refl refl
      (lt-ltb w (length c.globals) (omega (arith, h, g)))
  light (op.CheckIndex n line) s locals outer e g h =
      so (op.CheckIndex n line) refl refl refl refl refl (λ d. refl) refl refl refl
  light (op.LoadLocalAt b n) s locals outer e g h =
      so (op.LoadLocalAt b n) refl refl refl refl refl (λ d. refl) refl refl
      (le-leb (b + n) f.cells (omega (arith, h, e)))
  light (op.StoreLocalAt b n) s locals outer e g h =
      so (op.StoreLocalAt b n) refl refl refl refl refl (λ d. refl) refl refl
      (le-leb (b + n) f.cells (omega (arith, h, e)))
  light (op.LoadGlobalAt b n) s locals outer e g h =
      so (op.LoadGlobalAt b n) refl refl refl refl refl (λ d. refl) refl refl
      (le-leb (b + n) (length c.globals) (omega (arith, h, g)))
  light (op.StoreGlobalAt b n) s locals outer e g h =
      so (op.StoreGlobalAt b n) refl refl refl refl refl (λ d. refl) refl refl
      (le-leb (b + n) (length c.globals) (omega (arith, h, g)))
  light (op.Mul t line) s locals outer e g h = so (op.Mul t line) refl refl refl refl refl (λ d. refl) refl refl refl
  light (op.Div t line) s locals outer e g h = so (op.Div t line) refl refl refl refl refl (λ d. refl) refl refl refl
  light (op.Rem t line) s locals outer e g h = so (op.Rem t line) refl refl refl refl refl (λ d. refl) refl refl refl
  light (op.Add t line) s locals outer e g h = so (op.Add t line) refl refl refl refl refl (λ d. refl) refl refl refl
  light (op.Sub t line) s locals outer e g h = so (op.Sub t line) refl refl refl refl refl (λ d. refl) refl refl refl
  light (op.Shl t line) s locals outer e g h = so (op.Shl t line) refl refl refl refl refl (λ d. refl) refl refl refl
  light (op.Shr t line) s locals outer e g h = so (op.Shr t line) refl refl refl refl refl (λ d. refl) refl refl refl
  light (op.Less t line) s locals outer e g h = so (op.Less t line) refl refl refl refl refl (λ d. refl) refl refl refl
  light (op.Greater t line) s locals outer e g h =
      so (op.Greater t line) refl refl refl refl refl (λ d. refl) refl refl refl
  light (op.LessEqual t line) s locals outer e g h =
      so (op.LessEqual t line) refl refl refl refl refl (λ d. refl) refl refl refl
  light (op.GreaterEqual t line) s locals outer e g h =
      so (op.GreaterEqual t line) refl refl refl refl refl (λ d. refl) refl refl refl
  light (op.Equal t line) s locals outer e g h =
      so (op.Equal t line) refl refl refl refl refl (λ d. refl) refl refl refl
  light (op.NotEqual t line) s locals outer e g h =
      so (op.NotEqual t line) refl refl refl refl refl (λ d. refl) refl refl refl
  light (op.And t line) s locals outer e g h = so (op.And t line) refl refl refl refl refl (λ d. refl) refl refl refl
  light (op.Xor t line) s locals outer e g h = so (op.Xor t line) refl refl refl refl refl (λ d. refl) refl refl refl
  light (op.Or t line) s locals outer e g h = so (op.Or t line) refl refl refl refl refl (λ d. refl) refl refl refl
  light (op.Minus t line) s locals outer e g h =
      so (op.Minus t line) refl refl refl refl refl (λ d. refl) refl refl refl
  light (op.Complement t line) s locals outer e g h =
      so (op.Complement t line) refl refl refl refl refl (λ d. refl) refl refl refl
  light op.GetChar s locals outer e g h = so op.GetChar refl refl refl refl refl (λ d. refl) refl refl refl
  light (op.PutChar line) s locals outer e g h =
      so (op.PutChar line) refl refl refl refl refl (λ d. refl) refl refl refl
  light (op.Jump w) s locals outer e g h = absurd (cc)
  light (op.Back w) s locals outer e g h = absurd (cc)
  light (op.IfZero w) s locals outer e g h = absurd (cc)
  light (op.IfNot w) s locals outer e g h = absurd (cc)
  light (op.CaseJump n w) s locals outer e g h = absurd (cc)
  light (op.Call n w) s locals outer e g h = absurd (cc)
  light op.Return s locals outer e g h = absurd (cc)
  light op.Exit s locals outer e g h = absurd (cc)
  light (op.Count w) s locals outer e g h = absurd (cc)
  light op.PathBegin s locals outer e g h = absurd (cc)
  light (op.PathPass w) s locals outer e g h = absurd (cc)
