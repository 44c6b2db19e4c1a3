-- What a check of names and types answers.
use Rattle.std.specs.Prelude.{◌≡◌, ℕ, List, [], ◌∷◌, ◌++◌, map, Contains, Result, Ok, Err}
use Rattle.cov_base.specs.declared.refusal.Refusal.{Refusal}
use Rattle.cov_base.specs.declared.refusal.Refusal.TheVariants as refusal
use Rattle.c_tree.specs.declared.expr.Base.{Base}
use Rattle.c_tree.specs.declared.typed_expr.TypedExpr.{TypedExpr as Held}
use Rattle.c_tree.specs.TypedExpr.{TypedExpr, TypedExprs}
use Rattle.c_tree.specs.TypedView.{typed_expr_view, typed_exprs_of}
use Rattle.c_typing.specs.declared.fault.TypeFault.{TypeFault}
use Rattle.c_typing.specs.declared.fault.TypeFault.TheVariants as fault
use Rattle.c_typing.specs.Names.{Here}
use Rattle.c_typing.specs.TypedForms.{converted}
use Rattle.c_values.specs.declared.expr.Designated.{Designated}
use Rattle.c_values.specs.declared.expr.Designated.TheVariants as designated

-- a refusal names a fault that stands, or memory ran out
abbrev pub Stands : List TypeFault → Refusal TypeFault → Type 0
Stands fs (refusal.Refused f) = Contains fs f
Stands fs refusal.NoMemory = Unit {0}

-- an answer for what has these faults: it is there exactly where there is none, and then it is seen as this
abbrev pub Checks : {A V : Type 0} → (A → V) → List TypeFault → V → Result A (Refusal TypeFault) → Type 0
Checks view fs x (Ok a) = (fs ≡ []) × (view a ≡ x)
Checks view fs x (Err e) = Stands fs e

-- the same of a test, whose answer says no more than that there is none
abbrev pub Passes : {A : Type 0} → List TypeFault → Result A (Refusal TypeFault) → Type 0
Passes fs (Ok a) = fs ≡ []
Passes fs (Err e) = Stands fs e

-- the same of a part of the text, behind which the check stands at this point
abbrev pub Goes : {A V : Type 0} → (A → V) → List TypeFault → V → Here → Result A (Refusal TypeFault) → Here → Type 0
Goes view fs x behind (Ok a) now = (fs ≡ []) × (view a ≡ x) × (now ≡ behind)
Goes view fs x behind (Err e) now = Stands fs e

-- the same of a part of the text of which nothing is made
abbrev pub Moves : {A : Type 0} → List TypeFault → Here → Result A (Refusal TypeFault) → Here → Type 0
Moves fs behind (Ok a) now = (fs ≡ []) × (now ≡ behind)
Moves fs behind (Err e) now = Stands fs e

-- two typed expressions, as the definitions see them
abbrev pub pair_view : Held × Held → TypedExpr × TypedExpr
pair_view p = (typed_expr_view p.0, typed_expr_view p.1)

-- the faults of what is assigned or stepped by the operator at a place, by what it designates and the faults that it has
-- as a value
abbrev pub turned : Designated → ℕ → List TypeFault → List TypeFault
turned designated.Function operator fs = fault.NotAVariable operator ∷ []
turned designated.Variable operator fs = fs
turned designated.Neither operator fs = fs ++ fault.NotAVariable operator ∷ []

-- an argument in the type of the first of these parameters (C17 6.5.2.2 paragraph 7)
abbrev pub passed_first : List Base → TypedExpr → TypedExpr
passed_first [] e = e
passed_first (b ∷ bs) e = converted e b

-- a list of typed expressions
abbrev pub args_view : List Held → TypedExprs
args_view es = typed_exprs_of (map typed_expr_view es)
