-- The faults of names and types that stand in an expression: the rows of the table of faults, at each form and then in
-- its parts.
use Rattle.std.specs.Prelude.{
  ℕ,
  ◌+◌,
  ◌==◌,
  Bool,
  true,
  false,
  cond,
  ◌&&◌,
  List,
  [],
  ◌∷◌,
  ◌++◌,
  length,
  Option,
  Some,
  None,
}
use Rattle.c_tree.specs.declared.expr.Base.{Base}
use Rattle.c_tree.specs.declared.expr.Base.TheVariants as base
use Rattle.c_tree.specs.declared.typed_expr.Callee.{Callee}
use Rattle.c_tree.specs.Expr.{Expr, Kind, Exprs}
use Rattle.c_tree.specs.TypedParts.{base_of}
use Rattle.c_typing.specs.declared.fault.TypeFault.{TypeFault}
use Rattle.c_typing.specs.declared.fault.TypeFault.TheVariants as fault
use Rattle.c_typing.specs.declared.names.Meaning.{Meaning}
use Rattle.c_typing.specs.declared.names.Meaning.TheVariants as meant
use Rattle.c_typing.specs.Names.{Scope, meaning}
use Rattle.c_typing.specs.TypedForms.{typed, int, is_void}

-- the type of an expression with these faults: int where there is one
abbrev pub counted : List TypeFault → Base → Base
counted [] b = b
counted (f ∷ fs) b = int

-- void has no value (C17 6.3.2.2)
abbrev pub void_value : Base → ℕ → List TypeFault
void_value base.Void place = fault.VoidValue place ∷ []
void_value (base.Int t) place = []

-- the faults of an expression where a value is wanted
abbrev pub wanted : List TypeFault → Base → ℕ → List TypeFault
wanted fs b place = fs ++ void_value (counted fs b) place

-- a name that stands as a value (C17 6.5.1 paragraph 2; in the C profile no name of a function or an array does)
abbrev pub name_faults : Option Meaning → ℕ → List TypeFault
name_faults None place = fault.Unknown place ∷ []
name_faults (Some (meant.Function f result params)) place = fault.NotAVariable place ∷ []
name_faults (Some (meant.Variable c (Some n) t)) place = fault.ArrayValue place ∷ []
name_faults (Some (meant.Variable c None t)) place = []

-- a name that is indexed (C17 6.5.2.1 paragraph 1)
abbrev pub index_faults : Option Meaning → ℕ → List TypeFault
index_faults None place = fault.Unknown place ∷ []
index_faults (Some (meant.Variable c (Some n) t)) place = []
index_faults (Some _) place = fault.NotAnArray place ∷ []

-- the called function is never defined (C17 6.9 paragraph 5)
abbrev pub body_faults : Option Callee → ℕ → List TypeFault
body_faults None place = fault.NoBody place ∷ []
body_faults (Some f) place = []

-- there are as many arguments as parameters (C17 6.5.2.2 paragraph 2)
abbrev pub count_faults : ℕ → ℕ → ℕ → List TypeFault
count_faults params args place = cond (params == args) [] (fault.ArgCount place ∷ [])

-- a name that is called with so many arguments (C17 6.5.2.2 paragraph 1)
abbrev pub call_faults : Option Meaning → ℕ → ℕ → List TypeFault
call_faults None args place = fault.Unknown place ∷ []
call_faults (Some (meant.Variable c n t)) args place = fault.NotAFunction place ∷ []
call_faults (Some (meant.Function f result params)) args place =
    body_faults f place ++ count_faults (length params) args place

-- the second and third operand of `?:`: both void, or both with a value (C17 6.5.15 paragraph 3)
abbrev pub sides : List TypeFault → Base → ℕ → List TypeFault → Base → ℕ → List TypeFault
sides fs b p gs c q = cond (is_void (counted fs b) && is_void (counted gs c)) [] (wanted fs b p ++ wanted gs c q)

-- how many expressions there are
abbrev pub count : Exprs → ℕ
count Exprs.End = 0
count (Exprs.More e es) = 1 + count es

-- the place of an expression
abbrev pub at : Expr → ℕ
at (Expr.At kind place line) = place

-- the form inside all parentheses (C17 6.5.1 paragraph 5)
abbrev mutual
  pub bare : Expr → Kind
  bare (Expr.At kind place line) = bare_kind kind

  -- that of a form
  pub bare_kind : Kind → Kind
  bare_kind (Kind.Paren e) = bare e
  bare_kind kind = kind

-- it means a function
abbrev pub is_function : Option Meaning → Bool
is_function (Some (meant.Function f result params)) = true
is_function _ = false

-- What is assigned or stepped, by its form without parentheses, with the place of the operator and the faults that it
-- has as a value: it
-- is to be a variable or an element (C17 6.5.16 paragraph 2, 6.5.2.4 paragraph 1, 6.5.3.1 paragraph 1).
abbrev pub changed : List Scope → Kind → ℕ → List TypeFault → List TypeFault
changed n (Kind.Name name) operator fs = cond (is_function (meaning n name)) (fault.NotAVariable operator ∷ []) fs
changed n (Kind.Index name p l e) operator fs = fs
changed n _ operator fs = fs ++ fault.NotAVariable operator ∷ []

abbrev mutual
  -- the faults in an expression, for the scopes in which it stands
  pub faults : List Scope → Expr → List TypeFault
  faults n (Expr.At kind place line) = kind_faults n kind place

  -- Those at the form, and those in its parts. A value is wanted of each operand (C17 6.5.3.3 paragraph 1, 6.5.4
  -- paragraph 2, 6.5.5 to
  -- 6.5.14 paragraphs 2, 6.5.15 paragraph 2, 6.5.16), but for the operand of a cast to void and those of a comma
  -- (6.5.17 paragraph 2).
  pub kind_faults : List Scope → Kind → ℕ → List TypeFault
  kind_faults n (Kind.Name name) place = name_faults (meaning n name) place
  kind_faults n (Kind.Number number t) place = []
  kind_faults n Kind.EofName place = []
  kind_faults n (Kind.Paren e) place = faults n e
  kind_faults n (Kind.Call name args) place = call_faults (meaning n name) (count args) place ++ args_faults n args
  kind_faults n (Kind.Index name p l e) place =
      index_faults (meaning n name) p ++ wanted (faults n e) (base_of (typed n e)) (at e)
  kind_faults n (Kind.Plus e) place = wanted (faults n e) (base_of (typed n e)) (at e)
  kind_faults n (Kind.Minus e) place = wanted (faults n e) (base_of (typed n e)) (at e)
  kind_faults n (Kind.Complement e) place = wanted (faults n e) (base_of (typed n e)) (at e)
  kind_faults n (Kind.Not e) place = wanted (faults n e) (base_of (typed n e)) (at e)
  kind_faults n (Kind.Cast base.Void e) place = faults n e
  kind_faults n (Kind.Cast (base.Int t) e) place = wanted (faults n e) (base_of (typed n e)) (at e)
  kind_faults n (Kind.Binary o l r) place =
      wanted (faults n l) (base_of (typed n l)) (at l) ++ wanted (faults n r) (base_of (typed n r)) (at r)
  kind_faults n (Kind.AndAlso l r) place =
      wanted (faults n l) (base_of (typed n l)) (at l) ++ wanted (faults n r) (base_of (typed n r)) (at r)
  kind_faults n (Kind.OrElse l r) place =
      wanted (faults n l) (base_of (typed n l)) (at l) ++ wanted (faults n r) (base_of (typed n r)) (at r)
  kind_faults n (Kind.Choose c x y) place =
      wanted (faults n c) (base_of (typed n c)) (at c)
      ++ sides (faults n x) (base_of (typed n x)) (at x) (faults n y) (base_of (typed n y)) (at y)
  kind_faults n (Kind.Assign o l r) place =
      changed n (bare l) place (faults n l) ++ wanted (faults n r) (base_of (typed n r)) (at r)
  kind_faults n (Kind.Before o e) place = changed n (bare e) place (faults n e)
  kind_faults n (Kind.After o e) place = changed n (bare e) place (faults n e)
  kind_faults n (Kind.Comma l r) place = faults n l ++ faults n r

  -- the faults in arguments: each is a value
  pub args_faults : List Scope → Exprs → List TypeFault
  args_faults n Exprs.End = []
  args_faults n (Exprs.More e es) = wanted (faults n e) (base_of (typed n e)) (at e) ++ args_faults n es

-- the faults of an expression where a value is wanted, for the scopes in which it stands
abbrev pub value_faults : List Scope → Expr → List TypeFault
value_faults n e = wanted (faults n e) (base_of (typed n e)) (at e)

-- the faults of two operands with values
abbrev pub operand_faults : List Scope → Expr → Expr → List TypeFault
operand_faults n l r = value_faults n l ++ value_faults n r

-- those of two operands of which a value isn't wanted
abbrev pub both_faults : List Scope → Expr → Expr → List TypeFault
both_faults n l r = faults n l ++ faults n r

-- those of an element of an array, which has this name at this place
abbrev pub element_faults : List Scope → List ℕ → ℕ → Expr → List TypeFault
element_faults n name place index = index_faults (meaning n name) place ++ value_faults n index

-- those of the second and third operand of `?:`
abbrev pub sides_faults : List Scope → Expr → Expr → List TypeFault
sides_faults n x y = sides (faults n x) (base_of (typed n x)) (at x) (faults n y) (base_of (typed n y)) (at y)

-- those of its three operands
abbrev pub choice_faults : List Scope → Expr → Expr → Expr → List TypeFault
choice_faults n c x y = value_faults n c ++ sides_faults n x y

-- those of what is assigned or stepped by the operator at a place
abbrev pub target_faults : List Scope → Expr → ℕ → List TypeFault
target_faults n e operator = changed n (bare e) operator (faults n e)

-- those of an assignment by the operator at a place
abbrev pub assigned_faults : List Scope → Expr → Expr → ℕ → List TypeFault
assigned_faults n l r operator = target_faults n l operator ++ value_faults n r
