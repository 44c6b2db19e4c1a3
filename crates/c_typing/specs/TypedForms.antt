-- The typed form of each expression, with the conversions that the source doesn't write (C17 6.3.1 and 6.5). It is
-- meant where no fault
-- stands; what has no meaning becomes the name of a cell.
use Rattle.std.specs.Prelude.{ℕ, Bool, true, false, cond, ◌&&◌, ◌==◌, List, [], ◌∷◌, Option, Some, None}
use Rattle.int_ops.specs.declared.types.IntType.{IntType}
use Rattle.int_ops.specs.declared.types.IntType.TheVariants as type
use Rattle.int_ops.specs.declared.operators.BinOp.{BinOp}
use Rattle.int_ops.specs.Codes.{type_code}
use Rattle.int_ops.specs.Common.{promoted, common_type}
use Rattle.c_tree.specs.declared.expr.Base.{Base}
use Rattle.c_tree.specs.declared.expr.Base.TheVariants as base
use Rattle.c_tree.specs.declared.typed_expr.CellAt.TheVariants as cell
use Rattle.c_tree.specs.Expr.{Expr, Kind, Exprs}
use Rattle.c_tree.specs.TypedExpr.{TypedExpr, TypedKind, TypedExprs}
use Rattle.c_tree.specs.TypedParts.{Class, class, compares, shifts, computes, base_of, place_of, line_of}
use Rattle.c_typing.specs.declared.names.Meaning.{Meaning}
use Rattle.c_typing.specs.declared.names.Meaning.TheVariants as meant
use Rattle.c_typing.specs.Names.{Scope, meaning}

-- two types are the same (C17 6.2.5)
abbrev pub same_base : Base → Base → Bool
same_base base.Void base.Void = true
same_base (base.Int t) (base.Int u) = type_code t == type_code u
same_base _ _ = false

-- the type void
abbrev pub is_void : Base → Bool
is_void base.Void = true
is_void (base.Int t) = false

-- the integer type; void counts as int (the C profile)
abbrev pub number_type : Base → IntType
number_type base.Void = type.Int
number_type (base.Int t) = t

-- the type int
abbrev pub int : Base
int = base.Int type.Int

-- the promoted type (C17 6.3.1.1 paragraph 2)
abbrev pub promoted_base : Base → Base
promoted_base b = base.Int (promoted (number_type b))

-- the type that two operands have in common (C17 6.3.1.8)
abbrev pub common_base : Base → Base → Base
common_base a b = base.Int (common_type (number_type a) (number_type b))

-- the expression in this type: as it is where it has it, and otherwise converted, at its own place (C17 6.3)
abbrev pub converted : TypedExpr → Base → TypedExpr
converted e to = cond (same_base (base_of e) to) e (TypedExpr.At (TypedKind.Convert e) to (place_of e) (line_of e))

-- what stands for an expression without meaning
abbrev pub unknown : ℕ → ℕ → TypedExpr
unknown place line = TypedExpr.At (TypedKind.Name (cell.Local 0)) int place line

-- a name: the variable that it means (C17 6.5.1 paragraph 2)
abbrev pub named : Option Meaning → ℕ → ℕ → TypedExpr
named (Some (meant.Variable c None t)) place line = TypedExpr.At (TypedKind.Name c) (base.Int t) place line
named _ place line = unknown place line

-- an index: an element of the array that the name means, with place and line of the name (C17 6.5.2.1)
abbrev pub element : Option Meaning → ℕ → ℕ → TypedExpr → ℕ → ℕ → TypedExpr
element (Some (meant.Variable c (Some n) t)) name_place name_line index place line =
    TypedExpr.At (TypedKind.Index c n name_place name_line index) (base.Int t) place line
element _ name_place name_line index place line = unknown place line

-- the arguments, each converted to the type of its parameter (C17 6.5.2.2 paragraph 7)
abbrev pub passed : List Base → TypedExprs → TypedExprs
passed [] args = args
passed (b ∷ bs) TypedExprs.End = TypedExprs.End
passed (b ∷ bs) (TypedExprs.More e es) = TypedExprs.More (converted e b) (passed bs es)

-- a call of the function that the name means; its type is the function's result (C17 6.5.2.2 paragraph 5)
abbrev pub called : Option Meaning → TypedExprs → ℕ → ℕ → TypedExpr
called (Some (meant.Function (Some f) result params)) args place line =
    TypedExpr.At (TypedKind.Call f (passed params args)) result place line
called _ args place line = unknown place line

-- the form over its operand in a type, which is its own (C17 6.5.3.3 paragraphs 2 to 4)
abbrev pub signed : (TypedExpr → TypedKind) → Base → TypedExpr → ℕ → ℕ → TypedExpr
signed form to e place line = TypedExpr.At (form (converted e to)) to place line

-- an operator over its two operands, each in a type
abbrev pub both : BinOp → Base → TypedExpr → Base → TypedExpr → Base → ℕ → ℕ → TypedExpr
both o left l right r b place line =
    TypedExpr.At (TypedKind.Binary o (converted l left) (converted r right)) b place line

-- Operators: in the common type; comparisons give an int (C17 6.5.8 paragraphs 3 and 6, 6.5.9 paragraphs 3 and 4); a
-- shift takes each
-- operand promoted, and has the type of the left one (C17 6.5.7 paragraph 3).
abbrev pub operated : Class → BinOp → TypedExpr → TypedExpr → ℕ → ℕ → TypedExpr
operated compares o l r place line =
    both o (common_base (base_of l) (base_of r)) l (common_base (base_of l) (base_of r)) r int place line
operated shifts o l r place line =
    both o (promoted_base (base_of l)) l (promoted_base (base_of r)) r (promoted_base (base_of l)) place line
operated computes o l r place line =
    both o (common_base (base_of l) (base_of r)) l (common_base (base_of l) (base_of r)) r
    (common_base (base_of l) (base_of r)) place line

-- the second and third operand of `?:` in one type
abbrev pub chosen_in : Base → TypedExpr → TypedExpr → TypedExpr → ℕ → ℕ → TypedExpr
chosen_in to c x y place line = TypedExpr.At (TypedKind.Choose c (converted x to) (converted y to)) to place line

-- `?:`: void where both are, and otherwise in their common type (C17 6.5.15 paragraph 5)
abbrev pub chosen : TypedExpr → TypedExpr → TypedExpr → ℕ → ℕ → TypedExpr
chosen c x y place line =
    cond (is_void (base_of x) && is_void (base_of y)) (TypedExpr.At (TypedKind.Choose c x y) base.Void place line)
    (chosen_in (common_base (base_of x) (base_of y)) c x y place line)

-- the type in which a value is taken that changes what has a type: the second operand's of the operator (C17 6.5.16.2
-- paragraph 3)
abbrev pub taken_by : Class → Base → Base → Base
taken_by shifts target value = promoted_base value
taken_by _ target value = common_base target value

-- and in an assignment without operator the type of what is assigned to (C17 6.5.16.1 paragraph 2)
abbrev pub taken : Option BinOp → Base → Base → Base
taken None target value = target
taken (Some o) target value = taken_by (class o) target value

-- an assignment, which has the type of what is assigned to (C17 6.5.16 paragraph 3)
abbrev pub assigned : Option BinOp → TypedExpr → TypedExpr → ℕ → ℕ → TypedExpr
assigned o target value place line =
    TypedExpr.At (TypedKind.Assign o target (converted value (taken o (base_of target) (base_of value))))
    (base_of target) place line

abbrev mutual
  -- the typed form of an expression, for the scopes in which it stands
  pub typed : List Scope → Expr → TypedExpr
  typed n (Expr.At kind place line) = typed_kind n kind place line

  -- Each form with its type: literals (C17 6.4.4), `EOF` (7.21.1), parentheses (6.5.1 paragraph 5), calls (6.5.2.2),
  -- indexes (6.5.2.1),
  -- signs (6.5.3.3), casts (6.5.4), operators (6.5.5 to 6.5.12), `&&`, `||` (6.5.13, 6.5.14), `?:` (6.5.15),
  -- assignments (6.5.16),
  -- steps (6.5.3.1, 6.5.2.4) and the comma (6.5.17).
  pub typed_kind : List Scope → Kind → ℕ → ℕ → TypedExpr
  typed_kind n (Kind.Name name) place line = named (meaning n name) place line
  typed_kind n (Kind.Number number t) place line = TypedExpr.At (TypedKind.Number number t) (base.Int t) place line
  typed_kind n Kind.EofName place line = TypedExpr.At TypedKind.EofName int place line
  typed_kind n (Kind.Paren e) place line = typed n e
  typed_kind n (Kind.Call name args) place line = called (meaning n name) (typed_args n args) place line
  typed_kind n (Kind.Index name p l e) place line = element (meaning n name) p l (typed n e) place line
  typed_kind n (Kind.Plus e) place line =
      signed TypedKind.Plus (promoted_base (base_of (typed n e))) (typed n e) place line
  typed_kind n (Kind.Minus e) place line =
      signed TypedKind.Minus (promoted_base (base_of (typed n e))) (typed n e) place line
  typed_kind n (Kind.Complement e) place line =
      signed TypedKind.Complement (promoted_base (base_of (typed n e))) (typed n e) place line
  typed_kind n (Kind.Not e) place line = TypedExpr.At (TypedKind.Not (typed n e)) int place line
  typed_kind n (Kind.Cast to e) place line = TypedExpr.At (TypedKind.Cast to (typed n e)) to place line
  typed_kind n (Kind.Binary o l r) place line = operated (class o) o (typed n l) (typed n r) place line
  typed_kind n (Kind.AndAlso l r) place line = TypedExpr.At (TypedKind.AndAlso (typed n l) (typed n r)) int place line
  typed_kind n (Kind.OrElse l r) place line = TypedExpr.At (TypedKind.OrElse (typed n l) (typed n r)) int place line
  typed_kind n (Kind.Choose c x y) place line = chosen (typed n c) (typed n x) (typed n y) place line
  typed_kind n (Kind.Assign o l r) place line = assigned o (typed n l) (typed n r) place line
  typed_kind n (Kind.Before o e) place line =
      TypedExpr.At (TypedKind.Before o (typed n e)) (base_of (typed n e)) place line
  typed_kind n (Kind.After o e) place line =
      TypedExpr.At (TypedKind.After o (typed n e)) (base_of (typed n e)) place line
  typed_kind n (Kind.Comma l r) place line =
      TypedExpr.At (TypedKind.Comma (typed n l) (typed n r)) (base_of (typed n r)) place line

  -- those of arguments
  pub typed_args : List Scope → Exprs → TypedExprs
  typed_args n Exprs.End = TypedExprs.End
  typed_args n (Exprs.More e es) = TypedExprs.More (typed n e) (typed_args n es)

-- the typed forms of two operands
abbrev pub typed_pair : List Scope → Expr → Expr → TypedExpr × TypedExpr
typed_pair n l r = (typed n l, typed n r)
