-- A typed form is no deeper than what it is made of.
use Rattle.std.proofs.Common.{
  arith,
  ◌≡◌,
  refl,
  ℕ,
  ◌+◌,
  ◌≤◌,
  max,
  Bool,
  true,
  false,
  cond,
  ◌&&◌,
  List,
  [],
  ◌∷◌,
  map,
  Option,
  Some,
  None,
  option_map,
}
use Rattle.int_ops.specs.declared.types.IntType.{IntType}
use Rattle.int_ops.specs.declared.operators.BinOp.{BinOp}
use Rattle.c_tree.specs.declared.expr.Base.{Base}
use Rattle.c_tree.specs.declared.expr.Base.TheVariants as base
use Rattle.c_tree.specs.declared.typed_expr.CellAt.TheVariants as cell
use Rattle.c_tree.specs.Expr.{Expr, Kind, Exprs}
use Rattle.c_tree.specs.Stmt.{Init, Var, Stmt, OtherStmt, ForHead, Stmts, SwitchItem, SwitchItems}
use Rattle.c_tree.specs.TypedExpr.{TypedExpr, TypedKind, TypedExprs}
use Rattle.c_tree.specs.Levels.{
  levels,
  kind_levels,
  args_levels,
  levels_if,
  most,
  init_levels,
  var_levels,
  stmt_levels,
  other_levels,
  head_levels,
  stmts_levels,
  items_levels,
  typed_levels,
  typed_args_levels,
  typed_levels_if,
  typed_init_levels,
  typed_stmt_levels,
  other_typed_levels,
  typed_head_levels,
  typed_stmts_levels,
  typed_items_levels,
}
use Rattle.c_tree.specs.TypedParts.{Class, class, compares, shifts, computes, base_of, place_of, line_of}
use Rattle.c_typing.specs.declared.names.Meaning.{Meaning}
use Rattle.c_typing.specs.declared.names.Meaning.TheVariants as meant
use Rattle.c_typing.specs.Names.{Scope, meaning, Here, inner, leaving}
use Rattle.c_typing.specs.TypedForms.{
  same_base,
  is_void,
  number_type,
  converted,
  named,
  element,
  passed,
  called,
  operated,
  chosen_in,
  taken,
  promoted_base,
  common_base,
  typed,
  typed_kind,
  typed_args,
}
use Rattle.c_typing.specs.Declarations.{declare_var, typed_init, typed_vars}
use Rattle.c_typing.specs.Statements.{
  after,
  after_other,
  after_head,
  typed_stmt,
  typed_other,
  typed_head,
  typed_stmts,
  typed_items,
}

converted_by : (b : Bool) (e : TypedExpr) (to : Base) (place line : ℕ) → typed_levels
    (cond b e (TypedExpr.At (TypedKind.Convert e) to place line)) ≡ typed_levels e
converted_by true e to place line = refl
converted_by false e to place line = refl

-- a conversion adds none
as_deep : (e : TypedExpr) (to : Base) → typed_levels (converted e to) ≡ typed_levels e
as_deep e to = converted_by (same_base (base_of e) to) e to (place_of e) (line_of e)

named_levels : (m : Option Meaning) (place line : ℕ) → typed_levels (named m place line) ≡ 1
named_levels None place line = refl
named_levels (Some (meant.Function f result params)) place line = refl
named_levels (Some (meant.Variable c None t)) place line = refl
named_levels (Some (meant.Variable c (Some n) t)) place line = refl

element_levels : (m : Option Meaning) (p q : ℕ) (e : TypedExpr) (place line : ℕ) → typed_levels
    (element m p q e place line) ≤ 1 + typed_levels e
element_levels None p q e place line = omega arith
element_levels (Some (meant.Function f result params)) p q e place line = omega arith
element_levels (Some (meant.Variable c None t)) p q e place line = omega arith
element_levels (Some (meant.Variable c (Some n) t)) p q e place line = omega arith

passed_levels : (bs : List Base) (es : TypedExprs) → typed_args_levels (passed bs es) ≡ typed_args_levels es
passed_levels [] es = refl
passed_levels (b ∷ bs) TypedExprs.End = refl
passed_levels (b ∷ bs) (TypedExprs.More e es) =
    (let x = as_deep e b in let rest = passed_levels bs es in rw (x, rest) refl)

called_levels : (m : Option Meaning) (args : TypedExprs) (place line : ℕ) → typed_levels (called m args place line) ≤ 1
    + typed_args_levels args
called_levels None args place line = omega arith
called_levels (Some (meant.Variable c n t)) args place line = omega arith
called_levels (Some (meant.Function None result params)) args place line = omega arith
called_levels (Some (meant.Function (Some f) result params)) args place line =
    (let same = passed_levels params args in omega (arith, same))

operated_levels : (c : Class) (o : BinOp) (l r : TypedExpr) (place line : ℕ) → typed_levels
    (operated c o l r place line) ≡ 1 + max (typed_levels l) (typed_levels r)
operated_levels compares o l r place line =
    rw (as_deep l (common_base (base_of l) (base_of r)), as_deep r (common_base (base_of l) (base_of r))) refl
operated_levels shifts o l r place line =
    rw (as_deep l (promoted_base (base_of l)), as_deep r (promoted_base (base_of r))) refl
operated_levels computes o l r place line =
    rw (as_deep l (common_base (base_of l) (base_of r)), as_deep r (common_base (base_of l) (base_of r))) refl

chosen_by : (b : Bool) (to : Base) (c x y : TypedExpr) (place line : ℕ)
    → typed_levels (cond b (TypedExpr.At (TypedKind.Choose c x y) base.Void place line) (chosen_in to c x y place line))
    ≡ 1 + max (typed_levels c) (max (typed_levels x) (typed_levels y))
chosen_by true to c x y place line = refl
chosen_by false to c x y place line = rw (as_deep x to, as_deep y to) refl

mutual
  -- an expression
  pub no_deeper : (e : Expr) (n : List Scope) → typed_levels (typed n e) ≤ levels e
  no_deeper (Expr.At kind place line) n = kind_no_deeper kind place line n

  kind_no_deeper : (kind : Kind) (place line : ℕ) (n : List Scope) → typed_levels (typed_kind n kind place line) ≤ 1 +
      kind_levels kind
  kind_no_deeper (Kind.Name name) place line n = (let x = named_levels (meaning n name) place line in omega (arith, x))
  kind_no_deeper (Kind.Number k t) place line n = omega arith
  kind_no_deeper Kind.EofName place line n = omega arith
  kind_no_deeper (Kind.Paren e) place line n = (let x = no_deeper e n in omega (arith, x))
  kind_no_deeper (Kind.Call name args) place line n =
      (let x = called_levels (meaning n name) (typed_args n args) place line in let y = args_no_deeper args n in omega
      (arith, x, y))
  kind_no_deeper (Kind.Index name p q e) place line n =
      (let x =
      element_levels (meaning n name) p q (typed n e) place line in let y = no_deeper e n in omega (arith, x, y))
  kind_no_deeper (Kind.Plus e) place line n =
      (let x =
      as_deep (typed n e) (promoted_base (base_of (typed n e))) in let y = no_deeper e n in omega (arith, x, y))
  kind_no_deeper (Kind.Minus e) place line n =
      (let x =
      as_deep (typed n e) (promoted_base (base_of (typed n e))) in let y = no_deeper e n in omega (arith, x, y))
  kind_no_deeper (Kind.Complement e) place line n =
      (let x =
      as_deep (typed n e) (promoted_base (base_of (typed n e))) in let y = no_deeper e n in omega (arith, x, y))
  kind_no_deeper (Kind.Not e) place line n = (let y = no_deeper e n in omega (arith, y))
  kind_no_deeper (Kind.Cast to e) place line n = (let y = no_deeper e n in omega (arith, y))
  kind_no_deeper (Kind.Binary o a b) place line n =
      (let z = operated_levels (class o) o (typed n a) (typed n b) place line in let x = no_deeper a n in let y =
      no_deeper b n in omega (arith, x, y, z))
  kind_no_deeper (Kind.AndAlso a b) place line n =
      (let x = no_deeper a n in let y = no_deeper b n in omega (arith, x, y))
  kind_no_deeper (Kind.OrElse a b) place line n =
      (let x = no_deeper a n in let y = no_deeper b n in omega (arith, x, y))
  kind_no_deeper (Kind.Choose c a b) place line n =
      let w = chosen_by (is_void (base_of (typed n a)) && is_void (base_of (typed n b)))
      (common_base (base_of (typed n a)) (base_of (typed n b))) (typed n c) (typed n a) (typed n b) place line in
      let x = no_deeper a n in let y = no_deeper b n in let z = no_deeper c n in omega (arith, w, x, y, z)
  kind_no_deeper (Kind.Assign o a b) place line n =
      let z = as_deep (typed n b) (taken o (base_of (typed n a)) (base_of (typed n b))) in
      let x = no_deeper a n in let y = no_deeper b n in omega (arith, x, y, z)
  kind_no_deeper (Kind.Before o e) place line n = (let y = no_deeper e n in omega (arith, y))
  kind_no_deeper (Kind.After o e) place line n = (let y = no_deeper e n in omega (arith, y))
  kind_no_deeper (Kind.Comma a b) place line n = (let x = no_deeper a n in let y = no_deeper b n in omega (arith, x, y))

  args_no_deeper : (es : Exprs) (n : List Scope) → typed_args_levels (typed_args n es) ≤ args_levels es
  args_no_deeper Exprs.End n = omega arith
  args_no_deeper (Exprs.More e es) n = (let x = no_deeper e n in let y = args_no_deeper es n in omega (arith, x, y))

converted_no_deeper : (e : Expr) (n : List Scope) (to : Base) → typed_levels (converted (typed n e) to) ≤ levels e
converted_no_deeper e n to = (let x = as_deep (typed n e) to in let y = no_deeper e n in omega (arith, x, y))

inits_no_deeper : (es : List Expr) (n : List Scope) (to : Base) → most typed_levels
    (map (λ e. converted (typed n e) to) es) ≤ most levels es
inits_no_deeper [] n to = omega arith
inits_no_deeper (e ∷ es) n to =
    (let x = converted_no_deeper e n to in let y = inits_no_deeper es n to in omega (arith, x, y))

init_no_deeper : (init : Init) (n : List Scope) (t : IntType) → typed_init_levels (typed_init n t init) ≤ init_levels
    init
init_no_deeper Init.Absent n t = omega arith
init_no_deeper (Init.One e) n t = converted_no_deeper e n (base.Int t)
init_no_deeper (Init.Several es) n t = inits_no_deeper es n (base.Int t)

vars_no_deeper : (vs : List Var) (h : Here) → most (λ v. typed_init_levels v.init) (typed_vars h vs) ≤ most var_levels
    vs
vars_no_deeper [] h = omega arith
vars_no_deeper (v ∷ vs) h =
    let x = init_no_deeper v.init (declare_var cell.Local h v).scopes (number_type v.base) in
    let y = vars_no_deeper vs (declare_var cell.Local h v) in
    omega (arith, x, y)

if_no_deeper : (e : Option Expr) (n : List Scope) → typed_levels_if (option_map (typed n) e) ≤ levels_if e
if_no_deeper None n = omega arith
if_no_deeper (Some e) n = no_deeper e n

returned_no_deeper : (e : Option Expr) (n : List Scope) (to : Base) → typed_levels_if
    (option_map (λ x. converted (typed n x) to) e) ≤ levels_if e
returned_no_deeper None n to = omega arith
returned_no_deeper (Some e) n to = converted_no_deeper e n to

mutual
  -- a statement
  pub stmt_no_deeper : (a : Stmt) (result : Base) (h : Here) → typed_stmt_levels (typed_stmt result h a) ≤ stmt_levels a
  stmt_no_deeper (Stmt.Vars vars) result h = (let x = vars_no_deeper vars h in omega (arith, x))
  stmt_no_deeper (Stmt.Block ss) result h = (let x = stmts_no_deeper ss result (inner h) in omega (arith, x))
  stmt_no_deeper Stmt.Empty result h = omega arith
  stmt_no_deeper (Stmt.Value e) result h = (let x = no_deeper e h.scopes in omega (arith, x))
  stmt_no_deeper (Stmt.If e a other) result h =
      let x = no_deeper e h.scopes in let y = stmt_no_deeper a result (inner h) in let z = other_no_deeper other result
      (inner (leaving h (after (inner h) a))) in
      omega (arith, x, y, z)
  stmt_no_deeper (Stmt.While e a) result h =
      (let x = no_deeper e h.scopes in let y = stmt_no_deeper a result (inner h) in omega (arith, x, y))
  stmt_no_deeper (Stmt.DoWhile a e line) result h =
      (let x = no_deeper e h.scopes in let y = stmt_no_deeper a result (inner h) in omega (arith, x, y))
  stmt_no_deeper (Stmt.For head a) result h =
      let x = head_no_deeper head result (inner h) in let y = stmt_no_deeper a result (after_head (inner h) head) in
      omega (arith, x, y)
  stmt_no_deeper (Stmt.Switch e is) result h =
      let x = converted_no_deeper e h.scopes (promoted_base (base_of (typed h.scopes e))) in
      let y = items_no_deeper is result (inner h) (promoted_base (base_of (typed h.scopes e))) in
      omega (arith, x, y)
  stmt_no_deeper (Stmt.Break place line) result h = omega arith
  stmt_no_deeper (Stmt.Continue place line) result h = omega arith
  stmt_no_deeper (Stmt.Return e place line) result h =
      (let x = returned_no_deeper e h.scopes result in omega (arith, x))

  other_no_deeper : (a : OtherStmt) (result : Base) (h : Here) → other_typed_levels (typed_other result h a) ≤
      other_levels a
  other_no_deeper OtherStmt.Nothing result h = omega arith
  other_no_deeper (OtherStmt.There a) result h = stmt_no_deeper a result h

  head_no_deeper : (head : ForHead) (result : Base) (h : Here) → typed_head_levels (typed_head result h head) ≤
      head_levels head
  head_no_deeper (ForHead.Head first test step) result h =
      let x = other_no_deeper first result h in
      let y = if_no_deeper test (after_other h first).scopes in
      let z = if_no_deeper step (after_other h first).scopes in
      omega (arith, x, y, z)

  pub stmts_no_deeper : (ss : Stmts) (result : Base) (h : Here) → typed_stmts_levels (typed_stmts result h ss) ≤
      stmts_levels ss
  stmts_no_deeper Stmts.End result h = omega arith
  stmts_no_deeper (Stmts.More a ss) result h =
      (let x = stmt_no_deeper a result h in let y = stmts_no_deeper ss result (after h a) in omega (arith, x, y))

  items_no_deeper : (is : SwitchItems) (result : Base) (h : Here) (b : Base) → typed_items_levels
      (typed_items result h b is) ≤ items_levels is
  items_no_deeper SwitchItems.Last result h b = omega arith
  items_no_deeper (SwitchItems.Further (SwitchItem.Case e place) is) result h b =
      (let y = items_no_deeper is result h b in omega (arith, y))
  items_no_deeper (SwitchItems.Further (SwitchItem.Default place) is) result h b =
      (let y = items_no_deeper is result h b in omega (arith, y))
  items_no_deeper (SwitchItems.Further (SwitchItem.Item a) is) result h b =
      (let x = stmt_no_deeper a result h in let y = items_no_deeper is result (after h a) b in omega (arith, x, y))
