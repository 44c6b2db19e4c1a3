-- Declarations and initialisers that are checked one behind another.
use Rattle.std.proofs.Common.{◌≡◌, refl, sym, ap, ◌∙◌, ℕ, ◌+◌, Bool, true, false, cond, List, [], ◌∷◌, ◌++◌, Option, map, flat_map, ℤ}
use Rattle.int_ops.specs.declared.types.IntType.{IntType}
use Rattle.c_tree.specs.declared.expr.Base.TheVariants as base
use Rattle.c_tree.specs.declared.expr.Expr.{Expr as ExprHeld}
use Rattle.c_tree.specs.declared.stmt.Var.{Var as VarHeld}
use Rattle.c_tree.specs.declared.typed_expr.CellAt.{CellAt}
use Rattle.c_tree.specs.declared.typed_expr.CellAt.TheVariants as cell
use Rattle.c_tree.specs.Stmt.{Var}
use Rattle.c_tree.specs.TypedParts.{cells_of}
use Rattle.c_tree.specs.TypedExpr.{TypedExpr}
use Rattle.c_tree.specs.TypedStmt.{TypedVar}
use Rattle.c_tree.specs.TreeView.{expr_view, var_view}
use Rattle.c_typing.specs.declared.fault.TypeFault.TheVariants as fault
use Rattle.c_typing.specs.declared.names.Meaning.TheVariants as meant
use Rattle.c_typing.specs.Names.{Scope, Here, is_declared, declare}
use Rattle.c_typing.specs.TypedForms.{typed, converted, number_type}
use Rattle.c_typing.specs.ExprFaults.{void_value, value_faults}
use Rattle.c_typing.specs.Declarations.{
  again_faults,
  size_faults,
  form_faults,
  declarator_faults,
  var_length,
  declare_var,
  declare_vars,
  var_faults,
  vars_faults,
  typed_var,
  typed_vars,
  number,
  number_faults,
  global_faults,
  globals_faults,
  numbers,
  all_numbers,
}
use Rattle.c_typing.proofs.TypeLaws.{not_none, none_left, none_right}
use Rattle.c_values.proofs.ListLaws.{Walk, faults_in, seen_in, behind}

-- a name without fault isn't declared
pub again : (b : Bool) (place : ℕ) → cond b (fault.Redeclared place ∷ []) [] ≡ [] → b ≡ false
again true place e = absurd (not_none (fault.Redeclared place) [] e)
again false place e = refl

-- a variable without fault has a new name
pub new_name : (n : List Scope) (v : Var) → declarator_faults n v ≡ [] → is_declared n v.name ≡ false
new_name n v e = again (is_declared n v.name) v.place
    (none_left (again_faults n v.name v.place) (form_faults v.size v.init v.place)
    (none_right (size_faults n v.size v.init v.place) (again_faults n v.name v.place ++ form_faults v.size v.init v.place)
    (none_right (void_value v.base v.place)
    (size_faults n v.size v.init v.place ++ (again_faults n v.name v.place ++ form_faults v.size v.init v.place)) e)))

-- a variable of this cell and length is declared
pub declared_is : (at : ℕ → CellAt) (h now : Here) (v : Var) (cell : ℕ) (length : Option ℕ) → cell ≡ h.next
    → length ≡ var_length h.scopes v → now ≡ record {
      scopes = declare v.name (meant.Variable (at cell) length (number_type v.base)) h.scopes;
      next = h.next + cells_of length;
    } → now ≡ declare_var at h v
declared_is at h now v cell length first long is =
    is ∙ (ap (λ c. after c length) first ∙ ap (λ l. after h.next l) long)
  where
    after : ℕ → Option ℕ → Here
    after c l = record {
      scopes = declare v.name (meant.Variable (at c) l (number_type v.base)) h.scopes;
      next = h.next + cells_of l;
    }

-- initialisers of elements of a type
abbrev pub initialisers : IntType → Walk ExprHeld TypedExpr (List Scope)
initialisers t = record {
  faults = λ n e. value_faults n (expr_view e);
  seen = λ n e. converted (typed n (expr_view e)) (base.Int t) ∷ [];
  next = λ n e. n;
}

pub init_faults_are : (t : IntType) (n : List Scope) (es : List ExprHeld) → faults_in (initialisers t) n es
    ≡ flat_map (value_faults n) (map expr_view es)
init_faults_are t n [] = refl
init_faults_are t n (e ∷ es) = ap (λ fs. value_faults n (expr_view e) ++ fs) (init_faults_are t n es)

pub inits_are : (t : IntType) (n : List Scope) (es : List ExprHeld) → seen_in (initialisers t) n es
    ≡ map (λ e. converted (typed n e) (base.Int t)) (map expr_view es)
inits_are t n [] = refl
inits_are t n (e ∷ es) = ap (λ xs. converted (typed n (expr_view e)) (base.Int t) ∷ xs) (inits_are t n es)

-- local variables
abbrev pub locals : Walk VarHeld TypedVar Here
locals = record {
  faults = λ h v. var_faults h (var_view v);
  seen = λ h v. typed_var h (var_view v) ∷ [];
  next = λ h v. declare_var cell.Local h (var_view v);
}

pub local_faults_are : (h : Here) (vs : List VarHeld) → faults_in locals h vs ≡ vars_faults h (map var_view vs)
local_faults_are h [] = refl
local_faults_are h (v ∷ vs) =
    ap (λ fs. var_faults h (var_view v) ++ fs) (local_faults_are (declare_var cell.Local h (var_view v)) vs)

pub locals_are : (h : Here) (vs : List VarHeld) → seen_in locals h vs ≡ typed_vars h (map var_view vs)
locals_are h [] = refl
locals_are h (v ∷ vs) =
    ap (λ xs. typed_var h (var_view v) ∷ xs) (locals_are (declare_var cell.Local h (var_view v)) vs)

pub locals_end : (h : Here) (vs : List VarHeld) → behind locals h vs ≡ declare_vars cell.Local h (map var_view vs)
locals_end h [] = refl
locals_end h (v ∷ vs) = locals_end (declare_var cell.Local h (var_view v)) vs

-- initialisers of a global of a type, whose name has this place
abbrev pub constants : IntType → ℕ → Walk ExprHeld ℤ (List Scope)
constants t place = record {
  faults = λ n e. number_faults n place (expr_view e);
  seen = λ n e. number n t (expr_view e) ∷ [];
  next = λ n e. n;
}

pub constant_faults_are : (t : IntType) (place : ℕ) (n : List Scope) (es : List ExprHeld)
    → faults_in (constants t place) n es ≡ flat_map (number_faults n place) (map expr_view es)
constant_faults_are t place n [] = refl
constant_faults_are t place n (e ∷ es) =
    ap (λ fs. number_faults n place (expr_view e) ++ fs) (constant_faults_are t place n es)

pub constants_are : (t : IntType) (place : ℕ) (n : List Scope) (es : List ExprHeld)
    → seen_in (constants t place) n es ≡ map (number n t) (map expr_view es)
constants_are t place n [] = refl
constants_are t place n (e ∷ es) = ap (λ xs. number n t (expr_view e) ∷ xs) (constants_are t place n es)

-- globals
abbrev pub globals : Walk VarHeld ℤ Here
globals = record {
  faults = λ h v. global_faults h (var_view v);
  seen = λ h v. numbers h (var_view v);
  next = λ h v. declare_var cell.Global h (var_view v);
}

pub global_faults_are : (h : Here) (vs : List VarHeld) → faults_in globals h vs ≡ globals_faults h (map var_view vs)
global_faults_are h [] = refl
global_faults_are h (v ∷ vs) =
    ap (λ fs. global_faults h (var_view v) ++ fs) (global_faults_are (declare_var cell.Global h (var_view v)) vs)

pub numbers_are : (h : Here) (vs : List VarHeld) → seen_in globals h vs ≡ all_numbers h (map var_view vs)
numbers_are h [] = refl
numbers_are h (v ∷ vs) =
    ap (λ xs. numbers h (var_view v) ++ xs) (numbers_are (declare_var cell.Global h (var_view v)) vs)

pub globals_end : (h : Here) (vs : List VarHeld) → behind globals h vs ≡ declare_vars cell.Global h (map var_view vs)
globals_end h [] = refl
globals_end h (v ∷ vs) = globals_end (declare_var cell.Global h (var_view v)) vs
