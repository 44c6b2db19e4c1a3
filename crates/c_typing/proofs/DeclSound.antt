-- Declarations without faults have sound typed forms, and what is in scope behind them is known.
use Rattle.std.proofs.Common.{
  arith,
  ◌≡◌,
  refl,
  sym,
  ap,
  ◌∙◌,
  subst,
  inl,
  inr,
  ◌⊎◌,
  ℕ,
  suc,
  ◌<◌,
  ◌≤◌,
  nat_le,
  Bool,
  true,
  false,
  cond,
  ◌&&◌,
  ℤ,
  pos,
  negsuc,
  List,
  [],
  ◌∷◌,
  ◌++◌,
  length,
  map,
  flat_map,
  Option,
  Some,
  None,
  unwrap_or,
  option_and_then,
  bytes_eq,
}
use Rattle.std.specs.Option.{option_or}
use Rattle.std.proofs.lemmas.Bool.Decides.{leb_tells}
use Rattle.cov_base.specs.Limits.{array_limit}
use Rattle.int_ops.specs.declared.types.IntType.{IntType}
use Rattle.c_tree.specs.declared.expr.Base.TheVariants as base
use Rattle.c_tree.specs.declared.typed_expr.CellAt.{CellAt}
use Rattle.c_tree.specs.declared.typed_expr.CellAt.TheVariants as cell
use Rattle.c_tree.specs.declared.typed_expr.Callee.TheVariants as callee
use Rattle.c_tree.specs.Expr.{Expr}
use Rattle.c_tree.specs.Stmt.{Size, Init, Var}
use Rattle.c_tree.specs.Formed.{FormedExpr, FormedInit, FormedVar}
use Rattle.c_tree.specs.TypedStmt.{TypedVar}
use Rattle.c_tree.specs.Sound.{
  Scope,
  Variable,
  Each,
  IsLength,
  HasCells,
  SoundAt,
  SoundInit,
  SoundVar,
  SoundVars,
  with_one,
  with_all,
}
use Rattle.c_tree.specs.TypedParts.{cells_of, size}
use Rattle.c_typing.specs.declared.fault.TypeFault.{TypeFault}
use Rattle.c_typing.specs.declared.fault.TypeFault.TheVariants as fault
use Rattle.c_typing.specs.declared.names.Meaning.{Meaning}
use Rattle.c_typing.specs.declared.names.Meaning.TheVariants as meant
use Rattle.c_typing.specs.Names.{Scope as Names, found, meaning, declare, Here}
use Rattle.c_typing.specs.TypedForms.{typed, converted, number_type}
use Rattle.c_typing.specs.ExprFaults.{void_value, value_faults}
use Rattle.c_typing.specs.Constants.{constant}
use Rattle.c_typing.specs.Declarations.{
  listed,
  as_length,
  length_in,
  array_length,
  length_of,
  var_length,
  declare_var,
  declare_vars,
  fits,
  size_faults,
  form_faults,
  again_faults,
  declarator_faults,
  init_faults,
  var_faults,
  vars_faults,
  typed_init,
  typed_var,
  typed_vars,
}
use Rattle.c_typing.proofs.TypeLaws.{not_none, none_left, none_right}
use Rattle.c_typing.proofs.FindLaws.{some_is, no_some, IsLast, meaning_last}
use Rattle.c_typing.proofs.ExprSound.{IsLengthOf, IsKnown, Knows, lifted, sound_value}

known_by : (s : Scope) (n : List Names) (name k : List ℕ) (m x : Meaning) → Knows s n → IsKnown s m →
    (meaning n k ≡ Some x) ⊎ IsLast k name x m
    → IsKnown s x
known_by s n name k m x known this (inl is) = known k x is
known_by s n name k m x known this (inr is) = subst (IsKnown s) (sym is.0) this

pub knows_more : (s : Scope) (n : List Names) (name : List ℕ) (m : Meaning) → Knows s n → IsKnown s m → Knows s
    (declare name m n)
knows_more s n name m known this k x e = known_by s n name k m x known this (meaning_last n name k m x e)

-- inside a further scope
pub knows_inner : (s : Scope) (n : List Names) → Knows s n → Knows s ([] ∷ n)
knows_inner s n known name m e = known name m e

-- with one more variable in scope
abbrev beside : Scope → Variable → Scope
beside s x = record s { variables = x ∷ s.variables }

same_cells : (s : Scope) (x : Variable) (c : CellAt) (n : ℕ) (t : IntType) → HasCells s c n t → HasCells (beside s x) c
    n t
same_cells s x (cell.Local k) n t h = h
same_cells s x (cell.Global k) n t h = h

wider : (s : Scope) (x : Variable) (m : Meaning) → IsKnown s m → IsKnown (beside s x) m
wider s x (meant.Variable c n t) h =
    let v = h.0 in
    (((suc v.0.0, omega (arith, v.0.1), v.0.2), (v.1.0, v.1.1, same_cells s x c (cells_of n) v.1.0 v.1.2)), h.1)
wider s x (meant.Function None result params) h = h
wider s x (meant.Function (Some (callee.Function f)) result params) h = h
wider s x (meant.Function (Some callee.GetChar) result params) h = h
wider s x (meant.Function (Some callee.PutChar) result params) h = h
wider s x (meant.Function (Some callee.Exit) result params) h = h

pub knows_wider : (s : Scope) (x : Variable) (n : List Names) → Knows s n → Knows (beside s x) n
knows_wider s x n known name m e = wider s x m (known name m e)

told : (a b : ℕ) → ((nat_le a b ≡ true) × (a ≤ b)) ⊎ ((nat_le a b ≡ false) × (b < a)) → nat_le a b ≡ true → a ≤ b
told a b (inl h) e = h.1
told a b (inr h) e = (let false_is : ◌≡◌ {A = Bool} true false = sym e ∙ h.0 in absurd (cc))

at_most : (a b : ℕ) → nat_le a b ≡ true → a ≤ b
at_most a b e = told a b (leb_tells a b) e

-- lengths are in range
within_by : (n : ℕ) (a b : Bool) (k : ℕ) → (a ≡ true → 1 ≤ n) → (b ≡ true → n ≤ array_limit) → cond (a && b) (Some n)
    None ≡ Some k → IsLength k
within_by n true true k low high e = subst IsLength (some_is n k e) (record { some = low refl; most = high refl })
within_by n true false k low high e = absurd (no_some k e)
within_by n false b k low high e = absurd (no_some k e)

as_length_is : (n k : ℕ) → as_length n ≡ Some k → IsLength k
as_length_is n k e = within_by n (nat_le 1 n) (nat_le n array_limit) k (at_most 1 n) (at_most n array_limit) e

listed_is : (o : Option ℕ) (k : ℕ) → option_and_then as_length o ≡ Some k → IsLength k
listed_is None k e = absurd (no_some k e)
listed_is (Some n) k e = as_length_is n k e

length_in_is : (o : Option ℤ) (k : ℕ) → option_and_then length_in o ≡ Some k → IsLength k
length_in_is None k e = absurd (no_some k e)
length_in_is (Some (pos n)) k e = as_length_is n k e
length_in_is (Some (negsuc n)) k e = absurd (no_some k e)

or_one : (o : Option ℕ) → ((k : ℕ) → o ≡ Some k → IsLength k) → IsLength (unwrap_or o 1)
or_one None h = record { some = omega arith; most = omega arith }
or_one (Some k) h = h k refl

pub is_length : (n : List Names) (z : Size) (init : Init) → IsLength (cells_of (length_of n z init))
is_length n Size.Scalar init = record { some = omega arith; most = omega arith }
is_length n Size.Unsized init = or_one (array_length n Size.Unsized init) (listed_is (listed init))
is_length n (Size.Len e) init = or_one (array_length n (Size.Len e) init) (length_in_is (constant (typed n e)))

pub length_known : (o : Option ℕ) → IsLength (cells_of o) → IsLengthOf o
length_known None h = tt
length_known (Some k) h = h

-- the cells of a variable are there
abbrev pub HasVar : Scope → TypedVar → Type 0
HasVar s v = HasCells s (cell.Local v.cell) (size v) v.number_type

each_init : (es : List Expr) (s : Scope) (n : List Names) (t : IntType) → Knows s n → Each FormedExpr es → flat_map
    (value_faults n) es ≡ []
    → Each (SoundAt s t) (map (λ e. converted (typed n e) (base.Int t)) es)
each_init [] s n t known formed none = tt
each_init (e ∷ es) s n t known formed none = (
  lifted s (typed n e) (base.Int t) (t, refl) (sound_value e s n known formed.0
      (none_left (value_faults n e) _ none)),
  each_init es s n t known formed.1 (none_right (value_faults n e) _ none),
)

pub mapped : {A B : Type 0} (f : A → B) (xs : List A) → length (map f xs) ≡ length xs
mapped f [] = refl
mapped f (x ∷ xs) = ap suc (mapped f xs)

fits_by : (b : Bool) (m n : ℕ) (f : TypeFault) → (b ≡ true → m ≤ n) → cond b [] (f ∷ []) ≡ [] → m ≤ n
fits_by true m n f h none = h refl
fits_by false m n f h none = absurd (not_none _ _ none)

pub fits_in : (o : Option ℕ) (m : ℕ) (f : TypeFault) → cond (fits o (Some m)) [] (f ∷ []) ≡ [] → m ≤ unwrap_or o 1
fits_in None m f none = absurd (not_none _ _ none)
fits_in (Some n) m f none = fits_by (nat_le m n) m n f (at_most m n) none

listed_sound : (es : List Expr) (s : Scope) (n : List Names) (t : IntType) (k : ℕ) → Knows s n → FormedInit
    (Init.Several es) → flat_map (value_faults n) es ≡ []
    → length es ≤ k → SoundInit s t (Some k) (typed_init n t (Init.Several es))
listed_sound es s n t k known formed none fit =
    let same = mapped (λ e. converted (typed n e) (base.Int t)) es in
    (subst (λ m. 1 ≤ m) (sym same) formed.0, subst (λ m. m ≤ k) (sym same) fit, each_init es s n t known formed.1 none)

init_sound : (z : Size) (init : Init) (s : Scope) (before n : List Names) (t : IntType) (place : ℕ) → Knows s n →
    FormedInit init
    → size_faults before z init place ≡ [] → form_faults z init place ≡ [] → init_faults n init ≡ []
    → SoundInit s t (length_of before z init) (typed_init n t init)
init_sound z Init.Absent s before n t place known formed sized form none = tt
init_sound Size.Scalar (Init.One e) s before n t place known formed sized form none =
    lifted s (typed n e) (base.Int t) (t, refl) (sound_value e s n known formed none)
init_sound Size.Unsized (Init.One e) s before n t place known formed sized form none = absurd (not_none _ _ form)
init_sound (Size.Len l) (Init.One e) s before n t place known formed sized form none = absurd (not_none _ _ form)
init_sound Size.Scalar (Init.Several es) s before n t place known formed sized form none = absurd (not_none _ _ form)
init_sound Size.Unsized (Init.Several es) s before n t place known formed sized form none =
    listed_sound es s n t _ known formed none (fits_in (array_length before Size.Unsized (Init.Several es)) (length es)
    (fault.ArraySize place) sized)
init_sound (Size.Len l) (Init.Several es) s before n t place known formed sized form none =
    listed_sound es s n t _ known formed none
    (fits_in (array_length before (Size.Len l) (Init.Several es)) (length es) (fault.ArraySize place)
    (none_right (value_faults before l) _ sized))

-- what a declarator declares is known behind it
var_known : (s : Scope) (h : Here) (v : Var) → HasVar s (typed_var h v)
    → IsKnown (with_one s (typed_var h v)) (meant.Variable (cell.Local h.next) (var_length h.scopes v)
    (number_type v.base))
var_known s h v has = (
  ((0, omega arith, refl), (number_type v.base, refl, has)),
  length_known (var_length h.scopes v)
      (is_length h.scopes v.size v.init),
)

pub var_knows : (s : Scope) (h : Here) (v : Var) → Knows s h.scopes → HasVar s (typed_var h v) → Knows
    (with_one s (typed_var h v)) (declare_var cell.Local h v).scopes
var_knows s h v known has =
    knows_more (with_one s (typed_var h v)) h.scopes v.name
    (meant.Variable (cell.Local h.next) (var_length h.scopes v) (number_type v.base))
    (knows_wider s (record {
      first =
          cell.Local h.next;
      length = var_length h.scopes v;
    }) h.scopes known) (var_known s h v has)

pub var_sound : (s : Scope) (h : Here) (v : Var) → Knows s h.scopes → FormedVar v → var_faults h v ≡ [] → HasVar s
    (typed_var h v)
    → SoundVar (with_one s (typed_var h v)) (typed_var h v)
var_sound s h v known formed none has =
    let own = none_left (declarator_faults h.scopes v) _ none in
    let rest = none_right (void_value v.base v.place) _ own in
    let sized = none_left (size_faults h.scopes v.size v.init v.place) _ rest in
    let form = none_right (again_faults h.scopes v.name v.place) _
    (none_right (size_faults h.scopes v.size v.init v.place) _ rest) in
    record {
      line = formed.line;
      long = is_length h.scopes v.size v.init;
      cells = has;
      init = init_sound v.size v.init (with_one s (typed_var h v)) h.scopes (declare_var cell.Local h v).scopes
          (number_type v.base) v.place
          (var_knows s h v known has) formed.init sized form (none_right (declarator_faults h.scopes v) _ none);
    }

-- variables that are declared one behind another
pub vars_sound : (vs : List Var) (s : Scope) (h : Here) → Knows s h.scopes → Each FormedVar vs → vars_faults h vs ≡ []
    → Each (HasVar s) (typed_vars h vs)
    → SoundVars s (typed_vars h vs) × Knows (with_all s (typed_vars h vs)) (declare_vars cell.Local h vs).scopes
vars_sound [] s h known formed none has = (tt, known)
vars_sound (v ∷ vs) s h known formed none has =
    let rest = vars_sound vs (with_one s (typed_var h v)) (declare_var cell.Local h v) (var_knows s h v known has.0)
    formed.1
    (none_right (var_faults h v) _ none) has.1 in
    ((var_sound s h v known formed.0 (none_left (var_faults h v) _ none) has.0, rest.0), rest.1)
