-- Declarations of variables: what they declare, their typed form and their faults (C17 6.7).
use Rattle.std.specs.Prelude.{
  ℕ,
  ◌+◌,
  ◌-◌,
  nat_le,
  Bool,
  true,
  false,
  cond,
  ◌&&◌,
  ℤ,
  pos,
  negsuc,
  List,
  [],
  ◌∷◌,
  ◌++◌,
  length,
  map,
  flat_map,
  replicate,
  Option,
  Some,
  None,
  option_and_then,
  unwrap_or,
}
use Rattle.cov_base.specs.Limits.{array_limit}
use Rattle.int_ops.specs.declared.types.IntType.{IntType}
use Rattle.int_ops.specs.Conversion.{convert}
use Rattle.c_tree.specs.declared.expr.Base.TheVariants as base
use Rattle.c_tree.specs.declared.typed_expr.CellAt.{CellAt}
use Rattle.c_tree.specs.declared.typed_expr.CellAt.TheVariants as cell
use Rattle.c_tree.specs.Expr.{Expr}
use Rattle.c_tree.specs.Stmt.{Size, Init, Var}
use Rattle.c_tree.specs.TypedStmt.{TypedInit, TypedVar}
use Rattle.c_tree.specs.TypedParts.{cells_of}
use Rattle.c_typing.specs.declared.fault.TypeFault.{TypeFault}
use Rattle.c_typing.specs.declared.fault.TypeFault.TheVariants as fault
use Rattle.c_typing.specs.declared.names.Meaning.TheVariants as meant
use Rattle.c_typing.specs.Names.{Scope, Here, is_declared, declare}
use Rattle.c_typing.specs.TypedForms.{typed, converted, number_type}
use Rattle.c_typing.specs.Constants.{constant}
use Rattle.c_typing.specs.ExprFaults.{void_value, value_faults}

-- the number of elements that a list of initialisers counts (C17 6.7.9 paragraph 22)
abbrev pub listed : Init → Option ℕ
listed (Init.Several es) = Some (length es)
listed _ = None

-- the number as a length, where it is one from 1 to the limit (C17 6.7.6.2 paragraph 1; the C profile)
abbrev pub as_length : ℕ → Option ℕ
as_length n = cond (nat_le 1 n && nat_le n array_limit) (Some n) None

-- a number as a length, where it is one
abbrev pub length_in : ℤ → Option ℕ
length_in (pos n) = as_length n
length_in (negsuc n) = None

-- the length that an array is given, or counts from its list, where it is one
abbrev pub array_length : List Scope → Size → Init → Option ℕ
array_length n Size.Scalar init = None
array_length n Size.Unsized init = option_and_then as_length (listed init)
array_length n (Size.Len e) init = option_and_then length_in (constant (typed n e))

-- the length of a variable where it is an array; 1 stands for a length that is none
abbrev pub length_of : List Scope → Size → Init → Option ℕ
length_of n Size.Scalar init = None
length_of n size init = Some (unwrap_or (array_length n size init) 1)

-- the length of a declared variable, for the scopes before it (C17 6.2.1 paragraph 7)
abbrev pub var_length : List Scope → Var → Option ℕ
var_length n v = length_of n v.size v.init

-- A point behind a declarator, which declares the variable in the next cell. Its scope begins here, before its
-- initialiser (C17 6.2.1
-- paragraph 7).
abbrev pub declare_var : (ℕ → CellAt) → Here → Var → Here
declare_var at h v = record {
  scopes = declare v.name (meant.Variable (at h.next) (var_length h.scopes v) (number_type v.base)) h.scopes;
  next = h.next + cells_of (var_length h.scopes v);
}

-- behind several declarators
abbrev pub declare_vars : (ℕ → CellAt) → Here → List Var → Here
declare_vars at h [] = h
declare_vars at h (v ∷ vs) = declare_vars at (declare_var at h v) vs

-- there are no more initialisers than elements (C17 6.7.9 paragraph 2)
abbrev pub fits : Option ℕ → Option ℕ → Bool
fits None count = false
fits (Some n) None = true
fits (Some n) (Some count) = nat_le count n

-- the faults of what stands in the brackets (C17 6.7.6.2)
abbrev pub bracket_faults : List Scope → Size → List TypeFault
bracket_faults n (Size.Len e) = value_faults n e
bracket_faults n _ = []

-- those of an array's length, with the place of the name (C17 6.7.6.2 paragraphs 1 and 4, 6.7.9 paragraphs 2 and 22)
abbrev pub size_faults : List Scope → Size → Init → ℕ → List TypeFault
size_faults n Size.Scalar init place = []
size_faults n size init place =
    bracket_faults n size ++ cond (fits (array_length n size init) (listed init)) [] (fault.ArraySize place ∷ [])

-- a list for a scalar, or a single initialiser for an array (C17 6.7.9 paragraphs 11 and 16; the C profile)
abbrev pub form_faults : Size → Init → ℕ → List TypeFault
form_faults size Init.Absent place = []
form_faults Size.Scalar (Init.One e) place = []
form_faults size (Init.One e) place = fault.ArrayValue place ∷ []
form_faults Size.Scalar (Init.Several es) place = fault.ArrayValue place ∷ []
form_faults size (Init.Several es) place = []

-- a name that is declared again in the innermost scope (C17 6.7 paragraph 3)
abbrev pub again_faults : List Scope → List ℕ → ℕ → List TypeFault
again_faults n name place = cond (is_declared n name) (fault.Redeclared place ∷ []) []

-- those of a variable but for its initialiser's parts: its type (C17 6.7 paragraph 7, 6.2.5 paragraph 19), its length,
-- its name and the
-- form of its initialiser
abbrev pub declarator_faults : List Scope → Var → List TypeFault
declarator_faults n v =
    void_value v.base v.place
    ++ (size_faults n v.size v.init v.place ++ (again_faults n v.name v.place ++ form_faults v.size v.init v.place))

-- those in a local initialiser: a value is wanted (C17 6.7.9 paragraph 11)
abbrev pub init_faults : List Scope → Init → List TypeFault
init_faults n Init.Absent = []
init_faults n (Init.One e) = value_faults n e
init_faults n (Init.Several es) = flat_map (value_faults n) es

-- those of a local variable
abbrev pub var_faults : Here → Var → List TypeFault
var_faults h v = declarator_faults h.scopes v ++ init_faults (declare_var cell.Local h v).scopes v.init

-- those of a declaration's variables
abbrev pub vars_faults : Here → List Var → List TypeFault
vars_faults h [] = []
vars_faults h (v ∷ vs) = var_faults h v ++ vars_faults (declare_var cell.Local h v) vs

-- an initialiser converted to the variable's type (C17 6.7.9 paragraph 11)
abbrev pub typed_init : List Scope → IntType → Init → TypedInit
typed_init n t Init.Absent = TypedInit.Absent
typed_init n t (Init.One e) = TypedInit.One (converted (typed n e) (base.Int t))
typed_init n t (Init.Several es) = TypedInit.Several (map (λ e. converted (typed n e) (base.Int t)) es)

-- the typed form of a local variable
abbrev pub typed_var : Here → Var → TypedVar
typed_var h v = record {
  cell = h.next;
  number_type = number_type v.base;
  length = var_length h.scopes v;
  init = typed_init (declare_var cell.Local h v).scopes (number_type v.base) v.init;
  place = v.place;
  line = v.line;
}

-- those of a declaration's variables
abbrev pub typed_vars : Here → List Var → List TypedVar
typed_vars h [] = []
typed_vars h (v ∷ vs) = typed_var h v ∷ typed_vars (declare_var cell.Local h v) vs

-- a global's initialiser is a constant expression (C17 6.7.9 paragraph 4)
abbrev pub constant_faults : Option ℤ → ℕ → List TypeFault
constant_faults None place = fault.NotConstant place ∷ []
constant_faults (Some n) place = []

-- the faults in it, with the place of the global's name
abbrev pub number_faults : List Scope → ℕ → Expr → List TypeFault
number_faults n place e = value_faults n e ++ constant_faults (constant (typed n e)) place

-- those in a global's initialiser
abbrev pub numbers_faults : List Scope → ℕ → Init → List TypeFault
numbers_faults n place Init.Absent = []
numbers_faults n place (Init.One e) = number_faults n place e
numbers_faults n place (Init.Several es) = flat_map (number_faults n place) es

-- those of a global
abbrev pub global_faults : Here → Var → List TypeFault
global_faults h v = declarator_faults h.scopes v ++ numbers_faults (declare_var cell.Global h v).scopes v.place v.init

-- those of a declaration's globals
abbrev pub globals_faults : Here → List Var → List TypeFault
globals_faults h [] = []
globals_faults h (v ∷ vs) = global_faults h v ++ globals_faults (declare_var cell.Global h v) vs

-- the number that an initialiser gives to a cell of the type (C17 6.7.9 paragraph 11)
abbrev pub number : List Scope → IntType → Expr → ℤ
number n t e = convert t (unwrap_or (constant (typed n e)) (pos 0))

-- the numbers that an initialiser gives
abbrev pub given_numbers : List Scope → IntType → Init → List ℤ
given_numbers n t Init.Absent = []
given_numbers n t (Init.One e) = number n t e ∷ []
given_numbers n t (Init.Several es) = map (number n t) es

-- so many numbers: these, and behind them 0 (C17 6.7.9 paragraphs 10 and 21)
abbrev pub filled : ℕ → List ℤ → List ℤ
filled size given = given ++ replicate (size - length given) (pos 0)

-- the numbers that the cells of a global begin with
abbrev pub numbers : Here → Var → List ℤ
numbers h v =
    filled (cells_of (var_length h.scopes v)) (given_numbers (declare_var cell.Global h v).scopes (number_type v.base)
    v.init)

-- those of a declaration's globals
abbrev pub all_numbers : Here → List Var → List ℤ
all_numbers h [] = []
all_numbers h (v ∷ vs) = numbers h v ++ all_numbers (declare_var cell.Global h v) vs
