-- A whole source: its functions and globals, its faults, and its typed form (C17 6.9, 6.7.6.3).
use Rattle.std.specs.Prelude.{
  ℕ,
  ◌+◌,
  ◌==◌,
  nat_lt,
  Bool,
  true,
  false,
  cond,
  ◌&&◌,
  ℤ,
  List,
  [],
  ◌∷◌,
  ◌++◌,
  length,
  map,
  flat_map,
  position,
  Option,
  Some,
  None,
  option_map,
  unwrap_or,
  bytes_eq,
  codes,
  Contains,
}
use Rattle.std.specs.List.{list_any}
use Rattle.cov_base.specs.Limits.{parameter_limit}
use Rattle.c_tree.specs.declared.expr.Base.{Base}
use Rattle.c_tree.specs.declared.expr.Base.TheVariants as base
use Rattle.c_tree.specs.declared.typed_expr.CellAt.TheVariants as cell
use Rattle.c_tree.specs.declared.typed_expr.Callee.{Callee}
use Rattle.c_tree.specs.declared.typed_expr.Callee.TheVariants as callee
use Rattle.c_tree.specs.Stmt.{Stmts}
use Rattle.c_tree.specs.Tree.{Param, Head, Outer, Tree}
use Rattle.c_tree.specs.Typed.{TypedFunction, Typed}
use Rattle.c_tree.specs.Sound.{Inside}
use Rattle.c_typing.specs.declared.fault.TypeFault.{TypeFault}
use Rattle.c_typing.specs.declared.fault.TypeFault.TheVariants as fault
use Rattle.c_typing.specs.declared.names.Meaning.{Meaning}
use Rattle.c_typing.specs.declared.names.Meaning.TheVariants as meant
use Rattle.c_typing.specs.Names.{Scope, Here, meaning, is_declared, declare}
use Rattle.c_typing.specs.TypedForms.{same_base, int, number_type}
use Rattle.c_typing.specs.ExprFaults.{void_value}
use Rattle.c_typing.specs.Declarations.{again_faults, declare_vars, globals_faults, all_numbers}
use Rattle.c_typing.specs.Statements.{after_all, typed_stmts}
use Rattle.c_typing.specs.StmtFaults.{stmts_faults}

-- the functions that are declared and defined before the text (the C profile; C17 7.21.7.6, 7.21.7.8, 7.22.4.4)
abbrev pub before_the_text : Scope
before_the_text =
    (codes "getchar", meant.Function (Some callee.GetChar) int [])
    ∷ (codes "putchar", meant.Function (Some callee.PutChar) int (int ∷ []))
    ∷ (codes "exit", meant.Function (Some callee.Exit) base.Void (int ∷ [])) ∷ []

-- the names of the functions that a source defines, in the order of their definitions (C17 6.9.1)
abbrev pub defined : List Outer → List (List ℕ)
defined [] = []
defined (Outer.Function head body ∷ rest) = head.name ∷ defined rest
defined (_ ∷ rest) = defined rest

-- the types of a function's parameters
abbrev pub param_bases : Head → List Base
param_bases head = map (λ p. p.base) head.params

-- what a call of the name calls: the function that is the first of this name, where there is one
abbrev pub callee_of : List (List ℕ) → List ℕ → Option Callee
callee_of names name = option_map (λ k. callee.Function k) (position (bytes_eq name) names)

-- what a head declares
abbrev pub head_meaning : List (List ℕ) → Head → Meaning
head_meaning names head = meant.Function (callee_of names head.name) head.base (param_bases head)

-- A point of the file: the scope of the file with the next global cell, and how many functions were defined before.
pub record File : Type 0 where
  pub here : Here
  pub made : ℕ

-- the point behind a head: the first declaration of a name stands
abbrev pub declare_head : List (List ℕ) → Here → Head → Here
declare_head names h head =
    cond (is_declared h.scopes head.name) h
    (record { scopes = declare head.name (head_meaning names head) h.scopes; next = h.next })

-- two lists of types are the same
abbrev pub same_bases : List Base → List Base → Bool
same_bases [] [] = true
same_bases (a ∷ left) (b ∷ right) = same_base a b && same_bases left right
same_bases _ _ = false

-- what the name of a head means agrees with the head (C17 6.7 paragraph 4, 6.7.6.3 paragraph 15)
abbrev pub agrees : Option Meaning → Head → Bool
agrees (Some (meant.Function f result params)) head = same_base result head.base && same_bases params (param_bases head)
agrees _ head = false

-- it is the function that is defined behind so many
abbrev pub is_own : Option Meaning → ℕ → Bool
is_own (Some (meant.Function (Some (callee.Function k)) result params)) made = k == made
is_own _ made = false

-- what a parameter declares, where it has a name: a variable in the next cell (C17 6.9.1 paragraph 9)
abbrev pub declare_param : Here → Option (List ℕ) → Base → Here
declare_param h None b = record { scopes = h.scopes; next = h.next + 1 }
declare_param h (Some name) b =
    record {
      scopes =
          declare name (meant.Variable (cell.Local h.next) None (number_type b)) h.scopes;
      next = h.next + 1;
    }

-- behind all parameters
abbrev pub declare_params : Here → List Param → Here
declare_params h [] = h
declare_params h (p ∷ ps) = declare_params (declare_param h p.name p.base) ps

-- two parameters of one name (C17 6.7 paragraph 3)
abbrev pub param_faults : Here → Option (List ℕ) → ℕ → List TypeFault
param_faults h None place = []
param_faults h (Some name) place = again_faults h.scopes name place

-- the same of all parameters
abbrev pub params_faults : Here → List Param → List TypeFault
params_faults h [] = []
params_faults h (p ∷ ps) = param_faults h p.name p.place ++ params_faults (declare_param h p.name p.base) ps

-- a void parameter (C17 6.7.6.3 paragraph 10)
abbrev pub void_params : List Param → List TypeFault
void_params params = flat_map (λ p. void_value p.base p.place) params

-- the scope of a function's parameters and of the outermost block of its body, at their start (C17 6.2.1 paragraph 4)
abbrev pub in_function : Here → Here
in_function h = record { scopes = [] ∷ h.scopes; next = 0 }

-- where the body of a function begins
abbrev pub body_start : Here → Head → Here
body_start h head = declare_params (in_function h) head.params

-- the point behind a part of a source
abbrev pub after_outer : List (List ℕ) → File → Outer → File
after_outer names file (Outer.Vars vars) = record { here = declare_vars cell.Global file.here vars; made = file.made }
after_outer names file (Outer.Prototype head) = record { here = declare_head names file.here head; made = file.made }
after_outer names file (Outer.Function head body) =
    record { here = declare_head names file.here head; made = file.made + 1 }

-- the faults of a head that is fine with what its name means: too many parameters (the C profile), void ones, and two
-- of one name
abbrev pub own_faults : Here → Head → List TypeFault
own_faults h head =
    cond (nat_lt parameter_limit (length head.params)) (fault.TooManyParameters head.place ∷ []) []
    ++ (void_params head.params ++ params_faults (in_function h) head.params)

-- a head is Redeclared unless this holds (C17 6.7 paragraphs 3 and 4, 6.9 paragraph 3)
abbrev pub unless_fine : Bool → ℕ → List TypeFault
unless_fine fine place = cond fine [] (fault.Redeclared place ∷ [])

-- neither in a loop nor in a switch
abbrev pub outside_all : Inside
outside_all = record { breaks = false; continues = false }

-- the faults of a part of a source, where it stands
abbrev pub outer_faults : List (List ℕ) → File → Outer → List TypeFault
outer_faults names file (Outer.Vars vars) = globals_faults file.here vars
outer_faults names file (Outer.Prototype head) =
    unless_fine (agrees (meaning (declare_head names file.here head).scopes head.name) head) head.place
    ++ own_faults (declare_head names file.here head) head
outer_faults names file (Outer.Function head body) =
    unless_fine (agrees (meaning (declare_head names file.here head).scopes head.name) head
    && is_own (meaning (declare_head names file.here head).scopes head.name) file.made) head.place
    ++ (own_faults (declare_head names file.here head) head
    ++ stmts_faults head.base outside_all (body_start (declare_head names file.here head) head) body)

-- the faults of all parts of a source
abbrev pub outers_faults : List (List ℕ) → File → List Outer → List TypeFault
outers_faults names file [] = []
outers_faults names file (o ∷ rest) = outer_faults names file o ++ outers_faults names (after_outer names file o) rest

-- the part is a definition `int main(void)` (C17 5.1.2.2.1)
abbrev pub is_main : Outer → Bool
is_main (Outer.Function head body) =
    bytes_eq head.name (codes "main") && (same_base head.base int && same_bases (param_bases head) [])
is_main _ = false

-- the point at which a source begins
abbrev pub at_the_start : File
at_the_start = record { here = record { scopes = before_the_text ∷ []; next = 0 }; made = 0 }

-- All faults of a source with their places: a fault stands where it is one of these.
abbrev pub type_faults : Tree → List TypeFault
type_faults tree =
    outers_faults (defined tree.outers) at_the_start tree.outers
    ++ cond (list_any is_main tree.outers) [] (fault.NoMain tree.end ∷ [])

-- the fault stands in the source
abbrev pub TypeFaultStands : Tree → TypeFault → Type 0
TypeFaultStands tree f = Contains (type_faults tree) f

-- the typed form of a function, from the point behind its head
abbrev pub typed_function : Here → Head → Stmts → TypedFunction
typed_function h head body = record {
  name = head.name;
  line = head.line;
  result = head.base;
  params = map number_type (param_bases head);
  cells = (after_all (body_start h head) body).next;
  body = typed_stmts head.base (body_start h head) body;
}

-- the typed functions of a source, in the order of their definitions
abbrev pub typed_functions : List (List ℕ) → File → List Outer → List TypedFunction
typed_functions names file [] = []
typed_functions names file (Outer.Function head body ∷ rest) =
    typed_function (declare_head names file.here head) head body
    ∷ typed_functions names (after_outer names file (Outer.Function head body)) rest
typed_functions names file (o ∷ rest) = typed_functions names (after_outer names file o) rest

-- the numbers that the cells of the globals begin with
abbrev pub global_numbers : List (List ℕ) → File → List Outer → List ℤ
global_numbers names file [] = []
global_numbers names file (Outer.Vars vars ∷ rest) =
    all_numbers file.here vars ++ global_numbers names (after_outer names file (Outer.Vars vars)) rest
global_numbers names file (o ∷ rest) = global_numbers names (after_outer names file o) rest

-- The typed form of a source. It is meant where the source has no fault.
abbrev pub typed_of : Tree → Typed
typed_of tree = record {
  functions = typed_functions (defined tree.outers) at_the_start tree.outers;
  globals = global_numbers (defined tree.outers) at_the_start tree.outers;
  main = unwrap_or (position (bytes_eq (codes "main")) (defined tree.outers)) 0;
}
