-- Open: that each name of the file is known in each body, which is the premise of `function_sound`.
-- A function without faults is sound where the file's scope is known; a typed source is no deeper than its tree.
use Rattle.std.proofs.Common.{
  arith,
  ◌≡◌,
  refl,
  sym,
  ap,
  ◌∙◌,
  subst,
  ℕ,
  zero,
  suc,
  ◌+◌,
  ◌<◌,
  ◌≤◌,
  nat_lt,
  Bool,
  true,
  false,
  cond,
  List,
  [],
  ◌∷◌,
  ◌++◌,
  length,
  map,
  get_or,
  replicate,
  Option,
  Some,
  None,
}
use Rattle.std.specs.Prelude.{Contains, slice_get}
use Rattle.cov_base.specs.Limits.{parameter_limit}
use Rattle.int_ops.specs.declared.types.IntType.{IntType}
use Rattle.int_ops.specs.declared.types.IntType.TheVariants as type
use Rattle.c_tree.specs.declared.expr.Base.{Base}
use Rattle.c_tree.specs.declared.typed_expr.CellAt.TheVariants as cell
use Rattle.c_tree.specs.Stmt.{Stmts}
use Rattle.c_tree.specs.Tree.{Param, Head, Outer, Tree}
use Rattle.c_tree.specs.Formed.{FormedStmts, FormedHead}
use Rattle.c_tree.specs.TypedStmt.{TypedVar}
use Rattle.c_tree.specs.Typed.{TypedFunction}
use Rattle.c_tree.specs.Levels.{most, outer_levels, tree_levels, typed_stmts_levels, source_levels}
use Rattle.c_tree.specs.Sound.{Scope, Variable, Each, standing, at_start, SoundFunction, declared_in, Numbered}
use Rattle.c_typing.specs.declared.fault.TypeFault.{TypeFault}
use Rattle.c_typing.specs.declared.fault.TypeFault.TheVariants as fault
use Rattle.c_typing.specs.declared.names.Meaning.TheVariants as meant
use Rattle.c_typing.specs.Names.{Here}
use Rattle.c_typing.specs.TypedForms.{number_type}
use Rattle.c_typing.specs.Statements.{after_all, typed_stmts}
use Rattle.c_typing.specs.StmtFaults.{stmts_faults}
use Rattle.c_typing.specs.Sources.{
  File,
  param_bases,
  declare_head,
  declare_param,
  declare_params,
  in_function,
  body_start,
  outside_all,
  own_faults,
  after_outer,
  typed_function,
  typed_functions,
  typed_of,
  defined,
  at_the_start,
}
use Rattle.c_typing.proofs.TypeLaws.{not_none, none_left}
use Rattle.c_typing.proofs.ExprSound.{IsKnown, Knows}
use Rattle.c_typing.proofs.DeclSound.{HasVar, knows_more, knows_inner, mapped}
use Rattle.c_typing.proofs.StmtSound.{stmts_sound}
use Rattle.c_typing.proofs.Cells.{
  all_numbered,
  cell_type,
  is_less,
  not_less,
  ends,
  LiesIn,
  each_within,
  HasType,
  each_typed,
}
use Rattle.c_typing.proofs.LevelLaws.{stmts_no_deeper}

-- the parameters from a cell on are known
abbrev KnowsParams : Scope → ℕ → List Param → Type 0
KnowsParams s next [] = Unit {0}
KnowsParams s next (p ∷ ps) =
    IsKnown s (meant.Variable (cell.Local next) None (number_type p.base)) × KnowsParams s (next + 1) ps

param_known : (name : Option (List ℕ)) (b : Base) (s : Scope) (h : Here) → Knows s h.scopes
    → IsKnown s (meant.Variable (cell.Local h.next) None (number_type b)) → Knows s (declare_param h name b).scopes
param_known None b s h known is = known
param_known (Some name) b s h known is =
    knows_more s h.scopes name (meant.Variable (cell.Local h.next) None (number_type b)) known is

param_next : (name : Option (List ℕ)) (b : Base) (h : Here) → (declare_param h name b).next ≡ h.next + 1
param_next None b h = refl
param_next (Some name) b h = refl

params_known : (ps : List Param) (s : Scope) (h : Here) → Knows s h.scopes → KnowsParams s h.next ps → Knows s
    (declare_params h ps).scopes
params_known [] s h known is = known
params_known (p ∷ ps) s h known is =
    params_known ps s (declare_param h p.name p.base) (param_known p.name p.base s h known is.0)
    (subst (λ k. KnowsParams s k ps) (sym (param_next p.name p.base h)) is.1)

params_next : (ps : List Param) (h : Here) → (declare_params h ps).next ≡ h.next + length ps
params_next [] h = omega arith
params_next (p ∷ ps) h =
    let rest = params_next ps (declare_param h p.name p.base) in
    let one = param_next p.name p.base h in
    omega (arith, rest, one)

-- these types are those of the parameters from a cell on
abbrev GivesTypes : (ℕ → IntType) → ℕ → List Param → Type 0
GivesTypes types next [] = Unit {0}
GivesTypes types next (p ∷ ps) = (types next ≡ number_type p.base) × GivesTypes types (next + 1) ps

abbrev types_of : List Param → List IntType
types_of ps = map number_type (map (λ p. p.base) ps)

gives_types : (ps : List Param) (types : ℕ → IntType) (next : ℕ) →
    ((k : ℕ) (t : IntType) → slice_get (types_of ps) k ≡ Some t → types (next + k) ≡ t)
    → GivesTypes types next ps
gives_types [] types next h = tt
gives_types (p ∷ ps) types next h =
    let none : next ≡ next + 0 = omega arith in (
      (ap types none ∙ h 0 (number_type p.base) refl),
      gives_types ps types (next + 1) (λ k t e. ap types (later k) ∙ h (suc k) t e),
    )
  where
    later : (k : ℕ) → (next + 1) + k ≡ next + suc k
    later k = omega arith

at_param : (ts : List IntType) (k : ℕ) (t : IntType) → slice_get ts k ≡ Some t → (k < length ts) ×
    (get_or ts k type.Int ≡ t)
at_param [] k t e = (let none : ◌≡◌ {A = Option IntType} None (Some t) = e in absurd (cc))
at_param (x ∷ ts) zero t e = (omega arith, (let same : ◌≡◌ {A = Option IntType} (Some x) (Some t) = e in cc))
at_param (x ∷ ts) (suc k) t e = (let rest = at_param ts k t e in (omega (arith, rest.0), rest.1))

params_there : (ps : List Param) (s : Scope) (more : List Variable) (next : ℕ)
    → ((v : Variable) → Contains (standing cell.Local next (replicate (length ps) None) ++ more) v → Contains
    s.variables v)
    → next + length ps ≤ s.cells → GivesTypes s.local_types next ps → KnowsParams s next ps
params_there [] s more next there room types = tt
params_there (p ∷ ps) s more next there room types = (
  (
    (
      there (record { first = cell.Local next; length = None }) (0, omega arith, refl),
      (number_type p.base, refl, (omega (arith, room), λ k less. ap s.local_types (same k less) ∙ types.0)),
    ),
    tt,
  ),
  params_there ps s more (next + 1) (λ v h. there v (suc h.0, omega (arith, h.1), h.2)) (omega (arith, room))
      types.1,
)
  where
    same : (k : ℕ) → k < 1 → next + k ≡ next
    same k less = omega (arith, less)

-- the types of a function's cells: those of the parameters, and then those of the variables
abbrev local_types : List IntType → List TypedVar → ℕ → IntType
local_types params vars k = cond (nat_lt k (length params)) (get_or params k type.Int) (cell_type vars k)

params_typed : (params : List IntType) (vars : List TypedVar) (k : ℕ) (t : IntType) → slice_get params k ≡ Some t →
    local_types params vars k ≡ t
params_typed params vars k t e = (let h = at_param params k t e in rw (is_less k (length params) h.0) h.1)

-- the variables of a body are there, for these types
vars_there : (vs : List TypedVar) (s : Scope) (params : List IntType) (all : List TypedVar) → s.local_types ≡
    local_types params all
    → Each (LiesIn (length params) s.cells) vs → Each (HasType (cell_type all)) vs → Each (HasVar s) vs
vars_there [] s params all same lies typed = tt
vars_there (v ∷ vs) s params all same lies typed = (
  (lies.0.1, λ k less. ap (λ f. f (v.cell + k)) same ∙ (behind k ∙ typed.0 k less)),
  vars_there vs s params all same lies.1 typed.1,
)
  where
    behind : (k : ℕ) → local_types params all (v.cell + k) ≡ cell_type all (v.cell + k)
    behind k = rw (not_less (v.cell + k) (length params) (omega (arith, lies.0.0))) refl

few_by : (b : Bool) (n : ℕ) (f : TypeFault) → (b ≡ false → n ≤ parameter_limit) → cond b (f ∷ []) [] ≡ [] → n ≤
    parameter_limit
few_by true n f h none = absurd (not_none _ _ none)
few_by false n f h none = h refl

few : (n : ℕ) → nat_lt parameter_limit n ≡ false → n ≤ parameter_limit
few n e = by (nat_lt parameter_limit n) refl
  where
    at_least : parameter_limit < n → ⊥
    at_least more = (let h : ◌≡◌ {A = Bool} true false = sym (is_less parameter_limit n more) ∙ e in cc)

    by : (b : Bool) → nat_lt parameter_limit n ≡ b → n ≤ parameter_limit
    by b is = omega (arith, at_least)

-- what is in scope in a function's body, for its file's functions and globals
abbrev pub in_body : List TypedFunction → List Variable → (ℕ → IntType) → ℕ → TypedFunction → Scope
in_body functions variables global_types globals f = record {
  functions = functions;
  variables = at_start f variables;
  global_types = global_types;
  globals = globals;
  local_types = local_types f.params (declared_in f.body);
  cells = f.cells;
  result = f.result;
}

-- A function without faults is sound, where the names of the file are known in it.
pub function_sound : (h : Here) (head : Head) (body : Stmts) (functions : List TypedFunction)
    (variables : List Variable) (global_types : ℕ → IntType) (globals : ℕ)
    → Knows (in_body functions variables global_types globals (typed_function h head body)) h.scopes
    → FormedHead head → FormedStmts body → own_faults h head ≡ []
    → stmts_faults head.base outside_all (body_start h head) body ≡ []
    → SoundFunction functions variables global_types globals (typed_function h head body)
function_sound h head body functions variables global_types globals known formed_head formed_body own none = record {
  name = formed_head.name;
  line = formed_head.line;
  params = subst (λ n. n ≤ parameter_limit) (sym long) (few_by (nat_lt parameter_limit (length head.params))
      (length head.params) (fault.TooManyParameters head.place) (few (length head.params)) (none_left _ _ own));
  local_types = local_types (types_of head.params) (declared_in (typed_stmts head.base (body_start h head) body));
  param_types = params_typed (types_of head.params) (declared_in (typed_stmts head.base (body_start h head) body));
  cells = cells;
  body = stmts_sound body head.base outside_all s (body_start h head) body_known refl formed_body none has;
}
  where
    s : Scope
    s = in_body functions variables global_types globals (typed_function h head body)

    long : length (types_of head.params) ≡ length head.params
    long = mapped number_type (param_bases head) ∙ mapped (λ p. p.base) head.params

    next : (body_start h head).next ≡ length (types_of head.params)
    next = params_next head.params (in_function h) ∙ (sums (length head.params) ∙ sym long)
      where
        sums : (n : ℕ) → 0 + n ≡ n
        sums n = omega arith

    cells : Numbered (length (types_of head.params)) (declared_in (typed_stmts head.base (body_start h head) body))
        (after_all (body_start h head) body).next
    cells = subst (λ n. Numbered n (declared_in (typed_stmts head.base (body_start h head) body))
        (after_all (body_start h head) body).next) next
        (all_numbered body head.base (body_start h head))

    has : Each (HasVar s) (declared_in (typed_stmts head.base (body_start h head) body))
    has = vars_there (declared_in (typed_stmts head.base (body_start h head) body)) s (types_of head.params)
        (declared_in (typed_stmts head.base (body_start h head) body)) refl
        (each_within (declared_in (typed_stmts head.base (body_start h head) body)) (length (types_of head.params))
        (after_all (body_start h head) body).next cells)
        (each_typed (declared_in (typed_stmts head.base (body_start h head) body)) (length (types_of head.params))
        (after_all (body_start h head) body).next cells)

    room : 0 + length head.params ≤ s.cells
    room = (let e = ends (declared_in (typed_stmts head.base (body_start h head) body)) (length (types_of head.params))
        (after_all (body_start h head) body).next cells in omega (arith, e, long))

    body_known : Knows s (body_start h head).scopes
    body_known = params_known head.params s (in_function h) (knows_inner s h.scopes known)
        (params_there head.params s variables 0
        (λ v c. subst (λ n. Contains (standing cell.Local 0 (replicate n None) ++ variables) v) (sym long) c) room
        (gives_types head.params s.local_types 0 (λ k t e. ap s.local_types (sums k) ∙ params_typed
        (types_of head.params) (declared_in (typed_stmts head.base (body_start h head) body)) k t e)))
      where
        sums : (n : ℕ) → 0 + n ≡ n
        sums n = omega arith

functions_no_deeper : (outers : List Outer) (names : List (List ℕ)) (file : File)
    → most (λ f. typed_stmts_levels f.body) (typed_functions names file outers) ≤ most outer_levels outers
functions_no_deeper [] names file = omega arith
functions_no_deeper (Outer.Vars vars ∷ rest) names file =
    (let x = functions_no_deeper rest names (after_outer names file (Outer.Vars vars)) in omega (arith, x))
functions_no_deeper (Outer.Prototype head ∷ rest) names file =
    (let x = functions_no_deeper rest names (after_outer names file (Outer.Prototype head)) in omega (arith, x))
functions_no_deeper (Outer.Function head body ∷ rest) names file =
    let x = stmts_no_deeper body head.base (body_start (declare_head names file.here head) head) in
    let y = functions_no_deeper rest names (after_outer names file (Outer.Function head body)) in
    omega (arith, x, y)

-- a typed source is no deeper than its tree
pub source_no_deeper : (tree : Tree) → source_levels (typed_of tree) ≤ tree_levels tree
source_no_deeper tree = functions_no_deeper tree.outers (defined tree.outers) at_the_start

-- the functions of a typed source have the names that it defines, in their order
pub names_of : (outers : List Outer) (names : List (List ℕ)) (file : File) → map (λ f. f.name)
    (typed_functions names file outers) ≡ defined outers
names_of [] names file = refl
names_of (Outer.Vars vars ∷ rest) names file = names_of rest names (after_outer names file (Outer.Vars vars))
names_of (Outer.Prototype head ∷ rest) names file = names_of rest names (after_outer names file (Outer.Prototype head))
names_of (Outer.Function head body ∷ rest) names file =
    ap (λ xs. head.name ∷ xs) (names_of rest names (after_outer names file (Outer.Function head body)))
