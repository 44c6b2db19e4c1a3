-- What the check of types gives for a source without faults is sound.
use Rattle.std.proofs.Common.{
  arith,
  ◌≡◌,
  refl,
  sym,
  ap,
  ◌∙◌,
  subst,
  inl,
  inr,
  ◌⊎◌,
  ℕ,
  zero,
  suc,
  ◌+◌,
  ◌<◌,
  ◌≤◌,
  Bool,
  true,
  false,
  cond,
  ◌&&◌,
  List,
  [],
  ◌∷◌,
  ◌++◌,
  length,
  map,
  get_or,
  position,
  replicate,
  append_assoc,
  Option,
  Some,
  None,
  option_map,
  bytes_eq,
  codes,
}
use Rattle.std.specs.Prelude.{Contains, slice_get}
use Rattle.std.specs.Option.{option_or}
use Rattle.std.proofs.lemmas.List.{length-append, length-replicate}
use Rattle.std.proofs.lemmas.List.Elements.{Contains-append_right}
use Rattle.std.proofs.lemmas.List.Quantifiers.{position-Some}
use Rattle.std.proofs.lemmas.Option.{slice_get-get_or, get_or_from_slice_get}
use Rattle.std.proofs.lemmas.Slice.Eq.{bytes_eq-Decides}
use Rattle.cov_base.specs.Limits.{level_limit}
use Rattle.int_ops.specs.declared.types.IntType.{IntType}
use Rattle.int_ops.specs.declared.types.IntType.TheVariants as type
use Rattle.c_tree.specs.declared.expr.Base.{Base}
use Rattle.c_tree.specs.declared.expr.Base.TheVariants as base
use Rattle.c_tree.specs.declared.typed_expr.CellAt.TheVariants as cell
use Rattle.c_tree.specs.declared.typed_expr.Callee.TheVariants as callee
use Rattle.c_tree.specs.Stmt.{Var, Stmts}
use Rattle.c_tree.specs.Tree.{Head, Outer, Tree}
use Rattle.c_tree.specs.Formed.{FormedOuter, IsTree}
use Rattle.c_tree.specs.Typed.{TypedFunction}
use Rattle.c_tree.specs.Levels.{tree_levels, source_levels}
use Rattle.c_tree.specs.Sound.{
  Scope,
  Variable,
  Each,
  IsLength,
  HasCells,
  standing,
  at_start,
  SoundFunction,
  AllDiffer,
  Sound,
}
use Rattle.c_tree.specs.TypedParts.{cells_of}
use Rattle.c_typing.specs.declared.names.Meaning.{Meaning}
use Rattle.c_typing.specs.declared.names.Meaning.TheVariants as meant
use Rattle.c_typing.specs.Names.{Here, meaning, is_declared, declare}
use Rattle.c_typing.specs.TypedForms.{int, number_type}
use Rattle.c_typing.specs.Declarations.{var_length, declare_var, declare_vars}
use Rattle.c_typing.specs.Sources.{
  File,
  defined,
  param_bases,
  head_meaning,
  declare_head,
  agrees,
  is_own,
  unless_fine,
  own_faults,
  after_outer,
  outer_faults,
  outers_faults,
  type_faults,
  at_the_start,
  typed_function,
  typed_functions,
  global_numbers,
  typed_of,
}
use Rattle.c_typing.proofs.TypeLaws.{none_left, none_right}
use Rattle.c_typing.proofs.ExprSound.{IsLengthOf, IsKnown, Knows}
use Rattle.c_typing.proofs.DeclSound.{is_length, length_known, knows_more}
use Rattle.c_typing.proofs.GlobalLaws.{
  vars_lengths,
  lengths_of,
  vars_types,
  cell_types,
  all_long,
  all_sum,
  AllIn,
  all_in,
  same_number,
  number_in,
}
use Rattle.c_typing.proofs.FindLaws.{some_is}
use Rattle.c_typing.proofs.NameLaws.{names_differ}
use Rattle.c_typing.proofs.MainLaws.{main_there}
use Rattle.c_typing.proofs.HeadLaws.{
  FitsAt,
  definition_fits,
  later_fits,
  IsNew,
  head_holds,
  new_vars,
  new_head,
  head_declared,
}
use Rattle.c_typing.proofs.FileSound.{in_body, function_sound, source_no_deeper, names_of}

-- what may be named outside all functions: functions and globals
abbrev outside : List TypedFunction → List Variable → (ℕ → IntType) → ℕ → Scope
outside functions variables types globals = record {
  functions = functions;
  variables = variables;
  global_types = types;
  globals = globals;
  local_types = λ k. type.Int;
  cells = 0;
  result = base.Void;
}

-- no cell of a function's frame is known there
no_local : (n : Option ℕ) (k : ℕ) → IsLengthOf n → k + cells_of n ≤ 0 → ⊥
no_local None k long room = omega (arith, room)
no_local (Some n) k long room = (let some = long.some in omega (arith, room, some))

-- what is known outside all functions is known in each body
known_in_body : (m : Meaning) (functions : List TypedFunction) (variables : List Variable) (types : ℕ → IntType)
    (globals : ℕ) (f : TypedFunction)
    → IsKnown (outside functions variables types globals) m → IsKnown (in_body functions variables types globals f) m
known_in_body (meant.Variable (cell.Local k) n t) functions variables types globals f h =
    absurd (no_local n k h.1 h.0.1.2.0)
known_in_body (meant.Variable (cell.Global k) n t) functions variables types globals f h = (
  (
    Contains-append_right (standing cell.Local 0 (replicate (length f.params) None)) variables (record {
      first =
          cell.Global k;
      length = n;
    }) h.0.0,
    h.0.1,
  ),
  h.1,
)
known_in_body (meant.Function None result params) functions variables types globals f h = h
known_in_body (meant.Function (Some (callee.Function k)) result params) functions variables types globals f h = h
known_in_body (meant.Function (Some callee.GetChar) result params) functions variables types globals f h = h
known_in_body (meant.Function (Some callee.PutChar) result params) functions variables types globals f h = h
known_in_body (meant.Function (Some callee.Exit) result params) functions variables types globals f h = h

-- globals of these lengths and types stand in a scope from a cell on
record GlobalsThere (s : Scope) (next : ℕ) (lengths : List (Option ℕ)) (types : List IntType) : Type 0 where
  there : (v : Variable) → Contains (standing cell.Global next lengths) v → Contains s.variables v
  room : next + length types ≤ s.globals
  typed : (k : ℕ) (t : IntType) → slice_get types k ≡ Some t → s.global_types (next + k) ≡ t

among_copies : (c k : ℕ) (t : IntType) (types : List IntType) → k < c → slice_get (replicate c t ++ types) k ≡ Some t
among_copies zero k t types less = absurd (omega (arith, less))
among_copies (suc c) zero t types less = refl
among_copies (suc c) (suc k) t types less = among_copies c k t types (omega (arith, less))

behind_copies : (c k : ℕ) (t : IntType) (types : List IntType) → slice_get (replicate c t ++ types) (c + k) ≡ slice_get
    types k
behind_copies zero k t types = ap (slice_get types) none
  where
    none : 0 + k ≡ k
    none = omega arith
behind_copies (suc c) k t types = ap (slice_get (t ∷ (replicate c t ++ types))) one ∙ behind_copies c k t types
  where
    one : suc c + k ≡ suc (c + k)
    one = omega arith

further : (s : Scope) (next : ℕ) (n : Option ℕ) (t : IntType) (lengths : List (Option ℕ)) (types : List IntType)
    → GlobalsThere s next (n ∷ lengths) (replicate (cells_of n) t ++ types) → GlobalsThere s (next + cells_of n)
    lengths types
further s next n t lengths types h = record {
  there = λ v c. h.there v (suc c.0, omega (arith, c.1), c.2);
  room = room;
  typed = λ k u e. ap s.global_types (sums k) ∙ h.typed (cells_of n + k) u (behind_copies (cells_of n) k t types ∙ e);
}
  where
    sums : (k : ℕ) → (next + cells_of n) + k ≡ next + (cells_of n + k)
    sums k = omega arith

    room : (next + cells_of n) + length types ≤ s.globals
    room =
        let more = length-append (replicate (cells_of n) t) types in
        let same = length-replicate (cells_of n) t in
        let all = h.room in
        omega (arith, all, more, same)

-- a global is known where its cells are there
global_known : (s : Scope) (next : ℕ) (n : Option ℕ) (t : IntType) (lengths : List (Option ℕ)) (types : List IntType) →
    IsLength (cells_of n)
    → GlobalsThere s next (n ∷ lengths) (replicate (cells_of n) t ++ types) → IsKnown s
    (meant.Variable (cell.Global next) n t)
global_known s next n t lengths types long h = (
  (
    h.there (record { first = cell.Global next; length = n }) (0, omega arith, refl),
    (t, refl, (room, λ k less. h.typed k t (among_copies (cells_of n) k t types less))),
  ),
  length_known n long,
)
  where
    room : next + cells_of n ≤ s.globals
    room =
        let more = length-append (replicate (cells_of n) t) types in
        let same = length-replicate (cells_of n) t in
        let all = h.room in
        omega (arith, all, more, same)

-- behind the globals of a declaration their names are known, and the further globals are there
globals_known : (vs : List Var) (s : Scope) (h : Here) (lengths : List (Option ℕ)) (types : List IntType) → Knows s
    h.scopes
    → GlobalsThere s h.next (vars_lengths h vs ++ lengths) (vars_types h vs ++ types)
    → Knows s (declare_vars cell.Global h vs).scopes × GlobalsThere s (declare_vars cell.Global h vs).next lengths types
globals_known [] s h lengths types known is = (known, is)
globals_known (v ∷ vs) s h lengths types known is =
    globals_known vs s next lengths types
    (knows_more s h.scopes v.name (meant.Variable (cell.Global h.next) n t) known
    (global_known s h.next n t (vars_lengths next vs ++ lengths) (vars_types next vs ++ types)
    (is_length h.scopes v.size v.init) here))
    (further s h.next n t (vars_lengths next vs ++ lengths) (vars_types next vs ++ types) here)
  where
    n : Option ℕ
    n = var_length h.scopes v

    t : IntType
    t = number_type v.base

    next : Here
    next = declare_var cell.Global h v

    here : GlobalsThere s h.next (n ∷ (vars_lengths next vs ++ lengths))
        (replicate (cells_of n) t ++ (vars_types next vs ++ types))
    here = subst (GlobalsThere s h.next (n ∷ (vars_lengths next vs ++ lengths)))
        (append_assoc (replicate (cells_of n) t) (vars_types next vs) types) is

-- What stands ahead of a point of a file: the further typed functions and globals are there, and a name that is still
-- new is defined
-- from here on, if at all.
record Ahead (s : Scope) (names : List (List ℕ)) (file : File) (outers : List Outer) : Type 0 where
  functions : (j : ℕ) (f : TypedFunction) → slice_get (typed_functions names file outers) j ≡ Some f → slice_get
      s.functions (file.made + j) ≡ Some f
  first : (name : List ℕ) (k : ℕ) → IsNew file.here.scopes name → position (bytes_eq name) names ≡ Some k
      → (j : ℕ) × (k ≡ file.made + j) × (slice_get (defined outers) j ≡ Some name)
  globals : GlobalsThere s file.here.next (lengths_of names file outers) (cell_types names file outers)

head_known_by : (o : Option ℕ) (s : Scope) (result : Base) (params : List Base)
    → ((k : ℕ) → o ≡ Some k → FitsAt s.functions k result params)
    → IsKnown s (meant.Function (option_map (λ k. callee.Function k) o) result params)
head_known_by None s result params fits = tt
head_known_by (Some k) s result params fits = (let f = fits k refl in (f.2.0, (f.0, f.1, f.2.1, f.2.2)))

knows_head_by : (b : Bool) (names : List (List ℕ)) (s : Scope) (h : Here) (head : Head) → Knows s h.scopes
    → (b ≡ false → IsKnown s (head_meaning names head))
    → Knows s (cond b h (record {
      scopes =
          declare head.name (head_meaning names head) h.scopes;
      next = h.next;
    })).scopes
knows_head_by true names s h head known new = known
knows_head_by false names s h head known new =
    knows_more s h.scopes head.name (head_meaning names head) known (new refl)

-- behind a head its name is known, where the function of this name fits the first head
knows_head : (names : List (List ℕ)) (s : Scope) (h : Here) (head : Head) → Knows s h.scopes
    → (IsNew h.scopes head.name → (k : ℕ) → position (bytes_eq head.name) names ≡ Some k → FitsAt s.functions k
    head.base (param_bases head))
    → Knows s (declare_head names h head).scopes
knows_head names s h head known fits =
    knows_head_by (is_declared h.scopes head.name) names s h head known
    (λ new. head_known_by (position (bytes_eq head.name) names) s head.base (param_bases head) (fits new))

same_here_by : (b : Bool) (names : List (List ℕ)) (h : Here) (head : Head)
    → (cond b h (record { scopes = declare head.name (head_meaning names head) h.scopes; next = h.next })).next ≡ h.next
same_here_by true names h head = refl
same_here_by false names h head = refl

-- a head takes no cell
same_next : (names : List (List ℕ)) (h : Here) (head : Head) → (declare_head names h head).next ≡ h.next
same_next names h head = same_here_by (is_declared h.scopes head.name) names h head

at_number : (s : Scope) (made j k : ℕ) (functions : List TypedFunction) (result : Base) (params : List Base) → k ≡ made
    + j
    → ((f : TypedFunction) → slice_get functions j ≡ Some f → slice_get s.functions (made + j) ≡ Some f)
    → FitsAt functions j result params → FitsAt s.functions k result params
at_number s made j k functions result params is there fits =
    (fits.0, ap (slice_get s.functions) is ∙ there fits.0 fits.1, fits.2)

behind_globals : (s : Scope) (names : List (List ℕ)) (file : File) (vars : List Var) (rest : List Outer) → Knows s
    file.here.scopes
    → Ahead s names file (Outer.Vars vars ∷ rest)
    → Knows s (declare_vars cell.Global file.here vars).scopes × Ahead s names
    (after_outer names file (Outer.Vars vars)) rest
behind_globals s names file vars rest known ahead =
    let next = after_outer names file (Outer.Vars vars) in
    let is = globals_known vars s file.here (lengths_of names next rest) (cell_types names next rest) known
    ahead.globals in (
      is.0,
      record {
        functions = ahead.functions;
        first = λ name k new at. ahead.first name k (new_vars vars file.here name new) at;
        globals = is.1;
      },
    )

behind_prototype : (s : Scope) (names : List (List ℕ)) (file : File) (head : Head) (rest : List Outer)
    → Ahead s names file (Outer.Prototype head ∷ rest) → Ahead s names (after_outer names file (Outer.Prototype head))
    rest
behind_prototype s names file head rest ahead = record {
  functions = ahead.functions;
  first = λ name k new at. ahead.first name k (new_head names file.here head name new) at;
  globals = subst (λ n. GlobalsThere s n (lengths_of names next rest) (cell_types names next rest))
      (sym (same_next names file.here head)) ahead.globals;
}
  where
    next : File
    next = after_outer names file (Outer.Prototype head)

behind_function : (s : Scope) (names : List (List ℕ)) (file : File) (head : Head) (body : Stmts) (rest : List Outer)
    → Ahead s names file (Outer.Function head body ∷ rest) → Ahead s names
    (after_outer names file (Outer.Function head body)) rest
behind_function s names file head body rest ahead = record {
  functions = λ j f e. ap (slice_get s.functions) (sums j) ∙ ahead.functions (suc j) f e;
  first = λ name k new at. later name k new (ahead.first name k (new_head names file.here head name new) at);
  globals = subst (λ n. GlobalsThere s n (lengths_of names next rest) (cell_types names next rest))
      (sym (same_next names file.here head)) ahead.globals;
}
  where
    next : File
    next = after_outer names file (Outer.Function head body)

    sums : (j : ℕ) → (file.made + 1) + j ≡ file.made + suc j
    sums j = omega arith

    by_number : (name : List ℕ) (k j : ℕ) → IsNew next.here.scopes name → k ≡ file.made + j → slice_get
        (head.name ∷ defined rest) j ≡ Some name
        → (i : ℕ) × (k ≡ next.made + i) × (slice_get (defined rest) i ≡ Some name)
    by_number name k zero new is at =
        absurd (head_declared names file.here head
        (subst (IsNew (declare_head names file.here head).scopes) (sym (some_is head.name name at)) new))
    by_number name k (suc j) new is at = (j, omega (arith, is), at)

    later : (name : List ℕ) (k : ℕ) → IsNew next.here.scopes name
        → (j : ℕ) × (k ≡ file.made + j) × (slice_get (head.name ∷ defined rest) j ≡ Some name)
        → (i : ℕ) × (k ≡ next.made + i) × (slice_get (defined rest) i ≡ Some name)
    later name k new h = by_number name k h.0 new h.1 h.2

-- what the first head of a name declares fits the function of this name
prototype_fits : (s : Scope) (names : List (List ℕ)) (file : File) (head : Head) (rest : List Outer)
    → Ahead s names file (Outer.Prototype head ∷ rest) → outers_faults names
    (after_outer names file (Outer.Prototype head)) rest ≡ []
    → IsNew file.here.scopes head.name → (k : ℕ) → position (bytes_eq head.name) names ≡ Some k
    → FitsAt s.functions k head.base (param_bases head)
prototype_fits s names file head rest ahead none new k at =
    let h = ahead.first head.name k new at in
    let next = after_outer names file (Outer.Prototype head) in
    at_number s file.made h.0 k (typed_functions names next rest) head.base (param_bases head) h.1 (ahead.functions h.0)
    (later_fits rest names next head.name _ head.base (param_bases head) (head_holds names file.here head new) none h.0
    h.2)

function_fits_by : (j : ℕ) (names : List (List ℕ)) (file : File) (head : Head) (body : Stmts) (rest : List Outer)
    → outer_faults names file (Outer.Function head body) ≡ [] → outers_faults names
    (after_outer names file (Outer.Function head body)) rest ≡ []
    → IsNew file.here.scopes head.name → slice_get (head.name ∷ defined rest) j ≡ Some head.name
    → FitsAt (typed_functions names file (Outer.Function head body ∷ rest)) j head.base (param_bases head)
function_fits_by zero names file head body rest own none new at = (
  typed_function (declare_head names file.here head) head body,
  refl,
  definition_fits names file head body _ head.base (param_bases head) (head_holds names file.here head new) own,
)
function_fits_by (suc j) names file head body rest own none new at =
    later_fits rest names (after_outer names file (Outer.Function head body)) head.name _ head.base (param_bases head)
    (head_holds names file.here head new) none j at

function_fits : (s : Scope) (names : List (List ℕ)) (file : File) (head : Head) (body : Stmts) (rest : List Outer)
    → Ahead s names file (Outer.Function head body ∷ rest) → outers_faults names file (Outer.Function head body ∷ rest)
    ≡ []
    → IsNew file.here.scopes head.name → (k : ℕ) → position (bytes_eq head.name) names ≡ Some k
    → FitsAt s.functions k head.base (param_bases head)
function_fits s names file head body rest ahead none new k at =
    let h = ahead.first head.name k new at in
    at_number s file.made h.0 k (typed_functions names file (Outer.Function head body ∷ rest)) head.base
    (param_bases head) h.1 (ahead.functions h.0)
    (function_fits_by h.0 names file head body rest (none_left (outer_faults names file (Outer.Function head body)) _
    none)
    (none_right (outer_faults names file (Outer.Function head body)) _ none) new h.2)

-- the functions that stand ahead are sound
functions_sound : (outers : List Outer) (names : List (List ℕ)) (file : File)
    (functions : List TypedFunction) (variables : List Variable) (types : ℕ → IntType) (globals : ℕ)
    → Knows (outside functions variables types globals) file.here.scopes → Ahead
    (outside functions variables types globals) names file outers
    → Each FormedOuter outers → outers_faults names file outers ≡ []
    → Each (SoundFunction functions variables types globals) (typed_functions names file outers)
functions_sound [] names file functions variables types globals known ahead formed none = tt
functions_sound (Outer.Vars vars ∷ rest) names file functions variables types globals known ahead formed none =
    let behind = behind_globals (outside functions variables types globals) names file vars rest known ahead in
    functions_sound rest names (after_outer names file (Outer.Vars vars)) functions variables types globals behind.0
    behind.1
    formed.1 (none_right (outer_faults names file (Outer.Vars vars)) _ none)
functions_sound (Outer.Prototype head ∷ rest) names file functions variables types globals known ahead formed none =
    let s = outside functions variables types globals in
    let later = none_right (outer_faults names file (Outer.Prototype head)) _ none in
    functions_sound rest names (after_outer names file (Outer.Prototype head)) functions variables types globals
    (knows_head names s file.here head known (prototype_fits s names file head rest ahead later))
    (behind_prototype s names file head rest ahead) formed.1 later
functions_sound (Outer.Function head body ∷ rest) names file functions variables types globals known ahead formed none =
    let s = outside functions variables types globals in
    let h = declare_head names file.here head in
    let here = none_left (outer_faults names file (Outer.Function head body)) _ none in
    let parts = none_right (unless_fine (agrees (meaning h.scopes head.name) head && is_own
    (meaning h.scopes head.name) file.made) head.place) _ here in
    let behind = knows_head names s file.here head known (function_fits s names file head body rest ahead none) in (
      function_sound h head body functions variables types globals
          (λ name m is. known_in_body m functions variables types globals (typed_function h head body) (behind name m is))
          formed.0.0 formed.0.1 (none_left (own_faults h head) _ parts) (none_right (own_faults h head) _ parts),
      functions_sound rest names (after_outer names file (Outer.Function head body)) functions variables types globals
          behind
          (behind_function s names file head body rest ahead) formed.1
          (none_right (outer_faults names file (Outer.Function head body)) _ none),
    )

known_at_start : (a b c : Bool) (s : Scope) (x : Meaning)
    → option_or (cond a (Some (meant.Function (Some callee.GetChar) int []))
    (cond b (Some (meant.Function (Some callee.PutChar) int (int ∷ [])))
    (cond c (Some (meant.Function (Some callee.Exit) base.Void (int ∷ []))) None))) None ≡ Some x
    → IsKnown s x
known_at_start true b c s x e = subst (IsKnown s) (some_is _ x e) (tt, (refl, refl))
known_at_start false true c s x e = subst (IsKnown s) (some_is _ x e) (((type.Int, refl), tt), (refl, refl))
known_at_start false false true s x e = subst (IsKnown s) (some_is _ x e) (((type.Int, refl), tt), (refl, refl))
known_at_start false false false s x e = (let h : ◌≡◌ {A = Option Meaning} None (Some x) = e in absurd (cc))

-- before the text the three functions are known that stand there
knows_at_start : (s : Scope) → Knows s at_the_start.here.scopes
knows_at_start s name m e = known_at_start (bytes_eq name (codes "getchar")) (bytes_eq name (codes "putchar"))
    (bytes_eq name (codes "exit")) s m e

first_position : (names : List (List ℕ)) (name : List ℕ) (k : ℕ) → position (bytes_eq name) names ≡ Some k → slice_get
    names k ≡ Some name
first_position names name k at =
    let found = position-Some (bytes_eq name) names k name at in
    slice_get-get_or names k name found.0 ∙ ap (λ w. Some w)
    (sym ((bytes_eq-Decides name (get_or names k name)).0 found.1))

-- all of a source stands ahead at its start
all_ahead : (tree : Tree) (globals : ℕ) → length (cell_types (defined tree.outers) at_the_start tree.outers) ≡ globals
    → Ahead (outside (typed_of tree).functions (standing cell.Global 0
    (lengths_of (defined tree.outers) at_the_start tree.outers))
    (λ k. get_or (cell_types (defined tree.outers) at_the_start tree.outers) k type.Int) globals)
    (defined tree.outers) at_the_start tree.outers
all_ahead tree globals long = record {
  functions = λ j f e. ap (slice_get (typed_of tree).functions) (sums j) ∙ e;
  first = λ name k new at. (k, omega arith, first_position (defined tree.outers) name k at);
  globals = record {
    there = λ v c. c;
    room = omega (arith, long);
    typed = λ k t e. ap (λ i. get_or types i type.Int) (sums k) ∙ get_or_from_slice_get types k t type.Int e;
  };
}
  where
    types : List IntType
    types = cell_types (defined tree.outers) at_the_start tree.outers

    sums : (k : ℕ) → 0 + k ≡ k
    sums k = omega arith

-- What a source without faults is typed as is sound.
pub typed_sound : (tree : Tree) → IsTree tree → type_faults tree ≡ [] → Sound (typed_of tree)
typed_sound tree is none = record {
  global_lengths = lengths_of names at_the_start tree.outers;
  long = all_long tree.outers names at_the_start;
  filled = all_sum tree.outers names at_the_start ∙ long;
  global_types = types;
  globals = λ k n e. number_in (cell_types names at_the_start tree.outers) (typed_of tree).globals k n numbers e;
  functions = functions_sound tree.outers names at_the_start (typed_of tree).functions
      (standing cell.Global 0 (lengths_of names at_the_start tree.outers))
      types (length (typed_of tree).globals) (knows_at_start whole)
      (all_ahead tree (length (typed_of tree).globals) long) is.formed own;
  names = subst (λ ns. AllDiffer (codes "getchar" ∷ codes "putchar" ∷ codes "exit" ∷ ns))
      (sym (names_of tree.outers names at_the_start)) (names_differ tree none);
  main = main_there tree none;
  levels = omega (arith, deep, within);
}
  where
    names : List (List ℕ)
    names = defined tree.outers

    types : ℕ → IntType
    types k = get_or (cell_types names at_the_start tree.outers) k type.Int

    whole : Scope
    whole = outside (typed_of tree).functions (standing cell.Global 0 (lengths_of names at_the_start tree.outers))
        types (length (typed_of tree).globals)

    own : outers_faults names at_the_start tree.outers ≡ []
    own = none_left _ _ none

    numbers : AllIn (cell_types names at_the_start tree.outers) (typed_of tree).globals
    numbers = all_in tree.outers names at_the_start own

    long : length (cell_types names at_the_start tree.outers) ≡ length (typed_of tree).globals
    long = same_number (cell_types names at_the_start tree.outers) (typed_of tree).globals numbers

    deep : source_levels (typed_of tree) ≤ tree_levels tree
    deep = source_no_deeper tree

    within : tree_levels tree ≤ level_limit
    within = is.levels
