-- Where no fault stands, each defined function is the first of its name; so the names of the functions that a source
-- defines differ.
use Rattle.std.proofs.Common.{
  arith,
  ◌≡◌,
  refl,
  sym,
  ap,
  ◌∙◌,
  subst,
  inl,
  inr,
  ◌⊎◌,
  ℕ,
  ◌+◌,
  ◌<◌,
  Bool,
  true,
  false,
  cond,
  ◌&&◌,
  List,
  [],
  ◌∷◌,
  ◌++◌,
  get_or,
  position,
  Option,
  Some,
  None,
  option_map,
  bytes_eq,
  codes,
}
use Rattle.std.specs.Option.{option_or}
use Rattle.std.proofs.lemmas.Bool.Decides.{Decides-eqb}
use Rattle.std.proofs.lemmas.Slice.Eq.{bytes_eq-Decides}
use Rattle.c_tree.specs.declared.expr.Base.{Base}
use Rattle.c_tree.specs.declared.typed_expr.CellAt.TheVariants as cell
use Rattle.c_tree.specs.declared.typed_expr.Callee.TheVariants as callee
use Rattle.c_tree.specs.Stmt.{Var}
use Rattle.c_tree.specs.Tree.{Head, Outer, Tree}
use Rattle.c_tree.specs.Sound.{Each, AllDiffer}
use Rattle.c_typing.specs.declared.names.Meaning.{Meaning}
use Rattle.c_typing.specs.declared.names.Meaning.TheVariants as meant
use Rattle.c_typing.specs.Names.{Scope, Here, found, meaning, is_declared, declare}
use Rattle.c_typing.specs.TypedForms.{number_type}
use Rattle.c_typing.specs.Declarations.{var_length, declare_var, declare_vars}
use Rattle.c_typing.specs.Sources.{
  defined,
  param_bases,
  head_meaning,
  File,
  declare_head,
  agrees,
  is_own,
  unless_fine,
  after_outer,
  outer_faults,
  outers_faults,
  at_the_start,
  type_faults,
}
use Rattle.c_typing.proofs.TypeLaws.{not_none, none_left, none_right}
use Rattle.c_typing.proofs.FindLaws.{some_is, no_some, IsLast, meaning_last}

-- the callee that a name means is the first definition of the name
abbrev IsFirst : List (List ℕ) → List ℕ → Meaning → Type 0
IsFirst names name (meant.Function (Some (callee.Function k)) result params) = position (bytes_eq name) names ≡ Some k
IsFirst names name _ = Unit {0}

abbrev Honest : List (List ℕ) → List Scope → Type 0
Honest names n = (name : List ℕ) (m : Meaning) → meaning n name ≡ Some m → IsFirst names name m

honest_by : (names : List (List ℕ)) (n : List Scope) (name k : List ℕ) (m x : Meaning) → Honest names n → IsFirst names
    name m
    → (meaning n k ≡ Some x) ⊎ IsLast k name x m → IsFirst names k x
honest_by names n name k m x honest this (inl is) = honest k x is
honest_by names n name k m x honest this (inr is) =
    subst (IsFirst names k) (sym is.0) (subst (λ w. IsFirst names w m) (sym ((bytes_eq-Decides k name).0 is.1)) this)

honest_more : (names : List (List ℕ)) (n : List Scope) (name : List ℕ) (m : Meaning) → Honest names n → IsFirst names
    name m → Honest names (declare name m n)
honest_more names n name m honest this k x e = honest_by names n name k m x honest this (meaning_last n name k m x e)

honest_vars : (vs : List Var) (names : List (List ℕ)) (h : Here) → Honest names h.scopes → Honest names
    (declare_vars cell.Global h vs).scopes
honest_vars [] names h honest = honest
honest_vars (v ∷ vs) names h honest =
    honest_vars vs names (declare_var cell.Global h v)
    (honest_more names h.scopes v.name (meant.Variable (cell.Global h.next) (var_length h.scopes v)
    (number_type v.base)) honest tt)

first_of : (o : Option ℕ) (names : List (List ℕ)) (name : List ℕ) (result : Base) (params : List Base) → position
    (bytes_eq name) names ≡ o
    → IsFirst names name (meant.Function (option_map (λ k. callee.Function k) o) result params)
first_of None names name result params is = tt
first_of (Some k) names name result params is = is

honest_head_by : (b : Bool) (names : List (List ℕ)) (h : Here) (head : Head) → Honest names h.scopes
    → Honest names (cond b h (record {
      scopes =
          declare head.name (head_meaning names head) h.scopes;
      next = h.next;
    })).scopes
honest_head_by true names h head honest = honest
honest_head_by false names h head honest =
    honest_more names h.scopes head.name (head_meaning names head) honest
    (first_of (position (bytes_eq head.name) names) names head.name head.base (param_bases head) refl)

honest_head : (names : List (List ℕ)) (h : Here) (head : Head) → Honest names h.scopes → Honest names
    (declare_head names h head).scopes
honest_head names h head honest = honest_head_by (is_declared h.scopes head.name) names h head honest

-- a function that is its own is the first of its name
own_first : (m : Option Meaning) (names : List (List ℕ)) (name : List ℕ) (made : ℕ) →
    ((x : Meaning) → m ≡ Some x → IsFirst names name x)
    → is_own m made ≡ true → position (bytes_eq name) names ≡ Some made
own_first None names name made honest own = (let h : ◌≡◌ {A = Bool} false true = own in absurd (cc))
own_first (Some (meant.Variable c n t)) names name made honest own =
    (let h : ◌≡◌ {A = Bool} false true = own in absurd (cc))
own_first (Some (meant.Function None result params)) names name made honest own =
    (let h : ◌≡◌ {A = Bool} false true = own in absurd (cc))
own_first (Some (meant.Function (Some callee.GetChar) result params)) names name made honest own =
    (let h : ◌≡◌ {A = Bool} false true = own in absurd (cc))
own_first (Some (meant.Function (Some callee.PutChar) result params)) names name made honest own =
    (let h : ◌≡◌ {A = Bool} false true = own in absurd (cc))
own_first (Some (meant.Function (Some callee.Exit) result params)) names name made honest own =
    (let h : ◌≡◌ {A = Bool} false true = own in absurd (cc))
own_first (Some (meant.Function (Some (callee.Function k)) result params)) names name made honest own =
    honest (meant.Function (Some (callee.Function k)) result params) refl ∙ ap (λ j. Some j)
    ((Decides-eqb k made).0 own)

fine_own : (a b : Bool) (place : ℕ) → unless_fine (a && b) place ≡ [] → b ≡ true
fine_own true true place none = refl
fine_own true false place none = absurd (not_none _ _ none)
fine_own false b place none = absurd (not_none _ _ none)

-- each name is the first at its place, from a place on
abbrev pub Placed : List (List ℕ) → ℕ → List (List ℕ) → Type 0
Placed names made [] = Unit {0}
Placed names made (name ∷ rest) = (position (bytes_eq name) names ≡ Some made) × Placed names (made + 1) rest

placed : (outers : List Outer) (names : List (List ℕ)) (file : File) → Honest names file.here.scopes → outers_faults
    names file outers ≡ []
    → Placed names file.made (defined outers)
placed [] names file honest none = tt
placed (Outer.Vars vars ∷ rest) names file honest none =
    placed rest names (after_outer names file (Outer.Vars vars)) (honest_vars vars names file.here honest)
    (none_right (outer_faults names file (Outer.Vars vars)) _ none)
placed (Outer.Prototype head ∷ rest) names file honest none =
    placed rest names (after_outer names file (Outer.Prototype head)) (honest_head names file.here head honest)
    (none_right (outer_faults names file (Outer.Prototype head)) _ none)
placed (Outer.Function head body ∷ rest) names file honest none = (
  own_first (meaning (declare_head names file.here head).scopes head.name) names head.name file.made
      (honest_head names file.here head honest head.name)
      (fine_own (agrees (meaning (declare_head names file.here head).scopes head.name) head)
      (is_own (meaning (declare_head names file.here head).scopes head.name) file.made) head.place
      (none_left _ _ (none_left (outer_faults names file (Outer.Function head body)) _ none))),
  placed rest names (after_outer names file (Outer.Function head body)) (honest_head names file.here head honest)
      (none_right (outer_faults names file (Outer.Function head body)) _ none),
)

later_differ : (names : List (List ℕ)) (name : List ℕ) (first made : ℕ) (rest : List (List ℕ)) → first < made →
    position (bytes_eq name) names ≡ Some first
    → Placed names made rest → Each (λ other. name ≡ other → ⊥) rest
later_differ names name first made [] less is h = tt
later_differ names name first made (other ∷ rest) less is h =
    (apart, later_differ names name first (made + 1) rest (omega (arith, less)) is h.1)
  where
    apart : name ≡ other → ⊥
    apart same =
        let both : first ≡ made = some_is first made (sym is ∙ (ap (λ w. position (bytes_eq w) names) same ∙ h.0)) in
        omega (arith, less, both)

all_differ : (names : List (List ℕ)) (made : ℕ) (rest : List (List ℕ)) → Placed names made rest → AllDiffer rest
all_differ names made [] h = tt
all_differ names made (name ∷ rest) h =
    (later_differ names name made (made + 1) rest (omega arith) h.0 h.1, all_differ names (made + 1) rest h.1)

-- at the start only the three functions before the text have a meaning
start_by : (names : List (List ℕ)) (name : List ℕ) (a b c : Bool) (r : Base) (ps qs us : List Base) (q u : Base)
    (x : Meaning)
    → option_or (cond a (Some (meant.Function (Some callee.GetChar) r ps))
    (cond b (Some (meant.Function (Some callee.PutChar) q qs))
    (cond c (Some (meant.Function (Some callee.Exit) u us)) None))) None ≡ Some x
    → IsFirst names name x
start_by names name true b c r ps qs us q u x e = subst (IsFirst names name) (some_is _ x e) tt
start_by names name false true c r ps qs us q u x e = subst (IsFirst names name) (some_is _ x e) tt
start_by names name false false true r ps qs us q u x e = subst (IsFirst names name) (some_is _ x e) tt
start_by names name false false false r ps qs us q u x e = absurd (no_some x e)

honest_start : (names : List (List ℕ)) → Honest names at_the_start.here.scopes
honest_start names name x e =
    start_by names name (bytes_eq name (codes "getchar")) (bytes_eq name (codes "putchar"))
    (bytes_eq name (codes "exit")) _ _ _ _ _ _ x e

-- each function that a source without faults defines is the first of its name
pub each_placed : (tree : Tree) → type_faults tree ≡ [] → Placed (defined tree.outers) 0 (defined tree.outers)
each_placed tree none =
    placed tree.outers (defined tree.outers) at_the_start (honest_start (defined tree.outers)) (none_left _ _ none)

-- and their names differ
pub defined_differ : (tree : Tree) → type_faults tree ≡ [] → AllDiffer (defined tree.outers)
defined_differ tree none = all_differ (defined tree.outers) 0 (defined tree.outers) (each_placed tree none)

-- the innermost scope gives a name this meaning
abbrev pub Holds : List ℕ → Meaning → List Scope → Type 0
Holds k m [] = ⊥
Holds k m (scope ∷ outer) = found k scope ≡ Some m

kept_by : (b : Bool) (y m : Meaning) (before now : Option Meaning) → (before ≡ Some m → now ≡ Some m) → cond b (Some y)
    before ≡ Some m → cond b (Some y) now ≡ Some m
kept_by true y m before now rest e = e
kept_by false y m before now rest e = rest e

found_kept : (scope : Scope) (name k : List ℕ) (more m : Meaning) → found k scope ≡ Some m → found k
    (scope ++ (name, more) ∷ []) ≡ Some m
found_kept [] name k more m e = absurd (no_some m e)
found_kept (entry ∷ scope) name k more m e =
    kept_by (bytes_eq k entry.0) entry.1 m (found k scope) (found k (scope ++ (name, more) ∷ []))
    (found_kept scope name k more m) e

holds_more : (n : List Scope) (name k : List ℕ) (more m : Meaning) → Holds k m n → Holds k m (declare name more n)
holds_more [] name k more m h = absurd h
holds_more (scope ∷ outer) name k more m h = found_kept scope name k more m h

pub holds_vars : (vs : List Var) (h : Here) (k : List ℕ) (m : Meaning) → Holds k m h.scopes → Holds k m
    (declare_vars cell.Global h vs).scopes
holds_vars [] h k m is = is
holds_vars (v ∷ vs) h k m is =
    holds_vars vs (declare_var cell.Global h v) k m
    (holds_more h.scopes v.name k (meant.Variable (cell.Global h.next) (var_length h.scopes v) (number_type v.base)) m
    is)

holds_head_by : (b : Bool) (names : List (List ℕ)) (h : Here) (head : Head) (k : List ℕ) (m : Meaning) → Holds k m
    h.scopes
    → Holds k m (cond b h (record {
      scopes =
          declare head.name (head_meaning names head) h.scopes;
      next = h.next;
    })).scopes
holds_head_by true names h head k m is = is
holds_head_by false names h head k m is = holds_more h.scopes head.name k (head_meaning names head) m is

pub holds_head : (names : List (List ℕ)) (h : Here) (head : Head) (k : List ℕ) (m : Meaning) → Holds k m h.scopes →
    Holds k m (declare_head names h head).scopes
holds_head names h head k m is = holds_head_by (is_declared h.scopes head.name) names h head k m is

pub means : (n : List Scope) (k : List ℕ) (m : Meaning) → Holds k m n → meaning n k ≡ Some m
means [] k m h = absurd h
means (scope ∷ outer) k m h = ap (λ o. option_or o (meaning outer k)) h

-- a name that means no function of the source is defined by none
others : (outers : List Outer) (names : List (List ℕ)) (file : File) (k : List ℕ) (m : Meaning) → Holds k m
    file.here.scopes
    → ((made : ℕ) → is_own (Some m) made ≡ false) → outers_faults names file outers ≡ [] → Each
    (λ other. k ≡ other → ⊥) (defined outers)
others [] names file k m is never none = tt
others (Outer.Vars vars ∷ rest) names file k m is never none =
    others rest names (after_outer names file (Outer.Vars vars)) k m (holds_vars vars file.here k m is) never
    (none_right (outer_faults names file (Outer.Vars vars)) _ none)
others (Outer.Prototype head ∷ rest) names file k m is never none =
    others rest names (after_outer names file (Outer.Prototype head)) k m (holds_head names file.here head k m is) never
    (none_right (outer_faults names file (Outer.Prototype head)) _ none)
others (Outer.Function head body ∷ rest) names file k m is never none = (
  apart,
  others rest names (after_outer names file (Outer.Function head body)) k m
      (holds_head names file.here head k m is) never
      (none_right (outer_faults names file (Outer.Function head body)) _ none),
)
  where
    own : is_own (meaning (declare_head names file.here head).scopes head.name) file.made ≡ true
    own = fine_own (agrees (meaning (declare_head names file.here head).scopes head.name) head)
        (is_own (meaning (declare_head names file.here head).scopes head.name) file.made) head.place
        (none_left _ _ (none_left (outer_faults names file (Outer.Function head body)) _ none))

    apart : k ≡ head.name → ⊥
    apart same =
        let at : meaning (declare_head names file.here head).scopes head.name ≡ Some m =
        ap (meaning (declare_head names file.here head).scopes) (sym same) ∙ means
        (declare_head names file.here head).scopes k m (holds_head names file.here head k m is) in
        let h : ◌≡◌ {A = Bool} true false = sym own ∙ (ap (λ o. is_own o file.made) at ∙ never file.made) in
        cc

other_start : (a b : ℕ) (xs ys : List ℕ) → (a ≡ b → ⊥) → a ∷ xs ≡ b ∷ ys → ⊥
other_start a b xs ys apart e = apart (ap (λ l. get_or l 0 0) e)

-- The names of a source's functions differ, and differ from those of the functions before the text.
pub names_differ : (tree : Tree) → type_faults tree ≡ [] → AllDiffer
    (codes "getchar" ∷ codes "putchar" ∷ codes "exit" ∷ defined tree.outers)
names_differ tree none =
    let own = none_left _ _ none in (
      (
        other_start 103 112 _ _ (λ e. omega (arith, e)),
        (
          other_start 103 101 _ _ (λ e. omega (arith, e)),
          others tree.outers (defined tree.outers) at_the_start
              (codes "getchar") _ refl (λ made. refl) own,
        ),
      ),
      (
        (
          other_start 112 101 _ _ (λ e. omega (arith, e)),
          others tree.outers (defined tree.outers) at_the_start
              (codes "putchar") _ refl (λ made. refl) own,
        ),
        (
          others tree.outers (defined tree.outers) at_the_start (codes "exit") _ refl (λ made. refl) own,
          defined_differ
              tree none,
        ),
      ),
    )
