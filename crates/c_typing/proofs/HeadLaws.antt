-- What a head declares agrees with the definition of the function, where no fault stands.
use Rattle.std.proofs.Common.{
  ◌≡◌,
  refl,
  sym,
  ap,
  ◌∙◌,
  subst,
  ℕ,
  zero,
  suc,
  ◌+◌,
  Bool,
  true,
  false,
  cond,
  ◌&&◌,
  List,
  [],
  ◌∷◌,
  ◌++◌,
  map,
  is_some,
  Option,
  Some,
  None,
  bytes_eq,
}
use Rattle.std.specs.Prelude.{slice_get}
use Rattle.std.proofs.lemmas.Slice.Eq.{bytes_eq-Decides}
use Rattle.c_tree.specs.declared.expr.Base.{Base}
use Rattle.c_tree.specs.declared.expr.Base.TheVariants as base
use Rattle.c_tree.specs.declared.typed_expr.CellAt.TheVariants as cell
use Rattle.c_tree.specs.declared.typed_expr.Callee.{Callee}
use Rattle.c_tree.specs.Stmt.{Var, Stmts}
use Rattle.c_tree.specs.Tree.{Param, Head, Outer}
use Rattle.c_tree.specs.Typed.{TypedFunction}
use Rattle.c_tree.specs.Sound.{Each, HasValue, ints}
use Rattle.c_typing.specs.declared.fault.TypeFault.{TypeFault}
use Rattle.c_typing.specs.declared.names.Meaning.{Meaning}
use Rattle.c_typing.specs.declared.names.Meaning.TheVariants as meant
use Rattle.c_typing.specs.Names.{Scope, Here, found, meaning, is_declared, declare}
use Rattle.c_typing.specs.TypedForms.{same_base, number_type}
use Rattle.c_typing.specs.ExprFaults.{void_value}
use Rattle.c_typing.specs.Declarations.{var_length, declare_var, declare_vars}
use Rattle.c_typing.specs.Sources.{
  defined,
  param_bases,
  head_meaning,
  same_bases,
  File,
  declare_head,
  agrees,
  is_own,
  unless_fine,
  void_params,
  after_outer,
  outer_faults,
  outers_faults,
  typed_function,
  typed_functions,
}
use Rattle.c_typing.proofs.TypeLaws.{same_base_is, not_none, none_left, none_right}
use Rattle.c_typing.proofs.FindLaws.{some_is}
use Rattle.c_typing.proofs.NameLaws.{Holds, holds_vars, holds_head, means}
use Rattle.c_typing.proofs.MainLaws.{both_true}

same_bases_is : (left right : List Base) → same_bases left right ≡ true → left ≡ right
same_bases_is [] [] e = refl
same_bases_is [] (b ∷ right) e = (let h : ◌≡◌ {A = Bool} false true = e in absurd (cc))
same_bases_is (a ∷ left) [] e = (let h : ◌≡◌ {A = Bool} false true = e in absurd (cc))
same_bases_is (a ∷ left) (b ∷ right) e =
    let both = both_true (same_base a b) (same_bases left right) e in
    ap (λ x. x ∷ left) (same_base_is a b both.0) ∙ ap (λ xs. b ∷ xs) (same_bases_is left right both.1)

value_of : (b : Base) (place : ℕ) → void_value b place ≡ [] → HasValue b × (base.Int (number_type b) ≡ b)
value_of base.Void place none = absurd (not_none _ _ none)
value_of (base.Int t) place none = ((t, refl), refl)

values_of : (ps : List Param) → void_params ps ≡ []
    → Each HasValue (map (λ p. p.base) ps) × (ints (map number_type (map (λ p. p.base) ps)) ≡ map (λ p. p.base) ps)
values_of [] none = (tt, refl)
values_of (p ∷ ps) none =
    let one = value_of p.base p.place (none_left (void_value p.base p.place) _ none) in
    let rest = values_of ps (none_right (void_value p.base p.place) _ none) in (
      (one.0, rest.0),
      ap (λ b. b ∷ ints (map number_type (map (λ q. q.base) ps))) one.1 ∙ ap (λ bs. p.base ∷ bs) rest.1,
    )

-- a function takes arguments of these types and gives this type
abbrev pub Fits : TypedFunction → Base → List Base → Type 0
Fits f result params = Each HasValue params × (params ≡ ints f.params) × (result ≡ f.result)

agreed_fits : (h : Here) (head : Head) (body : Stmts) (c : Option Callee) (result : Base) (params : List Base)
    → agrees (Some (meant.Function c result params)) head ≡ true → void_params head.params ≡ []
    → Fits (typed_function h head body) result params
agreed_fits h head body c result params agree none =
    let both = both_true (same_base result head.base) (same_bases params (param_bases head)) agree in
    let same = same_bases_is params (param_bases head) both.1 in
    let values = values_of head.params none in
    (subst (Each HasValue) (sym same) values.0, same ∙ sym values.1, same_base_is result head.base both.0)

fine_both : (a b : Bool) (place : ℕ) → unless_fine (a && b) place ≡ [] → a ≡ true
fine_both true b place none = refl
fine_both false b place none = absurd (not_none _ _ none)

-- a definition without faults fits what its name means
pub definition_fits : (names : List (List ℕ)) (file : File) (head : Head) (body : Stmts) (c : Option Callee)
    (result : Base) (params : List Base)
    → Holds head.name (meant.Function c result params) (declare_head names file.here head).scopes
    → outer_faults names file (Outer.Function head body) ≡ []
    → Fits (typed_function (declare_head names file.here head) head body) result params
definition_fits names file head body c result params holds none =
    let h = declare_head names file.here head in
    let at = means h.scopes head.name (meant.Function c result params) holds in
    let fine = fine_both (agrees (meaning h.scopes head.name) head) (is_own (meaning h.scopes head.name) file.made)
    head.place (none_left _ _ none) in
    let own = none_left _ _ (none_right (unless_fine (agrees (meaning h.scopes head.name) head && is_own
    (meaning h.scopes head.name) file.made) head.place) _ none) in
    agreed_fits h head body c result params (ap (λ m. agrees m head) (sym at) ∙ fine)
    (none_left (void_params head.params) _ (none_right _ _ own))

-- the typed function at a number fits
abbrev pub FitsAt : List TypedFunction → ℕ → Base → List Base → Type 0
FitsAt functions k result params = (f : TypedFunction) × (slice_get functions k ≡ Some f) × Fits f result params

-- A name that means a function to the end of a file fits the definition of this name, where there is one.
pub later_fits : (outers : List Outer) (names : List (List ℕ)) (file : File) (name : List ℕ) (c : Option Callee)
    (result : Base) (params : List Base)
    → Holds name (meant.Function c result params) file.here.scopes → outers_faults names file outers ≡ []
    → (j : ℕ) → slice_get (defined outers) j ≡ Some name → FitsAt (typed_functions names file outers) j result params
later_fits [] names file name c result params holds none j e =
    (let h : ◌≡◌ {A = Option (List ℕ)} None (Some name) = e in absurd (cc))
later_fits (Outer.Vars vars ∷ rest) names file name c result params holds none j e =
    later_fits rest names (after_outer names file (Outer.Vars vars)) name c result params
    (holds_vars vars file.here name (meant.Function c result params) holds)
    (none_right (outer_faults names file (Outer.Vars vars)) _ none) j e
later_fits (Outer.Prototype head ∷ rest) names file name c result params holds none j e =
    later_fits rest names (after_outer names file (Outer.Prototype head)) name c result params
    (holds_head names file.here head name (meant.Function c result params) holds)
    (none_right (outer_faults names file (Outer.Prototype head)) _ none) j e
later_fits (Outer.Function head body ∷ rest) names file name c result params holds none zero e =
    let same = some_is head.name name e in (
      typed_function (declare_head names file.here head) head body,
      refl,
      definition_fits names file head body c result params
          (subst (λ w. Holds w (meant.Function c result params) (declare_head names file.here head).scopes) (sym same)
          (holds_head names file.here head name (meant.Function c result params) holds))
          (none_left _ _ none),
    )
later_fits (Outer.Function head body ∷ rest) names file name c result params holds none (suc j) e =
    later_fits rest names (after_outer names file (Outer.Function head body)) name c result params
    (holds_head names file.here head name (meant.Function c result params) holds)
    (none_right (outer_faults names file (Outer.Function head body)) _ none) j e

-- a name has no meaning of its own in the innermost scope
abbrev pub IsNew : List Scope → List ℕ → Type 0
IsNew n name = is_declared n name ≡ false

own_by : (b : Bool) (y m : Meaning) (before now : Option Meaning) → (is_some before ≡ false → now ≡ Some m)
    → is_some (cond b (Some y) before) ≡ false → cond b (Some y) now ≡ Some m
own_by true y m before now rest new = (let h : ◌≡◌ {A = Bool} true false = new in absurd (cc))
own_by false y m before now rest new = rest new

own_found : (scope : Scope) (name : List ℕ) (m : Meaning) → is_some (found name scope) ≡ false → found name
    (scope ++ (name, m) ∷ []) ≡ Some m
own_found [] name m new = ap (λ b. cond b (Some m) None) ((bytes_eq-Decides name name).1 refl)
own_found (entry ∷ scope) name m new =
    own_by (bytes_eq name entry.0) entry.1 m (found name scope) (found name (scope ++ (name, m) ∷ []))
    (own_found scope name m) new

-- a new name means what is declared
own_holds : (n : List Scope) (name : List ℕ) (m : Meaning) → IsNew n name → Holds name m (declare name m n)
own_holds [] name m new = own_found [] name m refl
own_holds (scope ∷ outer) name m new = own_found scope name m new

head_holds_by : (b : Bool) (names : List (List ℕ)) (h : Here) (head : Head) → b ≡ false → IsNew h.scopes head.name
    → Holds head.name (head_meaning names head) (cond b h (record {
      scopes =
          declare head.name (head_meaning names head) h.scopes;
      next = h.next;
    })).scopes
head_holds_by true names h head is new = (let e : ◌≡◌ {A = Bool} true false = is in absurd (cc))
head_holds_by false names h head is new = own_holds h.scopes head.name (head_meaning names head) new

-- behind the first head of a name the name means the function
pub head_holds : (names : List (List ℕ)) (h : Here) (head : Head) → IsNew h.scopes head.name
    → Holds head.name (head_meaning names head) (declare_head names h head).scopes
head_holds names h head new = head_holds_by (is_declared h.scopes head.name) names h head new new

new_by : (b : Bool) (y : Meaning) (before now : Option Meaning) → (is_some now ≡ false → is_some before ≡ false)
    → is_some (cond b (Some y) now) ≡ false → is_some (cond b (Some y) before) ≡ false
new_by true y before now rest e = e
new_by false y before now rest e = rest e

new_found : (scope : Scope) (name k : List ℕ) (m : Meaning) → is_some (found k (scope ++ (name, m) ∷ [])) ≡ false →
    is_some (found k scope) ≡ false
new_found [] name k m e = refl
new_found (entry ∷ scope) name k m e =
    new_by (bytes_eq k entry.0) entry.1 (found k scope) (found k (scope ++ (name, m) ∷ [])) (new_found scope name k m) e

new_more : (n : List Scope) (name k : List ℕ) (m : Meaning) → IsNew (declare name m n) k → IsNew n k
new_more [] name k m e = refl
new_more (scope ∷ outer) name k m e = new_found scope name k m e

-- a name that is new behind declarations was so before them
pub new_vars : (vs : List Var) (h : Here) (k : List ℕ) → IsNew (declare_vars cell.Global h vs).scopes k → IsNew
    h.scopes k
new_vars [] h k e = e
new_vars (v ∷ vs) h k e =
    new_more h.scopes v.name k (meant.Variable (cell.Global h.next) (var_length h.scopes v) (number_type v.base))
    (new_vars vs (declare_var cell.Global h v) k e)

new_head_by : (b : Bool) (names : List (List ℕ)) (h : Here) (head : Head) (k : List ℕ)
    → IsNew (cond b h (record {
      scopes =
          declare head.name (head_meaning names head) h.scopes;
      next = h.next;
    })).scopes k → IsNew h.scopes k
new_head_by true names h head k e = e
new_head_by false names h head k e = new_more h.scopes head.name k (head_meaning names head) e

pub new_head : (names : List (List ℕ)) (h : Here) (head : Head) (k : List ℕ) → IsNew (declare_head names h head).scopes
    k → IsNew h.scopes k
new_head names h head k e = new_head_by (is_declared h.scopes head.name) names h head k e

holds_declared : (n : List Scope) (k : List ℕ) (m : Meaning) → Holds k m n → IsNew n k → ⊥
holds_declared [] k m holds e = holds
holds_declared (scope ∷ outer) k m holds e = (let h : ◌≡◌ {A = Bool} true false = ap is_some (sym holds) ∙ e in cc)

-- a head's own name is not new behind it
pub head_declared : (names : List (List ℕ)) (h : Here) (head : Head) → IsNew (declare_head names h head).scopes
    head.name → ⊥
head_declared names h head e =
    holds_declared (declare_head names h head).scopes head.name (head_meaning names head)
    (head_holds names h head (new_head names h head head.name e)) e
