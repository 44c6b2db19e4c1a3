-- Where no fault stands, `main` is there: a function that takes nothing and gives an int.
use Rattle.std.proofs.Common.{
  arith,
  ◌≡◌,
  refl,
  sym,
  ap,
  ◌∙◌,
  ℕ,
  suc,
  ◌+◌,
  Bool,
  true,
  false,
  cond,
  ◌&&◌,
  ◌||◌,
  List,
  [],
  ◌∷◌,
  map,
  position,
  Some,
  unwrap_or,
  bytes_eq,
  codes,
}
use Rattle.std.specs.Prelude.{slice_get}
use Rattle.std.specs.List.{list_any}
use Rattle.std.proofs.lemmas.Slice.Eq.{bytes_eq-Decides}
use Rattle.c_tree.specs.declared.expr.Base.{Base}
use Rattle.c_tree.specs.Tree.{Head, Outer, Tree}
use Rattle.c_tree.specs.Stmt.{Stmts}
use Rattle.c_tree.specs.Typed.{TypedFunction}
use Rattle.c_tree.specs.Sound.{IsMain}
use Rattle.c_typing.specs.declared.fault.TypeFault.{TypeFault}
use Rattle.c_typing.specs.declared.fault.TypeFault.TheVariants as fault
use Rattle.c_typing.specs.Names.{Here}
use Rattle.c_typing.specs.TypedForms.{same_base, int, number_type}
use Rattle.c_typing.specs.Sources.{
  defined,
  param_bases,
  same_bases,
  File,
  declare_head,
  after_outer,
  is_main,
  at_the_start,
  outers_faults,
  type_faults,
  typed_function,
  typed_functions,
  typed_of,
}
use Rattle.c_typing.proofs.TypeLaws.{same_base_is, not_none, none_right}
use Rattle.c_typing.proofs.NameLaws.{Placed, each_placed}

pub both_true : (a b : Bool) → (a && b) ≡ true → (a ≡ true) × (b ≡ true)
both_true true true e = (refl, refl)
both_true true false e = (let h : ◌≡◌ {A = Bool} false true = e in absurd (cc))
both_true false b e = (let h : ◌≡◌ {A = Bool} false true = e in absurd (cc))

no_params : (bs : List Base) → same_bases bs [] ≡ true → map number_type bs ≡ []
no_params [] e = refl
no_params (b ∷ bs) e = (let h : ◌≡◌ {A = Bool} false true = e in absurd (cc))

main_is : (h : Here) (head : Head) (body : Stmts) → is_main (Outer.Function head body) ≡ true → IsMain
    (typed_function h head body)
main_is h head body e =
    let name = both_true (bytes_eq head.name (codes "main")) _ e in
    let types = both_true (same_base head.base int) _ name.1 in
    record {
      name = (bytes_eq-Decides head.name (codes "main")).0 name.0;
      result = same_base_is head.base int types.0;
      params = no_params (param_bases head) types.1;
    }

-- `main` is among the functions from a place on, at the place of the first definition of its name
abbrev HasMain : List (List ℕ) → ℕ → List TypedFunction → Type 0
HasMain names made functions =
    (k : ℕ) × (f : TypedFunction) × (slice_get functions k ≡ Some f) × IsMain f ×
    (position (bytes_eq (codes "main")) names ≡ Some (made + k))

further : (names : List (List ℕ)) (made : ℕ) (g : TypedFunction) (functions : List TypedFunction) → HasMain names
    (made + 1) functions → HasMain names made (g ∷ functions)
further names made g functions h = (suc h.0, h.1, h.2, h.3, h.4 ∙ ap (λ n. Some n) (sums h.0))
  where
    sums : (k : ℕ) → (made + 1) + k ≡ made + suc k
    sums k = omega arith

here_or : (b : Bool) (rest : Bool) (names : List (List ℕ)) (file : File) (head : Head) (body : Stmts)
    (functions : List TypedFunction)
    → is_main (Outer.Function head body) ≡ b → position (bytes_eq head.name) names ≡ Some file.made
    → (rest ≡ true → HasMain names (file.made + 1) functions) → (b || rest) ≡ true
    → HasMain names file.made (typed_function (declare_head names file.here head) head body ∷ functions)
here_or true rest names file head body functions is at later e =
    let main = main_is (declare_head names file.here head) head body is in
    let place : position (bytes_eq (codes "main")) names ≡ Some file.made = ap (λ w. position (bytes_eq w) names)
    (sym main.name) ∙ at in
    let sums : file.made ≡ file.made + 0 = omega arith in
    (0, typed_function (declare_head names file.here head) head body, refl, main, place ∙ ap (λ n. Some n) sums)
here_or false rest names file head body functions is at later e =
    further names file.made (typed_function (declare_head names file.here head) head body) functions (later e)

main_among : (outers : List Outer) (names : List (List ℕ)) (file : File) → Placed names file.made (defined outers) →
    list_any is_main outers ≡ true
    → HasMain names file.made (typed_functions names file outers)
main_among [] names file placed e = (let h : ◌≡◌ {A = Bool} false true = e in absurd (cc))
main_among (Outer.Vars vars ∷ rest) names file placed e =
    main_among rest names (after_outer names file (Outer.Vars vars)) placed e
main_among (Outer.Prototype head ∷ rest) names file placed e =
    main_among rest names (after_outer names file (Outer.Prototype head)) placed e
main_among (Outer.Function head body ∷ rest) names file placed e =
    here_or (is_main (Outer.Function head body)) (list_any is_main rest) names file head body
    (typed_functions names (after_outer names file (Outer.Function head body)) rest)
    refl placed.0 (main_among rest names (after_outer names file (Outer.Function head body)) placed.1) e

some_main : (b : Bool) (f : TypeFault) → cond b [] (f ∷ []) ≡ [] → b ≡ true
some_main true f none = refl
some_main false f none = absurd (not_none _ _ none)

-- `main` of a source without faults
pub main_there : (tree : Tree) → type_faults tree ≡ []
    → (f : TypedFunction) × (slice_get (typed_of tree).functions (typed_of tree).main ≡ Some f) × IsMain f
main_there tree none =
    let h = main_among tree.outers (defined tree.outers) at_the_start (each_placed tree none)
    (some_main (list_any is_main tree.outers) (fault.NoMain tree.end)
    (none_right (outers_faults (defined tree.outers) at_the_start tree.outers) _ none)) in
    let at : unwrap_or (position (bytes_eq (codes "main")) (defined tree.outers)) 0 ≡ h.0 = ap (λ o. unwrap_or o 0) h.4
    ∙ sums h.0 in
    (h.1, ap (slice_get (typed_of tree).functions) at ∙ h.2, h.3)
  where
    sums : (k : ℕ) → 0 + k ≡ k
    sums k = omega arith
