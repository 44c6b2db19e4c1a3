-- The parts of a source that are checked one behind another.
use Rattle.std.proofs.Common.{◌≡◌, refl, sym, ap, subst, ◌∙◌, ℕ, ℤ, Bool, false, ◌||◌, ◌&&◌, List, [], ◌∷◌, ◌++◌, map, drop, Result, Ok, Err}
use Rattle.std.specs.List.{list_any}
use Rattle.std.specs.Prelude.{IfOk}
use Rattle.cov_base.specs.declared.refusal.Refusal.{Refusal}
use Rattle.int_ops.specs.declared.types.IntType.{IntType}
use Rattle.c_tree.specs.declared.tree.Outer.{Outer as OuterHeld}
use Rattle.c_tree.specs.declared.typed.Typed.{Typed as TypedHeld}
use Rattle.c_tree.specs.Formed.{IsTree}
use Rattle.c_tree.specs.Sound.{Sound}
use Rattle.c_tree.specs.Stmt.{Stmts}
use Rattle.c_tree.specs.Tree.{Head, Outer, Tree}
use Rattle.c_tree.specs.TypedStmt.{TypedStmts}
use Rattle.c_tree.specs.Typed.{TypedFunction}
use Rattle.c_tree.specs.TreeView.{outer_view}
use Rattle.c_tree.specs.TypedView.{typed_view}
use Rattle.c_typing.specs.declared.fault.TypeFault.{TypeFault}
use Rattle.c_typing.specs.Names.{Here, meaning}
use Rattle.c_typing.specs.TypedForms.{number_type}
use Rattle.c_typing.specs.Statements.{after_all, typed_stmts}
use Rattle.c_typing.specs.StmtFaults.{stmts_faults}
use Rattle.c_typing.specs.Sources.{
  File,
  after_outer,
  outer_faults,
  outers_faults,
  typed_functions,
  global_numbers,
  is_main,
  is_own,
  agrees,
  unless_fine,
  own_faults,
  outside_all,
  body_start,
  param_bases,
  declare_head,
  typed_function,
  type_faults,
  typed_of,
}
use Rattle.c_typing.proofs.SourceSound.{typed_sound}
use Rattle.c_types.specs.declared.statements.Context.{Context}
use Rattle.c_values.specs.Checks.{Checks}
use Rattle.c_types.specs.StmtChecks.{inside_of}
use Rattle.c_types.proofs.ScopeLaws.{function_left}
use Rattle.c_types.specs.SourceChecks.{functions_of, numbers_of}
use Rattle.c_values.proofs.ListLaws.{Walk, faults_in, seen_in}

-- the functions of the parts of a source
abbrev pub functions : List (List ℕ) → Walk OuterHeld TypedFunction File
functions names = record {
  faults = λ file o. outer_faults names file (outer_view o);
  seen = λ file o. functions_of names file (outer_view o);
  next = λ file o. after_outer names file (outer_view o);
}

-- the numbers that their globals begin with
abbrev pub numbers : List (List ℕ) → Walk OuterHeld ℤ File
numbers names = record {
  faults = λ file o. outer_faults names file (outer_view o);
  seen = λ file o. numbers_of file (outer_view o);
  next = λ file o. after_outer names file (outer_view o);
}

pub outers_faults_are : (names : List (List ℕ)) (file : File) (os : List OuterHeld) → faults_in (functions names) file os
    ≡ outers_faults names file (map outer_view os)
outers_faults_are names file [] = refl
outers_faults_are names file (o ∷ os) =
    ap (λ fs. outer_faults names file (outer_view o) ++ fs)
    (outers_faults_are names (after_outer names file (outer_view o)) os)

pub functions_are : (names : List (List ℕ)) (file : File) (os : List OuterHeld) → seen_in (functions names) file os
    ≡ typed_functions names file (map outer_view os)
functions_are names file [] = refl
functions_are names file (OuterHeld.Vars vars ∷ os) =
    functions_are names (after_outer names file (outer_view (OuterHeld.Vars vars))) os
functions_are names file (OuterHeld.Prototype head ∷ os) =
    functions_are names (after_outer names file (outer_view (OuterHeld.Prototype head))) os
functions_are names file (OuterHeld.Function head body ∷ os) =
    ap (λ fs. functions_of names file (outer_view (OuterHeld.Function head body)) ++ fs)
    (functions_are names (after_outer names file (outer_view (OuterHeld.Function head body))) os)

pub numbers_are : (names : List (List ℕ)) (file : File) (os : List OuterHeld) → seen_in (numbers names) file os
    ≡ global_numbers names file (map outer_view os)
numbers_are names file [] = refl
numbers_are names file (OuterHeld.Vars vars ∷ os) =
    ap (λ ns. numbers_of file (outer_view (OuterHeld.Vars vars)) ++ ns)
    (numbers_are names (after_outer names file (outer_view (OuterHeld.Vars vars))) os)
numbers_are names file (OuterHeld.Prototype head ∷ os) =
    numbers_are names (after_outer names file (outer_view (OuterHeld.Prototype head))) os
numbers_are names file (OuterHeld.Function head body ∷ os) =
    numbers_are names (after_outer names file (outer_view (OuterHeld.Function head body))) os

pub any_main : (os : List OuterHeld) → list_any (λ o. is_main (outer_view o)) os ≡ list_any is_main (map outer_view os)
any_main [] = refl
any_main (o ∷ os) = ap (λ b. is_main (outer_view o) || b) (any_main os)

-- a prototype without fault
pub prototype_made : (names : List (List ℕ)) (h now inside end : Here) (head : Head) (next : ℕ)
    → now ≡ declare_head names h head → unless_fine (agrees (meaning now.scopes head.name) head) head.place ≡ []
    → (own_faults now head ≡ []) × (inside ≡ body_start now head) → next ≡ now.next
    → end ≡ record { scopes = drop 1 inside.scopes; next = next }
    → (outer_faults names (record { here = h; made = 0 }) (Outer.Prototype head) ≡ []) × (end ≡ declare_head names h head)
prototype_made names h now inside end head next is fine e first closed = (
  ap (λ fs. fs ++ own_faults (declare_head names h head) head)
      (sym (ap (λ (m : Here). unless_fine (agrees (meaning m.scopes head.name) head) head.place) is) ∙ fine)
      ∙ (sym (ap (λ m. own_faults m head) is) ∙ e.0),
  function_left now inside end head.params Stmts.End next first e.1 closed ∙ is,
)

-- a function without fault
pub function_made : (names : List (List ℕ)) (h now inside behind end : Here) (head : Head) (body : Stmts)
    (made next cells : ℕ) (name : List ℕ) (params : List IntType) (c : Context) (v : TypedStmts)
    → now ≡ declare_head names h head
    → unless_fine (agrees (meaning now.scopes head.name) head && is_own (meaning now.scopes head.name) made) head.place
    ≡ [] → (own_faults now head ≡ []) × (inside ≡ body_start now head)
    → c ≡ record { result = head.base; breaks = false; continues = false }
    → (stmts_faults c.result (inside_of c) inside body ≡ []) × (v ≡ typed_stmts c.result inside body)
    × (behind ≡ after_all inside body) → name ≡ head.name → params ≡ map number_type (param_bases head)
    → cells ≡ behind.next → next ≡ now.next → end ≡ record { scopes = drop 1 behind.scopes; next = next }
    → (outer_faults names (record { here = h; made = made }) (Outer.Function head body) ≡ [])
    × (◌≡◌ {A = TypedFunction} (record {
      name = name;
      line = head.line;
      result = head.base;
      params = params;
      cells = cells;
      body = v;
    }) (typed_function (declare_head names h head) head body)) × (end ≡ declare_head names h head)
function_made names h now inside behind end head body made next cells name params c v is fine e context f named typed_params counted first closed =
    let d = declare_head names h head in
    let at : inside ≡ body_start d head = e.1 ∙ ap (λ m. body_start m head) is in (
      ap (λ fs. fs ++ (own_faults d head ++ stmts_faults head.base outside_all (body_start d head) body))
          (sym (ap (λ (m : Here). unless_fine (agrees (meaning m.scopes head.name) head
          && is_own (meaning m.scopes head.name) made) head.place) is) ∙ fine)
          ∙ (ap (λ fs. fs ++ stmts_faults head.base outside_all (body_start d head) body)
          (sym (ap (λ m. own_faults m head) is) ∙ e.0)
          ∙ (sym (ap (λ (k : Context). stmts_faults k.result (inside_of k) inside body) context
          ∙ ap (λ m. stmts_faults head.base outside_all m body) at) ∙ f.0)),
      ap (λ n. form n params cells v) named
          ∙ (ap (λ ps. form head.name ps cells v) typed_params
          ∙ (ap (λ k. form head.name (map number_type (param_bases head)) k v)
          (counted ∙ ap (λ (m : Here). m.next) (f.2 ∙ ap (λ m. after_all m body) at))
          ∙ ap (λ b. form head.name (map number_type (param_bases head)) (after_all (body_start d head) body).next b)
          (f.1 ∙ (ap (λ (k : Context). typed_stmts k.result inside body) context
          ∙ ap (λ m. typed_stmts head.base m body) at)))),
      function_left now behind end head.params body next first (f.2 ∙ ap (λ m. after_all m body) e.1) closed ∙ is,
    )
  where
    form : List ℕ → List IntType → ℕ → TypedStmts → TypedFunction
    form n ps k b = record { name = n; line = head.line; result = head.base; params = ps; cells = k; body = b }

-- what the check of a tree gives is sound
pub sound_of : (tree : Tree) (r : Result TypedHeld (Refusal TypeFault))
    → Checks typed_view (type_faults tree) (typed_of tree) r
    → IfOk r (λ typed. IsTree tree → Sound (typed_view typed))
sound_of tree (Ok typed) h = λ is. subst Sound (sym h.1) (typed_sound tree is h.0)
sound_of tree (Err e) h = tt
