-- Names that are declared, as the check keeps them.
use Rattle.std.proofs.Common.{
  arith,
  ◌≡◌,
  refl,
  sym,
  ap,
  ◌∙◌,
  subst,
  ℕ,
  ◌≤◌,
  Bool,
  true,
  false,
  cond,
  List,
  [],
  ◌∷◌,
  ◌++◌,
  length,
  drop,
  is_some,
  Option,
  Some,
  None,
  bytes_eq,
}
use Rattle.indexmap.specs.IndexMap.{insert_entry}
use Rattle.c_tree.specs.declared.typed_expr.CellAt.{CellAt}
use Rattle.c_tree.specs.declared.typed_expr.CellAt.TheVariants as cell
use Rattle.c_tree.specs.Stmt.{Var, Stmt, OtherStmt, ForHead, Stmts, SwitchItem, SwitchItems}
use Rattle.c_typing.specs.declared.names.Meaning.{Meaning}
use Rattle.c_typing.specs.declared.names.Meaning.TheVariants as meant
use Rattle.c_typing.specs.Names.{Scope, Here, found, is_declared, declare, inner, leaving}
use Rattle.c_typing.specs.TypedForms.{number_type}
use Rattle.c_typing.specs.Declarations.{var_length, declare_var, declare_vars}
use Rattle.c_tree.specs.declared.expr.Base.{Base}
use Rattle.c_tree.specs.Tree.{Param}
use Rattle.c_typing.specs.Sources.{declare_param, declare_params, in_function}
use Rattle.c_typing.specs.Statements.{after, after_other, after_head, after_all, after_item, after_items}

last_by : (b : Bool) (entry more : List ℕ × Meaning) (scope rest : Scope) (name : List ℕ) →
    (is_some (found name scope) ≡ false → rest ≡ scope ++ more ∷ [])
    → is_some (cond b (Some entry.1) (found name scope)) ≡ false → cond b ((entry.0, more.1) ∷ scope) (entry ∷ rest) ≡
    (entry ∷ scope) ++ more ∷ []
last_by true entry more scope rest name h new = (let e : ◌≡◌ {A = Bool} true false = new in absurd (cc))
last_by false entry more scope rest name h new = ap (λ es. entry ∷ es) (h new)

inserted_last : (scope : Scope) (name : List ℕ) (m : Meaning) → is_some (found name scope) ≡ false → insert_entry
    bytes_eq scope name m ≡ scope ++ (name, m) ∷ []
inserted_last [] name m new = refl
inserted_last (entry ∷ scope) name m new =
    last_by (bytes_eq name entry.0) entry (name, m) scope (insert_entry bytes_eq scope name m) name
    (inserted_last scope name m) new

-- a new name of a scope is inserted behind the others
pub declared_last : (scope : Scope) (outer : List Scope) (name : List ℕ) (m : Meaning) → is_some (found name scope) ≡
    false
    → insert_entry bytes_eq scope name m ∷ outer ≡ declare name m (scope ∷ outer)
declared_last scope outer name m new = ap (λ s. s ∷ outer) (inserted_last scope name m new)

-- and then the name is declared at a point of the text
pub declared_here : (scope after : Scope) (outer : List Scope) (next : ℕ) (h : Here) (name : List ℕ) (m : Meaning)
    → ◌≡◌ {A = Here} (record { scopes = scope ∷ outer; next = next }) h → is_declared h.scopes name ≡ false → after ≡
    insert_entry bytes_eq scope name m
    → ◌≡◌ {A = Here} (record { scopes = after ∷ outer; next = next })
    (record { scopes = declare name m h.scopes; next = h.next })
declared_here scope after outer next h name m view new is =
    subst (λ x. ◌≡◌ {A = Here} (record { scopes = after ∷ outer; next = next })
    (record { scopes = declare name m x.scopes; next = x.next })) view
    (ap (here next) (ap (λ a. a ∷ outer) is ∙ declared_last scope outer name m
    (subst (λ x. is_declared x.scopes name ≡ false) (sym view) new)))
  where
    here : ℕ → List Scope → Here
    here n scopes = record { scopes = scopes; next = n }
