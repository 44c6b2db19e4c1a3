-- What the names of a source mean where they stand: the scopes, from the innermost out (C17 6.2.1).
use Rattle.std.specs.Prelude.{ℕ, Bool, is_some, List, [], ◌∷◌, ◌++◌, Option, None, bytes_eq}
use Rattle.std.specs.Option.{option_or}
use Rattle.std.specs.Map.{lookup}
use Rattle.c_typing.specs.declared.names.Meaning.{Meaning}

-- The names that are declared in one scope, in the order of the text, each with what it means.
abbrev pub Scope : Type 0
Scope = List (List ℕ × Meaning)

-- what a name means in one scope: the first declaration stands
abbrev pub found : List ℕ → Scope → Option Meaning
found name scope = lookup (bytes_eq name) scope

-- what a name means: the innermost scope that declares it hides the others (C17 6.2.1 paragraph 4)
abbrev pub meaning : List Scope → List ℕ → Option Meaning
meaning [] name = None
meaning (scope ∷ outer) name = option_or (found name scope) (meaning outer name)

-- a name is declared in the innermost scope
abbrev pub is_declared : List Scope → List ℕ → Bool
is_declared [] name = is_some {T = Meaning} None
is_declared (scope ∷ outer) name = is_some (found name scope)

-- the scopes behind a declaration, which is one of the innermost (C17 6.2.1 paragraph 7)
abbrev pub declare : List ℕ → Meaning → List Scope → List Scope
declare name m [] = ((name, m) ∷ []) ∷ []
declare name m (scope ∷ outer) = (scope ++ (name, m) ∷ []) ∷ outer

-- A point of the text: the scopes there, and the number of the next cell that a declaration takes.
pub record Here : Type 0 where
  pub scopes : List Scope
  pub next : ℕ

-- at the start of a scope of its own (C17 6.8.2, 6.8.4 paragraph 3, 6.8.5 paragraph 5)
abbrev pub inner : Here → Here
inner h = record { scopes = [] ∷ h.scopes; next = h.next }

-- behind the end of what began at the first point: its names are out of scope, its cells stay taken (C17 6.2.1
-- paragraph 4)
abbrev pub leaving : Here → Here → Here
leaving outside inside = record { scopes = outside.scopes; next = inside.next }
