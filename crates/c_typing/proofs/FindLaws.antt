-- What a name means behind one more declaration.
use Rattle.std.proofs.Common.{
  ◌≡◌,
  refl,
  sym,
  ap,
  ◌∙◌,
  inl,
  inr,
  ◌⊎◌,
  ℕ,
  Bool,
  true,
  false,
  cond,
  List,
  [],
  ◌∷◌,
  ◌++◌,
  Option,
  Some,
  None,
  bytes_eq,
}
use Rattle.std.specs.Option.{option_or}
use Rattle.c_typing.specs.declared.names.Meaning.{Meaning}
use Rattle.c_typing.specs.Names.{Scope, found, meaning, declare}

pub some_is : {A : Type 0} (x y : A) → ◌≡◌ {A = Option A} (Some x) (Some y) → x ≡ y
some_is x y e = cc

pub no_some : {A : Type 0} (x : A) → ◌≡◌ {A = Option A} None (Some x) → ⊥
no_some x e = cc

more_by : (P : Type 0) (b : Bool) (x y : Meaning) (before now : Option Meaning) → (now ≡ Some x → (before ≡ Some x) ⊎ P)
    → cond b (Some y) now ≡ Some x → (cond b (Some y) before ≡ Some x) ⊎ P
more_by P true x y before now rest e = inl e
more_by P false x y before now rest e = rest e

last_by : (b : Bool) (m x : Meaning) → cond b (Some m) None ≡ Some x → (◌≡◌ {A =
    Option Meaning} None (Some x)) ⊎ ((x ≡ m) × (b ≡ true))
last_by true m x e = inr (sym (some_is m x e), refl)
last_by false m x e = inl e

-- what the last entry gives, to a name that is its own
abbrev pub IsLast : List ℕ → List ℕ → Meaning → Meaning → Type 0
IsLast k name x m = (x ≡ m) × (bytes_eq k name ≡ true)

found_last : (scope : Scope) (name k : List ℕ) (m x : Meaning) → found k (scope ++ (name, m) ∷ []) ≡ Some x →
    (found k scope ≡ Some x) ⊎ IsLast k name x m
found_last [] name k m x e = last_by (bytes_eq k name) m x e
found_last (entry ∷ scope) name k m x e =
    more_by (IsLast k name x m) (bytes_eq k entry.0) x entry.1 (found k scope) (found k (scope ++ (name, m) ∷ []))
    (found_last scope name k m x) e

less_by : (b : Bool) (y : Meaning) (before now : Option Meaning) → (now ≡ None → before ≡ None) → cond b (Some y) now ≡
    None → cond b (Some y) before ≡ None
less_by true y before now rest e = e
less_by false y before now rest e = rest e

found_none : (scope : Scope) (name k : List ℕ) (m : Meaning) → found k (scope ++ (name, m) ∷ []) ≡ None → found k scope
    ≡ None
found_none [] name k m e = refl
found_none (entry ∷ scope) name k m e =
    less_by (bytes_eq k entry.0) entry.1 (found k scope) (found k (scope ++ (name, m) ∷ []))
    (found_none scope name k m) e

meaning_by : (P : Type 0) (now before outer : Option Meaning) (x : Meaning) → (now ≡ Some x → (before ≡ Some x) ⊎ P) →
    (now ≡ None → before ≡ None)
    → option_or now outer ≡ Some x → (option_or before outer ≡ Some x) ⊎ P
meaning_by P None before outer x some none e = inl (ap (λ o. option_or o outer) (none refl) ∙ e)
meaning_by P (Some y) before outer x some none e = kept (some e)
  where
    kept : (before ≡ Some x) ⊎ P → (option_or before outer ≡ Some x) ⊎ P
    kept (inl is) = inl (ap (λ o. option_or o outer) is)
    kept (inr is) = inr is

pub meaning_last : (n : List Scope) (name k : List ℕ) (m x : Meaning) → meaning (declare name m n) k ≡ Some x →
    (meaning n k ≡ Some x) ⊎ IsLast k name x m
meaning_last [] name k m x e =
    meaning_by (IsLast k name x m) (found k ((name, m) ∷ [])) None None x (found_last [] name k m x) (λ none. refl) e
meaning_last (scope ∷ outer) name k m x e =
    meaning_by (IsLast k name x m) (found k (scope ++ (name, m) ∷ [])) (found k scope) (meaning outer k) x
    (found_last scope name k m x) (found_none scope name k m) e
