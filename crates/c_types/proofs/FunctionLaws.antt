-- The numbers of functions by their names.
use Rattle.std.proofs.Common.{
  arith,
  ◌≡◌,
  refl,
  sym,
  ap,
  subst,
  ◌∙◌,
  inl,
  inr,
  ℕ,
  ◌+◌,
  ◌<◌,
  ◌≤◌,
  suc,
  nat_lt,
  Bool,
  true,
  false,
  cond,
  List,
  [],
  ◌∷◌,
  ◌++◌,
  length,
  map,
  is_some,
  Option,
  Some,
  None,
  bytes_eq,
}
use Rattle.std.specs.List.{position, position_or_len}
use Rattle.std.specs.Option.{option_or}
use Rattle.std.specs.Map.{lookup}
use Rattle.std.proofs.Math.Dec.{eqb, ltb}
use Rattle.std.proofs.lemmas.Bool.{cases_lt}
use Rattle.std.proofs.lemmas.Bool.Decides.{Decides-eqb, Decides-ltb}
use Rattle.std.specs.Prelude.{get_or, take}
use Rattle.std.proofs.lemmas.List.{length-append, take_more, take_all}
use Rattle.std.proofs.lemmas.List.Folds.{position_or_len_push}
use Rattle.std.proofs.lemmas.List.Sums.{prefix_len-le-length}
use Rattle.std.proofs.lemmas.Slice.Eq.{bytes_eq-Decides}
use Rattle.indexmap.specs.IndexMap.{insert_entry}
use Rattle.c_tree.specs.declared.tree.Outer.{Outer as OuterHeld}
use Rattle.c_tree.specs.TreeView.{outer_view}
use Rattle.c_typing.specs.Sources.{defined}
use Rattle.c_types.specs.Functions.{AreNumbers}

not_below : (a b : ℕ) → b ≤ a → ltb a b ≡ false
not_below a b le = go (ltb a b) refl
  where
    go : (t : Bool) → ltb a b ≡ t → t ≡ false
    go true is = (let lt = (Decides-ltb a b).0 is in absurd (omega (arith, lt, le)))
    go false is = refl

not_equal : (a b : ℕ) → a < b → eqb a b ≡ false
not_equal a b lt = go (eqb a b) refl
  where
    go : (t : Bool) → eqb a b ≡ t → t ≡ false
    go true is = (let e = (Decides-eqb a b).0 is in absurd (omega (arith, e, lt)))
    go false is = refl

-- a place, where it is one of a list of this length
abbrev place_in : ℕ → ℕ → Option ℕ
place_in at long = cond (ltb at long) (Some at) None

last_place : (n : ℕ) (b : Bool) → place_in (n + cond b 0 1) (n + 1) ≡ cond b (Some n) None
last_place n true =
    (let e : n + 0 ≡ n = omega arith in
    ap (λ k. place_in k (n + 1)) e ∙ ap (λ t. cond t (Some n) None) ((Decides-ltb n (n + 1)).1 (omega arith)))
last_place n false = ap (λ t. cond t (Some (n + 1)) None) (not_below (n + 1) (n + 1) (omega arith))

place_of : (at n : ℕ) → at ≤ n → (b : Bool) → place_in (cond (eqb at n) (n + cond b 0 1) at) (n + 1)
    ≡ option_or (place_in at n) (cond b (Some n) None)
place_of at n le b = elim (cases_lt at n) [ inl lt ↦ below lt | inr ge ↦ end ge ]
  where
    below : at < n → place_in (cond (eqb at n) (n + cond b 0 1) at) (n + 1)
        ≡ option_or (place_in at n) (cond b (Some n) None)
    below lt =
        ap (λ t. place_in (cond t (n + cond b 0 1) at) (n + 1)) (not_equal at n lt)
        ∙ (ap (λ t. cond t (Some at) None) ((Decides-ltb at (n + 1)).1 (omega (arith, lt)))
        ∙ sym (ap (λ t. option_or (cond t (Some at) None) (cond b (Some n) None)) ((Decides-ltb at n).1 lt)))

    end : n ≤ at → place_in (cond (eqb at n) (n + cond b 0 1) at) (n + 1)
        ≡ option_or (place_in at n) (cond b (Some n) None)
    end ge =
        ap (λ t. place_in (cond t (n + cond b 0 1) at) (n + 1)) ((Decides-eqb at n).1 (omega (arith, le, ge)))
        ∙ (last_place n b
        ∙ sym (ap (λ t. option_or (cond t (Some at) None) (cond b (Some n) None)) (not_below at n ge)))

-- the place of the first that passes, behind one more
pushed : (p : List ℕ → Bool) (xs : List (List ℕ)) (y : List ℕ) → position p (xs ++ y ∷ [])
    ≡ option_or (position p xs) (cond (p y) (Some (length xs)) None)
pushed p xs y =
    ap (λ at. place_in at (length (xs ++ y ∷ []))) (position_or_len_push p xs y)
    ∙ (ap (λ n. place_in (cond (eqb (position_or_len p xs) (length xs)) (length xs + cond (p y) 0 1)
    (position_or_len p xs)) n) (length-append xs (y ∷ []))
    ∙ place_of (position_or_len p xs) (length xs) (prefix_len-le-length _ xs) (p y))

entry_by : (b : Bool) (x : ℕ) (now rest more : Option ℕ) → now ≡ option_or rest more → cond b (Some x) now
    ≡ option_or (cond b (Some x) rest) more
entry_by true x now rest more e = refl
entry_by false x now rest more e = e

found_last : (entries : List (List ℕ × ℕ)) (name k : List ℕ) (n : ℕ) → lookup (bytes_eq k) (entries ++ (name, n) ∷ [])
    ≡ option_or (lookup (bytes_eq k) entries) (cond (bytes_eq k name) (Some n) None)
found_last [] name k n = refl
found_last (e ∷ entries) name k n =
    entry_by (bytes_eq k e.0) e.1 (lookup (bytes_eq k) (entries ++ (name, n) ∷ [])) (lookup (bytes_eq k) entries)
    (cond (bytes_eq k name) (Some n) None) (found_last entries name k n)

insert_by : (b : Bool) (e more : List ℕ × ℕ) (entries rest : List (List ℕ × ℕ)) (found : Option ℕ)
    → (is_some found ≡ false → rest ≡ entries ++ more ∷ []) → is_some (cond b (Some e.1) found) ≡ false
    → cond b ((e.0, more.1) ∷ entries) (e ∷ rest) ≡ (e ∷ entries) ++ more ∷ []
insert_by true e more entries rest found h new = (let x : ◌≡◌ {A = Bool} true false = new in absurd (cc))
insert_by false e more entries rest found h new = ap (λ es. e ∷ es) (h new)

inserted : (entries : List (List ℕ × ℕ)) (name : List ℕ) (n : ℕ) → is_some (lookup (bytes_eq name) entries) ≡ false
    → insert_entry bytes_eq entries name n ≡ entries ++ (name, n) ∷ []
inserted [] name n new = refl
inserted (e ∷ entries) name n new =
    insert_by (bytes_eq name e.0) e (name, n) entries (insert_entry bytes_eq entries name n)
    (lookup (bytes_eq name) entries) (inserted entries name n) new

-- one more name, which has no number yet
pub numbered : (names : List (List ℕ)) (entries after : List (List ℕ × ℕ)) (name : List ℕ) (n : ℕ)
    → is_some (lookup (bytes_eq name) entries) ≡ false → after ≡ insert_entry bytes_eq entries name n
    → length names ≡ n → AreNumbers names entries → AreNumbers (names ++ name ∷ []) after
numbered names entries after name n new is long are = λ k.
    ap (lookup (bytes_eq k)) (is ∙ inserted entries name n new)
    ∙ (found_last entries name k n
    ∙ (ap (λ o. option_or o (cond (bytes_eq k name) (Some n) None)) (are k)
    ∙ (ap (λ m. option_or (position (bytes_eq k) names) (cond (bytes_eq k name) (Some m) None)) (sym long)
    ∙ sym (pushed (bytes_eq k) names name))))

kept_by : (o : Option ℕ) (b : Bool) (n : ℕ) → (b ≡ true → is_some o ≡ true) → o ≡ option_or o (cond b (Some n) None)
kept_by (Some i) b n h = refl
kept_by None false n h = refl
kept_by None true n h = (let e : ◌≡◌ {A = Bool} false true = h refl in absurd (cc))

-- one more of a name that has its number
pub again : (names : List (List ℕ)) (entries : List (List ℕ × ℕ)) (name : List ℕ)
    → is_some (lookup (bytes_eq name) entries) ≡ true → AreNumbers names entries
    → AreNumbers (names ++ name ∷ []) entries
again names entries name there are = λ k.
    are k ∙ (kept_by (position (bytes_eq k) names) (bytes_eq k name) (length names) (known k)
    ∙ sym (pushed (bytes_eq k) names name))
  where
    known : (k : List ℕ) → bytes_eq k name ≡ true → is_some (position (bytes_eq k) names) ≡ true
    known k same =
        subst (λ w. is_some (position (bytes_eq w) names) ≡ true) (sym ((bytes_eq-Decides k name).0 same))
        (ap is_some (sym (are name)) ∙ there)

defined_behind : (os : List OuterHeld) (o : OuterHeld) → defined (map outer_view (os ++ o ∷ []))
    ≡ defined (map outer_view os) ++ defined (outer_view o ∷ [])
defined_behind [] o = refl
defined_behind (OuterHeld.Vars vars ∷ os) o = defined_behind os o
defined_behind (OuterHeld.Prototype head ∷ os) o = defined_behind os o
defined_behind (OuterHeld.Function head body ∷ os) o = ap (λ ns. head.name ∷ ns) (defined_behind os o)

-- the functions that are defined up to a part, and by it
pub defined_more : (os : List OuterHeld) (i : ℕ) (o : OuterHeld) → i < length os → o ≡ get_or os i o
    → defined (map outer_view (take (i + 1) os))
    ≡ defined (map outer_view (take i os)) ++ defined (outer_view o ∷ [])
defined_more os i o lt is =
    ap (λ xs. defined (map outer_view xs)) (take_more os i o lt ∙ ap (λ x. take i os ++ x ∷ []) (sym is))
    ∙ defined_behind (take i os) o

pub defined_all : (os : List OuterHeld) (i : ℕ) → length os ≤ i → defined (map outer_view (take i os))
    ≡ defined (map outer_view os)
defined_all os i past = ap (λ xs. defined (map outer_view xs)) (take_all i os past)
