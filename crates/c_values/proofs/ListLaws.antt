-- Lists that are checked element by element: what stands while one is gone through.
use Rattle.std.proofs.Common.{
  ◌≡◌,
  refl,
  sym,
  ap,
  subst,
  ◌∙◌,
  ℕ,
  ◌+◌,
  ◌<◌,
  ◌≤◌,
  List,
  [],
  ◌∷◌,
  ◌++◌,
  length,
  map,
  drop,
}
use Rattle.std.specs.Prelude.{get_or}
use Rattle.std.proofs.lemmas.List.{append_assoc, append-nil, map-append, drop_more, drop_all}
use Rattle.cov_base.specs.declared.refusal.Refusal.{Refusal}
use Rattle.c_typing.specs.declared.fault.TypeFault.{TypeFault}
use Rattle.c_values.specs.Checks.{Stands}
use Rattle.c_values.proofs.CheckLaws.{in_left, in_right}

-- how an element is checked where the check stands: its faults, what is made of it, and where the check stands behind it
pub record Walk (X V H : Type 0) : Type 0 where
  pub faults : H → X → List TypeFault
  pub seen : H → X → List V
  pub next : H → X → H

-- the faults of a list
abbrev pub faults_in : {X V H : Type 0} → Walk X V H → H → List X → List TypeFault
faults_in w h [] = []
faults_in w h (x ∷ xs) = w.faults h x ++ faults_in w (w.next h x) xs

-- what is made of its elements
abbrev pub seen_in : {X V H : Type 0} → Walk X V H → H → List X → List V
seen_in w h [] = []
seen_in w h (x ∷ xs) = w.seen h x ++ seen_in w (w.next h x) xs

-- where the check stands behind it
abbrev pub behind : {X V H : Type 0} → Walk X V H → H → List X → H
behind w h [] = h
behind w h (x ∷ xs) = behind w (w.next h x) xs

-- what is left from here is what all is from the start; at first these were made
pub record Left {X V H : Type 0} (w : Walk X V H) (first : List V) (start : H) (all : List X) (here : H) (rest : List X)
    (done : List V) : Type 0 where
  pub fine : faults_in w here rest ≡ faults_in w start all
  pub made : done ++ seen_in w here rest ≡ first ++ seen_in w start all
  pub ends : behind w here rest ≡ behind w start all

-- what is told of the whole list at its end
pub record Whole {X V H : Type 0} (w : Walk X V H) (first : List V) (start : H) (all : List X) (here : H)
    (done : List V) : Type 0 where
  pub fine : faults_in w start all ≡ []
  pub made : done ≡ first ++ seen_in w start all
  pub ends : here ≡ behind w start all

split : {X : Type 0} (all : List X) (i : ℕ) (x : X) → i < length all → x ≡ get_or all i x → drop i all
    ≡ x ∷ drop (i + 1) all
split all i x lt is = drop_more all i x lt ∙ ap (λ y. y ∷ drop (i + 1) all) (sym is)

stepped : {X V H : Type 0} (w : Walk X V H) (first : List V) (start here now : H) (all rest : List X) (x : X)
    (done after : List V) → Left w first start all here (x ∷ rest) done → w.faults here x ≡ []
    → after ≡ done ++ w.seen here x → now ≡ w.next here x → Left w first start all now rest after
stepped w first start here now all rest x done after left none seen next = record {
  fine = ap (λ h. faults_in w h rest) next ∙ (sym (ap (λ fs. fs ++ faults_in w (w.next here x) rest) none) ∙ left.fine);
  made =
      ap (λ h. after ++ seen_in w h rest) next
      ∙ (ap (λ vs. vs ++ seen_in w (w.next here x) rest) seen
      ∙ (append_assoc done (w.seen here x) (seen_in w (w.next here x) rest) ∙ left.made));
  ends = ap (λ h. behind w h rest) next ∙ left.ends;
}

-- one element on
pub goes_on : {X V H : Type 0} (w : Walk X V H) (first : List V) (start here now : H) (all : List X) (i : ℕ) (x : X)
    (done after : List V) → i < length all → x ≡ get_or all i x → Left w first start all here (drop i all) done
    → w.faults here x ≡ [] → after ≡ done ++ w.seen here x → now ≡ w.next here x
    → Left w first start all now (drop (i + 1) all) after
goes_on w first start here now all i x done after lt is left none seen next =
    stepped w first start here now all (drop (i + 1) all) x done after
    (subst (λ xs. Left w first start all here xs done) (split all i x lt is) left) none seen next

-- one more is seen as that behind the others
pub one_more : {A V : Type 0} (view : A → V) (done after : List A) (a : A) (v : V) → after ≡ done ++ a ∷ []
    → view a ≡ v → map view after ≡ map view done ++ v ∷ []
one_more view done after a v is seen =
    ap (map view) is ∙ (map-append view done (a ∷ []) ∙ ap (λ u. map view done ++ u ∷ []) seen)

-- at the end of the list
pub ended : {X V H : Type 0} (w : Walk X V H) (first : List V) (start here : H) (all : List X) (i : ℕ) (done : List V)
    → length all ≤ i → Left w first start all here (drop i all) done → Whole w first start all here done
ended w first start here all i done past left =
    whole (subst (λ xs. Left w first start all here xs done) (drop_all i all past) left)
  where
    whole : Left w first start all here [] done → Whole w first start all here done
    whole l = record { fine = sym l.fine; made = sym (append-nil done) ∙ l.made; ends = l.ends }

-- a refusal of an element is one of the list
pub refused_at : {X V H : Type 0} (w : Walk X V H) (first : List V) (start here : H) (all : List X) (i : ℕ) (x : X)
    (done : List V) (e : Refusal TypeFault) → i < length all → x ≡ get_or all i x
    → Left w first start all here (drop i all) done → Stands (w.faults here x) e → Stands (faults_in w start all) e
refused_at w first start here all i x done e lt is left h =
    subst (λ fs. Stands fs e) (ap (λ xs. faults_in w here xs) (sym (split all i x lt is)) ∙ left.fine)
    (in_left (w.faults here x) (faults_in w (w.next here x) (drop (i + 1) all)) e h)
