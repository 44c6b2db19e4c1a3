-- The arcs by which blocks came, each of one block alone.
use Rattle.std.proofs.Common.{◌≡◌, refl, sym, ap, subst, ◌∙◌, ℕ, zero, suc, ◌<◌, ◌||◌, ◌==◌, List, [], ◌∷◌, ◌++◌}
use Rattle.std.proofs.Common.{length, Bool, true, false, cond, ◌⊎◌, inl, inr, arith, eq-eqb, eqb-true}
use Rattle.std.specs.Prelude.{Option, Some, None, slice_get}
use Rattle.std.proofs.lemmas.Bool.{both_ways, or_left, or_right, or_parts, cond-true, cond-false, cases_Bool, ne_eqb}
use Rattle.std.proofs.lemmas.Option.{slice_get_within}
use Rattle.cov_base.specs.declared.net.FlowArc.{FlowArc}
use Rattle.cov_base.specs.Net.{NetValue, IsNet}
use Rattle.cov_base.proofs.NetLaws.{HasShape-from_IsNet}
use Rattle.span_tree.specs.declared.arrival.Arrival.{Arrival}
use Rattle.span_tree.specs.Tree.{exit_alone, arrivals, is_there, is_link, is_linked, link_of}
use Rattle.span_tree.specs.Tables.{LinkWithin}
use Rattle.span_tree.proofs.Grown.{Came, Grown, arrivals_grown, is_linked_append, there_last}
use Rattle.span_tree.proofs.Unique.{Inner, inner_more}

-- a block's arc is one by which a block came
pub link_linked : (came : List Arrival) (b i : ℕ) → link_of came b ≡ Some i → is_linked came i ≡ true
link_linked [] b i e = absurd (let never : None ≡ Some i = e in cc)
link_linked (a ∷ came) b i e = go (a.block == b) (λ e. link_linked came b i e) e
  where
    go : (x : Bool) → (link_of came b ≡ Some i → is_linked came i ≡ true) → cond x a.link (link_of came b) ≡ Some i
        → (is_link a.link i || is_linked came i) ≡ true
    go true rec e = or_left _ _ (ap (λ (o : Option ℕ). is_link o i) e ∙ eq-eqb i i refl)
    go false rec e = or_right _ _ (rec e)

-- the arc of a block that is there is one by which one that is there came
pub link_there : (xs ys : List Arrival) (b i : ℕ) → is_there xs b ≡ true → link_of (xs ++ ys) b ≡ Some i
    → is_linked xs i ≡ true
link_there [] ys b i there e = absurd (cc)
link_there (a ∷ xs) ys b i there e = go (a.block == b) there e (λ t e. link_there xs ys b i t e)
  where
    go : (x : Bool) → (x || is_there xs b) ≡ true → cond x a.link (link_of (xs ++ ys) b) ≡ Some i
        → (is_there xs b ≡ true → link_of (xs ++ ys) b ≡ Some i → is_linked xs i ≡ true)
        → (is_link a.link i || is_linked xs i) ≡ true
    go true t e rec = or_left _ _ (ap (λ (o : Option ℕ). is_link o i) e ∙ eq-eqb i i refl)
    go false t e rec = or_right _ _ (rec t e)

-- a block that came next has its own arc
pub link_next : (xs ys : List Arrival) (a : Arrival) → is_there xs a.block ≡ false
    → link_of (xs ++ a ∷ ys) a.block ≡ a.link
link_next [] ys a new = cond-true (a.block == a.block) a.link (link_of ys a.block) (eq-eqb a.block a.block refl)
link_next (x ∷ xs) ys a new =
    let p = or_parts (x.block == a.block) (is_there xs a.block) new in
    cond-false (x.block == a.block) x.link (link_of (xs ++ a ∷ ys) a.block) p.0 ∙ link_next xs ys a p.1

-- the arc by which a new block came is that of none before
pub fresh : (arcs : List FlowArc) (before : List Arrival) (b i : ℕ) → Inner arcs before → Came arcs before b (Some i)
    → is_there before b ≡ false → is_linked before i ≡ false
fresh arcs before b i inner (arc, at, entry, joins) new = elim (cases_Bool (is_linked before i)) [
  | inl l ↦
      absurd (let h = inner i arc l at in elim joins [
        | inl e ↦ both_ways _ new (subst (λ c. is_there before c ≡ true) e.0 h.0)
        | inr e ↦ both_ways _ new (subst (λ c. is_there before c ≡ true) e.0 h.1)
      ])
  | inr l ↦ l
]

-- behind those that are there each arc is that of one block, and of none that is there
pub record Once (before rest : List Arrival) : Type 0 where
  pub new : (b i : ℕ) → link_of rest b ≡ Some i → is_linked before i ≡ false
  pub one : (p q i : ℕ) → link_of rest p ≡ Some i → link_of rest q ≡ Some i → p ≡ q

linked_before : (before : List Arrival) (a : Arrival) (i : ℕ) → is_linked (before ++ a ∷ []) i ≡ false
    → (is_linked before i ≡ false) × (is_link a.link i ≡ false)
linked_before before a i e =
    let p = or_parts (is_linked before i) (is_linked (a ∷ []) i) (sym (is_linked_append before (a ∷ []) i) ∙ e) in
    (p.0, (or_parts (is_link a.link i) false p.1).0)

pub once : (arcs : List FlowArc) (before rest : List Arrival) → Inner arcs before → Grown arcs before rest
    → Once before rest
once arcs before [] inner grown = record {
  new = λ b i e. absurd (let never : None ≡ Some i = e in cc);
  one = λ p q i e f. absurd (let never : None ≡ Some i = e in cc);
}
once arcs before (a ∷ rest) inner grown =
    more (once arcs (before ++ a ∷ []) rest (inner_more arcs before a inner grown.1) grown.2)
  where
    own : (i : ℕ) → a.link ≡ Some i → is_linked before i ≡ false
    own i e = fresh arcs before a.block i inner (subst (λ (o : Option ℕ). Came arcs before a.block o) e grown.1)
        grown.0

    not_own : (i : ℕ) → a.link ≡ Some i → is_linked (before ++ a ∷ []) i ≡ false → ⊥
    not_own i e new = both_ways _ (linked_before before a i new).1
        (ap (λ (o : Option ℕ). is_link o i) e ∙ eq-eqb i i refl)

    more : Once (before ++ a ∷ []) rest → Once before (a ∷ rest)
    more r = record {
      new = λ b i e. new b i (a.block == b) e;
      one = λ p q i e f. one p q i (a.block == p) refl
          (a.block == q) refl e f;
    }
      where
        new : (b i : ℕ) (x : Bool) → cond x a.link (link_of rest b) ≡ Some i → is_linked before i ≡ false
        new b i true e = own i e
        new b i false e = (linked_before before a i (r.new b i e)).0

        one : (p q i : ℕ) (x : Bool) → (a.block == p) ≡ x → (y : Bool) → (a.block == q) ≡ y
            → cond x a.link (link_of rest p) ≡ Some i → cond y a.link (link_of rest q) ≡ Some i → p ≡ q
        one p q i true s true t e f = sym (eqb-true a.block p s) ∙ eqb-true a.block q t
        one p q i true s false t e f = absurd (not_own i e (r.new q i f))
        one p q i false s true t e f = absurd (not_own i f (r.new p i e))
        one p q i false s false t e f = r.one p q i e f

-- the blocks of a net in order of arrival: behind the exit, each by an arc from one that is there
pub record Tree (net : NetValue) (came : List Arrival) : Type 0 where
  pub rest : List Arrival
  pub first : came ≡ exit_alone ++ rest
  pub grown : Grown net.arcs exit_alone rest

pub tree_of : (net : NetValue) → IsNet net → Tree net (arrivals net)
tree_of net is =
    let least = (HasShape-from_IsNet net is).least in
    let grown = (arrivals_grown net (omega (arith, least))).grown in
    record { rest = grown.rest; first = grown.first; grown = grown.grown }

pub inner_exit : (arcs : List FlowArc) → Inner arcs exit_alone
inner_exit arcs i arc l at = absurd (let never : false ≡ true = l in cc)

-- each arc is that of one block
abbrev pub OneEach : List Arrival → Type 0
OneEach came = (p q i : ℕ) → link_of came p ≡ Some i → link_of came q ≡ Some i → p ≡ q

pub one_each : (net : NetValue) (came : List Arrival) → Tree net came → OneEach came
one_each net came t =
    subst OneEach (sym t.first)
    (λ p q i e f. go p q i (1 == p) (1 == q) e f)
  where
    go : (p q i : ℕ) (x y : Bool) → cond x None (link_of t.rest p) ≡ Some i → cond y None (link_of t.rest q) ≡ Some i
        → p ≡ q
    go p q i true y e f = absurd (let never : None ≡ Some i = e in cc)
    go p q i false true e f = absurd (let never : None ≡ Some i = f in cc)
    go p q i false false e f = (once net.arcs exit_alone t.rest (inner_exit net.arcs) t.grown).one p q i e f

own_within : (arcs : List FlowArc) (before : List Arrival) (b i : ℕ) → Came arcs before b (Some i) → i < length arcs
own_within arcs before b i (arc, at, entry, joins) = slice_get_within arcs i arc at

rest_within : (arcs : List FlowArc) (before rest : List Arrival) → Grown arcs before rest → (b i : ℕ)
    → link_of rest b ≡ Some i → i < length arcs
rest_within arcs before [] grown b i e = absurd (let never : None ≡ Some i = e in cc)
rest_within arcs before (a ∷ rest) grown b i e =
    go (a.block == b) (λ e. rest_within arcs (before ++ a ∷ []) rest grown.2 b i e) e
  where
    go : (x : Bool) → (link_of rest b ≡ Some i → i < length arcs) → cond x a.link (link_of rest b) ≡ Some i
        → i < length arcs
    go true rec e = own_within arcs before a.block i (subst (λ (o : Option ℕ). Came arcs before a.block o) e grown.1)
    go false rec e = rec e

-- a block's arc is one of the net
pub link_within : (net : NetValue) (came : List Arrival) → Tree net came → (b i : ℕ) → link_of came b ≡ Some i
    → i < length net.arcs
link_within net came t b i e = go (1 == b) (ap (λ (l : List Arrival). link_of l b) (sym t.first) ∙ e)
  where
    go : (x : Bool) → cond x None (link_of t.rest b) ≡ Some i → i < length net.arcs
    go true e = absurd (let never : None ≡ Some i = e in cc)
    go false e = rest_within net.arcs exit_alone t.rest t.grown b i e

pub links_within : (net : NetValue) (came : List Arrival) (n : ℕ) → IsNet net → came ≡ arrivals net
    → n ≡ length net.arcs → (b : ℕ) → LinkWithin n (link_of came b)
links_within net came n is e many b =
    subst (λ (l : List Arrival). LinkWithin n (link_of l b)) (sym e) (go (link_of (arrivals net) b) refl)
  where
    go : (o : Option ℕ) → link_of (arrivals net) b ≡ o → LinkWithin n o
    go None h = tt
    go (Some i) h = (let l = link_within net (arrivals net) (tree_of net is) b i h in omega (arith, l, many))
