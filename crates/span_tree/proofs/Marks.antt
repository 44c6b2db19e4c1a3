-- Marks of those that are there.
use Rattle.std.proofs.Common.{◌≡◌, refl, sym, ap, subst, ◌∙◌, ℕ, zero, suc, ◌+◌, ◌-◌, ◌<◌, ◌≤◌, ◌||◌, ◌==◌, List, []}
use Rattle.std.proofs.Common.{◌∷◌, ◌++◌, length, get_or, set, Bool, true, false, cond, ◌⊎◌, inl, inr, arith}
use Rattle.std.proofs.Common.{get_or-set_other, get_or-set_same, length-set, eq-eqb, eqb-true, append_assoc, append-nil}
use Rattle.std.proofs.Common.{drop-cons}
use Rattle.std.specs.Prelude.{Some, None, slice_get, map, drop, replicate}
use Rattle.std.proofs.lemmas.Bool.{both_ways, or_from, or_parts, cond-true, cond-false}
use Rattle.std.proofs.lemmas.Bool.{cases_eq, ne_eqb, leb-false}
use Rattle.std.proofs.lemmas.Option.{slice_get-get_or}
use Rattle.std.proofs.lemmas.List.{at_drop_more, length-replicate, get_or-replicate}
use Rattle.cov_base.specs.declared.net.FlowArc.{FlowArc}
use Rattle.cov_base.specs.Net.{NetValue, IsNet, is_outside}
use Rattle.cov_base.proofs.NetLaws.{HasShape-from_IsNet}
use Rattle.std.specs.List.{All}
use Rattle.std.proofs.lemmas.List.Elements.{All-nil, All-cons, All-same, All-weaker, All-push}
use Rattle.span_tree.specs.declared.arrival.Arrival.{Arrival}
use Rattle.span_tree.specs.Tree.{is_there, with_block, look, look_along, after_block, after_blocks, after_arrival}
use Rattle.span_tree.specs.Arriving.{IsArriving, AreMarked, looked, looked_at}
use Rattle.span_tree.specs.Touching.{touching, with_index, with_ends, AreTouched, AreTouching}
use Rattle.span_tree.proofs.Grown.{is_there_append, there_last}

-- one more comes, and is marked
pub marked_more : (marks : List Bool) (there : List Arrival) (a : Arrival) → AreMarked marks there
    → AreMarked (set marks a.block true) (there ++ a ∷ [])
marked_more marks there a h b l =
    let within : b < length marks = (let e = length-set marks a.block true in omega (arith, l, e)) in
    elim (cases_eq b a.block) [
      | inl same ↦ subst (λ i. get_or (set marks i true) b false ≡ is_there (there ++ a ∷ []) b) same
          (get_or-set_same marks b true false within
          ∙ sym (subst (λ i. is_there (there ++ a ∷ []) i ≡ true) (sym same) (there_last there a)))
      | inr other ↦ get_or-set_other marks a.block b true false other ∙ h b within
          ∙ sym (is_there_append there (a ∷ []) b
          ∙ skip (is_there there b) (a.block == b) (ne_eqb a.block b (λ e. other (sym e))))
    ]
  where
    skip : (x y : Bool) → y ≡ false → (x || (y || false)) ≡ x
    skip true y e = refl
    skip false y e = or_from _ _ e refl

-- ---- arcs that don't touch a block leave all as it is

look_apart : (block i : ℕ) (arc : FlowArc) (there : List Arrival) → (arc.from == block || arc.to == block) ≡ false
    → look block i arc there ≡ there
look_apart block i arc there e =
    let parts = or_parts _ _ e in
    cond-false (arc.from == block) (with_block (Some i) arc.to there)
    (cond (arc.to == block) (with_block (Some i) arc.from there) there) parts.0
    ∙ cond-false (arc.to == block) (with_block (Some i) arc.from there) there parts.1

along_touching : (all : List FlowArc) (block i : ℕ) (arcs : List FlowArc) (there : List Arrival)
    → ((k : ℕ) (arc : FlowArc) → slice_get arcs k ≡ Some arc → slice_get all (i + k) ≡ Some arc)
    → looked_at all block (touching block i arcs) there ≡ look_along block i arcs there
along_touching all block i [] there at = refl
along_touching all block i (arc ∷ arcs) there at =
    go (arc.from == block || arc.to == block) refl
    (λ t. along_touching all block (suc i) arcs t
    (λ k a h. subst (λ j. slice_get all j ≡ Some a) (omega arith) (at (suc k) a h)))
  where
    here : slice_get all i ≡ Some arc
    here = subst (λ j. slice_get all j ≡ Some arc) (omega arith) (at zero arc refl)

    go : (x : Bool) → (arc.from == block || arc.to == block) ≡ x
        → ((t : List Arrival) → looked_at all block (touching block (suc i) arcs) t ≡ look_along block (suc i) arcs t)
        → looked_at all block (cond x (i ∷ touching block (suc i) arcs) (touching block (suc i) arcs)) there
        ≡ look_along block (suc i) arcs (look block i arc there)
    go true e rec = ap (λ o. looked_at all block (touching block (suc i) arcs) (looked block i o there)) here
        ∙ rec (look block i arc there)
    go false e rec = rec there ∙ ap (look_along block (suc i) arcs) (sym (look_apart block i arc there e))

-- To look at the arcs that touch a block is to look at all.
pub looked_at_touching : (arcs : List FlowArc) (block : ℕ) (there : List Arrival)
    → looked_at arcs block (touching block 0 arcs) there ≡ look_along block 0 arcs there
looked_at_touching arcs block there =
    along_touching arcs block 0 arcs there (λ k a at. subst (λ j. slice_get arcs j ≡ Some a) (omega arith) at)

-- one index more is looked at
pub look_step : (arcs : List FlowArc) (block : ℕ) (indices : List ℕ) (k : ℕ) (d : FlowArc)
    (there new rest : List Arrival) → k < length indices → get_or indices k 0 < length arcs
    → new ≡ look block (get_or indices k 0) (get_or arcs (get_or indices k 0) d) there
    → looked_at arcs block (drop k indices) there ≡ rest → looked_at arcs block (drop (k + 1) indices) new ≡ rest
look_step arcs block indices k d there new rest within below is e =
    ap (looked_at arcs block (drop (k + 1) indices))
    (is ∙ ap (λ o. looked block (get_or indices k 0) o there)
    (sym (slice_get-get_or arcs (get_or indices k 0) d below)))
    ∙ sym (at_drop_more (λ l. looked_at arcs block l there) indices k 0 within) ∙ e

-- one index more in a row
pub with_index_set : {X : Type 0} (f : X → List ℕ) (rows : List X) (b i : ℕ) (old new : X) → b < length rows
    → old ≡ get_or rows b old → f new ≡ f old ++ i ∷ [] → map f (set rows b new) ≡ with_index b i (map f rows)
with_index_set f [] b i old new l e g = absurd (omega (arith, l))
with_index_set f (r ∷ rows) zero i old new l e g = ap (λ (x : List ℕ). x ∷ map f rows) (g ∙ ap (λ x. f x ++ i ∷ []) e)
with_index_set f (r ∷ rows) (suc b) i old new l e g =
    ap (λ (x : List (List ℕ)). f r ∷ x) (with_index_set f rows b i old new (omega (arith, l)) e g)

get_with_index : (c i : ℕ) (rows : List (List ℕ)) (b : ℕ) → b < length rows → get_or (with_index c i rows) b []
    ≡ cond (c == b) (get_or rows b [] ++ i ∷ []) (get_or rows b [])
get_with_index c i [] b l = absurd (omega (arith, l))
get_with_index zero i (r ∷ rows) zero l = refl
get_with_index zero i (r ∷ rows) (suc b) l = sym (cond-false _ _ _ (ne_eqb 0 (suc b) (λ e. omega (arith, e))))
get_with_index (suc c) i (r ∷ rows) zero l = sym (cond-false _ _ _ (ne_eqb (suc c) 0 (λ e. omega (arith, e))))
get_with_index (suc c) i (r ∷ rows) (suc b) l = get_with_index c i rows b (omega (arith, l))
    ∙ ap (λ (x : Bool). cond x (get_or rows b [] ++ i ∷ []) (get_or rows b [])) (same (cases_eq c b))
  where
    same : (c ≡ b) ⊎ (c ≡ b → ⊥) → (c == b) ≡ (suc c == suc b)
    same (inl e) = eq-eqb c b e ∙ sym (eq-eqb (suc c) (suc b) (omega (arith, e)))
    same (inr e) = ne_eqb c b e ∙ sym (ne_eqb (suc c) (suc b) (λ h. e (omega (arith, h))))

pub length_with_index : (c i : ℕ) (rows : List (List ℕ)) → length (with_index c i rows) ≡ length rows
length_with_index c i [] = refl
length_with_index zero i (r ∷ rows) = refl
length_with_index (suc c) i (r ∷ rows) = ap suc (length_with_index c i rows)

-- a row with the index of an arc at one of its ends
get_with_ends : (i : ℕ) (arc : FlowArc) (rows : List (List ℕ)) (b : ℕ) → b < length rows
    → get_or (with_ends i arc rows) b [] ≡ cond (arc.from == b || arc.to == b) (get_or rows b [] ++ i ∷ [])
    (get_or rows b [])
get_with_ends i arc rows b l = go (arc.to == arc.from) refl
  where
    first : get_or (with_index arc.from i rows) b [] ≡ cond (arc.from == b) (get_or rows b [] ++ i ∷ [])
        (get_or rows b [])
    first = get_with_index arc.from i rows b l

    go : (x : Bool) → (arc.to == arc.from) ≡ x
        → get_or (cond x (with_index arc.from i rows) (with_index arc.to i (with_index arc.from i rows))) b []
        ≡ cond (arc.from == b || arc.to == b) (get_or rows b [] ++ i ∷ []) (get_or rows b [])
    go true e = first ∙ ap (λ (y : Bool). cond y (get_or rows b [] ++ i ∷ []) (get_or rows b []))
        (loop (arc.from == b) refl)
      where
        loop : (y : Bool) → (arc.from == b) ≡ y → y ≡ (y || arc.to == b)
        loop true f = refl
        loop false f = sym (subst (λ t. (t == b) ≡ false) (sym (eqb-true arc.to arc.from e)) f)
    go false e =
        get_with_index arc.to i (with_index arc.from i rows) b
        (let k = length_with_index arc.from i rows in omega (arith, k, l))
        ∙ ap (λ (r : List ℕ). cond (arc.to == b) (r ++ i ∷ []) r) first
        ∙ both (arc.from == b) refl (arc.to == b) refl
      where
        both : (y : Bool) → (arc.from == b) ≡ y → (z : Bool) → (arc.to == b) ≡ z
            → cond z (cond y (get_or rows b [] ++ i ∷ []) (get_or rows b []) ++ i ∷ [])
            (cond y (get_or rows b [] ++ i ∷ []) (get_or rows b []))
            ≡ cond (y || z) (get_or rows b [] ++ i ∷ []) (get_or rows b [])
        both true f true g =
            absurd (both_ways _ e (eq-eqb arc.to arc.from (eqb-true arc.to b g ∙ sym (eqb-true arc.from b f))))
        both true f false g = refl
        both false f true g = refl
        both false f false g = refl

-- one more arc
pub touched_step : (blocks i : ℕ) (all arcs : List FlowArc) (k : ℕ) (d : FlowArc) (rows new : List (List ℕ))
    → k < length arcs → AreTouched blocks i all (drop k arcs) rows
    → new ≡ with_ends i (get_or arcs k d) rows → length new ≡ length rows
    → AreTouched blocks (i + 1) all (drop (k + 1) arcs) new
touched_step blocks i all arcs k d rows new within h is long = record {
  many = long ∙ h.many;
  each = λ b l.
      ap (λ (r : List (List ℕ)). get_or r b [] ++ touching b (i + 1) (drop (k + 1) arcs)) is
      ∙ ap (λ (r : List ℕ). r ++ touching b (i + 1) (drop (k + 1) arcs))
      (get_with_ends i (get_or arcs k d) rows b (let m = h.many in omega (arith, l, m)))
      ∙ one b ((get_or arcs k d).from == b || (get_or arcs k d).to == b) refl
      ∙ ap (λ (t : List FlowArc). get_or rows b [] ++ touching b i t) (sym (drop-cons arcs k d within))
      ∙ h.each b l;
}
  where
    later : (b : ℕ) → touching b (i + 1) (drop (k + 1) arcs) ≡ touching b (suc i) (drop (suc k) arcs)
    later b =
        let n : i + 1 ≡ suc i = omega arith in
        let m : k + 1 ≡ suc k = omega arith in
        ap (λ j. touching b j (drop (k + 1) arcs)) n ∙ ap (λ j. touching b (suc i) (drop j arcs)) m

    one : (b : ℕ) (x : Bool) → ((get_or arcs k d).from == b || (get_or arcs k d).to == b) ≡ x
        → cond x (get_or rows b [] ++ i ∷ []) (get_or rows b []) ++ touching b (i + 1) (drop (k + 1) arcs)
        ≡ get_or rows b [] ++ touching b i (get_or arcs k d ∷ drop (suc k) arcs)
    one b true e =
        append_assoc (get_or rows b []) (i ∷ []) (touching b (i + 1) (drop (k + 1) arcs))
        ∙ ap (λ (l : List ℕ). get_or rows b [] ++ i ∷ l) (later b)
        ∙ ap (λ (l : List ℕ). get_or rows b [] ++ l) (sym (cond-true _ _ _ e))
    one b false e = ap (λ (l : List ℕ). get_or rows b [] ++ l) (later b)
        ∙ ap (λ (l : List ℕ). get_or rows b [] ++ l) (sym (cond-false _ _ _ e))

pub touched_first : (blocks : ℕ) (arcs : List FlowArc) (rows : List (List ℕ)) → rows ≡ replicate blocks []
    → AreTouched blocks 0 arcs (drop 0 arcs) rows
touched_first blocks arcs rows e = record {
  many = ap length e ∙ length-replicate blocks [];
  each = λ b l. ap (λ (r : List (List ℕ)). get_or r b [] ++ touching b 0 arcs) e
      ∙ ap (λ (r : List ℕ). r ++ touching b 0 arcs) (get_or-replicate blocks b [] [] l);
}

pub touched_all : (blocks i : ℕ) (arcs rest : List FlowArc) (rows : List (List ℕ)) → AreTouched blocks i arcs rest rows
    → rest ≡ [] → AreTouching blocks arcs rows
touched_all blocks i arcs rest rows h e = record {
  many = h.many;
  each = λ b l. sym (append-nil (get_or rows b [])) ∙ ap (λ (r : List FlowArc). get_or rows b [] ++ touching b i r)
      (sym e) ∙ h.each b l;
}

-- indices of arcs
touching_within : (b i : ℕ) (arcs : List FlowArc) (n : ℕ) → i + length arcs ≤ n → All (λ k. k < n) (touching b i arcs)
touching_within b i [] n l = All-nil (λ k. k < n)
touching_within b i (arc ∷ arcs) n l =
    go (arc.from == b || arc.to == b) (touching_within b (suc i) arcs n (omega (arith, l)))
  where
    go : (x : Bool) → All (λ k. k < n) (touching b (suc i) arcs)
        → All (λ k. k < n) (cond x (i ∷ touching b (suc i) arcs) (touching b (suc i) arcs))
    go true h = All-cons (λ k. k < n) i (touching b (suc i) arcs) (omega (arith, l)) h
    go false h = h

pub touching_below : (b : ℕ) (arcs : List FlowArc) (indices : List ℕ) → indices ≡ touching b 0 arcs
    → All (λ i. i < length arcs) indices
touching_below b arcs indices e = All-same (λ i. i < length arcs) indices (touching b 0 arcs) e
    (touching_within b 0 arcs (length arcs) (omega arith))

pub taken_all : (arcs : List FlowArc) (block : ℕ) (indices : List ℕ) (there mid new : List Arrival)
    → indices ≡ touching block 0 arcs
    → mid ≡ cond (block == 1) (with_block None 0 there) there → new ≡ looked_at arcs block indices mid
    → new ≡ after_block arcs block there
taken_all arcs block indices there mid new e m n =
    n ∙ ap (λ l. looked_at arcs block l mid) e ∙ looked_at_touching arcs block mid ∙ ap (look_along block 0 arcs) m

pub ends_below : (net : NetValue) (blocks : ℕ) (arcs : List FlowArc) → IsNet net → blocks ≡ net.blocks
    → arcs ≡ net.arcs → All (λ arc. (arc.from < blocks) × (arc.to < blocks)) arcs
ends_below net blocks arcs is b a =
    subst (λ n. All (λ arc. (arc.from < n) × (arc.to < n)) arcs) (sym b)
    (All-same (λ arc. (arc.from < net.blocks) × (arc.to < net.blocks)) arcs net.arcs a
    (All-weaker (λ arc. is_outside net.blocks arc ≡ false) (λ arc. (arc.from < net.blocks) × (arc.to < net.blocks))
    (λ arc out. (let parts = or_parts _ _ (or_parts _ _ (or_parts _ _ out).0).0 in
    (leb-false net.blocks arc.from parts.0, leb-false net.blocks arc.to parts.1)))
    net.arcs (HasShape-from_IsNet net is).inside))

pub arriving_more : (marks : List Bool) (there : List Arrival) (a : Arrival) → a.block < length marks
    → IsArriving marks there → IsArriving (set marks a.block true) (there ++ a ∷ [])
arriving_more marks there a l h = record {
  marked = marked_more marks there a h.marked;
  within = subst (λ n. All (λ a. a.block < n) (there ++ a ∷ [])) (sym (length-set marks a.block true))
      (All-push (λ a. a.block < length marks) there a h.within l);
}

pub blocks_step : (arcs : List FlowArc) (n place : ℕ) (there new all : List Arrival) → place < n
    → after_blocks arcs (n - place) place there ≡ all
    → new ≡ after_arrival arcs (slice_get there place) there → after_blocks arcs (n - (place + 1)) (place + 1) new ≡ all
blocks_step arcs n place there new all l h e =
    let left : n - place ≡ suc (n - (place + 1)) = omega (arith, l) in
    let next : place + 1 ≡ suc place = omega arith in
    ap (after_blocks arcs (n - (place + 1)) (place + 1)) e
    ∙ ap (λ p. after_blocks arcs (n - (place + 1)) p (after_arrival arcs (slice_get there place) there)) next
    ∙ ap (λ m. after_blocks arcs m place there) (sym left) ∙ h
