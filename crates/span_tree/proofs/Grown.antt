-- Each block comes along an arc from one that is there.
use Rattle.std.proofs.Common.{◌≡◌, refl, sym, ap, subst, ◌∙◌, ℕ, zero, suc, ◌+◌, ◌<◌, ◌||◌, ◌==◌, List, [], ◌∷◌}
use Rattle.std.proofs.Common.{◌++◌, Bool, true, false, cond, ◌⊎◌, inl, inr, arith, eq-eqb, eqb-true}
use Rattle.std.proofs.Common.{append_assoc, append-nil}
use Rattle.std.specs.Prelude.{Option, Some, None, slice_get}
use Rattle.std.proofs.lemmas.Bool.{both_ways, or_left, or_right}
use Rattle.std.proofs.lemmas.List.Folds.{list_any-append}
use Rattle.cov_base.specs.declared.net.FlowArc.{FlowArc}
use Rattle.cov_base.specs.Net.{NetValue}
use Rattle.span_tree.specs.declared.arrival.Arrival.{Arrival}
use Rattle.span_tree.specs.Tree.{is_there, with_block, look, look_along, after_block, after_arrival, after_blocks}
use Rattle.span_tree.specs.Tree.{exit_alone, arrivals, is_link, is_linked}

-- an arc joins a block to one that is there
abbrev pub JoinsTo : List Arrival → ℕ → FlowArc → Type 0
JoinsTo before b arc = ((arc.from ≡ b) × (is_there before arc.to ≡ true))
    ⊎ ((arc.to ≡ b) × (is_there before arc.from ≡ true))

-- it came from one that is there; the entry by the unwritten arc, and so before all that come by arcs
abbrev pub Came : List FlowArc → List Arrival → ℕ → Option ℕ → Type 0
Came arcs before b None = b ≡ 0
Came arcs before b (Some i) = (arc : FlowArc) × (slice_get arcs i ≡ Some arc) × (is_there before 0 ≡ true)
    × JoinsTo before b arc

-- behind those that are there these came, each once
abbrev pub Grown : List FlowArc → List Arrival → List Arrival → Type 0
Grown arcs before [] = Unit {0}
Grown arcs before (a ∷ rest) = (is_there before a.block ≡ false) × Came arcs before a.block a.link
    × Grown arcs (before ++ a ∷ []) rest

-- all that are there came so, behind the exit
pub record IsGrown (arcs : List FlowArc) (there : List Arrival) : Type 0 where
  pub rest : List Arrival
  pub first : there ≡ exit_alone ++ rest
  pub grown : Grown arcs exit_alone rest

-- ---- lists

pub is_there_append : (xs ys : List Arrival) (b : ℕ) → is_there (xs ++ ys) b ≡ (is_there xs b || is_there ys b)
is_there_append xs ys b = list_any-append (λ a. a.block == b) xs ys

pub is_linked_append : (xs ys : List Arrival) (i : ℕ) → is_linked (xs ++ ys) i ≡ (is_linked xs i || is_linked ys i)
is_linked_append [] ys i = refl
is_linked_append (a ∷ xs) ys i = go (is_link a.link i) (is_linked_append xs ys i)
  where
    go : (x : Bool) → is_linked (xs ++ ys) i ≡ (is_linked xs i || is_linked ys i)
        → (x || is_linked (xs ++ ys) i) ≡ ((x || is_linked xs i) || is_linked ys i)
    go true e = refl
    go false e = e

pub there_more : (xs ys : List Arrival) (b : ℕ) → is_there xs b ≡ true → is_there (xs ++ ys) b ≡ true
there_more xs ys b h = is_there_append xs ys b ∙ or_left _ _ h

pub there_last : (xs : List Arrival) (a : Arrival) → is_there (xs ++ a ∷ []) a.block ≡ true
there_last xs a = is_there_append xs (a ∷ []) a.block ∙ or_right _ _ (or_left _ _ (eq-eqb a.block a.block refl))

-- ---- one more

grown_more : (arcs : List FlowArc) (before rest : List Arrival) (a : Arrival) → Grown arcs before rest
    → is_there (before ++ rest) a.block ≡ false
    → Came arcs (before ++ rest) a.block a.link → Grown arcs before (rest ++ a ∷ [])
grown_more arcs before [] a grown new came = (
  subst (λ (l : List Arrival). is_there l a.block ≡ false) (append-nil before) new,
  subst (λ (l : List Arrival). Came arcs l a.block a.link) (append-nil before) came,
  tt,
)
grown_more arcs before (x ∷ rest) a grown new came = (
  grown.0,
  grown.1,
  grown_more arcs (before ++ x ∷ []) rest a grown.2
      (subst (λ (l : List Arrival). is_there l a.block ≡ false) (sym (append_assoc before (x ∷ []) rest)) new)
      (subst (λ (l : List Arrival). Came arcs l a.block a.link) (sym (append_assoc before (x ∷ []) rest)) came),
)

is_grown_more : (arcs : List FlowArc) (there : List Arrival) (a : Arrival) → IsGrown arcs there
    → is_there there a.block ≡ false
    → Came arcs there a.block a.link → IsGrown arcs (there ++ a ∷ [])
is_grown_more arcs there a h new came = record {
  rest = h.rest ++ a ∷ [];
  first = ap (λ (l : List Arrival). l ++ a ∷ []) h.first ∙ append_assoc exit_alone h.rest (a ∷ []);
  grown = grown_more arcs exit_alone h.rest a h.grown
      (subst (λ (l : List Arrival). is_there l a.block ≡ false) h.first new)
      (subst (λ (l : List Arrival). Came arcs l a.block a.link) h.first came);
}

-- what holds of those that are there while arcs are looked at: they came so, the entry too, and what was there is there
pub record Looked (arcs : List FlowArc) (old there : List Arrival) : Type 0 where
  pub grown : IsGrown arcs there
  pub more : (b : ℕ) → is_there old b ≡ true → is_there there b ≡ true

with_grown : (arcs : List FlowArc) (link : Option ℕ) (b : ℕ) (there : List Arrival) → IsGrown arcs there
    → Came arcs there b link → Looked arcs there (with_block link b there)
with_grown arcs link b there grown came = go (is_there there b) refl
  where
    new : List Arrival
    new = there ++ record { block = b; link = link } ∷ []

    go : (x : Bool) → is_there there b ≡ x → Looked arcs there (cond x there new)
    go true e = record { grown = grown; more = λ b h. h }
    go false e = record {
      grown = is_grown_more arcs there (record { block = b; link = link }) grown e came;
      more = λ c h. there_more there (record { block = b; link = link } ∷ []) c h;
    }

looked_then : (arcs : List FlowArc) (a b c : List Arrival) → Looked arcs a b → Looked arcs b c → Looked arcs a c
looked_then arcs a b c h k = record { grown = k.grown; more = λ x l. k.more x (h.more x l) }

look_grown : (arcs : List FlowArc) (block i : ℕ) (arc : FlowArc) (there : List Arrival) → slice_get arcs i ≡ Some arc
    → IsGrown arcs there
    → is_there there 0 ≡ true → is_there there block ≡ true → Looked arcs there (look block i arc there)
look_grown arcs block i arc there at grown entry mine = go (arc.from == block) refl (arc.to == block) refl
  where
    go : (x : Bool) → (arc.from == block) ≡ x → (y : Bool) → (arc.to == block) ≡ y
        → Looked arcs there
        (cond x (with_block (Some i) arc.to there) (cond y (with_block (Some i) arc.from there) there))
    go true ex y ey = with_grown arcs (Some i) arc.to there grown
        (arc, at, entry, inr (refl, subst (λ b. is_there there b ≡ true) (sym (eqb-true arc.from block ex)) mine))
    go false ex true ey = with_grown arcs (Some i) arc.from there grown
        (arc, at, entry, inl (refl, subst (λ b. is_there there b ≡ true) (sym (eqb-true arc.to block ey)) mine))
    go false ex false ey = record { grown = grown; more = λ b h. h }

along_grown : (arcs : List FlowArc) (block i : ℕ) (some : List FlowArc) (there : List Arrival)
    → ((k : ℕ) (arc : FlowArc) → slice_get some k ≡ Some arc → slice_get arcs (i + k) ≡ Some arc)
    → IsGrown arcs there → is_there there 0 ≡ true → is_there there block ≡ true
    → Looked arcs there (look_along block i some there)
along_grown arcs block i [] there at grown entry mine = record { grown = grown; more = λ b h. h }
along_grown arcs block i (arc ∷ some) there at grown entry mine =
    let now = look_grown arcs block i arc there
    (subst (λ k. slice_get arcs k ≡ Some arc) (omega arith) (at zero arc refl)) grown entry mine in
    looked_then arcs there (look block i arc there) (look_along block (suc i) some (look block i arc there)) now
    (along_grown arcs block (suc i) some (look block i arc there)
    (λ k a h. subst (λ k. slice_get arcs k ≡ Some a) (omega arith) (at (suc k) a h))
    now.grown (now.more 0 entry) (now.more block mine))

pub block_grown : (arcs : List FlowArc) (block : ℕ) (there : List Arrival) → IsGrown arcs there
    → (is_there there 0 ≡ true) ⊎ ((block == 1) ≡ true) → is_there there block ≡ true
    → Looked arcs there (after_block arcs block there)
block_grown arcs block there grown entry mine = go (block == 1) refl
  where
    along : (l : List Arrival) → Looked arcs there l → is_there l 0 ≡ true
        → Looked arcs there (look_along block 0 arcs l)
    along l h entry = looked_then arcs there l (look_along block 0 arcs l) h
        (along_grown arcs block 0 arcs l (λ k a at. subst (λ k. slice_get arcs k ≡ Some a) (omega arith) at) h.grown
        entry (h.more block mine))

    entry_there : (x : Bool) → is_there there 0 ≡ x
        → is_there (cond x there (there ++ record { block = 0; link = None } ∷ [])) 0 ≡ true
    entry_there true e = e
    entry_there false e = there_last there (record { block = 0; link = None })

    go : (x : Bool) → (block == 1) ≡ x
        → Looked arcs there (look_along block 0 arcs (cond x (with_block None 0 there) there))
    go true e = along (with_block None 0 there) (with_grown arcs None 0 there grown refl)
        (entry_there (is_there there 0) refl)
    go false e = along there (record { grown = grown; more = λ b h. h })
        (elim entry [ inl h ↦ h | inr h ↦ absurd (both_ways _ e h) ])

pub at_there : (there : List Arrival) (k : ℕ) (a : Arrival) → slice_get there k ≡ Some a → is_there there a.block ≡ true
at_there [] k a at = absurd (let never : None ≡ Some a = at in cc)
at_there (x ∷ there) zero a at =
    (let same : x ≡ a = (let h : Some x ≡ Some a = at in cc) in
    or_left _ _ (eq-eqb x.block a.block (ap (λ (y : Arrival). y.block) same)))
at_there (x ∷ there) (suc k) a at = or_right _ _ (at_there there k a at)

blocks_grown : (arcs : List FlowArc) (n at : ℕ) (there : List Arrival) → IsGrown arcs there → is_there there 0 ≡ true
    → Looked arcs there (after_blocks arcs n at there)
blocks_grown arcs zero at there grown entry = record { grown = grown; more = λ b h. h }
blocks_grown arcs (suc n) at there grown entry = go (slice_get there at) refl (λ l. blocks_grown arcs n (suc at) l)
  where
    go : (o : Option Arrival) → slice_get there at ≡ o
        → ((l : List Arrival) → IsGrown arcs l → is_there l 0 ≡ true → Looked arcs l (after_blocks arcs n (suc at) l))
        → Looked arcs there (after_blocks arcs n (suc at) (after_arrival arcs o there))
    go None e rec = rec there grown entry
    go (Some a) e rec =
        let h = block_grown arcs a.block there grown (inl entry) (at_there there at a e) in
        looked_then arcs there (after_block arcs a.block there)
        (after_blocks arcs n (suc at) (after_block arcs a.block there)) h
        (rec (after_block arcs a.block there) h.grown (h.more 0 entry))

start_grown : (arcs : List FlowArc) → IsGrown arcs exit_alone
start_grown arcs = record { rest = []; first = refl; grown = tt }

-- the exit's arcs are looked at, the unwritten one first
pub entry_grown : (arcs : List FlowArc) → Looked arcs (exit_alone ++ record { block = 0; link = None } ∷ [])
    (after_block arcs 1 exit_alone)
entry_grown arcs =
    along_grown arcs 1 0 arcs (exit_alone ++ record { block = 0; link = None } ∷ [])
    (λ k a at. subst (λ k. slice_get arcs k ≡ Some a) (omega arith) at)
    (record { rest = record { block = 0; link = None } ∷ []; first = refl; grown = (refl, refl, tt) }) refl refl

-- All that come came so.
pub arrivals_grown : (net : NetValue) → 0 < net.blocks
    → Looked net.arcs (exit_alone ++ record { block = 0; link = None } ∷ []) (arrivals net)
arrivals_grown net some = go net.blocks some
  where
    go : (n : ℕ) → 0 < n → Looked net.arcs (exit_alone ++ record { block = 0; link = None } ∷ [])
        (after_blocks net.arcs n 0 exit_alone)
    go zero l = absurd (omega (arith, l))
    go (suc n) l =
        let h = entry_grown net.arcs in
        looked_then net.arcs (exit_alone ++ record { block = 0; link = None } ∷ []) (after_block net.arcs 1 exit_alone)
        (after_blocks net.arcs n 1 (after_block net.arcs 1 exit_alone)) h
        (blocks_grown net.arcs n 1 (after_block net.arcs 1 exit_alone) h.grown (h.more 0 refl))
