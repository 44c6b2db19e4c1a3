-- Facts that make blocks, arcs and lines a net, and that each net gives back.
use Rattle.std.proofs.Common.{◌≡◌, ℕ, zero, suc, ◌+◌, ◌<◌, ◌≤◌, ◌≢◌, Bool, true, false, cond, not, ◌&&◌, inl, inr, List, [], ◌∷◌, length, get_or, Option, Some, None, refl, sym, ◌∙◌, ap, subst, arith, zero-le, ltb}
use Rattle.std.specs.Option.{option_or, option_map}
use Rattle.std.specs.List.{All, position, position_or_len}
use Rattle.std.proofs.lemmas.Bool.{both_ways, or_parts, or_from, and_parts, and_from, cond-true, cond-false, cases_Bool, le-ltb, lt-ltb, lt-leb, ne_eqb, and_left, ltb-true, ltb-false}
use Rattle.std.proofs.lemmas.List.Sums.{fails_before_first, passes_at_first}
use Rattle.std.proofs.lemmas.List.Elements.{All-cons, All-head, All-tail, All-same, All-weaker}
use Rattle.cov_base.specs.Falls.{is_real}
use Rattle.cov_base.specs.Net.{NetValue, is_outside, is_above, unordered_after, first_unordered, has_arc, is_wrong_entry, first_wrong_entry, is_misplaced, ascends, suits, first_wrong_list, shape_fault, AllReached, IsNet, IsApart, IsFirstFault}
use Rattle.cov_base.specs.declared.net.ArcKind.TheVariants.{Real}
use Rattle.cov_base.specs.declared.net.FlowArc.{FlowArc}
use Rattle.cov_base.specs.declared.net.NetFault.{NetFault}
use Rattle.cov_base.specs.declared.net.NetFault.TheVariants as fault

-- where neither of two is there, their choice isn't
pub option_or-None : {T : Type 0} (a b : Option T) → option_or a b ≡ None → (a ≡ None) × (b ≡ None)
option_or-None None b e = (refl, e)
option_or-None (Some x) b e = cc

pub option_map-None : {T U : Type 0} (f : T → U) (o : Option T) → option_map f o ≡ None → o ≡ None
option_map-None f None e = refl
option_map-None f (Some x) e = cc

pub cond-None : {T : Type 0} (b : Bool) (x : T) → cond b (Some x) None ≡ None → b ≡ false
cond-None true x e = cc
cond-None false x e = refl

-- no element passes the test just where it has no position
pub All-from_no_position : {X : Type 0} (p : X → Bool) (xs : List X) → position p xs ≡ None → All (λ x. p x ≡ false) xs
All-from_no_position p xs e k d h =
    let none : ltb (position_or_len p xs) (length xs) ≡ false = cond-None _ _ e in
    let past : length xs ≤ position_or_len p xs = ltb-false _ _ none in
    fails_before_first p xs k d (omega arith)

pub no_position-from_All : {X : Type 0} (p : X → Bool) (xs : List X) → All (λ x. p x ≡ false) xs → position p xs ≡ None
no_position-from_All {X} p xs h =
    elim (cases_Bool (ltb (position_or_len p xs) (length xs))) [
      | inl holds ↦ absurd (both xs h (ltb-true _ _ holds))
      | inr fails ↦ cond-false _ _ _ fails
    ]
  where
    both : (ys : List X) → All (λ x. p x ≡ false) ys → position_or_len p ys < length ys → ⊥
    both [] a l = omega arith
    both (y ∷ ys) a l = both_ways _ (a (position_or_len p (y ∷ ys)) y l) (passes_at_first p (y ∷ ys) y l)

-- the arcs ascend by their ends, from one before them on
abbrev pub AscendAfter : FlowArc → List FlowArc → Type 0
AscendAfter before [] = Unit {0}
AscendAfter before (arc ∷ arcs) = (is_above arc before ≡ true) × AscendAfter arc arcs

-- the arcs ascend by their ends
abbrev pub Ascend : List FlowArc → Type 0
Ascend [] = Unit {0}
Ascend (arc ∷ arcs) = AscendAfter arc arcs

pub AscendAfter-from_none : (before : FlowArc) (i : ℕ) (arcs : List FlowArc) → unordered_after before i arcs ≡ None → AscendAfter before arcs
AscendAfter-from_none before i [] e = tt
AscendAfter-from_none before i (arc ∷ arcs) e =
    elim (cases_Bool (is_above arc before)) [
      | inl holds ↦ (holds, AscendAfter-from_none arc (i + 1) arcs (sym (cond-true _ _ _ holds) ∙ e))
      | inr fails ↦ absurd (let h : Some i ≡ None = sym (cond-false _ _ _ fails) ∙ e in cc)
    ]

pub none-from_AscendAfter : (before : FlowArc) (i : ℕ) (arcs : List FlowArc) → AscendAfter before arcs → unordered_after before i arcs ≡ None
none-from_AscendAfter before i [] h = refl
none-from_AscendAfter before i (arc ∷ arcs) h = cond-true _ _ _ h.0 ∙ none-from_AscendAfter arc (i + 1) arcs h.1

pub Ascend-from_none : (arcs : List FlowArc) → first_unordered arcs ≡ None → Ascend arcs
Ascend-from_none [] e = tt
Ascend-from_none (arc ∷ arcs) e = AscendAfter-from_none arc 1 arcs e

pub none-from_Ascend : (arcs : List FlowArc) → Ascend arcs → first_unordered arcs ≡ None
none-from_Ascend [] h = refl
none-from_Ascend (arc ∷ arcs) h = none-from_AscendAfter arc 1 arcs h

-- each of the lists suits its block, counted on from a first one
abbrev pub Suit : ℕ → List (List ℕ) → Type 0
Suit block [] = Unit {0}
Suit block (list ∷ lists) = (suits block list ≡ true) × Suit (block + 1) lists

pub Suit-from_none : (block blocks : ℕ) (lists : List (List ℕ)) → block ≤ blocks → first_wrong_list block blocks lists ≡ None → (block + length lists ≡ blocks) × Suit block lists
Suit-from_none block blocks [] h e =
    let past : blocks ≤ block = ltb-false _ _ (cond-None _ _ e) in (omega arith, tt)
Suit-from_none block blocks (list ∷ lists) h e =
    elim (cases_Bool (ltb block blocks && suits block list)) [
      | inl holds ↦ (
          let parts = and_parts _ _ holds in
          let below : block < blocks = ltb-true _ _ parts.0 in
          let rest = Suit-from_none (block + 1) blocks lists (omega arith) (sym (cond-true _ _ _ holds) ∙ e) in
          (omega (arith, rest.0), (parts.1, rest.1)))
      | inr fails ↦ absurd (let h : Some block ≡ None = sym (cond-false _ _ _ fails) ∙ e in cc)
    ]

pub none-from_Suit : (block blocks : ℕ) (lists : List (List ℕ)) → block + length lists ≡ blocks → Suit block lists → first_wrong_list block blocks lists ≡ None
none-from_Suit block blocks [] l h = cond-false _ _ _ (le-ltb block blocks (omega arith))
none-from_Suit block blocks (list ∷ lists) l h =
    cond-true _ _ _ (and_from _ _ (lt-ltb block blocks (omega arith)) h.0) ∙ none-from_Suit (block + 1) blocks lists (omega arith) h.1

-- the list of a block suits it
pub suits-from_Suit : (block : ℕ) (lists : List (List ℕ)) → Suit block lists → (k : ℕ) → k < length lists → suits (block + k) (get_or lists k []) ≡ true
suits-from_Suit block [] h k l = absurd (omega arith)
suits-from_Suit block (list ∷ lists) h zero l = subst (λ b. suits b list ≡ true) (omega arith) h.0
suits-from_Suit block (list ∷ lists) h (suc k) l =
    subst (λ b. suits b (get_or lists k []) ≡ true) (omega arith) (suits-from_Suit (block + 1) lists h.1 k (omega arith))

-- what makes blocks, arcs and lines a net, apart from the blocks that are reached
pub record HasShape (net : NetValue) : Type 0 where
  pub least : 3 ≤ net.blocks
  pub most : net.blocks ≤ 512
  pub few : length net.arcs ≤ 4096
  pub inside : All (λ arc. is_outside net.blocks arc ≡ false) net.arcs
  pub ascend : Ascend net.arcs
  pub entry : has_arc net.arcs 0 2 ≡ true
  pub entries : All (λ arc. is_wrong_entry arc ≡ false) net.arcs
  pub exits : All (λ arc. is_misplaced arc ≡ false) net.arcs
  pub lists : length net.lines ≡ net.blocks
  pub suit : Suit 0 net.lines

entry_parts : (arcs : List FlowArc) → first_wrong_entry arcs ≡ None → (has_arc arcs 0 2 ≡ true) × (position is_wrong_entry arcs ≡ None)
entry_parts arcs e =
    elim (cases_Bool (has_arc arcs 0 2)) [
      | inl holds ↦ (holds, sym (cond-true _ _ _ holds) ∙ e)
      | inr fails ↦ absurd (let h : Some 0 ≡ None = sym (cond-false _ _ _ fails) ∙ e in cc)
    ]

-- a net has each of these
pub HasShape-from_none : (net : NetValue) → shape_fault net ≡ None → HasShape net
HasShape-from_none net e =
    let a = option_or-None _ _ e in
    let b = option_or-None _ _ a.1 in
    let c = option_or-None _ _ b.1 in
    let d = option_or-None _ _ c.1 in
    let f = option_or-None _ _ d.1 in
    let g = option_or-None _ _ f.1 in
    let blocks : (ltb net.blocks 3 ≡ false) × (ltb 512 net.blocks ≡ false) = or_parts _ _ (cond-None _ _ a.0) in
    let entry = entry_parts net.arcs (option_map-None fault.Entry _ f.0) in
    let suit = Suit-from_none 0 net.blocks net.lines zero-le (option_map-None fault.Lines _ g.1) in
    record {
      least = ltb-false _ _ blocks.0;
      most = ltb-false _ _ blocks.1;
      few = ltb-false _ _ (cond-None _ _ b.0);
      inside = All-from_no_position (is_outside net.blocks) net.arcs (option_map-None fault.Range _ c.0);
      ascend = Ascend-from_none net.arcs (option_map-None fault.Order _ d.0);
      entry = entry.0;
      entries = All-from_no_position is_wrong_entry net.arcs entry.1;
      exits = All-from_no_position is_misplaced net.arcs (option_map-None fault.Kind _ g.0);
      lists = let at : 0 + length net.lines ≡ net.blocks = suit.0 in omega (arith, at);
      suit = suit.1;
    }

option_or-from_None : {T : Type 0} (a b : Option T) → a ≡ None → b ≡ None → option_or a b ≡ None
option_or-from_None None b p q = q
option_or-from_None (Some x) b p q = cc

option_map-from_None : {T U : Type 0} (f : T → U) (o : Option T) → o ≡ None → option_map f o ≡ None
option_map-from_None f None e = refl
option_map-from_None f (Some x) e = cc

-- where it has each of these, no fault of the shape stands
pub none-from_HasShape : (net : NetValue) → HasShape net → shape_fault net ≡ None
none-from_HasShape net h =
    option_or-from_None _ _ (cond-false _ _ _ (or_from _ _ (le-ltb _ _ h.least) (le-ltb _ _ h.most)))
    (option_or-from_None _ _ (cond-false _ _ _ (le-ltb _ _ h.few))
    (option_or-from_None _ _ (option_map-from_None _ _ (no_position-from_All _ _ h.inside))
    (option_or-from_None _ _ (option_map-from_None _ _ (none-from_Ascend _ h.ascend))
    (option_or-from_None _ _ (option_map-from_None _ _ (cond-true _ _ _ h.entry ∙ no_position-from_All _ _ h.entries))
    (option_or-from_None _ _ (option_map-from_None _ _ (no_position-from_All _ _ h.exits))
    (option_map-from_None _ _ (none-from_Suit 0 net.blocks net.lines (omega (arith, h.lists)) h.suit)))))))

-- parts of this shape whose blocks are all reached make a net
pub IsNet-from_shape : (net : NetValue) → HasShape net → AllReached net.blocks net.arcs → IsNet net
IsNet-from_shape net h all = record { shape = none-from_HasShape net h; reached = all }

-- each net has this shape
pub HasShape-from_IsNet : (net : NetValue) → IsNet net → HasShape net
HasShape-from_IsNet net h = HasShape-from_none net h.shape

-- blocks, arcs and lines as a lowering makes them: the entry's arc comes first, all arcs are real, and the entry
-- and the exit have no lines
pub record IsLaidOut (net : NetValue) : Type 0 where
  pub least : 3 ≤ net.blocks
  pub most : net.blocks ≤ 512
  pub few : length net.arcs ≤ 4096
  pub ends : All (λ arc. (arc.from < net.blocks) × (arc.to < net.blocks) × (0 < arc.to) × (arc.from ≢ 1)) net.arcs
  pub ascend : Ascend net.arcs
  pub rest : List FlowArc
  pub first : net.arcs ≡ record { from = 0; to = 2; kind = Real } ∷ rest
  pub others : All (λ arc. (0 < arc.from) × (arc.to ≢ 2)) rest
  pub real : All (λ arc. arc.kind ≡ Real) net.arcs
  pub lists : List (List ℕ)
  pub lines : net.lines ≡ [] ∷ [] ∷ lists
  pub many : length net.lines ≡ net.blocks
  pub lists_ascend : All (λ list. ascends 0 list ≡ true) lists
  pub reached : AllReached net.blocks net.arcs

inside-from_ends : (blocks : ℕ) (arc : FlowArc) → (arc.from < blocks) × (arc.to < blocks) × (0 < arc.to) × (arc.from ≢ 1) → is_outside blocks arc ≡ false
inside-from_ends blocks arc h =
    or_from _ _ (or_from _ _ (or_from _ _ (lt-leb blocks arc.from h.0) (lt-leb blocks arc.to h.1)) (ne_eqb arc.to 0 (λ e. omega arith))) (ne_eqb arc.from 1 h.3)

right-from_others : (arc : FlowArc) → (0 < arc.from) × (arc.to ≢ 2) → is_wrong_entry arc ≡ false
right-from_others arc h = cond-false _ _ _ (ne_eqb arc.from 0 (λ e. omega arith)) ∙ ne_eqb arc.to 2 h.1

placed-from_real : (arc : FlowArc) → arc.kind ≡ Real → is_misplaced arc ≡ false
placed-from_real arc h = and_left _ _ (ap (λ k. not (is_real k)) h)

pub Suit-from_ascend : (block : ℕ) (lists : List (List ℕ)) → 2 ≤ block → All (λ list. ascends 0 list ≡ true) lists → Suit block lists
Suit-from_ascend block [] low h = tt
Suit-from_ascend block (list ∷ lists) low h = (
  cond-false _ _ _ (le-ltb block 2 low) ∙ All-head (λ l. ascends 0 l ≡ true) list lists h,
  Suit-from_ascend (block + 1) lists (omega arith) (All-tail (λ l. ascends 0 l ≡ true) list lists h),
)

-- blocks, arcs and lines that are laid out so make a net
pub IsNet-from_layout : (net : NetValue) → IsLaidOut net → IsNet net
IsNet-from_layout net h = IsNet-from_shape net (record {
  least = h.least;
  most = h.most;
  few = h.few;
  inside = All-weaker (λ arc. (arc.from < net.blocks) × (arc.to < net.blocks) × (0 < arc.to) × (arc.from ≢ 1)) (λ arc. is_outside net.blocks arc ≡ false) (inside-from_ends net.blocks) net.arcs h.ends;
  ascend = h.ascend;
  entry = ap (λ arcs. has_arc arcs 0 2) h.first;
  entries = All-same (λ arc. is_wrong_entry arc ≡ false) net.arcs _ h.first (All-cons (λ arc. is_wrong_entry arc ≡ false) _ h.rest refl
      (All-weaker (λ arc. (0 < arc.from) × (arc.to ≢ 2)) (λ arc. is_wrong_entry arc ≡ false) right-from_others h.rest h.others));
  exits = All-weaker (λ arc. arc.kind ≡ Real) (λ arc. is_misplaced arc ≡ false) placed-from_real net.arcs h.real;
  lists = h.many;
  suit = subst (Suit 0) (sym h.lines) (refl, (refl, Suit-from_ascend 2 h.lists (omega arith) h.lists_ascend));
}) h.reached

no_apart : (net : NetValue) (found : NetFault) → IsNet net → IsApart net found → ⊥
no_apart net (fault.Apart block) h a = a.apart (h.reached block a.inner a.within)
no_apart net (fault.Blocks _) h a = a
no_apart net (fault.Arcs _) h a = a
no_apart net (fault.Range _) h a = a
no_apart net (fault.Order _) h a = a
no_apart net (fault.Entry _) h a = a
no_apart net (fault.Kind _) h a = a
no_apart net (fault.Lines _) h a = a

-- a net has no first fault
pub no_fault-from_IsNet : (net : NetValue) (found : NetFault) → IsNet net → IsFirstFault net found → ⊥
no_fault-from_IsNet net found h (inl e) = let k : Some found ≡ None = sym e ∙ h.shape in cc
no_fault-from_IsNet net found h (inr p) = no_apart net found h p.1
