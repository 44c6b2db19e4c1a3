-- The nets that records hold.
use Rattle.std.proofs.Common.{◌≡◌, ◌≤◌, ◌+◌, refl, sym, ap, subst, ◌∙◌, ℕ, zero, suc, Bool, true, false, cond}
use Rattle.std.proofs.Common.{◌&&◌, ◌==◌, ltb, leb, List, [], ◌∷◌, length, replicate, eqb-true}
use Rattle.std.specs.Prelude.{Some, None, Result, Ok, Err, map}
use Rattle.std.proofs.lemmas.List.{length-map}
use Rattle.std.proofs.lemmas.Bool.{cond-false, and_parts, le-ltb, leb-true}
use Rattle.cov_base.specs.Net.{NetValue, IsNet, suits, ascends, is_bare, Makes}
use Rattle.cov_base.specs.declared.net.FlowArc.{FlowArc}
use Rattle.cov_base.specs.declared.net.NetFault.{NetFault}
use Rattle.cov_base.specs.declared.refusal.Refusal.{Refusal}
use Rattle.cov_base.specs.declared.refusal.Refusal.TheVariants as refusal
use Rattle.cov_base.proofs.NetLaws.{Suit, HasShape-from_IsNet, IsNet-from_shape, no_fault-from_IsNet}
use Rattle.gcno_format.specs.Layout.{LinesValue, LayoutValue}
use Rattle.gcno_format.specs.declared.marks.Marked.{Marked}
use Rattle.gcno_format.specs.Marks.{marked, arc_of}
use Rattle.gcno_format.specs.Spelling.{sum_of}
use Rattle.gcno_format.specs.Values.{bare_net, net_with, HasArcs, HoldsNet, suits_net, wrong_lines, lines_of, lists_from}

-- without records of lines there are no lines
pub no_lists : (b n : ℕ) → lists_from b n [] ≡ replicate n []
no_lists b zero = refl
no_lists b (suc n) = ap (λ (l : List (List ℕ)). [] ∷ l) (no_lists (b + 1) n)

pub as_many_lists : (b n : ℕ) (rs : List LinesValue) → length (lists_from b n rs) ≡ n
as_many_lists b zero rs = refl
as_many_lists b (suc n) rs = ap suc (as_many_lists (b + 1) n rs)

-- no lines suit each block
bare_suits : (b : ℕ) → suits b [] ≡ true
bare_suits b = go (ltb b 2)
  where
    go : (x : Bool) → cond x (is_bare []) (ascends 0 []) ≡ true
    go true = refl
    go false = refl

-- lines that ascend suit each block from 2 on
inner_suits : (b : ℕ) (lines : List ℕ) → 2 ≤ b → ascends 0 lines ≡ true → suits b lines ≡ true
inner_suits b lines le up = cond-false (ltb b 2) (is_bare lines) (ascends 0 lines) (le-ltb b 2 le) ∙ up

found_suits : (blocks b : ℕ) (r : LinesValue) → suits_net blocks r ≡ true → r.block ≡ b → suits b r.lines ≡ true
found_suits blocks b r h e =
    let parts = and_parts (leb 2 r.block && ltb r.block blocks) (ascends 0 r.lines) h in
    let le = leb-true 2 r.block (and_parts (leb 2 r.block) (ltb r.block blocks) parts.0).0 in
    subst (λ b. suits b r.lines ≡ true) e (inner_suits r.block r.lines le parts.1)

-- no record is wrong: the first isn't, and no other
pub none_wrong : (blocks : ℕ) (r : LinesValue) (rs : List LinesValue) → wrong_lines blocks (r ∷ rs) ≡ None
    → (suits_net blocks r ≡ true) × (wrong_lines blocks rs ≡ None)
none_wrong blocks r rs e = go (suits_net blocks r) refl e
  where
    go : (x : Bool) → suits_net blocks r ≡ x → cond x (wrong_lines blocks rs) (Some r.place) ≡ None
        → (suits_net blocks r ≡ true) × (wrong_lines blocks rs ≡ None)
    go true t e = (t, e)
    go false t e = absurd cc

one_suits : (blocks b : ℕ) (rs : List LinesValue) → wrong_lines blocks rs ≡ None → suits b (lines_of b rs) ≡ true
one_suits blocks b [] e = bare_suits b
one_suits blocks b (r ∷ rs) e =
    let h = none_wrong blocks r rs e in
    go (r.block == b) refl h.0 (one_suits blocks b rs h.1)
  where
    go : (x : Bool) → (r.block == b) ≡ x → suits_net blocks r ≡ true → suits b (lines_of b rs) ≡ true
        → suits b (cond x r.lines (lines_of b rs)) ≡ true
    go true t own rest = found_suits blocks b r own (eqb-true r.block b t)
    go false t own rest = rest

pub all_suit : (blocks b n : ℕ) (rs : List LinesValue) → wrong_lines blocks rs ≡ None → Suit b (lists_from b n rs)
all_suit blocks b zero rs e = tt
all_suit blocks b (suc n) rs e = (one_suits blocks b rs e, all_suit blocks (b + 1) n rs e)

-- records that hold a net hold one with its lines
pub full_net : (l : LayoutValue) → HoldsNet l → IsNet (net_with l (lists_from 0 l.blocks l.lines))
full_net l h =
    let s = HasShape-from_IsNet (bare_net l) h.arcs.net in
    IsNet-from_shape (net_with l (lists_from 0 l.blocks l.lines)) (record {
      least = s.least;
      most = s.most;
      few = s.few;
      inside = s.inside;
      ascend = s.ascend;
      entry = s.entry;
      entries = s.entries;
      exits = s.exits;
      lists = as_many_lists 0 l.blocks l.lines;
      suit = all_suit l.blocks 0 l.blocks l.lines h.lines;
    }) h.arcs.net.reached

-- a net isn't refused
pub not_refused : (net other : NetValue) (result : Result NetValue (Refusal NetFault)) (found : NetFault)
    → IsNet net → other ≡ net → Makes other result → result ≡ Err (refusal.Refused found) → ⊥
not_refused net other result found n same makes e =
    no_fault-from_IsNet other found (subst IsNet (sym same) n) (subst (Makes other) e makes)

-- a net of these parts
same_net : (net other : NetValue) → net.blocks ≡ other.blocks → net.arcs ≡ other.arcs → net.lines ≡ other.lines
    → net ≡ other
same_net net other b a l =
    ap (λ (n : ℕ). record { blocks = n; arcs = net.arcs; lines = net.lines }) b
    ∙ (ap (λ (x : List FlowArc). record { blocks = other.blocks; arcs = x; lines = net.lines }) a
    ∙ ap (λ (x : List (List ℕ)). record { blocks = other.blocks; arcs = other.arcs; lines = x }) l)

-- parts that are made into a net, or refused
pub plain_ok : (l : LayoutValue) (net made : NetValue) (result : Result NetValue (Refusal NetFault))
    → net.blocks ≡ l.blocks → net.arcs ≡ map arc_of l.arcs → net.lines ≡ lists_from 0 l.blocks [] → Makes net result
    → result ≡ Ok made → IsNet (bare_net l) × (made ≡ bare_net l)
plain_ok l net made result b a li makes e =
    let same = same_net net (bare_net l) b a (li ∙ no_lists 0 l.blocks) in
    let h = subst (Makes net) e makes in (subst IsNet same h.1, h.0 ∙ same)

pub plain_refused : (l : LayoutValue) (net : NetValue) (result : Result NetValue (Refusal NetFault)) (found : NetFault)
    → net.blocks ≡ l.blocks → net.arcs ≡ map arc_of l.arcs → net.lines ≡ lists_from 0 l.blocks [] → Makes net result
    → result ≡ Err (refusal.Refused found) → IsNet (bare_net l) → ⊥
plain_refused l net result found b a li makes e n =
    not_refused (bare_net l) net result found n (same_net net (bare_net l) b a (li ∙ no_lists 0 l.blocks)) makes e

pub full_refused : (l : LayoutValue) (net : NetValue) (result : Result NetValue (Refusal NetFault)) (found : NetFault)
    → HoldsNet l → net.blocks ≡ l.blocks → net.arcs ≡ map arc_of l.arcs → net.lines ≡ lists_from 0 l.blocks l.lines
    → Makes net result → result ≡ Err (refusal.Refused found) → ⊥
full_refused l net result found h b a li makes e =
    let full : NetValue = net_with l (lists_from 0 l.blocks l.lines) in
    not_refused full net result found (full_net l h) (same_net net full b a li) makes e

-- too many arcs make no net
pub few_arcs : (l : LayoutValue) (arcs : List FlowArc) → arcs ≡ map arc_of l.arcs → IsNet (bare_net l)
    → length arcs ≤ 4096
few_arcs l arcs e n = subst (λ (x : List FlowArc). length x ≤ 4096) (sym e) (HasShape-from_IsNet (bare_net l) n).few

-- as many lists as blocks
pub lists_few : {X : Type 0} (view : X → List ℕ) (xs : List X) (b n : ℕ) (rs : List LinesValue)
    → map view xs ≡ lists_from b n rs → length xs ≡ n
lists_few view xs b n rs e =
    sym (length-map xs view) ∙ (ap length e ∙ as_many_lists b n rs)

-- other arcs than those of the net
pub bare_differs : (l : LayoutValue) (net : NetValue) (own told : List Marked) → own ≡ marked net → net ≡ bare_net l
    → told ≡ l.arcs → (own ≡ told → ⊥) → HasArcs l → ⊥
bare_differs l net own told a e t other h = other (a ∙ (ap marked e ∙ (h.flags ∙ sym t)))

-- the arcs of the net, and its checksum
pub bare_holds : (l : LayoutValue) (net : NetValue) (own told summed : List Marked) (sum : ℕ) → IsNet (bare_net l)
    → own ≡ marked net → net ≡ bare_net l → told ≡ l.arcs → own ≡ told → summed ≡ marked net
    → sum ≡ sum_of l.blocks summed → sum ≡ l.checksum → HasArcs l
bare_holds l net own told summed sum n a e t same s total c = record {
  net = n;
  flags = sym (ap marked e) ∙ (sym a ∙ (same ∙ t));
  checksum = sym c ∙ (total ∙ ap (sum_of l.blocks) (s ∙ ap marked e));
}

-- another checksum than that of the net
pub sum_differs : (l : LayoutValue) (net : NetValue) (summed : List Marked) (sum : ℕ) → net ≡ bare_net l
    → summed ≡ marked net → sum ≡ sum_of l.blocks summed → (sum ≡ l.checksum → ⊥) → HasArcs l → ⊥
sum_differs l net summed sum e s total other h =
    other (total ∙ (ap (sum_of l.blocks) (s ∙ ap marked e) ∙ sym h.checksum))
