-- The records of notes hold their nets.
use Rattle.std.proofs.Common.{◌≡◌, ◌≤◌, ◌+◌, refl, sym, ap, subst, ◌∙◌, ℕ, Bool, true, false, cond}
use Rattle.std.proofs.Common.{◌&&◌, ◌||◌, ◌==◌, leb, ltb, List, [], ◌∷◌, ◌++◌, length, map, replicate, eqb-true, eq-eqb, arith}
use Rattle.std.proofs.Common.{not}
use Rattle.std.specs.Prelude.{flat_map, None}
use Rattle.std.proofs.lemmas.Bool.{and_from, ltb-false, lt-ltb, le-leb, cond-true}
use Rattle.cov_base.specs.Falls.{is_real, falls}
use Rattle.cov_base.specs.Net.{NetValue, IsNet, ascends, is_bare, suits}
use Rattle.cov_base.specs.declared.net.ArcKind.{ArcKind}
use Rattle.cov_base.specs.declared.net.ArcKind.TheVariants.{Real, CallExit}
use Rattle.cov_base.specs.declared.net.FlowArc.{FlowArc}
use Rattle.cov_base.proofs.NetLaws.{Suit, HasShape-from_IsNet, IsNet-from_shape}
use Rattle.span_tree.specs.declared.arrival.Arrival.{Arrival}
use Rattle.span_tree.specs.Tree.{arrivals, is_linked}
use Rattle.gcov_records.specs.Records.{spelled_from}
use Rattle.gcno_format.specs.Marks.{mark_of, marked_from, marked, kind_of, arc_of}
use Rattle.gcno_format.specs.Notes.{FunctionNotesValue}
use Rattle.gcno_format.specs.Spelling.{lines_bytes, checksum_of, IsFunctionNotes}
use Rattle.gcno_format.specs.Layout.{LinesValue, LayoutValue}
use Rattle.gcno_format.specs.Values.{HoldsNet, suits_net, wrong_lines, lines_of, lists_from}
use Rattle.gcno_format.specs.Values.{function_of}
use Rattle.gcno_format.proofs.LineLaws.{AreRecords, record_bytes, no_lines, passed_over}
use Rattle.gcno_format.proofs.ValueLaws.{no_lists, as_many_lists, all_suit}

-- ---- arcs

-- flags tell the kind
kind_told : (on fall : Bool) (kind : ArcKind)
    → (is_real kind ≡ false → fall ≡ false)
    → kind_of (cond on 1 0 + cond (not (is_real kind)) 2 0 + cond fall 4 0) ≡ kind
kind_told true true Real h = refl
kind_told true false Real h = refl
kind_told false true Real h = refl
kind_told false false Real h = refl
kind_told true true CallExit h = absurd (let e = h refl in cc)
kind_told true false CallExit h = refl
kind_told false true CallExit h = absurd (let e = h refl in cc)
kind_told false false CallExit h = refl

arc_told : (on : Bool) (arc : FlowArc) → arc_of (mark_of on arc) ≡ arc
arc_told on arc =
    ap (λ (k : ArcKind). record { from = arc.from; to = arc.to; kind = k })
    (kind_told on (falls arc) arc.kind
    (λ e. ap (λ b. b && ((arc.from == 0) || (arc.to == arc.from + 1))) e))

arcs_told : (came : List Arrival) (i : ℕ) (arcs : List FlowArc) → map arc_of (marked_from came i arcs) ≡ arcs
arcs_told came i [] = refl
arcs_told came i (arc ∷ arcs) =
    ap (λ (a : FlowArc). a ∷ map arc_of (marked_from came (i + 1) arcs)) (arc_told (is_linked came i) arc)
    ∙ ap (λ (l : List FlowArc). arc ∷ l) (arcs_told came (i + 1) arcs)

-- ---- lines

-- the records of lines, without places
abbrev pub records_from : ℕ → List (List ℕ) → List LinesValue
records_from b [] = []
records_from b ([] ∷ more) = records_from (b + 1) more
records_from b ((x ∷ xs) ∷ more) = record { place = 0; block = b; lines = x ∷ xs } ∷ records_from (b + 1) more

pub records_spelled : (b : ℕ) (lists : List (List ℕ))
    → spelled_from b lines_bytes lists ≡ flat_map record_bytes (records_from b lists)
records_spelled b [] = refl
records_spelled b ([] ∷ more) = records_spelled (b + 1) more
records_spelled b ((x ∷ xs) ∷ more) =
    ap (λ (l : List ℕ). lines_bytes b (x ∷ xs) ++ l) (records_spelled (b + 1) more)

weaker : (b c end : ℕ) (rs : List LinesValue) → b ≤ c → AreRecords c end rs → AreRecords b end rs
weaker b c end [] le h = tt
weaker b c end (r ∷ rs) le h = (((let l = h.0.0 in omega (arith, l, le)), h.0.1), h.1, h.2)

records_ascend : (b end : ℕ) (lists : List (List ℕ)) → b + length lists ≡ end → AreRecords b end (records_from b lists)
records_ascend b end [] e = tt
records_ascend b end ([] ∷ more) e =
    weaker b (b + 1) end (records_from (b + 1) more) (omega arith) (records_ascend (b + 1) end more (omega (arith, e)))
records_ascend b end ((x ∷ xs) ∷ more) e =
    ((omega arith, omega (arith, e)), omega arith, records_ascend (b + 1) end more (omega (arith, e)))

records_lists : (b end : ℕ) (lists : List (List ℕ)) → b + length lists ≡ end
    → lists_from b (length lists) (records_from b lists) ≡ lists
records_lists b end [] e = refl
records_lists b end ([] ∷ more) e =
    ap (λ (l : List ℕ). l ∷ lists_from (b + 1) (length more) (records_from (b + 1) more))
    (no_lines b (b + 1) end (records_from (b + 1) more) (omega arith) (records_ascend (b + 1) end more (omega (arith, e))))
    ∙ ap (λ (l : List (List ℕ)). [] ∷ l) (records_lists (b + 1) end more (omega (arith, e)))
records_lists b end ((x ∷ xs) ∷ more) e =
    ap (λ (l : List ℕ). l ∷ lists_from (b + 1) (length more) (records_from b ((x ∷ xs) ∷ more)))
    (cond-true (b == b) (x ∷ xs) (lines_of b (records_from (b + 1) more)) (eq-eqb b b refl))
    ∙ ap (λ (l : List (List ℕ)). (x ∷ xs) ∷ l)
    (passed_over (b + 1) (length more) (record { place = 0; block = b; lines = x ∷ xs }) (records_from (b + 1) more)
    (omega arith) ∙ records_lists (b + 1) end more (omega (arith, e)))

some_suit : (b x : ℕ) (xs : List ℕ) → suits b (x ∷ xs) ≡ true → (2 ≤ b) × (ascends 0 (x ∷ xs) ≡ true)
some_suit b x xs h = go (ltb b 2) refl h
  where
    go : (y : Bool) → ltb b 2 ≡ y → cond y (is_bare (x ∷ xs)) (ascends 0 (x ∷ xs)) ≡ true
        → (2 ≤ b) × (ascends 0 (x ∷ xs) ≡ true)
    go true t h = absurd (let e = eqb-true (length (x ∷ xs)) 0 h in omega (arith, e))
    go false t h = (ltb-false b 2 t, h)

records_suit : (blocks b : ℕ) (lists : List (List ℕ)) → b + length lists ≤ blocks → Suit b lists
    → wrong_lines blocks (records_from b lists) ≡ None
records_suit blocks b [] le h = refl
records_suit blocks b ([] ∷ more) le h = records_suit blocks (b + 1) more (omega (arith, le)) h.1
records_suit blocks b ((x ∷ xs) ∷ more) le h =
    let s = some_suit b x xs h.0 in
    let r : LinesValue = record { place = 0; block = b; lines = x ∷ xs } in
    cond-true (suits_net blocks r) _ _
    (and_from (leb 2 b && ltb b blocks) (ascends 0 (x ∷ xs))
    (and_from (leb 2 b) (ltb b blocks) (le-leb 2 b s.0) (lt-ltb b blocks (omega (arith, le)))) s.1)
    ∙ records_suit blocks (b + 1) more (omega (arith, le)) h.1

-- ---- functions

-- the records of a function, without places
abbrev pub layout_of : FunctionNotesValue → LayoutValue
layout_of f = record {
  place = 0;
  name = f.name;
  line = f.line;
  checksum = f.checksum;
  blocks = f.net.blocks;
  arcs = marked f.net;
  lines = records_from 0 f.net.lines;
}

-- a net without lines is one
bare_is_net : (net : NetValue) → IsNet net
    → IsNet (record { blocks = net.blocks; arcs = net.arcs; lines = replicate net.blocks [] })
bare_is_net net n =
    let s = HasShape-from_IsNet net n in
    subst (λ lists. IsNet (record { blocks = net.blocks; arcs = net.arcs; lines = lists })) (no_lists 0 net.blocks)
    (IsNet-from_shape (record { blocks = net.blocks; arcs = net.arcs; lines = lists_from 0 net.blocks [] }) (record {
      least = s.least;
      most = s.most;
      few = s.few;
      inside = s.inside;
      ascend = s.ascend;
      entry = s.entry;
      entries = s.entries;
      exits = s.exits;
      lists = as_many_lists 0 net.blocks [];
      suit = all_suit net.blocks 0 net.blocks [] refl;
    }) n.reached)

pub holds_net : (f : FunctionNotesValue) → IsFunctionNotes f → HoldsNet (layout_of f)
holds_net f h =
    let told : map arc_of (marked f.net) ≡ f.net.arcs = arcs_told (arrivals f.net) 0 f.net.arcs in
    let s = HasShape-from_IsNet f.net h.net in
    let lists = s.lists in
    record {
      arcs = record {
        net = subst (λ (arcs : List FlowArc). IsNet (record {
          blocks = f.net.blocks;
          arcs = arcs;
          lines = replicate f.net.blocks [];
        })) (sym told) (bare_is_net f.net h.net);
        flags = ap (λ (arcs : List FlowArc). marked (record {
          blocks = f.net.blocks;
          arcs = arcs;
          lines = replicate f.net.blocks [];
        })) told;
        checksum = h.writable.checksum ∙ ap (λ (arcs : List FlowArc). checksum_of (record {
          blocks = f.net.blocks;
          arcs = arcs;
          lines = replicate f.net.blocks [];
        })) (sym told);
      };
      lines = records_suit f.net.blocks 0 f.net.lines (omega (arith, lists)) s.suit;
    }

pub function_made : (f : FunctionNotesValue) → IsFunctionNotes f → function_of (layout_of f) ≡ f
function_made f h =
    let told : map arc_of (marked f.net) ≡ f.net.arcs = arcs_told (arrivals f.net) 0 f.net.arcs in
    let lists : length f.net.lines ≡ f.net.blocks = (HasShape-from_IsNet f.net h.net).lists in
    let back : lists_from 0 f.net.blocks (records_from 0 f.net.lines) ≡ f.net.lines =
    ap (λ n. lists_from 0 n (records_from 0 f.net.lines)) (sym lists)
    ∙ records_lists 0 (length f.net.lines) f.net.lines (omega arith) in
    ap (λ (arcs : List FlowArc). record {
      name = f.name;
      line = f.line;
      checksum = f.checksum;
      net = record { blocks = f.net.blocks; arcs = arcs; lines = lists_from 0 f.net.blocks (records_from 0 f.net.lines) };
    }) told
    ∙ ap (λ (l : List (List ℕ)). record {
      name = f.name;
      line = f.line;
      checksum = f.checksum;
      net = record { blocks = f.net.blocks; arcs = f.net.arcs; lines = l };
    }) back
