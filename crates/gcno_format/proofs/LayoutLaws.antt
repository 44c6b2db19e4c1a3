-- How the records of functions that were read are spelled.
use Rattle.std.proofs.Common.{◌≡◌, ◌≤◌, ◌<◌, ◌+◌, ◌*◌, refl, sym, ap, subst, ◌∙◌, ℕ, true, List, [], ◌∷◌}
use Rattle.std.proofs.Common.{◌++◌, length, append-nil, append_assoc, eqb-true, arith}
use Rattle.std.specs.Prelude.{flat_map}
use Rattle.std.specs.List.{All}
use Rattle.std.proofs.lemmas.List.{length-append, nil_from_length}
use Rattle.std.proofs.lemmas.List.Elements.{All-nil, All-cons, All-append, All-head, All-tail}
use Rattle.gcov_items.specs.Items.{word_bytes, header_bytes, string_bytes}
use Rattle.gcov_records.specs.Records.{spelled_from}
use Rattle.gcno_format.specs.declared.marks.Marked.{Marked}
use Rattle.gcno_format.specs.Marks.{Leaving, leavings}
use Rattle.gcno_format.specs.Notes.{is_name}
use Rattle.gcno_format.specs.Spelling.{
  function_tag,
  block_tag,
  arc_tag,
  line_tag,
  way_bytes,
  leaving_bytes,
  arcs_bytes,
  blocks_bytes,
  lines_record,
  head_bytes,
}
use Rattle.gcno_format.specs.Layout.{LinesValue, LayoutValue, ProgressValue, begun, with_arcs, with_lines, all_begun}
use Rattle.gcno_format.specs.Layout.{is_without_lines}
use Rattle.gcno_format.proofs.ArcLaws.{AllLeave, AllBelow, leavings_append}
use Rattle.gcno_format.proofs.LineLaws.{record_bytes}
use Rattle.gcno_format.proofs.HeadLaws.{FitHead, behind_tag}
use Rattle.gcno_format.proofs.RecordLaws.{FitWay, FitLeaving, FitLines, behind_arcs, behind_lines}

-- the records of a function with its number
abbrev pub layout_bytes : ℕ → LayoutValue → List ℕ
layout_bytes k l =
    head_bytes k l.checksum l.name l.line ++ (blocks_bytes l.blocks
    ++ (arcs_bytes l.arcs ++ flat_map record_bytes l.lines))

-- ---- tags

pub arcs_behind_tag : (l : Leaving) (rest : List ℕ)
    → word_bytes arc_tag ++ (behind_arcs l ++ rest) ≡ leaving_bytes l ++ rest
unfolding leaving_bytes
arcs_behind_tag l rest =
    ap (λ (t : List ℕ). word_bytes arc_tag ++ (word_bytes (4 + 8 * length l.arcs) ++ (word_bytes l.block ++ t)))
    (ap (λ (t : List ℕ). t ++ rest) (append-nil (flat_map way_bytes l.arcs)))

pub lines_behind_tag : (r : LinesValue) (rest : List ℕ)
    → word_bytes line_tag ++ (behind_lines r ++ rest) ≡ record_bytes r ++ rest
unfolding lines_record
lines_behind_tag r rest =
    ap (λ (t : List ℕ). word_bytes line_tag ++ (word_bytes (4 + 4 * length r.lines) ++ (word_bytes r.block ++ t)))
    (ap (λ (t : List ℕ). t ++ rest) (append-nil (flat_map word_bytes r.lines)))

pub head_behind_tag : (k : ℕ) (l : LayoutValue) (rest : List ℕ)
    → word_bytes function_tag ++ (behind_tag k l ++ rest)
    ≡ head_bytes k l.checksum l.name l.line ++ (blocks_bytes l.blocks ++ rest)
unfolding head_bytes blocks_bytes
head_behind_tag k l rest =
    let size : length l.name + 17 ≡ 17 + length l.name = omega arith in
    ap (λ n. word_bytes function_tag ++ (word_bytes n ++ (word_bytes k ++ (word_bytes l.checksum
    ++ ((string_bytes l.name ++ (word_bytes l.line ++ (header_bytes (block_tag, 4) ++ (word_bytes l.blocks ++ []))))
    ++ rest))))) size
    ∙ ap (λ (t : List ℕ). header_bytes (function_tag, 17 + length l.name)
    ++ (word_bytes k ++ (word_bytes l.checksum ++ t)))
    (append_assoc (string_bytes l.name) (word_bytes l.line ++ (header_bytes (block_tag, 4) ++ (word_bytes l.blocks
    ++ []))) rest
    ∙ sym (append_assoc (string_bytes l.name) (word_bytes l.line) (header_bytes (block_tag, 4) ++ (word_bytes l.blocks
    ++ rest))))

-- ---- what was read

-- records of arcs, in order: the first has at least the one block, a further one would have at least the other
abbrev pub Leavings : ℕ → ℕ → List Leaving → Type 0
Leavings least end [] = least ≡ end
Leavings least end (l ∷ ls) = FitLeaving least l × Leavings (l.block + 1) end ls

-- records of lines, likewise
abbrev pub LineRecords : ℕ → ℕ → List LinesValue → Type 0
LineRecords least end [] = least ≡ end
LineRecords least end (r ∷ rs) = FitLines r.place least r × LineRecords (r.block + 1) end rs

leavings_more : (least end : ℕ) (ls : List Leaving) (l : Leaving) → Leavings least end ls → FitLeaving end l
    → Leavings least (l.block + 1) (ls ++ l ∷ [])
leavings_more least end [] l e f = (subst (λ n. FitLeaving n l) (sym e) f, refl)
leavings_more least end (k ∷ ls) l h f = (h.0, leavings_more (k.block + 1) end ls l h.1 f)

line_records_more : (least end place : ℕ) (rs : List LinesValue) (r : LinesValue) → LineRecords least end rs
    → FitLines place end r → LineRecords least (r.block + 1) (rs ++ r ∷ [])
line_records_more least end place [] r e f =
    (subst (λ n. FitLines r.place n r) (sym e) (subst (λ p. FitLines p end r) (sym f.here) f), refl)
line_records_more least end place (k ∷ rs) r h f = (h.0, line_records_more (k.block + 1) end place rs r h.1 f)

all_leave : (b : ℕ) (ms : List Marked) → All (FitWay b) ms → AllLeave b ms
all_leave b [] h = tt
all_leave b (m ∷ ms) h = ((All-head (FitWay b) m ms h).from, all_leave b ms (All-tail (FitWay b) m ms h))

leave_below : (b : ℕ) (ms : List Marked) → AllLeave b ms → AllBelow (b + 1) ms
leave_below b [] h = tt
leave_below b (m ∷ ms) h = ((let e = h.0 in omega (arith, e)), leave_below b ms h.1)

below_more : (b c : ℕ) (ms ns : List Marked) → b ≤ c → AllBelow b ms → AllBelow c ns → AllBelow c (ms ++ ns)
below_more b c [] ns le h k = k
below_more b c (m ∷ ms) ns le h k = ((let l = h.0 in omega (arith, l, le)), below_more b c ms ns le h.1 k)

-- the records of a function, of which a further one of arcs or of lines has at least these blocks
pub record FitNow (arcs_end lines_end : ℕ) (l : LayoutValue) : Type 0 where
  pub name : is_name l.name ≡ true
  pub short : length l.name + 17 < 4294967296
  pub checksum : l.checksum < 4294967296
  pub line : l.line < 4294967296
  pub blocks : l.blocks < 4294967296
  pub arcs : Leavings 0 arcs_end (leavings l.arcs)
  pub below : AllBelow arcs_end l.arcs
  pub lines : LineRecords 0 lines_end l.lines

-- the records of a function
pub record FitLayout (l : LayoutValue) : Type 0 where
  pub arcs_end : ℕ
  pub lines_end : ℕ
  pub fit : FitNow arcs_end lines_end l

-- how far a file was read
pub record FitProgress (p : ProgressValue) : Type 0 where
  pub before : All FitLayout p.before
  pub now : FitNow p.arcs_from p.lines_from p.now
  pub next : p.next ≡ length p.before + 1
  pub most : p.next ≤ p.count
  pub word : p.count < 4294967296

-- the records that were read
abbrev pub spelled : ProgressValue → List ℕ
spelled p = spelled_from 0 layout_bytes p.before ++ layout_bytes (length p.before) p.now

-- ---- further records

pub flat_append : {A : Type 0} (f : A → List ℕ) (xs ys : List A) → flat_map f (xs ++ ys) ≡ flat_map f xs ++ flat_map f ys
flat_append f [] ys = refl
flat_append f (x ∷ xs) ys =
    ap (λ (l : List ℕ). f x ++ l) (flat_append f xs ys) ∙ sym (append_assoc (f x) (flat_map f xs) (flat_map f ys))

flat_more : {A : Type 0} (f : A → List ℕ) (xs : List A) (x : A) → flat_map f (xs ++ x ∷ []) ≡ flat_map f xs ++ f x
flat_more f xs x = flat_append f xs (x ∷ []) ∙ ap (λ (l : List ℕ). flat_map f xs ++ l) (append-nil (f x))

pub spelled_append : (i : ℕ) (f : ℕ → LayoutValue → List ℕ) (xs : List LayoutValue) (x : LayoutValue)
    → spelled_from i f (xs ++ x ∷ []) ≡ spelled_from i f xs ++ f (i + length xs) x
spelled_append i f [] x = append-nil (f i x) ∙ ap (λ k. f k x) (omega arith)
spelled_append i f (y ∷ ys) x =
    ap (λ (l : List ℕ). f i y ++ l) (spelled_append (i + 1) f ys x
    ∙ ap (λ k. spelled_from (i + 1) f ys ++ f k x) (omega arith))
    ∙ sym (append_assoc (f i y) (spelled_from (i + 1) f ys) (f (i + length (y ∷ ys)) x))

-- four pieces, of which one grows
third : (a b c d e x : List ℕ) → c ≡ d ++ e → x ≡ [] → a ++ (b ++ (c ++ x)) ≡ (a ++ (b ++ (d ++ x))) ++ e
third a b c d e x h n =
    ap (λ (l : List ℕ). a ++ (b ++ (c ++ l))) n ∙ (ap (λ (l : List ℕ). a ++ (b ++ l)) (append-nil c ∙ h)
    ∙ (ap (λ (l : List ℕ). a ++ l) (sym (append_assoc b d e)) ∙ (sym (append_assoc a (b ++ d) e)
    ∙ ap (λ (l : List ℕ). (a ++ (b ++ l)) ++ e) (sym (append-nil d) ∙ ap (λ (l : List ℕ). d ++ l) (sym n)))))

fourth : (a b c d e x : List ℕ) → d ≡ x ++ e → a ++ (b ++ (c ++ d)) ≡ (a ++ (b ++ (c ++ x))) ++ e
fourth a b c d e x h =
    ap (λ (l : List ℕ). a ++ (b ++ (c ++ l))) h
    ∙ (ap (λ (l : List ℕ). a ++ (b ++ l)) (sym (append_assoc c x e))
    ∙ (ap (λ (l : List ℕ). a ++ l) (sym (append_assoc b (c ++ x) e)) ∙ sym (append_assoc a (b ++ (c ++ x)) e)))

arcs_more : (end : ℕ) (ms : List Marked) (l : Leaving) → AllBelow end ms → FitLeaving end l
    → leavings (ms ++ l.arcs) ≡ leavings ms ++ l ∷ []
arcs_more end ms l below f = go l.arcs f.some (all_leave l.block l.arcs f.arcs)
  where
    lower : AllBelow l.block ms
    lower = subst (AllBelow l.block) (append-nil ms) (below_more end l.block ms [] f.order below tt)

    go : (ns : List Marked) → 0 < length ns → AllLeave l.block ns
        → leavings (ms ++ ns) ≡ leavings ms ++ record { block = l.block; arcs = ns } ∷ []
    go [] lt h = absurd (omega (arith, lt))
    go (n ∷ ns) lt h = leavings_append l.block ms n ns lower h

-- a function with a further record of arcs
pub with_arcs_spelled : (p : ProgressValue) (l : Leaving) → FitProgress p → FitLeaving p.arcs_from l
    → is_without_lines p.now ≡ true → spelled (with_arcs p l) ≡ spelled p ++ leaving_bytes l
with_arcs_spelled p l fit f bare =
    let none : flat_map record_bytes p.now.lines ≡ [] =
    ap (flat_map record_bytes) (nil_from_length p.now.lines (eqb-true (length p.now.lines) 0 bare)) in
    let arcs : arcs_bytes (p.now.arcs ++ l.arcs) ≡ arcs_bytes p.now.arcs ++ leaving_bytes l =
    ap (flat_map leaving_bytes) (arcs_more p.arcs_from p.now.arcs l fit.now.below f)
    ∙ flat_more leaving_bytes (leavings p.now.arcs) l in
    ap (λ (t : List ℕ). spelled_from 0 layout_bytes p.before ++ t)
    (third (head_bytes (length p.before) p.now.checksum p.now.name p.now.line) (blocks_bytes p.now.blocks)
    (arcs_bytes (p.now.arcs ++ l.arcs)) (arcs_bytes p.now.arcs) (leaving_bytes l) (flat_map record_bytes p.now.lines)
    arcs none)
    ∙ sym (append_assoc (spelled_from 0 layout_bytes p.before) (layout_bytes (length p.before) p.now) (leaving_bytes l))

pub with_arcs_fits : (p : ProgressValue) (l : Leaving) → FitProgress p → FitLeaving p.arcs_from l
    → FitProgress (with_arcs p l)
with_arcs_fits p l fit f = record {
  before = fit.before;
  now = record {
    name = fit.now.name;
    short = fit.now.short;
    checksum = fit.now.checksum;
    line = fit.now.line;
    blocks = fit.now.blocks;
    arcs = subst (Leavings 0 (l.block + 1)) (sym (arcs_more p.arcs_from p.now.arcs l fit.now.below f))
        (leavings_more 0 p.arcs_from (leavings p.now.arcs) l fit.now.arcs f);
    below = below_more p.arcs_from (l.block + 1) p.now.arcs l.arcs (let o = f.order in omega (arith, o)) fit.now.below
        (leave_below l.block l.arcs (all_leave l.block l.arcs f.arcs));
    lines = fit.now.lines;
  };
  next = fit.next;
  most = fit.most;
  word = fit.word;
}

-- a function with a further record of lines
pub with_lines_spelled : (p : ProgressValue) (r : LinesValue)
    → spelled (with_lines p r) ≡ spelled p ++ record_bytes r
with_lines_spelled p r =
    ap (λ (t : List ℕ). spelled_from 0 layout_bytes p.before ++ t)
    (fourth (head_bytes (length p.before) p.now.checksum p.now.name p.now.line) (blocks_bytes p.now.blocks)
    (arcs_bytes p.now.arcs) (flat_map record_bytes (p.now.lines ++ r ∷ [])) (record_bytes r)
    (flat_map record_bytes p.now.lines) (flat_more record_bytes p.now.lines r))
    ∙ sym (append_assoc (spelled_from 0 layout_bytes p.before) (layout_bytes (length p.before) p.now) (record_bytes r))

pub with_lines_fits : (p : ProgressValue) (place : ℕ) (r : LinesValue) → FitProgress p → FitLines place p.lines_from r
    → FitProgress (with_lines p r)
with_lines_fits p place r fit f = record {
  before = fit.before;
  now = record {
    name = fit.now.name;
    short = fit.now.short;
    checksum = fit.now.checksum;
    line = fit.now.line;
    blocks = fit.now.blocks;
    arcs = fit.now.arcs;
    below = fit.now.below;
    lines = line_records_more 0 p.lines_from place p.now.lines r fit.now.lines f;
  };
  next = fit.next;
  most = fit.most;
  word = fit.word;
}

-- a function without arcs and lines
pub head_spelled : (k place : ℕ) (l : LayoutValue) → FitHead place l
    → layout_bytes k l ≡ head_bytes k l.checksum l.name l.line ++ (blocks_bytes l.blocks ++ [])
head_spelled k place l f =
    ap (λ (x : LayoutValue). head_bytes k l.checksum l.name l.line ++ (blocks_bytes l.blocks
    ++ (arcs_bytes x.arcs ++ flat_map record_bytes x.lines))) f.bare

pub head_fits : (place : ℕ) (l : LayoutValue) → FitHead place l → FitNow 0 0 l
head_fits place l f = record {
  name = f.name;
  short = f.short;
  checksum = f.checksum;
  line = f.line;
  blocks = f.blocks;
  arcs = subst (λ (x : LayoutValue). Leavings 0 0 (leavings x.arcs)) (sym f.bare) refl;
  below = subst (λ (x : LayoutValue). AllBelow 0 x.arcs) (sym f.bare) tt;
  lines = subst (λ (x : LayoutValue). LineRecords 0 0 x.lines) (sym f.bare) refl;
}

-- a further function
pub begun_spelled : (p : ProgressValue) (place : ℕ) (l : LayoutValue) → FitProgress p → FitHead place l
    → spelled (begun (all_begun p) l (p.next + 1) p.count)
    ≡ spelled p ++ (head_bytes p.next l.checksum l.name l.line ++ (blocks_bytes l.blocks ++ []))
begun_spelled p place l fit f =
    let many = length-append p.before (p.now ∷ []) in
    let next = fit.next in
    ap (λ (t : List ℕ). spelled_from 0 layout_bytes (p.before ++ p.now ∷ []) ++ t)
    (ap (λ k. layout_bytes k l) (omega (arith, many, next)) ∙ head_spelled p.next place l f)
    ∙ ap (λ (t : List ℕ). t ++ (head_bytes p.next l.checksum l.name l.line ++ (blocks_bytes l.blocks ++ [])))
    (spelled_append 0 layout_bytes p.before p.now
    ∙ ap (λ k. spelled_from 0 layout_bytes p.before ++ layout_bytes k p.now) (omega arith))

pub begun_fits : (p : ProgressValue) (place : ℕ) (l : LayoutValue) → FitProgress p → p.next < p.count
    → FitHead place l → FitProgress (begun (all_begun p) l (p.next + 1) p.count)
begun_fits p place l fit lt f = record {
  before = All-append FitLayout p.before (p.now ∷ []) fit.before
      (All-cons FitLayout p.now [] (record { arcs_end = p.arcs_from; lines_end = p.lines_from; fit = fit.now })
      (All-nil FitLayout));
  now = head_fits place l f;
  next = (let many = length-append p.before (p.now ∷ []) in let next = fit.next in omega (arith, many, next));
  most = omega (arith, lt);
  word = fit.word;
}
