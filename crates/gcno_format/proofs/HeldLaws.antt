-- Records that hold nets are the spelling of notes.
use Rattle.std.proofs.Common.{◌≡◌, ◌≤◌, ◌<◌, ◌+◌, refl, sym, ap, ◌∙◌, ℕ, zero, suc, Bool, true, false, cond}
use Rattle.std.proofs.Common.{◌&&◌, ◌==◌, leb, ltb, List, [], ◌∷◌, ◌++◌, length, map, arith}
use Rattle.std.specs.Prelude.{flat_map, None}
use Rattle.std.specs.List.{All}
use Rattle.std.proofs.lemmas.Bool.{and_parts, ltb-true}
use Rattle.std.proofs.lemmas.List.{length-map}
use Rattle.std.proofs.lemmas.List.Elements.{All-nil, All-cons, All-head, All-tail}
use Rattle.cov_base.specs.Net.{ascends}
use Rattle.gcov_items.specs.Items.{word_bytes}
use Rattle.gcov_records.specs.Records.{spelled_from}
use Rattle.gcno_format.specs.Marks.{marked}
use Rattle.gcno_format.specs.Notes.{FitsRecord, word_limit}
use Rattle.gcno_format.specs.Spelling.{magic, version, arcs_bytes, blocks_bytes, head_bytes, function_bytes}
use Rattle.gcno_format.specs.Spelling.{notes_bytes, IsFunctionNotes, IsNotes}
use Rattle.gcno_format.specs.Layout.{LinesValue, LayoutValue, FileValue}
use Rattle.gcno_format.specs.Values.{bare_net, HoldsNet, AllHold, wrong_lines, lines_of, lists_from}
use Rattle.gcno_format.specs.Values.{function_of, notes_of}
use Rattle.gcno_format.proofs.LineLaws.{AreRecords, record_bytes, lists_spelled}
use Rattle.gcno_format.proofs.ValueLaws.{none_wrong, full_net}
use Rattle.gcno_format.proofs.LayoutLaws.{layout_bytes, LineRecords, FitLayout}
use Rattle.gcno_format.proofs.TakenLaws.{functions_bytes, file_bytes, FitFile}

-- records that suit a net are those of its blocks
are_records : (blocks least end : ℕ) (rs : List LinesValue) → LineRecords least end rs → wrong_lines blocks rs ≡ None
    → AreRecords least blocks rs
are_records blocks least end [] h e = tt
are_records blocks least end (r ∷ rs) h e =
    let w = none_wrong blocks r rs e in
    let inside = (and_parts (leb 2 r.block && ltb r.block blocks) (ascends 0 r.lines) w.0).0 in
    let below = ltb-true r.block blocks (and_parts (leb 2 r.block) (ltb r.block blocks) inside).1 in
    ((h.0.order, below), h.0.some, are_records blocks (r.block + 1) end rs h.1 w.1)

-- a fact of the lines of each record
abbrev AllRecords : (List ℕ → Type 0) → List LinesValue → Type 0
AllRecords P [] = Unit {0}
AllRecords P (r ∷ rs) = P r.lines × AllRecords P rs

one_list : (P : List ℕ → Type 0) (b : ℕ) (rs : List LinesValue) → P [] → AllRecords P rs → P (lines_of b rs)
one_list P b [] none h = none
one_list P b (r ∷ rs) none h = go (r.block == b) (one_list P b rs none h.1)
  where
    go : (x : Bool) → P (lines_of b rs) → P (cond x r.lines (lines_of b rs))
    go true rest = h.0
    go false rest = rest

all_lists : (P : List ℕ → Type 0) (b n : ℕ) (rs : List LinesValue) → P [] → AllRecords P rs
    → All P (lists_from b n rs)
all_lists P b zero rs none h = All-nil P
all_lists P b (suc n) rs none h =
    All-cons P (lines_of b rs) (lists_from (b + 1) n rs) (one_list P b rs none h) (all_lists P (b + 1) n rs none h)

short_records : (least end : ℕ) (rs : List LinesValue) → LineRecords least end rs → AllRecords FitsRecord rs
short_records least end [] h = tt
short_records least end (r ∷ rs) h =
    ((let s = h.0.short in omega (arith, s)), short_records (r.block + 1) end rs h.1)

abbrev AreWords : List ℕ → Type 0
AreWords lines = All (λ n. n ≤ word_limit) lines

word_records : (least end : ℕ) (rs : List LinesValue) → LineRecords least end rs → AllRecords AreWords rs
word_records least end [] h = tt
word_records least end (r ∷ rs) h =
    (all_words r.lines h.0.lines, word_records (r.block + 1) end rs h.1)
  where
    all_words : (ns : List ℕ) → All (λ n. n < 4294967296) ns → AreWords ns
    all_words [] h = All-nil (λ n. n ≤ word_limit)
    all_words (n ∷ ns) h =
        let l = All-head (λ n. n < 4294967296) n ns h in
        All-cons (λ n. n ≤ word_limit) n ns (omega (arith, l)) (all_words ns (All-tail (λ n. n < 4294967296) n ns h))

-- the records of a function that hold a net are those of a function as it stands in a file
held : (l : LayoutValue) → FitLayout l → HoldsNet l → IsFunctionNotes (function_of l)
held l f h = record {
  writable = record {
    name = f.fit.name;
    short = (let s = f.fit.short in omega (arith, s));
    checksum = h.arcs.checksum;
    lines = all_lists FitsRecord 0 l.blocks l.lines (omega arith) (short_records 0 f.lines_end l.lines f.fit.lines);
  };
  net = full_net l h;
  line = (let s = f.fit.line in omega (arith, s));
  checksum = (let s = f.fit.checksum in omega (arith, s));
  words = all_lists AreWords 0 l.blocks l.lines (All-nil (λ n. n ≤ word_limit))
      (word_records 0 f.lines_end l.lines f.fit.lines);
}

held_bytes : (k : ℕ) (l : LayoutValue) → FitLayout l → HoldsNet l → layout_bytes k l ≡ function_bytes k (function_of l)
held_bytes k l f h =
    ap (λ (t : List ℕ). head_bytes k l.checksum l.name l.line ++ (blocks_bytes l.blocks ++ t))
    (ap (λ a. arcs_bytes a ++ flat_map record_bytes l.lines) (sym h.arcs.flags)
    ∙ ap (λ (t : List ℕ). arcs_bytes (marked (bare_net l)) ++ t)
    (sym (lists_spelled 0 l.blocks l.blocks l.lines (omega arith)
    (are_records l.blocks 0 f.lines_end l.lines f.fit.lines h.lines))))

all_held : (ls : List LayoutValue) → All FitLayout ls → AllHold ls → All IsFunctionNotes (map function_of ls)
all_held [] f h = All-nil IsFunctionNotes
all_held (l ∷ ls) f h =
    All-cons IsFunctionNotes (function_of l) (map function_of ls) (held l (All-head FitLayout l ls f) h.0)
    (all_held ls (All-tail FitLayout l ls f) h.1)

all_held_bytes : (i : ℕ) (ls : List LayoutValue) → All FitLayout ls → AllHold ls
    → spelled_from i layout_bytes ls ≡ spelled_from i function_bytes (map function_of ls)
all_held_bytes i [] f h = refl
all_held_bytes i (l ∷ ls) f h =
    ap (λ (t : List ℕ). t ++ spelled_from (i + 1) layout_bytes ls) (held_bytes i l (All-head FitLayout l ls f) h.0)
    ∙ ap (λ (t : List ℕ). function_bytes i (function_of l) ++ t)
    (all_held_bytes (i + 1) ls (All-tail FitLayout l ls f) h.1)

-- what records that hold nets spell is the file of the notes that they hold
pub file_held : (file : FileValue) → FitFile file → AllHold file.functions
    → IsNotes (notes_of file) × (file_bytes file ≡ notes_bytes (notes_of file))
file_held file f h =
    let many = length-map file.functions function_of in (
      record {
        stamp = (let s = f.stamp in omega (arith, s));
        limit = f.limit;
        few = (let s = f.few in omega (arith, s, many));
        functions = all_held file.functions f.functions h;
      },
      ap (λ (t : List ℕ). word_bytes magic ++ (word_bytes version ++ (word_bytes file.stamp ++ (word_bytes file.limit
          ++ t))))
          (ap (λ n. word_bytes n ++ functions_bytes file.functions) (sym many)
          ∙ ap (λ (t : List ℕ). word_bytes (length (map function_of file.functions)) ++ t)
          (all_held_bytes 0 file.functions f.functions h)),
    )
