-- Notes are read as they are spelled.
use Rattle.std.proofs.Common.{◌≡◌, ◌+◌, refl, sym, ap, subst, ◌∙◌, ℕ, zero, suc, cond}
use Rattle.std.proofs.Common.{◌==◌, List, [], ◌∷◌, ◌++◌, length, map, replicate, Ok, arith}
use Rattle.std.specs.Prelude.{None, ◌&&◌}
use Rattle.std.proofs.Common.{leb, ltb}
use Rattle.gcno_format.proofs.ValueLaws.{none_wrong}
use Rattle.std.specs.List.{All}
use Rattle.std.proofs.lemmas.Bool.{cond-true}
use Rattle.std.proofs.lemmas.List.{length-map}
use Rattle.std.proofs.lemmas.List.Elements.{All-nil, All-cons, All-head, All-tail}
use Rattle.cov_base.specs.Net.{IsNet, ascends}
use Rattle.cov_base.proofs.NetLaws.{HasShape-from_IsNet}
use Rattle.gcov_items.specs.Items.{word_bytes}
use Rattle.gcov_records.specs.Records.{spelled_from}
use Rattle.gcno_format.specs.declared.marks.Marked.{Marked}
use Rattle.gcno_format.specs.Marks.{marked, arc_of, leavings}
use Rattle.gcno_format.specs.Reading.{laid_out}
use Rattle.gcno_format.specs.Notes.{FunctionNotesValue, NotesValue}
use Rattle.gcno_format.specs.Spelling.{magic, version, arcs_bytes, blocks_bytes, head_bytes, function_bytes}
use Rattle.gcno_format.specs.Spelling.{notes_bytes, checksum_of, IsFunctionNotes, IsNotes}
use Rattle.gcno_format.specs.Layout.{LinesValue, LayoutValue, FileValue}
use Rattle.gcno_format.specs.Values.{HoldsNet, AllHold, suits_net, wrong_lines, lines_of, lists_from}
use Rattle.gcno_format.specs.Values.{function_of, notes_of}
use Rattle.gcno_format.proofs.LayoutLaws.{layout_bytes}
use Rattle.gcno_format.proofs.TakenLaws.{file_bytes}
use Rattle.gcno_format.proofs.AgainLaws.{SameLines}
use Rattle.gcno_format.proofs.FileLaws.{SameLayout, SameLayouts, FitSpelled, file_again}
use Rattle.gcno_format.proofs.ChainLaws.{group_end, arcs_fit, line_end, lines_fit}
use Rattle.gcno_format.proofs.MadeLaws.{records_from, records_spelled, layout_of, holds_net, function_made}

-- the records of notes
abbrev pub file_of : NotesValue → FileValue
file_of n = record { stamp = n.stamp; limit = n.limit; functions = map layout_of n.functions }

function_spelled : (k : ℕ) (f : FunctionNotesValue) → function_bytes k f ≡ layout_bytes k (layout_of f)
function_spelled k f =
    ap (λ (t : List ℕ). head_bytes k f.checksum f.name f.line ++ (blocks_bytes f.net.blocks
    ++ (arcs_bytes (marked f.net) ++ t))) (records_spelled 0 f.net.lines)

functions_spelled : (i : ℕ) (fs : List FunctionNotesValue)
    → spelled_from i function_bytes fs ≡ spelled_from i layout_bytes (map layout_of fs)
functions_spelled i [] = refl
functions_spelled i (f ∷ fs) =
    ap (λ (t : List ℕ). t ++ spelled_from (i + 1) function_bytes fs) (function_spelled i f)
    ∙ ap (λ (t : List ℕ). layout_bytes i (layout_of f) ++ t) (functions_spelled (i + 1) fs)

pub notes_spelled : (n : NotesValue) → notes_bytes n ≡ file_bytes (file_of n)
notes_spelled n =
    ap (λ (t : List ℕ). word_bytes magic ++ (word_bytes version ++ (word_bytes n.stamp ++ (word_bytes n.limit ++ t))))
    (ap (λ k. word_bytes k ++ spelled_from 0 function_bytes n.functions) (sym (length-map n.functions layout_of))
    ∙ ap (λ (t : List ℕ). word_bytes (length (map layout_of n.functions)) ++ t) (functions_spelled 0 n.functions))

-- ---- places don't matter

same_lines_of : (b : ℕ) (rs qs : List LinesValue) → SameLines rs qs → lines_of b qs ≡ lines_of b rs
same_lines_of b [] [] h = refl
same_lines_of b [] (q ∷ qs) h = absurd h
same_lines_of b (r ∷ rs) [] h = absurd h
same_lines_of b (r ∷ rs) (q ∷ qs) h =
    ap (λ k. cond (k == b) q.lines (lines_of b qs)) h.0
    ∙ (ap (λ (l : List ℕ). cond (r.block == b) l (lines_of b qs)) h.1
    ∙ ap (λ (l : List ℕ). cond (r.block == b) r.lines l) (same_lines_of b rs qs h.2))

same_lists : (b n : ℕ) (rs qs : List LinesValue) → SameLines rs qs → lists_from b n qs ≡ lists_from b n rs
same_lists b zero rs qs h = refl
same_lists b (suc n) rs qs h =
    ap (λ (l : List ℕ). l ∷ lists_from (b + 1) n qs) (same_lines_of b rs qs h)
    ∙ ap (λ (l : List (List ℕ)). lines_of b rs ∷ l) (same_lists (b + 1) n rs qs h)

same_suit : (blocks : ℕ) (rs qs : List LinesValue) → SameLines rs qs → wrong_lines blocks rs ≡ None
    → wrong_lines blocks qs ≡ None
same_suit blocks [] [] h e = refl
same_suit blocks [] (q ∷ qs) h e = absurd h
same_suit blocks (r ∷ rs) [] h e = absurd h
same_suit blocks (r ∷ rs) (q ∷ qs) h e =
    let w = none_wrong blocks r rs e in
    cond-true (suits_net blocks q) _ _
    (ap (λ k. (leb 2 k && ltb k blocks) && ascends 0 q.lines) h.0
    ∙ (ap (λ (l : List ℕ). (leb 2 r.block && ltb r.block blocks) && ascends 0 l) h.1 ∙ w.0))
    ∙ same_suit blocks rs qs h.2 w.1

-- blocks, arcs with flags, and a checksum of a net
abbrev HaveArcs : ℕ → List Marked → ℕ → Type 0
HaveArcs blocks arcs checksum =
    IsNet (record { blocks = blocks; arcs = map arc_of arcs; lines = replicate blocks [] })
    × ((marked (record { blocks = blocks; arcs = map arc_of arcs; lines = replicate blocks [] }) ≡ arcs)
    × (checksum ≡ checksum_of (record { blocks = blocks; arcs = map arc_of arcs; lines = replicate blocks [] })))

same_holds : (l q : LayoutValue) → SameLayout l q → HoldsNet l → HoldsNet q
same_holds l q s h =
    let here : HaveArcs l.blocks l.arcs l.checksum = (h.arcs.net, (h.arcs.flags, h.arcs.checksum)) in
    let there : HaveArcs q.blocks q.arcs q.checksum =
    subst (λ b. HaveArcs b q.arcs q.checksum) (sym s.blocks)
    (subst (λ (a : List Marked). HaveArcs l.blocks a q.checksum) (sym s.arcs)
    (subst (λ c. HaveArcs l.blocks l.arcs c) (sym s.checksum) here)) in
    record {
      arcs = record { net = there.0; flags = there.1.0; checksum = there.1.1 };
      lines = subst (λ b. wrong_lines b q.lines ≡ None) (sym s.blocks)
          (same_suit l.blocks l.lines q.lines s.lines h.lines);
    }

abbrev made_function : List ℕ → ℕ → ℕ → ℕ → List Marked → List (List ℕ) → FunctionNotesValue
made_function name line checksum blocks arcs lines = record {
  name = name;
  line = line;
  checksum = checksum;
  net = record { blocks = blocks; arcs = map arc_of arcs; lines = lines };
}

same_function : (l q : LayoutValue) → SameLayout l q → function_of q ≡ function_of l
same_function l q s =
    ap (λ (n : List ℕ). made_function n q.line q.checksum q.blocks q.arcs (lists_from 0 q.blocks q.lines)) s.name
    ∙ (ap (λ n. made_function l.name n q.checksum q.blocks q.arcs (lists_from 0 q.blocks q.lines)) s.line
    ∙ (ap (λ n. made_function l.name l.line n q.blocks q.arcs (lists_from 0 q.blocks q.lines)) s.checksum
    ∙ (ap (λ n. made_function l.name l.line l.checksum n q.arcs (lists_from 0 n q.lines)) s.blocks
    ∙ (ap (λ (a : List Marked). made_function l.name l.line l.checksum l.blocks a (lists_from 0 l.blocks q.lines)) s.arcs
    ∙ ap (λ (x : List (List ℕ)). made_function l.name l.line l.checksum l.blocks l.arcs x)
    (same_lists 0 l.blocks l.lines q.lines s.lines)))))

pub all_same : (fs : List FunctionNotesValue) (qs : List LayoutValue) → All IsFunctionNotes fs
    → SameLayouts (map layout_of fs) qs → AllHold qs × (map function_of qs ≡ fs)
all_same [] [] h s = (tt, refl)
all_same [] (q ∷ qs) h s = absurd s
all_same (f ∷ fs) [] h s = absurd s
all_same (f ∷ fs) (q ∷ qs) h s =
    let own = All-head IsFunctionNotes f fs h in
    let rest = all_same fs qs (All-tail IsFunctionNotes f fs h) s.1 in (
      (same_holds (layout_of f) q s.0 (holds_net f own), rest.0),
      ap (λ (x : FunctionNotesValue). x ∷ map function_of qs)
          (same_function (layout_of f) q s.0 ∙ function_made f own)
          ∙ ap (λ (l : List FunctionNotesValue). f ∷ l) rest.1,
    )

-- ---- notes

fits_spelled : (f : FunctionNotesValue) → IsFunctionNotes f → FitSpelled (layout_of f)
fits_spelled f h =
    let s = HasShape-from_IsNet f.net h.net in
    let most = s.most in
    let lists = s.lists in record {
      name = h.writable.name;
      short = (let l = h.writable.short in omega (arith, l));
      checksum = (let l = h.checksum in omega (arith, l));
      line = (let l = h.line in omega (arith, l));
      blocks = omega (arith, most);
      arcs_end = group_end 0 (leavings (marked f.net));
      lines_end = line_end 0 (records_from 0 f.net.lines);
      arcs = arcs_fit f.net h.net;
      lines = lines_fit f.net.lines (omega (arith, most, lists)) h.writable.lines h.words;
    }

all_fit : (fs : List FunctionNotesValue) → All IsFunctionNotes fs → All FitSpelled (map layout_of fs)
all_fit [] h = All-nil FitSpelled
all_fit (f ∷ fs) h =
    All-cons FitSpelled (layout_of f) (map layout_of fs) (fits_spelled f (All-head IsFunctionNotes f fs h))
    (all_fit fs (All-tail IsFunctionNotes f fs h))

-- the records of notes are read from their file
pub record NotesRead (n : NotesValue) : Type 0 where
  pub file : FileValue
  pub reads : laid_out (notes_bytes n) ≡ Ok file
  pub hold : AllHold file.functions
  pub same : notes_of file ≡ n

pub notes_again : (n : NotesValue) → IsNotes n → NotesRead n
notes_again n h =
    let stamp = h.stamp in
    let few = h.few in
    let many = length-map n.functions layout_of in
    let a = file_again (file_of n) (omega (arith, stamp)) h.limit (omega (arith, few, many)) (all_fit n.functions h.functions) in
    let s = all_same n.functions a.functions h.functions a.alike in
    record {
      file = record { stamp = n.stamp; limit = n.limit; functions = a.functions };
      reads = ap laid_out (notes_spelled n) ∙ a.reads;
      hold = s.0;
      same = ap (λ (l : List FunctionNotesValue). record { stamp = n.stamp; limit = n.limit; functions = l }) s.1;
    }
