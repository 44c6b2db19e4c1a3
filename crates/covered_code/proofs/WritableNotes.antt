-- The notes of a text's graphs may be written, and stand in a file as they are.
use Rattle.std.proofs.Common.{◌≡◌, ◌≤◌, ◌<◌, refl, sym, ap, subst, ◌∙◌, ℕ, suc, ◌+◌, Bool, true, false, arith}
use Rattle.std.proofs.Common.{List, [], ◌∷◌, ◌++◌, length, map, take, get_or, ◌||◌, ◌==◌, not, Some, eqb-true}
use Rattle.std.proofs.Common.{inl, inr}
use Rattle.std.specs.Prelude.{slice_get, nat_le, ◌&&◌, cond}
use Rattle.std.specs.List.{All, list_all}
use Rattle.std.specs.Int.{is_in_range}
use Rattle.std.specs.Char.{is_ascii_digit}
use Rattle.std.proofs.lemmas.Bool.{and_parts, and_from, or_cases, leb-true, lt-leb}
use Rattle.std.proofs.lemmas.List.{length-map, map-append, take_more}
use Rattle.std.proofs.lemmas.List.Elements.{All-nil, All-cons, All-head, All-tail}
use Rattle.c_tree.specs.Typed.{TypedFunction, Typed}
use Rattle.c_tree.specs.Sound.{Each, IsLine, IsName, Sound, SoundFunction, is_letter, is_digit, standing}
use Rattle.c_tree.specs.declared.typed_expr.CellAt.TheVariants as cell
use Rattle.c_lower.specs.Lowered.{graph_of}
use Rattle.flow_graph.specs.Ascending.{Ascends}
use Rattle.flow_graph.specs.Graph.{Block, Graph, GraphUnit}
use Rattle.fake_arcs.specs.Tidy.{IsTidy}
use Rattle.fake_arcs.proofs.NetOf.{net_of_tidy}
use Rattle.fake_arcs.proofs.Ranks.{with_numbers}
use Rattle.flow_graph.specs.Nets.{among, kept_blocks, pruned_graph, reached, net_of, graphs_size, size_of}
use Rattle.lower_agrees.specs.Agreement.{HasLines}
use Rattle.lower_agrees.proofs.Calls.{graph_found}
use Rattle.lower_agrees.proofs.Lines.{lines_stand}
use Rattle.lower_agrees.proofs.Whole.{each_at}
use Rattle.gcno_format.specs.Notes.{FunctionNotesValue, NotesValue, FitsRecord, word_limit, is_name_byte, is_name}
use Rattle.gcno_format.specs.Spelling.{IsWritableFunction, IsWritable, IsFunctionNotes, IsNotes}
use Rattle.source_graphs.specs.SourceGraphs.{IsSourceOf, AreGraphsOf}
use Rattle.covered_code.specs.UnitNotes.{function_of, HasWord}
use Rattle.covered_code.proofs.ShortNames.{names_short}

-- ---- names

-- the classes of a byte of a name in the other order
reordered : (upper lower under digit : Bool) → (((upper || lower) || under) || digit) ≡ true
    → (((digit || upper) || lower) || under) ≡ true
reordered true lower under true h = refl
reordered true lower under false h = refl
reordered false true under true h = refl
reordered false true under false h = refl
reordered false false true true h = refl
reordered false false true false h = refl
reordered false false false true h = refl
reordered false false false false h = h

name_byte : (b : ℕ) → (is_letter b || is_digit b) ≡ true → is_name_byte b ≡ true
name_byte b h = reordered (is_in_range 65 90 b) (is_in_range 97 122 b) (b == 95) (is_in_range 48 57 b) h

name_bytes : (bs : List ℕ) → Each (λ b. (is_letter b || is_digit b) ≡ true) bs → list_all is_name_byte bs ≡ true
name_bytes [] h = refl
name_bytes (b ∷ bs) h = and_from _ _ (name_byte b h.0) (name_bytes bs h.1)

letter_above : (b : ℕ) → is_letter b ≡ true → 57 < b
letter_above b h =
    elim (or_cases (is_in_range 65 90 b || is_in_range 97 122 b) (b == 95) h) [
      | inl word ↦
          elim (or_cases (is_in_range 65 90 b) (is_in_range 97 122 b) word) [
            | inl upper ↦ (let l = leb-true 65 b (and_parts (nat_le 65 b) (nat_le b 90) upper).0 in omega (arith, l))
            | inr lower ↦ (let l = leb-true 97 b (and_parts (nat_le 97 b) (nat_le b 122) lower).0 in omega (arith, l))
          ]
      | inr under ↦ (let e = eqb-true b 95 under in omega (arith, e))
    ]

no_digit : (b : ℕ) → 57 < b → not (is_ascii_digit b) ≡ true
no_digit b above = ap (λ c. not (nat_le 48 b && c)) (lt-leb b 57 above) ∙ by (nat_le 48 b)
  where
    by : (c : Bool) → not (c && false) ≡ true
    by true = refl
    by false = refl

letter_or : (b : ℕ) → is_letter b ≡ true → (is_letter b || is_digit b) ≡ true
letter_or b h = ap (λ c. c || is_digit b) h

-- a name of C, as the reader of notes tests it
name_passes : (bs : List ℕ) → IsName bs → is_name bs ≡ true
name_passes [] h = absurd h
name_passes (b ∷ bs) h =
    and_from _ _ (no_digit b (letter_above b h.0))
    (and_from _ _ (name_byte b (letter_or b h.0)) (name_bytes bs h.1))

-- ---- lines

-- lines above a bound that ascend are no more than there are lines above it
lines_few : (lines : List ℕ) (low : ℕ) → low ≤ 1048577 → Each (λ n. low < n) lines → Ascends lines → Each IsLine lines
    → low + length lines ≤ 1048577
lines_few [] low most above up are = omega (arith, most)
lines_few (n ∷ ns) low most above up are =
    let first : low < n = above.0 in
    let last : n ≤ 1048577 = are.0.last in
    let rest : n + length ns ≤ 1048577 = lines_few ns n last up.0 up.1 are.1 in
    omega (arith, first, rest)

above_zero : (lines : List ℕ) → Each IsLine lines → Each (λ n. 0 < n) lines
above_zero [] are = tt
above_zero (line ∷ lines) are = (let first : 1 ≤ line = are.0.first in omega arith, above_zero lines are.1)

record_fits : (lines : List ℕ) → HasLines lines → FitsRecord lines
record_fits lines has =
    let few : 0 + length lines ≤ 1048577 =
    lines_few lines 0 (omega arith) (above_zero lines has.are_lines) has.ascend has.are_lines in
    omega (arith, few)

-- a line is a word
line_words : (lines : List ℕ) → Each IsLine lines → All (λ n. n ≤ word_limit) lines
line_words [] are = All-nil (λ n. n ≤ word_limit)
line_words (line ∷ lines) are = All-cons (λ n. n ≤ word_limit) line lines
    (let last : line ≤ 1048577 = are.0.last in omega (arith, last)) (line_words lines are.1)

-- what is so of the lines of all blocks is so of those of kept ones
kept_so : (P : List ℕ → Type 0) (kept : List ℕ) (n : ℕ) (bs : List Block)
    → ((k : ℕ) (b : Block) → slice_get bs k ≡ Some b → P b.lines) → All P (map (λ b. b.lines) (kept_blocks kept n bs))
kept_so P kept n [] each = All-nil P
kept_so P kept n (b ∷ bs) each = go (among n kept) (kept_so P kept (suc n) bs (λ k. each (suc k)))
  where
    go : (c : Bool) → All P (map (λ b. b.lines) (kept_blocks kept (suc n) bs))
        → All P
        (map (λ b. b.lines) (cond c (with_numbers kept b ∷ kept_blocks kept (suc n) bs) (kept_blocks kept (suc n) bs)))
    go true rest = All-cons P b.lines (map (λ b. b.lines) (kept_blocks kept (suc n) bs)) (each 0 b refl) rest
    go false rest = rest

-- what is so of no lines and of the lines of each block of a function is so of the lines of its net
net_so : {source : Typed} → Sound source → (P : List ℕ → Type 0) → P [] → ((lines : List ℕ) → HasLines lines → P lines)
    → (k : ℕ) (f : TypedFunction) → slice_get source.functions k ≡ Some f
    → All P (net_of (pruned_graph (graph_of f))).lines
net_so {source = source} sound P none so k f at =
    All-cons P [] ([] ∷ kept) none (All-cons P [] kept none
    (kept_so P (reached (graph_of f).blocks) 2 (graph_of f).blocks (λ place b there.
    so b.lines (lines_stand source sound (graph_of f) b (record {
      function = k;
      graph = graph_found source.functions k f at;
      place = place;
      block = there;
    })))))
  where
    kept : List (List ℕ)
    kept = map (λ b. b.lines) (pruned_graph (graph_of f)).blocks

-- ---- functions

-- The notes of a function's graph stand in a file as they are.
function_stands : {text : List ℕ} {source : Typed} → IsSourceOf text source → length text ≤ 1048576 → (k : ℕ)
    (f : TypedFunction) → slice_get source.functions k ≡ Some f → IsTidy (pruned_graph (graph_of f))
    → HasWord (function_of (pruned_graph (graph_of f))) → IsFunctionNotes (function_of (pruned_graph (graph_of f)))
function_stands {text = text} {source = source} is fits k f at tidy word =
    let own = each_at (SoundFunction source.functions (standing cell.Global 0 is.sound.global_lengths)
    is.sound.global_types (length source.globals)) source.functions k f is.sound.functions at in
    record {
      writable = record {
        name = name_passes f.name own.name;
        short = (let few = each_at (λ (x : TypedFunction). length x.name ≤ length text) source.functions k f
            (names_short is) at in omega (arith, few, fits));
        checksum = refl;
        lines = net_so is.sound FitsRecord (omega arith) record_fits k f at;
      };
      net = net_of_tidy (pruned_graph (graph_of f)) tidy;
      line = (let last : f.line ≤ 1048577 = own.line.last in omega (arith, last));
      checksum = word;
      words = net_so is.sound (λ lines. All (λ n. n ≤ word_limit) lines) (All-nil (λ n. n ≤ word_limit))
          (λ lines has. line_words lines has.are_lines) k f at;
    }

all_stand : (fs : List TypedFunction)
    → ((k : ℕ) (f : TypedFunction) → slice_get fs k ≡ Some f → IsTidy (pruned_graph (graph_of f))
    → HasWord (function_of (pruned_graph (graph_of f))) → IsFunctionNotes (function_of (pruned_graph (graph_of f))))
    → All IsTidy (map pruned_graph (map graph_of fs))
    → All HasWord (map function_of (map pruned_graph (map graph_of fs)))
    → All IsFunctionNotes (map function_of (map pruned_graph (map graph_of fs)))
all_stand [] each tidy words = All-nil IsFunctionNotes
all_stand (f ∷ fs) each tidy words =
    let g = pruned_graph (graph_of f) in
    let gs = map pruned_graph (map graph_of fs) in
    All-cons IsFunctionNotes (function_of g) (map function_of gs)
    (each 0 f refl (All-head IsTidy g gs tidy) (All-head HasWord (function_of g) (map function_of gs) words))
    (all_stand fs (λ k. each (suc k)) (All-tail IsTidy g gs tidy)
    (All-tail HasWord (function_of g) (map function_of gs) words))

-- ---- the notes

-- a graph more has its notes behind those before
pub notes_step : (gs : List Graph) (k : ℕ) (old new : List FunctionNotesValue) (f : FunctionNotesValue) (g : Graph)
    → k < length gs → old ≡ map function_of (take k gs) → g ≡ get_or gs k g → f ≡ function_of g → new ≡ old ++ f ∷ []
    → new ≡ map function_of (take (k + 1) gs)
notes_step gs k old new f g lt before at own e =
    e ∙ ap (λ (fs : List FunctionNotesValue). fs ++ f ∷ []) before
    ∙ ap (λ (x : FunctionNotesValue). map function_of (take k gs) ++ x ∷ []) (own ∙ ap function_of at)
    ∙ sym (map-append function_of (take k gs) (get_or gs k g ∷ [])) ∙ ap (map function_of) (sym (take_more gs k g lt))

-- a unit has no more graphs than its size
few_graphs : (gs : List Graph) → length gs ≤ graphs_size gs
few_graphs [] = omega arith
few_graphs (g ∷ gs) = let rest = few_graphs gs in omega (arith, rest)

-- The notes of a text's graphs stand in a file as they are.
pub notes_stand : {text : List ℕ} {unit : GraphUnit} {functions : List FunctionNotesValue} (limit stamp : ℕ)
    → stamp ≤ word_limit → length text ≤ 1048576 → limit ≤ 65536 → AreGraphsOf text unit → size_of unit ≤ 1048576
    → All IsTidy unit.graphs → functions ≡ map function_of unit.graphs → All HasWord functions
    → IsNotes (record { stamp = stamp; limit = limit; functions = functions })
notes_stand {unit = unit} {functions = functions} limit stamp word fits few a small tidy e words = record {
  stamp = word;
  limit = few;
  few = (let many : length functions ≡ length unit.graphs =
      ap (λ (fs : List FunctionNotesValue). length fs) e ∙ length-map unit.graphs function_of in
      let less : length unit.graphs ≤ size_of unit = few_graphs unit.graphs in
      omega (arith, many, less, small));
  functions = subst (All IsFunctionNotes) (sym same)
      (all_stand a.source.functions (function_stands a.is_source fits)
      (subst (λ (u : GraphUnit). All IsTidy u.graphs) a.pruned_are tidy) (subst (All HasWord) same words));
}
  where
    same : functions ≡ map function_of (map pruned_graph (map graph_of a.source.functions))
    same = e ∙ ap (λ (u : GraphUnit). map function_of u.graphs) a.pruned_are

all_writable : (fs : List FunctionNotesValue) → All IsFunctionNotes fs → All IsWritableFunction fs
all_writable [] h = All-nil IsWritableFunction
all_writable (f ∷ fs) h =
    All-cons IsWritableFunction f fs (All-head IsFunctionNotes f fs h).writable
    (all_writable fs (All-tail IsFunctionNotes f fs h))

-- Notes as they stand in a file may be written.
pub writable : (n : NotesValue) → IsNotes n → IsWritable n
writable n h = record { limit = h.limit; few = h.few; functions = all_writable n.functions h.functions }
