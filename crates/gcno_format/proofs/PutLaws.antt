-- Records that are written one behind the other.
use Rattle.std.proofs.Common.{◌≡◌, ◌≤◌, ◌<◌, ◌+◌, ◌*◌, refl, sym, ap, ◌∙◌, ℕ, zero, suc, List, [], ◌∷◌, ◌++◌}
use Rattle.std.proofs.Common.{length, take, drop, append_assoc, append-nil, arith}
use Rattle.std.specs.Prelude.{flat_map, slice_index_or}
use Rattle.std.specs.List.{All}
use Rattle.std.proofs.lemmas.List.{at_drop_more}
use Rattle.std.proofs.Math.ListN.{drop_of_length-le}
use Rattle.std.proofs.lemmas.List.Elements.{All-get_or}
use Rattle.cov_base.specs.Net.{NetValue, IsNet}
use Rattle.cov_base.proofs.NetLaws.{HasShape-from_IsNet}
use Rattle.gcov_records.specs.Records.{spelled_from}
use Rattle.gcno_format.specs.declared.marks.Marked.{Marked}
use Rattle.gcno_format.specs.Marks.{Leaving, leavings, block_of, front_leaving}
use Rattle.gcno_format.specs.Notes.{FitsRecord}
use Rattle.gcov_items.specs.Items.{word_bytes, header_bytes, string_bytes}
use Rattle.gcno_format.specs.Spelling.{function_tag, arc_tag, line_tag, way_bytes, leaving_bytes, arcs_bytes, lines_record, lines_bytes}
use Rattle.gcno_format.specs.Spelling.{head_bytes}

front_block : (n : ℕ) (arcs : List Marked) → 0 < n → block_of (take n arcs) ≡ block_of arcs
front_block zero arcs lt = absurd (omega (arith, lt))
front_block (suc n) [] lt = refl
front_block (suc n) (m ∷ ms) lt = refl

-- the arcs at the front, which leave one block, and then the others
pub arcs_put : (out new total : List ℕ) (arcs rest : List Marked) (n : ℕ) → 0 < n
    → leavings arcs ≡ front_leaving n arcs ∷ leavings (drop n arcs) → rest ≡ drop n arcs
    → new ≡ out ++ leaving_bytes (record { block = block_of (take n arcs); arcs = take n arcs })
    → out ++ arcs_bytes arcs ≡ total → new ++ arcs_bytes rest ≡ total
arcs_put out new total arcs rest n some front same put h =
    let own : record { block = block_of (take n arcs); arcs = take n arcs } ≡ front_leaving n arcs =
    ap (λ (b : ℕ). record { block = b; arcs = take n arcs }) (front_block n arcs some) in
    ap (λ (l : List Marked). new ++ arcs_bytes l) same
    ∙ (ap (λ (l : List ℕ). l ++ arcs_bytes (drop n arcs)) (put ∙ ap (λ (l : Leaving). out ++ leaving_bytes l) own)
    ∙ (append_assoc out (leaving_bytes (front_leaving n arcs)) (arcs_bytes (drop n arcs))
    ∙ (ap (λ (l : List Leaving). out ++ flat_map leaving_bytes l) (sym front) ∙ h)))

-- the lines of a block
pub list_fits : (net : NetValue) (block : ℕ) → IsNet net → block < net.blocks → All FitsRecord net.lines
    → FitsRecord (slice_index_or net.lines block [])
list_fits net block n lt h =
    let lists = (HasShape-from_IsNet net n).lists in
    All-get_or FitsRecord net.lines block [] (omega (arith, lists, lt)) h

pub lists_put : (net : NetValue) (block : ℕ) (out new total : List ℕ) → IsNet net → block < net.blocks
    → new ≡ out ++ lines_bytes block (slice_index_or net.lines block [])
    → out ++ spelled_from block lines_bytes (drop block net.lines) ≡ total
    → new ++ spelled_from (block + 1) lines_bytes (drop (block + 1) net.lines) ≡ total
lists_put net block out new total n lt put h =
    let lists = (HasShape-from_IsNet net n).lists in
    let rest : List ℕ = spelled_from (block + 1) lines_bytes (drop (block + 1) net.lines) in
    let one : List ℕ = lines_bytes block (slice_index_or net.lines block []) in
    ap (λ (l : List ℕ). l ++ rest) put ∙ (append_assoc out one rest
    ∙ (ap (λ (l : List ℕ). out ++ l) (sym (at_drop_more (spelled_from block lines_bytes) net.lines block []
    (omega (arith, lists, lt)))) ∙ h))

pub lists_done : (net : NetValue) (block : ℕ) (out total : List ℕ) → IsNet net → net.blocks ≤ block
    → out ++ spelled_from block lines_bytes (drop block net.lines) ≡ total → out ≡ total
lists_done net block out total n le h =
    let lists = (HasShape-from_IsNet net n).lists in
    sym (append-nil out)
    ∙ (ap (λ (l : List (List ℕ)). out ++ spelled_from block lines_bytes l)
    (sym (drop_of_length-le net.lines (omega (arith, lists, le)))) ∙ h)

-- four pieces behind what was there
pub four_put : (o0 o1 o2 o3 o4 a b c d : List ℕ) → o1 ≡ o0 ++ a → o2 ≡ o1 ++ b → o3 ≡ o2 ++ c → o4 ≡ o3 ++ d
    → o4 ≡ o0 ++ (a ++ (b ++ (c ++ d)))
four_put o0 o1 o2 o3 o4 a b c d h1 h2 h3 h4 =
    h4 ∙ (ap (λ (l : List ℕ). l ++ d) h3 ∙ (append_assoc o2 c d
    ∙ (ap (λ (l : List ℕ). l ++ (c ++ d)) h2 ∙ (append_assoc o1 b (c ++ d)
    ∙ (ap (λ (l : List ℕ). l ++ (b ++ (c ++ d))) h1 ∙ append_assoc o0 a (b ++ (c ++ d)))))))

-- a function's own record
pub head_put : (k checksum line : ℕ) (name o0 o1 o2 o3 o4 o5 : List ℕ)
    → o1 ≡ o0 ++ header_bytes (function_tag, 17 + length name) → o2 ≡ o1 ++ word_bytes k
    → o3 ≡ o2 ++ word_bytes checksum → o4 ≡ o3 ++ string_bytes name → o5 ≡ o4 ++ word_bytes line
    → o5 ≡ o0 ++ head_bytes k checksum name line
unfolding head_bytes
head_put k checksum line name o0 o1 o2 o3 o4 o5 h1 h2 h3 h4 h5 =
    h5 ∙ (ap (λ (l : List ℕ). l ++ word_bytes line) (four_put o0 o1 o2 o3 o4 (header_bytes (
      function_tag,
      17 + length
          name,
    )) (word_bytes k) (word_bytes checksum) (string_bytes name) h1 h2 h3 h4)
    ∙ (append_assoc o0 (header_bytes (function_tag, 17 + length name) ++ (word_bytes k ++ (word_bytes checksum
    ++ string_bytes name))) (word_bytes line)
    ∙ ap (λ (l : List ℕ). o0 ++ l) (four (header_bytes (function_tag, 17 + length name)) (word_bytes k)
    (word_bytes checksum) (string_bytes name) (word_bytes line))))
  where
    four : (a b c d e : List ℕ) → (a ++ (b ++ (c ++ d))) ++ e ≡ a ++ (b ++ (c ++ (d ++ e)))
    four a b c d e =
        append_assoc a (b ++ (c ++ d)) e ∙ ap (λ (l : List ℕ). a ++ l) (append_assoc b (c ++ d) e
        ∙ ap (λ (l : List ℕ). b ++ l) (append_assoc c d e))

-- a record of lines
pub record_put : (block : ℕ) (lines o0 o1 o2 o3 : List ℕ)
    → o1 ≡ o0 ++ header_bytes (line_tag, 4 + 4 * length lines) → o2 ≡ o1 ++ word_bytes block
    → o3 ≡ o2 ++ flat_map word_bytes lines → o3 ≡ o0 ++ lines_record block lines
unfolding lines_record
record_put block lines o0 o1 o2 o3 h1 h2 h3 =
    h3 ∙ (ap (λ (l : List ℕ). l ++ flat_map word_bytes lines) h2
    ∙ (append_assoc o1 (word_bytes block) (flat_map word_bytes lines)
    ∙ (ap (λ (l : List ℕ). l ++ (word_bytes block ++ flat_map word_bytes lines)) h1
    ∙ append_assoc o0 (header_bytes (line_tag, 4 + 4 * length lines)) (word_bytes block
    ++ flat_map word_bytes lines))))

-- a record of arcs
pub leaving_put : (arcs : List Marked) (b : ℕ) (o0 o1 o2 o3 : List ℕ)
    → o1 ≡ o0 ++ header_bytes (arc_tag, 4 + 8 * length arcs) → o2 ≡ o1 ++ word_bytes b → b ≡ block_of arcs
    → o3 ≡ o2 ++ flat_map way_bytes arcs → o3 ≡ o0 ++ leaving_bytes (record { block = block_of arcs; arcs = arcs })
unfolding leaving_bytes
leaving_put arcs b o0 o1 o2 o3 h1 h2 e h3 =
    h3 ∙ (ap (λ (l : List ℕ). l ++ flat_map way_bytes arcs) (h2 ∙ ap (λ k. o1 ++ word_bytes k) e)
    ∙ (append_assoc o1 (word_bytes (block_of arcs)) (flat_map way_bytes arcs)
    ∙ (ap (λ (l : List ℕ). l ++ (word_bytes (block_of arcs) ++ flat_map way_bytes arcs)) h1
    ∙ append_assoc o0 (header_bytes (arc_tag, 4 + 8 * length arcs)) (word_bytes (block_of arcs)
    ++ flat_map way_bytes arcs))))
