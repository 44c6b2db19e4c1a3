-- The rows of paths keep the rules of a table.
use Rattle.std.proofs.Common.{◌≡◌, refl, sym, ap, ap₂, subst, ◌∙◌, ℕ, zero, suc, ◌+◌, ◌*◌, ◌<◌, ◌≤◌, Bool, true}
use Rattle.std.proofs.Common.{false, cond, List, [], ◌∷◌, ◌++◌, length, map, drop, flat_map, Option, Some, None, arith}
use Rattle.std.proofs.Common.{length-append, append_assoc, mul-suc, add_comm}
use Rattle.std.specs.Prelude.{nat_lt, nat_le, slice_index_or}
use Rattle.std.specs.List.{list_any}
use Rattle.std.specs.Option.{option_or}
use Rattle.std.proofs.Math.Seq.{drop-append_seam}
use Rattle.std.proofs.lemmas.Bool.{and_from, le-leb, lt-ltb}
use Rattle.word_rules.specs.WordRules.{BeginEntry, PassEntry, begin_spelled, pass_spelled}
use Rattle.prime_paths.specs.Lister.{numbers}
use Rattle.path_masks.specs.Masks.{width, chunk, begin_entry, row_of_start, pass_entry, row_of_move, touches, has_row}
use Rattle.path_masks.specs.UnderWay.{begins_at}
use Rattle.path_masks.specs.Tables.{RowsValue, AreRows, row_of, row_or, rows_in, table_seen}
use Rattle.code_runs.specs.Tables.{TableFault, words_in, row_length, behind_row, word_fault, with_row, rows_fault}
use Rattle.code_runs.specs.Tables.{layout_fault, rows_word, table_word}
use Rattle.cov_base.specs.declared.net.FlowArc.{FlowArc}
use Rattle.stack_code.proofs.NumberLaws.{both}

-- words of entries ascend from the least on, below a number of words
abbrev AscendBy : {E : Type 0} → (E → ℕ) → ℕ → ℕ → List E → Type 0
AscendBy word words least [] = Unit {0}
AscendBy word words least (e ∷ row) = (least ≤ word e) × (word e < words) × AscendBy word words (suc (word e)) row

-- entries of so many numbers each, of which the first tells a word
module _ {E : Type 0} (size : ℕ) (spell : E → List ℕ) (word : E → ℕ) (long : (e : E) → length (spell e) ≡ size)
    (first : (e : E) (more : List ℕ) → slice_index_or (spell e ++ more) 0 0 ≡ word e) where
  entries_long : (row : List E) → length (flat_map spell row) ≡ size * length row
  entries_long [] = none size
    where
      none : (k : ℕ) → 0 ≡ k * 0
      none k = omega arith
  entries_long (e ∷ row) =
      length-append (spell e) (flat_map spell row) ∙ ap₂ (λ a b. a + b) (long e) (entries_long row)
      ∙ more size (length row)
    where
      more : (k n : ℕ) → k + k * n ≡ k * suc n
      more k n = sym (mul-suc k n ∙ add_comm (k * n) k)

  words_ascend : (words least at : ℕ) (row : List E) (more : List ℕ) → AscendBy word words least row
      → word_fault size words (length row) least at (flat_map spell row ++ more) ≡ None
  words_ascend words least at [] more h = refl
  words_ascend words least at (e ∷ row) more h =
      let rest : List ℕ = flat_map spell row in
      let is : slice_index_or ((spell e ++ rest) ++ more) 0 0 ≡ word e =
      ap (λ (l : List ℕ). slice_index_or l 0 0) (append_assoc (spell e) rest more) ∙ first e (rest ++ more) in
      let behind : drop size ((spell e ++ rest) ++ more) ≡ rest ++ more =
      ap₂ (λ (n : ℕ) (l : List ℕ). drop n l) (sym (long e)) (append_assoc (spell e) rest more)
      ∙ drop-append_seam (spell e) (rest ++ more) in
      rw (
        is,
        behind,
        and_from (nat_le least (word e)) (nat_lt (word e) words) (le-leb least (word e) h.0) (lt-ltb (word e) words h.1),
      ) (words_ascend words (suc (word e)) (at + size) row more h.2)

  -- a row that has no more entries than there are words is passed over
  row_there : (words at : ℕ) (row : List E) (more : List ℕ) (then : ℕ → List ℕ → Option TableFault)
      → length row ≤ words
      → with_row size words at (length row ∷ (flat_map spell row ++ more)) then
      ≡ then (at + 1 + size * length row) more
  row_there words at row more then few =
      let n = entries_long row in
      let all = length-append (flat_map spell row) more in
      let behind : drop (size * length row) (flat_map spell row ++ more) ≡ more =
      ap (λ (k : ℕ). drop k (flat_map spell row ++ more)) (sym n) ∙ drop-append_seam (flat_map spell row) more in
      rw (
        le-leb (length row) words few,
        le-leb (size * length row) (length (flat_map spell row ++ more)) (omega (arith, n, all)),
        behind,
      ) refl

  row_behind : (row : List E) (more : List ℕ)
      → behind_row size (length row ∷ (flat_map spell row ++ more)) ≡ more
  row_behind row more =
      let n : 1 + size * length row ≡ suc (length (flat_map spell row)) =
      (let e = entries_long row in omega (arith, e)) in
      ap (λ (k : ℕ). drop k (length row ∷ (flat_map spell row ++ more))) n
      ∙ drop-append_seam (flat_map spell row) more

-- entries for some of the words ascend
some_ascend : {E : Type 0} (word : E → ℕ) (test : ℕ → Bool) (entry : ℕ → E) → ((i : ℕ) → word (entry i) ≡ i)
    → (words least a k : ℕ) → least ≤ a → a + k ≤ words
    → AscendBy word words least (flat_map (λ i. cond (test i) (entry i ∷ []) []) (numbers a k))
some_ascend word test entry is words least a zero le fit = tt
some_ascend word test entry is words least a (suc k) le fit =
    by (test a) (some_ascend word test entry is words least (suc a) k (omega (arith, le)) (omega (arith, fit)))
    (some_ascend word test entry is words (suc a) (suc a) k (omega arith) (omega (arith, fit)))
  where
    by : (z : Bool)
        → AscendBy word words least (flat_map (λ i. cond (test i) (entry i ∷ []) []) (numbers (suc a) k))
        → AscendBy word words (suc a) (flat_map (λ i. cond (test i) (entry i ∷ []) []) (numbers (suc a) k))
        → AscendBy word words least (cond z (entry a ∷ []) []
        ++ flat_map (λ i. cond (test i) (entry i ∷ []) []) (numbers (suc a) k))
    by false h more = h
    by true h more =
        let e : word (entry a) ≡ a = is a in (
          omega (arith, e, le),
          omega (arith, e, fit),
          subst (λ n. AscendBy word words n (flat_map (λ i. cond (test i) (entry i ∷ []) []) (numbers (suc a) k)))
              (ap suc (sym e)) more,
        )

few_entries : {E : Type 0} (test : ℕ → Bool) (entry : ℕ → E) (a k : ℕ)
    → length (flat_map (λ i. cond (test i) (entry i ∷ []) []) (numbers a k)) ≤ k
few_entries test entry a zero = omega arith
few_entries test entry a (suc k) = by (test a) (few_entries test entry (suc a) k)
  where
    by : (z : Bool) → length (flat_map (λ i. cond (test i) (entry i ∷ []) []) (numbers (suc a) k)) ≤ k
        → length (cond z (entry a ∷ []) [] ++ flat_map (λ i. cond (test i) (entry i ∷ []) []) (numbers (suc a) k)) ≤ suc k
    by true h = omega (arith, h)
    by false h = omega (arith, h)

-- ---- the rows of paths

abbrev begin_spell : BeginEntry → List ℕ
begin_spell e = e.word ∷ e.begin ∷ e.done ∷ []

abbrev pass_spell : PassEntry → List ℕ
pass_spell e = e.word ∷ e.keep ∷ e.finish ∷ e.start ∷ []

-- the row of an arc, if it has one, has no more entries than there are words, and they ascend
record PassFits (words : ℕ) (row : List PassEntry) : Type 0 where
  few : length row ≤ words
  ascend : AscendBy (λ (e : PassEntry). e.word) words 0 row

-- rows as they stand in a table
abbrev Spelled : ℕ → List (Option (List ℕ)) → Type 0
Spelled words [] = Unit {0}
Spelled words (None ∷ rows) = Spelled words rows
Spelled words (Some row ∷ rows) =
    ((entries : List PassEntry) × (row ≡ pass_spelled entries) × PassFits words entries) × Spelled words rows

rows_there : (words at : ℕ) (rows : List (Option (List ℕ))) → Spelled words rows
    → rows_fault words (rows_in rows) at (flat_map row_or rows) ≡ None
rows_there words at [] h = refl
rows_there words at (None ∷ rows) h = rows_there words at rows h
rows_there words at (Some row ∷ rows) h =
    let es : List PassEntry = h.0.0 in
    let more : List ℕ = flat_map row_or rows in
    let n : ℕ = rows_in rows in
    ap (λ (l : List ℕ). rows_fault words (suc n) at (l ++ more)) h.0.1
    ∙ row_there 4 pass_spell (λ e. e.word) (λ e. refl) (λ e l. refl) words at es more
    (λ at rest. rows_fault words n at rest) h.0.2.few
    ∙ rows_there words (at + 1 + 4 * length es) rows h.1

rows_ascend : (words at : ℕ) (rows : List (Option (List ℕ))) → Spelled words rows
    → rows_word words (rows_in rows) at (flat_map row_or rows) ≡ None
rows_ascend words at [] h = refl
rows_ascend words at (None ∷ rows) h = rows_ascend words at rows h
rows_ascend words at (Some row ∷ rows) h =
    let es : List PassEntry = h.0.0 in
    let more : List ℕ = flat_map row_or rows in
    let n : ℕ = rows_in rows in
    ap (λ (l : List ℕ). rows_word words (suc n) at (l ++ more)) h.0.1
    ∙ both (word_fault 4 words (length es) 0 (at + 1) (flat_map pass_spell es ++ more)) _
    (words_ascend 4 pass_spell (λ e. e.word) (λ e. refl) (λ e l. refl) words 0 (at + 1) es more h.0.2.ascend)
    (ap (λ (l : List ℕ). rows_word words n (at + (1 + 4 * length es)) l)
    (row_behind 4 pass_spell (λ e. e.word) (λ e. refl) (λ e l. refl) es more)
    ∙ rows_ascend words (at + (1 + 4 * length es)) rows h.1)

rows_spelled : (ps : List (List ℕ)) (arcs : List FlowArc) → Spelled (width ps) (map (row_of ps) arcs)
rows_spelled ps [] = tt
rows_spelled ps (arc ∷ arcs) = by (has_row arc) (rows_spelled ps arcs)
  where
    row : List PassEntry
    row = row_of_move arc.from arc.to ps

    by : (z : Bool) → Spelled (width ps) (map (row_of ps) arcs)
        → Spelled (width ps) (cond z (Some (pass_spelled (row_of_move arc.from arc.to ps))) None ∷ map (row_of ps) arcs)
    by false h = h
    by true h = (
      (
        row_of_move arc.from arc.to ps,
        refl,
        record {
          few = few_entries (λ i. list_any (touches arc.from arc.to) (chunk ps i)) (pass_entry arc.from arc.to ps) 0
              (width ps);
          ascend = some_ascend (λ (e : PassEntry). e.word) (λ i. list_any (touches arc.from arc.to) (chunk ps i))
              (pass_entry arc.from arc.to ps) (λ i. refl) (width ps) 0 0 (width ps) (omega arith) (omega arith);
        },
      ),
      h,
    )

-- ---- the table of a shape

begin_fits : (ps : List (List ℕ)) → length (row_of_start 2 ps) ≤ width ps
begin_fits ps = few_entries (λ i. list_any (begins_at 2) (chunk ps i)) (begin_entry 2 ps) 0 (width ps)

-- rows with these parts
abbrev made : ℕ → List ℕ → List (Option (List ℕ)) → RowsValue
made w b p = record { width = w; begin = b; passes = p }

-- the rows of some paths are one
same_rows : (arcs : List FlowArc) (ps : List (List ℕ)) (rows : RowsValue) → AreRows arcs ps rows
    → rows ≡ made (width ps) (begin_spelled (row_of_start 2 ps)) (map (row_of ps) arcs)
same_rows arcs ps rows are =
    ap (λ (w : ℕ). made w rows.begin rows.passes) are.width
    ∙ ap (λ (b : List ℕ). made (width ps) b rows.passes) are.begin
    ∙ ap (λ (p : List (Option (List ℕ))). made (width ps) (begin_spelled (row_of_start 2 ps)) p) are.passes

-- the words of a table with so many words
abbrev table_from : ℕ → RowsValue → Option ℕ
table_from words r =
    option_or (word_fault 3 words (slice_index_or (table_seen r) 0 0) 0 1 (drop 1 (table_seen r)))
    (rows_word words (rows_in r.passes) (row_length 3 (table_seen r))
    (behind_row 3 (table_seen r)))

-- a table of the rows of some paths has the layout of a table
pub laid_table : (arcs : List FlowArc) (ps : List (List ℕ)) (rows : RowsValue) (count : ℕ) → AreRows arcs ps rows
    → count ≡ length ps → 0 < count
    → layout_fault count (rows_in rows.passes) (table_seen rows) ≡ None
laid_table arcs ps rows zero are e some = absurd (omega (arith, some))
laid_table arcs ps rows (suc n) are e some =
    let words : words_in (suc n) ≡ width ps = ap words_in e in
    let begin : List BeginEntry = row_of_start 2 ps in
    let passes : List (Option (List ℕ)) = map (row_of ps) arcs in
    ap₂ (λ (k : ℕ) (r : RowsValue). with_row 3 k 0 (table_seen r)
    (λ at rest. rows_fault k (rows_in r.passes) at rest)) words (same_rows arcs ps rows are)
    ∙ row_there 3 begin_spell (λ e. e.word) (λ e. refl) (λ e l. refl) (width ps) 0 begin (flat_map row_or passes)
    (λ at rest. rows_fault (width ps) (rows_in passes) at rest) (begin_fits ps)
    ∙ rows_there (width ps) (0 + 1 + 3 * length begin) passes (rows_spelled ps arcs)

-- and its words ascend
pub words_in_order : (arcs : List FlowArc) (ps : List (List ℕ)) (rows : RowsValue) (count : ℕ) → AreRows arcs ps rows
    → count ≡ length ps → table_word count (rows_in rows.passes) (table_seen rows) ≡ None
words_in_order arcs ps rows zero are e = refl
words_in_order arcs ps rows (suc n) are e =
    let words : words_in (suc n) ≡ width ps = ap words_in e in
    let begin : List BeginEntry = row_of_start 2 ps in
    let passes : List (Option (List ℕ)) = map (row_of ps) arcs in
    let more : List ℕ = flat_map row_or passes in
    let size : ℕ = row_length 3 (length begin ∷ (flat_map begin_spell begin ++ more)) in
    ap₂ (λ (k : ℕ) (r : RowsValue). table_from k r) words (same_rows arcs ps rows are)
    ∙ both (word_fault 3 (width ps) (length begin) 0 1 (flat_map begin_spell begin ++ more)) _
    (words_ascend 3 begin_spell (λ e. e.word) (λ e. refl) (λ e l. refl) (width ps) 0 1 begin more
    (some_ascend (λ (e : BeginEntry). e.word) (λ i. list_any (begins_at 2) (chunk ps i)) (begin_entry 2 ps)
    (λ i. refl) (width ps) 0 0 (width ps) (omega arith) (omega arith)))
    (ap (λ (l : List ℕ). rows_word (width ps) (rows_in passes) size l)
    (row_behind 3 begin_spell (λ e. e.word) (λ e. refl) (λ e l. refl) begin more)
    ∙ rows_ascend (width ps) size passes (rows_spelled ps arcs))
