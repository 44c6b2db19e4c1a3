-- The rows of a table, read by their numbers.
use Rattle.std.proofs.Common.{◌≡◌, refl, sym, ap, ap₂, subst, ◌∙◌, ℕ, zero, suc, ◌+◌, ◌*◌, Bool, true, false}
use Rattle.std.proofs.Common.{cond, List, [], ◌∷◌, ◌++◌, length, map, take, drop, get_or, flat_map, Option, Some, None, arith}
use Rattle.std.proofs.Common.{length-append, mul-suc, add_comm}
use Rattle.std.proofs.Math.Seq.{drop-append_seam, take-append_seam}
use Rattle.std.proofs.lemmas.Option.{same_Some, none-some}
use Rattle.cov_base.specs.declared.net.FlowArc.{FlowArc}
use Rattle.word_rules.specs.WordRules.{BeginEntry, PassEntry, pass_spelled}
use Rattle.path_masks.specs.Masks.{has_row, row_of_start, row_of_move}
use Rattle.path_masks.specs.Tables.{RowsValue, AreRows, row_of, row_or, rows_in, table_seen}
use Rattle.code_runs.specs.Tables.{front_row, behind_row, begin_of, passes_from, pass_of}

-- entries of so many numbers each
module _ {E : Type 0} (size : ℕ) (spell : E → List ℕ) (long : (e : E) → length (spell e) ≡ size) where
  entries_long : (row : List E) → length (flat_map spell row) ≡ size * length row
  entries_long [] = none size
    where
      none : (k : ℕ) → 0 ≡ k * 0
      none k = omega arith
  entries_long (e ∷ row) =
      length-append (spell e) (flat_map spell row) ∙ ap₂ (λ a b. a + b) (long e) (entries_long row)
      ∙ more size (length row)
    where
      more : (k n : ℕ) → k + k * n ≡ k * suc n
      more k n = sym (mul-suc k n ∙ add_comm (k * n) k)

  size_is : (row : List E) → 1 + size * length row ≡ suc (length (flat_map spell row))
  size_is row = let e = entries_long row in omega (arith, e)

  -- the row in front, and what stands behind it
  row_front : (row : List E) (more : List ℕ)
      → front_row size ((length row ∷ flat_map spell row) ++ more) ≡ length row ∷ flat_map spell row
  row_front row more =
      ap (λ (k : ℕ). take k (length row ∷ (flat_map spell row ++ more))) (size_is row)
      ∙ ap (λ (l : List ℕ). length row ∷ l) (take-append_seam (flat_map spell row) more)

  row_behind : (row : List E) (more : List ℕ)
      → behind_row size ((length row ∷ flat_map spell row) ++ more) ≡ more
  row_behind row more =
      ap (λ (k : ℕ). drop k (length row ∷ (flat_map spell row ++ more))) (size_is row)
      ∙ drop-append_seam (flat_map spell row) more

abbrev begin_spell : BeginEntry → List ℕ
begin_spell e = e.word ∷ e.begin ∷ e.done ∷ []

abbrev pass_spell : PassEntry → List ℕ
pass_spell e = e.word ∷ e.keep ∷ e.finish ∷ e.start ∷ []

-- a row that is there is spelled
abbrev AreSpelled : List (Option (List ℕ)) → Type 0
AreSpelled [] = Unit {0}
AreSpelled (None ∷ rows) = AreSpelled rows
AreSpelled (Some row ∷ rows) = ((entries : List PassEntry) × (row ≡ pass_spelled entries)) × AreSpelled rows

spelled : (ps : List (List ℕ)) (arcs : List FlowArc) → AreSpelled (map (row_of ps) arcs)
spelled ps [] = tt
spelled ps (arc ∷ arcs) = by (has_row arc) (spelled ps arcs)
  where
    by : (z : Bool) → AreSpelled (map (row_of ps) arcs)
        → AreSpelled (cond z (Some (pass_spelled (row_of_move arc.from arc.to ps))) None ∷ map (row_of ps) arcs)
    by true h = ((row_of_move arc.from arc.to ps, refl), h)
    by false h = h

-- the row of a place has its number in the table
row_at_number : (rows : List (Option (List ℕ))) → AreSpelled rows → (k : ℕ) (row : List ℕ) → get_or rows k None ≡ Some row
    → front_row 4 (passes_from (rows_in (take k rows)) (flat_map row_or rows)) ≡ row
row_at_number [] h k row at = absurd (none-some row at)
row_at_number (None ∷ rows) h zero row at = absurd (none-some row at)
row_at_number (None ∷ rows) h (suc k) row at = row_at_number rows h k row at
row_at_number (Some r ∷ rows) h zero row at =
    let es : List PassEntry = h.0.0 in
    ap (λ (l : List ℕ). front_row 4 (l ++ flat_map row_or rows)) h.0.1
    ∙ row_front 4 pass_spell (λ e. refl) es (flat_map row_or rows) ∙ sym h.0.1 ∙ same_Some r row at
row_at_number (Some r ∷ rows) h (suc k) row at =
    let es : List PassEntry = h.0.0 in
    ap (λ (l : List ℕ). front_row 4 (passes_from (rows_in (take k rows)) (behind_row 4 (l ++ flat_map row_or rows)))) h.0.1
    ∙ ap (λ (l : List ℕ). front_row 4 (passes_from (rows_in (take k rows)) l))
    (row_behind 4 pass_spell (λ e. refl) es (flat_map row_or rows))
    ∙ row_at_number rows h.1 k row at

-- the table begins with the begin row
pub begin_found : (arcs : List FlowArc) (ps : List (List ℕ)) (rows : RowsValue) → AreRows arcs ps rows
    → begin_of (table_seen rows) ≡ rows.begin
begin_found arcs ps rows are =
    ap (λ (b : List ℕ). front_row 3 (b ++ flat_map row_or rows.passes)) are.begin
    ∙ row_front 3 begin_spell (λ e. refl) (row_of_start 2 ps) (flat_map row_or rows.passes) ∙ sym are.begin

-- the row of an arc has its number in the table
pub pass_found : (arcs : List FlowArc) (ps : List (List ℕ)) (rows : RowsValue) → AreRows arcs ps rows → (k : ℕ)
    (row : List ℕ) → get_or rows.passes k None ≡ Some row
    → pass_of (rows_in (take k rows.passes)) (table_seen rows) ≡ row
pass_found arcs ps rows are k row at =
    ap (λ (l : List ℕ). front_row 4 (passes_from (rows_in (take k rows.passes)) l))
    (ap (λ (b : List ℕ). behind_row 3 (b ++ flat_map row_or rows.passes)) are.begin
    ∙ row_behind 3 begin_spell (λ e. refl) (row_of_start 2 ps) (flat_map row_or rows.passes))
    ∙ row_at_number rows.passes
    (subst (λ (rs : List (Option (List ℕ))). AreSpelled rs) (sym are.passes) (spelled ps arcs)) k row at
