-- The code of an orderly unit breaks no rule where it counts by shapes of the nets.
use Rattle.std.proofs.Common.{◌≡◌, refl, sym, ap, subst, ◌∙◌, ℕ, ◌+◌, ◌≤◌, ◌==◌, true, List, []}
use Rattle.std.proofs.Common.{◌∷◌, length, Option, Some, None, arith}
use Rattle.std.specs.Prelude.{◌||◌, nat_lt}
use Rattle.std.proofs.lemmas.Bool.{lt-ltb}
use Rattle.std.proofs.lemmas.List.{length-map}
use Rattle.cov_base.specs.Net.{NetValue}
use Rattle.cov_base.proofs.NetLaws.{HasShape, HasShape-from_IsNet}
use Rattle.span_tree.specs.Tree.{off}
use Rattle.span_tree.proofs.Counts.{off_length}
use Rattle.code_runs.specs.Tables.{layout_fault, table_word}
use Rattle.path_masks.specs.Tables.{RowsValue, rows_in, row_of}
use Rattle.stack_code.specs.Laws.{CoveredCodePasses}
use Rattle.stack_code.specs.Modes.{ShapeValue, HasRows, IsShape, shape_of}
use Rattle.stack_code.specs.UnitCode.{passes_in, table_in}
use Rattle.stack_code.proofs.PassLaws.{CountsFit, passes, nothing_counts}
use Rattle.stack_code.proofs.TableFits.{laid_table, words_in_order}

few_there : {A : Type 0} (rows : List (Option A)) → rows_in rows ≤ length rows
few_there [] = omega arith
few_there (None ∷ rows) = let h = few_there rows in omega (arith, h)
few_there (Some row ∷ rows) = let h = few_there rows in omega (arith, h)

-- what is right about rows
record RowsFit (paths : ℕ) (rows : Option RowsValue) : Type 0 where
  low : paths ≤ 65536
  passes : passes_in rows ≤ 4096
  none : (nat_lt 0 paths || (passes_in rows == 0)) ≡ true
  layout : layout_fault paths (passes_in rows) (table_in rows) ≡ None
  words : table_word paths (passes_in rows) (table_in rows) ≡ None

rows_fit : (net : NetValue) (paths : ℕ) (rows : Option RowsValue) → length net.arcs ≤ 4096 → HasRows net paths rows
    → RowsFit paths rows
rows_fit net paths None few has =
    subst (λ n. RowsFit n None) (sym has)
    (record { low = omega arith; passes = omega arith; none = refl; layout = refl; words = refl })
rows_fit net paths (Some rows) few has =
    let many : length rows.passes ≡ length net.arcs =
    ap (λ (l : List (Option (List ℕ))). length l) has.rows_are.passes ∙ length-map net.arcs (row_of has.paths) in
    let there = few_there rows.passes in record {
      low = has.few;
      passes = omega (arith, few, many, there);
      none = rw (lt-ltb 0 paths has.some) refl;
      layout = laid_table net.arcs has.paths rows paths has.rows_are has.count_is has.some;
      words = words_in_order net.arcs has.paths rows paths has.rows_are has.count_is;
    }

shape_fits : (o : Option ShapeValue) → ((s : ShapeValue) → o ≡ Some s → IsShape s) → CountsFit o
shape_fits None is = nothing_counts
shape_fits (Some s) is =
    let h : IsShape s = is s refl in
    let shape : HasShape s.net = HasShape-from_IsNet s.net h.net in
    let few = shape.few in
    let least = shape.least in
    let many : length (off s.net) + s.net.blocks ≡ length s.net.arcs + 2 = off_length s.net h.net in
    let own : length s.plan ≡ length (off s.net) = ap (λ (l : List ℕ). length l) h.plan in
    let rows : RowsFit s.paths s.rows = rows_fit s.net s.paths s.rows few h.rows in record {
      counters = omega (arith, few, least, many, own);
      paths = rows.low;
      passes = rows.passes;
      none = rows.none;
      layout = rows.layout;
      words = rows.words;
    }

pub covered_passes : CoveredCodePasses
covered_passes u shapes stamp orderly fits shaped few =
    passes true u shapes stamp shaped orderly fits
    (record { few = λ i. shape_fits (shape_of true shapes i) (λ s at. shaped i s at) }) few
