-- The table of the rows of a net and a list of its paths.
use Rattle.std.specs.Prelude.{◌≡◌, ℕ, suc, ◌+◌, cond, List, [], ◌∷◌, ◌++◌, length, map, take, slice_range, Option}
use Rattle.std.specs.Prelude.{Some, None, option_map, get_or}
use Rattle.std.specs.List.{list_any, flat_map}
use Rattle.cov_base.specs.declared.net.FlowArc.{FlowArc}
use Rattle.word_rules.specs.WordRules.{BeginEntry, PassEntry, begin_spelled, pass_spelled}
use Rattle.path_masks.specs.UnderWay.{begins_at, has_move, ends_by_move, is_just}
use Rattle.path_masks.specs.Masks.{word_of, width, touches, row_of_start, row_of_move, has_row}
use Rattle.path_masks.specs.declared.rows.RowSpan.{RowSpan}

-- the numbers of the entries of a begin row
abbrev pub begin_longs : List BeginEntry → List ℕ
begin_longs row = flat_map (λ e. e.word ∷ e.begin ∷ e.done ∷ []) row

-- the numbers of the entries of the row of an arc
abbrev pub pass_longs : List PassEntry → List ℕ
pass_longs row = flat_map (λ e. e.word ∷ e.keep ∷ e.finish ∷ e.start ∷ []) row

-- the entry of the begin row for a word of these paths, if one of them begins at block 2
abbrev pub begin_piece : List (List ℕ) → ℕ → List BeginEntry
begin_piece qs i = cond (list_any (begins_at 2) qs)
    (record { word = i; begin = word_of (begins_at 2) qs; done = word_of (is_just 2) qs } ∷ []) []

-- the entry of the row of an arc from v to b for a word of these paths, if one of them holds v or begins at b
abbrev pub pass_piece : ℕ → ℕ → List (List ℕ) → ℕ → List PassEntry
pass_piece v b qs i = cond (list_any (touches v b) qs) (record {
  word = i;
  keep = word_of (has_move v b) qs;
  finish = word_of (ends_by_move v b) qs;
  start = word_of (begins_at b) qs;
} ∷ []) []

-- the row of an arc as it stands in the table, if it has one
abbrev pub row_of : List (List ℕ) → FlowArc → Option (List ℕ)
row_of ps arc = cond (has_row arc) (Some (pass_spelled (row_of_move arc.from arc.to ps))) None

-- the number of words, the row with which a walk begins, and the rows of the arcs that have one
pub record RowsValue : Type 0 where
  pub width : ℕ
  pub begin : List ℕ
  pub passes : List (Option (List ℕ))

-- the rows of these arcs and paths
pub record AreRows (arcs : List FlowArc) (ps : List (List ℕ)) (rows : RowsValue) : Type 0 where
  pub width : rows.width ≡ width ps
  pub begin : rows.begin ≡ begin_spelled (row_of_start 2 ps)
  pub passes : rows.passes ≡ map (row_of ps) arcs

-- how many rows are there
abbrev pub rows_in : {A : Type 0} → List (Option A) → ℕ
rows_in [] = 0
rows_in (None ∷ rows) = rows_in rows
rows_in (Some row ∷ rows) = suc (rows_in rows)

-- the number of the row at a place, where one stands there: how many rows stand before it
abbrev pub number_at : {A : Type 0} → List (Option A) → ℕ → Option ℕ
number_at rows place = option_map (λ row. rows_in (take place rows)) (get_or rows place None)

-- the number of the row of each place, if it has one
abbrev pub AreNumbers : {A : Type 0} → List (Option A) → List (Option ℕ) → Type 0
AreNumbers rows numbers = (place : ℕ) → get_or numbers place None ≡ number_at rows place

-- a row, or nothing
abbrev pub row_or : Option (List ℕ) → List ℕ
row_or None = []
row_or (Some row) = row

-- the begin row and then the rows of the arcs, in their order
abbrev pub table_seen : RowsValue → List ℕ
table_seen rows = rows.begin ++ flat_map row_or rows.passes

-- what stands at a place of the table
abbrev pub row_at : List ℕ → Option RowSpan → Option (List ℕ)
row_at table span = option_map (λ s. slice_range table s.from s.to) span

-- the rows as the table holds them
abbrev pub rows_view : ℕ → List ℕ → ℕ → List (Option RowSpan) → RowsValue
rows_view width table begin spans = record {
  width = width;
  begin = take begin table;
  passes =
      map (row_at table) spans;
}

-- where a row stands that begins at a place of the table
abbrev pub span_of : ℕ → Option (List ℕ) → Option RowSpan
span_of at None = None
span_of at (Some row) = Some (record { from = at; to = at + length row })

-- where rows stand one behind another, from a place of the table on
abbrev pub laid : ℕ → List (Option (List ℕ)) → List (Option RowSpan)
laid at [] = []
laid at (row ∷ rows) = span_of at row ∷ laid (at + length (row_or row)) rows

-- the table is a begin row and then the rows of the arcs, one behind another
pub record IsTable (table : List ℕ) (begin : ℕ) (spans : List (Option RowSpan)) : Type 0 where
  pub first : List ℕ
  pub rows : List (Option (List ℕ))
  pub table_is : table ≡ first ++ flat_map row_or rows
  pub begin_is : begin ≡ length first
  pub spans_are : spans ≡ laid (length first) rows
