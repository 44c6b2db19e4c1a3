-- The steps by which counts of lines are made.
use Rattle.std.specs.Prelude.{ℕ, ◌+◌, if◌then◌else◌, List, [], ◌∷◌, Option, Some, None, slice_index_or, slice_set}
use Rattle.std.specs.Prelude.{unwrap_or}
use Rattle.cov_base.specs.Net.{NetValue}
use Rattle.cov_base.specs.declared.net.FlowArc.{FlowArc}
use Rattle.report_parts.specs.Shown.{ShownValue}
use Rattle.report_parts.specs.Lines.{holds}

-- the count of a line, by its number
abbrev pub count_at : List (Option ℕ) → ℕ → Option ℕ
count_at counts line = slice_index_or counts line None

-- how often a line was counted, 0 where it isn't yet
abbrev pub count_or_zero : List (Option ℕ) → ℕ → ℕ
count_or_zero counts line = unwrap_or (count_at counts line) 0

-- the counts with those of the lines begun at 0
abbrev pub begin_lines : List ℕ → List (Option ℕ) → List (Option ℕ)
begin_lines [] counts = counts
begin_lines (line ∷ lines) counts = begin_lines lines (slice_set counts line (Some 0))

-- the counts with those of the lines of all lists begun at 0
abbrev pub begin_all : List (List ℕ) → List (Option ℕ) → List (Option ℕ)
begin_all [] counts = counts
begin_all (lines ∷ lists) counts = begin_all lists (begin_lines lines counts)

-- the counts with those of the lines of all functions begun at 0
abbrev pub begin_functions : List ShownValue → List (Option ℕ) → List (Option ℕ)
begin_functions [] counts = counts
begin_functions (f ∷ functions) counts = begin_functions functions (begin_all f.net.lines counts)

-- the counts with a number added to that of the line
abbrev pub add_at : ℕ → ℕ → List (Option ℕ) → List (Option ℕ)
add_at line n counts = slice_set counts line (Some (count_or_zero counts line + n))

-- the counts with a number added to those of the lines, but for the lines that another list holds
abbrev pub add_to_lines : ℕ → List ℕ → List ℕ → List (Option ℕ) → List (Option ℕ)
add_to_lines n others [] counts = counts
add_to_lines n others (line ∷ lines) counts =
    add_to_lines n others lines (if holds others line then counts else add_at line n counts)

-- the lines of a block
abbrev pub lines_at : NetValue → ℕ → List ℕ
lines_at net block = slice_index_or net.lines block []

-- the counts with that of an arc added to those of the lines that it comes to
abbrev pub add_arc : NetValue → FlowArc → ℕ → List (Option ℕ) → List (Option ℕ)
add_arc net arc n counts = add_to_lines n (lines_at net arc.from) (lines_at net arc.to) counts

-- the counts with those of all arcs added
abbrev pub add_arcs : NetValue → List FlowArc → List ℕ → List (Option ℕ) → List (Option ℕ)
add_arcs net [] numbers counts = counts
add_arcs net (arc ∷ arcs) [] counts = counts
add_arcs net (arc ∷ arcs) (n ∷ numbers) counts = add_arcs net arcs numbers (add_arc net arc n counts)

-- the counts with those of the arcs of all functions added
abbrev pub add_functions : List ShownValue → List (Option ℕ) → List (Option ℕ)
add_functions [] counts = counts
add_functions (f ∷ functions) counts = add_functions functions (add_arcs f.net f.net.arcs f.counts counts)
