-- The head of a report, and the source's lines with their counts.
use Rattle.std.specs.Prelude.{ℕ, zero, suc, ◌+◌, ◌-◌, ◌==◌, Bool, if◌then◌else◌, List, [], ◌∷◌, ◌++◌, length, replicate}
use Rattle.std.specs.Prelude.{codes, Option, Some, None}
use Rattle.std.specs.List.{list_any, sum_by}
use Rattle.std.specs.Fmt.{decimal}
use Rattle.cov_base.specs.Walks.{comes_to}
use Rattle.report_parts.specs.Shown.{ShownValue, total}

-- a text at the right of so many places, or whole where it is longer
abbrev pub right : ℕ → List ℕ → List ℕ
right width text = replicate (width - length text) 32 ++ text

-- a line of the report: a count in 9 places, a line number in 5, and a text
unfoldable pub report_line : List ℕ → ℕ → List ℕ → List ℕ
report_line count number text = right 9 count ++ (58 ∷ (right 5 (decimal number) ++ (58 ∷ (text ++ 10 ∷ []))))

-- a line's count in words: `-` where the line has no code, `#####` where it was never run
unfoldable pub count_text : Option ℕ → List ℕ
count_text None = codes "-"
count_text (Some zero) = codes "#####"
count_text (Some (suc n)) = decimal (suc n)

-- the head of the report on the source NAME.c after so many runs
unfoldable pub head_text : List ℕ → ℕ → List ℕ
head_text name runs =
    report_line (codes "-") 0 (codes "Source:" ++ (name ++ codes ".c"))
    ++ (report_line (codes "-") 0 (codes "Graph:" ++ (name ++ codes ".gcno"))
    ++ (report_line (codes "-") 0 (codes "Data:" ++ (name ++ codes ".gcda"))
    ++ report_line (codes "-") 0 (codes "Runs:" ++ decimal runs)))

-- a byte at the front of the first line
abbrev pub onto_first : ℕ → List (List ℕ) → List (List ℕ)
onto_first b [] = (b ∷ []) ∷ []
onto_first b (line ∷ lines) = (b ∷ line) ∷ lines

-- the lines of a text without their newlines; a last piece without newline is a line if it isn't empty
abbrev pub lines_in : List ℕ → List (List ℕ)
lines_in [] = []
lines_in (b ∷ text) = if b == 10 then [] ∷ lines_in text else onto_first b (lines_in text)

-- the byte is a newline
abbrev pub is_newline : ℕ → Bool
is_newline b = b == 10

-- a list of lines holds the line
abbrev pub holds : List ℕ → ℕ → Bool
holds lines line = list_any (λ held. held == line) lines

-- some block of some function has the line
abbrev pub is_code_line : List ShownValue → ℕ → Bool
is_code_line functions line = list_any (λ f. list_any (λ lines. holds lines line) f.net.lines) functions

-- the sum of the counts of the function's arcs that enter a block of the line from a block that isn't of it
abbrev pub entering : ℕ → ShownValue → ℕ
entering line f = total (λ arc. comes_to f.net line (arc.from, arc.to)) f.net.arcs f.counts

-- a line's count: none where it is in no block, else the sum over all functions of the counts of the arcs that come to
-- it
abbrev pub line_count : List ShownValue → ℕ → Option ℕ
line_count functions line =
    if is_code_line functions line then Some (sum_by (entering line) functions) else None

-- the source's lines with their counts, the first having this number
abbrev pub report_lines : (ℕ → Option ℕ) → ℕ → List (List ℕ) → List ℕ
report_lines count number [] = []
report_lines count number (line ∷ lines) =
    report_line (count_text (count number)) number line ++ report_lines count (number + 1) lines
