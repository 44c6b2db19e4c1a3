-- The report of a program's runs.
use Rattle.std.specs.Prelude.{ℕ, List, ◌++◌, length}
use Rattle.std.specs.List.{flat_map}
use Rattle.report_parts.specs.Shown.{ShownValue}
use Rattle.report_parts.specs.Lines.{head_text, lines_in, report_lines, line_count}
use Rattle.report_parts.specs.Functions.{function_text}
use Rattle.report_parts.specs.Summary.{summary_text}

-- the report on the source NAME.c of this text after so many runs: the head, each source line with its count, each
-- function, and the sums
unfoldable pub shown_text : List ℕ → List ℕ → ℕ → ℕ → List ShownValue → List ℕ
shown_text name source runs limit functions =
    head_text name runs
    ++ (report_lines (line_count functions) 1 (lines_in source)
    ++ (flat_map (function_text limit) functions
    ++ summary_text (length (lines_in source)) functions))
