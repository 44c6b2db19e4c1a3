-- The sums at the end of a report.
use Rattle.std.specs.Prelude.{ℕ, ◌+◌, ◌&&◌, nat_lt, Bool, true, false, if◌then◌else◌, List, [], ◌∷◌, ◌++◌, length, codes}
use Rattle.std.specs.Prelude.{Option}
use Rattle.std.specs.Option.{option_map_or}
use Rattle.std.specs.Fmt.{decimal}
use Rattle.std.specs.List.{list_any, count_by, sum_by}
use Rattle.cov_base.specs.declared.net.FlowArc.{FlowArc}
use Rattle.prime_paths.specs.Lister.{numbers, inner_blocks}
use Rattle.prime_paths.specs.declared.listing.Listing.{Listing}
use Rattle.prime_paths.specs.declared.listing.Listing.TheVariants as listing
use Rattle.report_parts.specs.declared.sums.Part.{Part}
use Rattle.report_parts.specs.declared.sums.Part.TheVariants as part
use Rattle.report_parts.specs.Shown.{ShownValue, total, is_way_out, is_call_exit_of, is_branch, has_bit}
use Rattle.report_parts.specs.Lines.{line_count}

-- a line's count is there
abbrev pub is_told : Option ℕ → Bool
is_told count = option_map_or (λ n. true) count false

-- a line's count is there and above 0
abbrev pub is_run : Option ℕ → Bool
is_run count = option_map_or (λ n. nat_lt 0 n) count false

-- how many of so many lines have a count that passes the test
abbrev pub lines_with : (Option ℕ → Bool) → (ℕ → Option ℕ) → ℕ → ℕ
lines_with test count lines = count_by (λ line. test (count line)) (numbers 1 lines)

-- how many of these arcs are marked as branches
abbrev pub branches : ShownValue → ℕ
branches f = count_by (is_branch f.net.arcs) f.net.arcs

-- how many of these arcs are marked as branches, by all arcs, and have a count above 0
abbrev pub taken : List FlowArc → List FlowArc → List ℕ → ℕ
taken all [] counts = 0
taken all (arc ∷ arcs) [] = 0
taken all (arc ∷ arcs) (count ∷ counts) =
    (if is_branch all arc && nat_lt 0 count then 1 else 0) + taken all arcs counts

-- how many branches were taken
abbrev pub branches_taken : ShownValue → ℕ
branches_taken f = taken f.net.arcs f.net.arcs f.counts

-- the block has a call-exit arc and a real arc out
abbrev pub is_call : List FlowArc → ℕ → Bool
is_call arcs block = list_any (is_call_exit_of block) arcs && list_any (is_way_out block) arcs

-- the block has them, and its real arcs out were passed
abbrev pub is_call_back : ShownValue → ℕ → Bool
is_call_back f block = is_call f.net.arcs block && nat_lt 0 (total (is_way_out block) f.net.arcs f.counts)

-- how many blocks call
abbrev pub calls : ShownValue → ℕ
calls f = count_by (is_call f.net.arcs) (inner_blocks f.net)

-- how many of them were left by a real arc
abbrev pub calls_back : ShownValue → ℕ
calls_back f = count_by (is_call_back f) (inner_blocks f.net)

-- how many paths are listed
abbrev pub listed : Listing → ℕ
listed (listing.All paths) = length paths
listed listing.LimitPassed = 0

-- how many of the listed paths were covered
abbrev pub paths_covered : ShownValue → ℕ
paths_covered f = count_by (has_bit f.bits) (numbers 0 (listed f.listing))

-- the amounts that a report sums up over functions
abbrev pub amount : Part → ShownValue → ℕ
amount part.BranchesTaken f = branches_taken f
amount part.Branches f = branches f
amount part.CallsBack f = calls_back f
amount part.Calls f = calls f
amount part.PathsCovered f = paths_covered f
amount part.Paths f = listed f.listing

-- how many of all there are
unfoldable pub sum_line : List ℕ → ℕ → ℕ → List ℕ
sum_line what some all = what ++ (codes " " ++ (decimal some ++ (codes " of " ++ (decimal all ++ codes "\n"))))

-- lines that ran, branches taken, calls that came back, and paths covered, each of all, where each line's count is told
unfoldable pub summary_by : (ℕ → Option ℕ) → ℕ → List ShownValue → List ℕ
summary_by count lines functions =
    sum_line (codes "lines") (lines_with is_run count lines) (lines_with is_told count lines)
    ++ (sum_line (codes "branches") (sum_by (amount part.BranchesTaken) functions)
    (sum_by (amount part.Branches) functions)
    ++ (sum_line (codes "calls") (sum_by (amount part.CallsBack) functions)
    (sum_by (amount part.Calls) functions)
    ++ sum_line (codes "paths") (sum_by (amount part.PathsCovered) functions)
    (sum_by (amount part.Paths) functions)))

-- the sums of a report on a source of so many lines
abbrev pub summary_text : ℕ → List ShownValue → List ℕ
summary_text lines functions = summary_by (line_count functions) lines functions
