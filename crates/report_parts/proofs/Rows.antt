-- Counts of worked programs.
use Rattle.std.proofs.Common.{◌≡◌, refl, ℕ, List, [], ◌∷◌, Some, None, true, false}
use Rattle.cov_base.specs.Net.{NetValue}
use Rattle.cov_base.specs.declared.net.ArcKind.TheVariants.{Real, CallExit}
use Rattle.cov_base.specs.declared.net.FlowArc.{FlowArc}
use Rattle.prime_paths.specs.declared.listing.Listing.TheVariants as listing
use Rattle.report_parts.specs.declared.sums.Part.TheVariants as part
use Rattle.report_parts.specs.Shown.{ShownValue, block_count, is_branch, has_bit, total}
use Rattle.report_parts.specs.Lines.{line_count, lines_in}
use Rattle.report_parts.specs.Functions.{is_return, is_call_exit}
use Rattle.report_parts.specs.Summary.{lines_with, is_told, is_run, amount}

abbrev way : ℕ → ℕ → FlowArc
way a b = record { from = a; to = b; kind = Real }

abbrev exit_from : ℕ → FlowArc
exit_from a = record { from = a; to = 1; kind = CallExit }

-- ---- `int main(void) {`, `int n = 0;`, `while (getchar() == 'a')`, `n++;`, `return n;`, `}`

abbrev loop_net : NetValue
loop_net = record {
  blocks = 6;
  arcs = way 0 2 ∷ way 2 3 ∷ way 3 4 ∷ way 3 5 ∷ way 4 3 ∷ way 5 1 ∷ [];
  lines = [] ∷ [] ∷ (1 ∷ 2 ∷ []) ∷ (3 ∷ []) ∷ (4 ∷ []) ∷ (5 ∷ []) ∷ [];
}

abbrev loop : List ℕ → ℕ → ShownValue
loop counts bits = record {
  name = [];
  net = loop_net;
  counts = counts;
  listing = listing.All ((2 ∷ 3 ∷ 4 ∷ []) ∷ (2 ∷ 3 ∷ 5 ∷ []) ∷ (3 ∷ 4 ∷ 3 ∷ []) ∷ (4 ∷ 3 ∷ 4 ∷ []) ∷ (4 ∷ 3 ∷ 5 ∷ [])
      ∷ []);
  bits = bits ∷ [];
}

-- on the input `aa`
abbrev on_two : List ShownValue
on_two = loop (1 ∷ 1 ∷ 2 ∷ 1 ∷ 2 ∷ 1 ∷ []) 29 ∷ []

test_line_comes_three_times : line_count on_two 3 ≡ Some 3
test_line_comes_three_times = refl

body_line_comes_twice : line_count on_two 4 ≡ Some 2
body_line_comes_twice = refl

two_lines_of_one_block : line_count on_two 2 ≡ Some 1
two_lines_of_one_block = refl

line_of_no_block : line_count on_two 6 ≡ None
line_of_no_block = refl

block_is_entered_by_both_arcs : block_count (loop (1 ∷ 1 ∷ 2 ∷ 1 ∷ 2 ∷ 1 ∷ []) 29) 3 ≡ 3
block_is_entered_by_both_arcs = refl

arc_of_two_ways_is_a_branch : is_branch loop_net.arcs (way 3 4) ≡ true
arc_of_two_ways_is_a_branch = refl

only_way_is_no_branch : is_branch loop_net.arcs (way 4 3) ≡ false
only_way_is_no_branch = refl

second_path_is_missed : has_bit (29 ∷ []) 1 ≡ false
second_path_is_missed = refl

last_path_is_covered : has_bit (29 ∷ []) 4 ≡ true
last_path_is_covered = refl

five_lines_run_of_five : lines_with is_run (line_count on_two) 6 ≡ 5
five_lines_run_of_five = refl

four_paths_of_five : amount part.PathsCovered (loop [] 29) ≡ 4
four_paths_of_five = refl

-- on no input
abbrev on_none : List ShownValue
on_none = loop (1 ∷ 1 ∷ 0 ∷ 1 ∷ 0 ∷ 1 ∷ []) 2 ∷ []

body_line_never_runs : line_count on_none 4 ≡ Some 0
body_line_never_runs = refl

four_lines_run : lines_with is_run (line_count on_none) 6 ≡ 4
four_lines_run = refl

of_five_lines : lines_with is_told (line_count on_none) 6 ≡ 5
of_five_lines = refl

one_branch_is_taken : amount part.BranchesTaken (loop (1 ∷ 1 ∷ 0 ∷ 1 ∷ 0 ∷ 1 ∷ []) 2) ≡ 1
one_branch_is_taken = refl

of_two_branches : amount part.Branches (loop [] 2) ≡ 2
of_two_branches = refl

-- ---- `while (i < 10) i++;` on one line: ten passages of an arc, one of the line

abbrev counted : ShownValue
counted = record {
  name = [];
  net = record {
    blocks = 6;
    arcs = way 0 2 ∷ way 2 3 ∷ way 3 4 ∷ way 3 5 ∷ way 4 3 ∷ way 5 1 ∷ [];
    lines = [] ∷ [] ∷ (1 ∷ 2 ∷ []) ∷ (3 ∷ []) ∷ (3 ∷ []) ∷ (4 ∷ []) ∷ [];
  };
  counts = 1 ∷ 1 ∷ 10 ∷ 1 ∷ 10 ∷ 1 ∷ [];
  listing = listing.LimitPassed;
  bits = [];
}

line_is_entered_once : line_count (counted ∷ []) 3 ≡ Some 1
line_is_entered_once = refl

-- ---- `void f(void) { g(); }` where `g` exits

abbrev leaving : ShownValue
leaving = record {
  name = [];
  net = record {
    blocks = 4;
    arcs = way 0 2 ∷ exit_from 2 ∷ way 2 3 ∷ way 3 1 ∷ [];
    lines = [] ∷ [] ∷ (2 ∷ []) ∷ (2 ∷ []) ∷ [];
  };
  counts = 1 ∷ 1 ∷ 0 ∷ 0 ∷ [];
  listing = listing.All ((2 ∷ 3 ∷ []) ∷ []);
  bits = 0 ∷ [];
}

never_returned : total is_return leaving.net.arcs leaving.counts ≡ 0
never_returned = refl

exited_once : total is_call_exit leaving.net.arcs leaving.counts ≡ 1
exited_once = refl

call_of_one : amount part.Calls leaving ≡ 1
call_of_one = refl

no_call_came_back : amount part.CallsBack leaving ≡ 0
no_call_came_back = refl

call_exit_arc_makes_no_branch : is_branch leaving.net.arcs (way 2 3) ≡ false
call_exit_arc_makes_no_branch = refl

-- ---- lines of texts

last_piece_without_newline : lines_in (65 ∷ 10 ∷ 66 ∷ []) ≡ (65 ∷ []) ∷ (66 ∷ []) ∷ []
last_piece_without_newline = refl

empty_last_piece : lines_in (65 ∷ 10 ∷ []) ≡ (65 ∷ []) ∷ []
empty_last_piece = refl
