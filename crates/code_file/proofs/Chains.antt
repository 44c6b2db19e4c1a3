-- What goes on behind each part of what is read.
use Rattle.std.proofs.Common.{ℕ, ◌&&◌, ◌||◌, ◌==◌, Bool, List, ℤ}
use Rattle.std.specs.Prelude.{nat_lt, nat_le}
use Rattle.cov_base.specs.Limits.{array_limit, arc_limit}
use Rattle.stack_ops.specs.declared.operation.Op.{Op}
use Rattle.stack_ops.specs.Code.{FunctionValue}
use Rattle.code_runs.specs.Limits.{cell_limit, depth_limit}
use Rattle.code_file.specs.declared.head.Head.{Head}
use Rattle.code_file.specs.declared.numbers.Sizes.{Sizes}
use Rattle.code_file.specs.declared.numbers.Counts.{Counts}
use Rattle.code_file.specs.Reading.{Placed, counted_only, with_word, with_field, with_table}
use Rattle.code_file.specs.Taking.{paths_there, with_version, with_main, with_counts, with_size, with_placed_ops, with_first_globals}
use Rattle.code_file.specs.Taking.{with_all_functions}
use Rattle.code_file.specs.Told.{Items, items_of}
use Rattle.code_file.proofs.Outcomes.{Then}

-- ---- sizes

abbrev pub behind_depth : ℕ → ℕ → ℕ → Then Sizes → Then ℕ
behind_depth params cells depth then gives bytes at =
    then (record { params = params; cells = cells; depth = depth; gives = gives == 1 }) bytes at

abbrev pub behind_cells : ℕ → ℕ → Then Sizes → Then ℕ
behind_cells params cells then depth bytes at =
    with_field (λ n. nat_le n 1) bytes at (behind_depth params cells depth then)

abbrev pub behind_params : ℕ → Then Sizes → Then ℕ
behind_params params then cells bytes at =
    with_field (λ n. nat_le n depth_limit) bytes at (behind_cells params cells then)

abbrev pub from_params : Then Sizes → Then ℕ
from_params then params bytes at =
    with_field (λ n. nat_le params n && nat_le n cell_limit) bytes at (behind_params params then)

-- ---- counts

abbrev pub behind_paths : ℕ → ℕ → ℕ → Then Counts → Then ℕ
behind_paths checksum counters paths then passes bytes at =
    then (record { checksum = checksum; counters = counters; paths = paths; passes = passes }) bytes at

abbrev pub behind_counters : ℕ → ℕ → Then Counts → Then ℕ
behind_counters checksum counters then paths bytes at =
    with_field (λ n. nat_le n arc_limit && (nat_lt 0 paths || n == 0)) bytes at
    (behind_paths checksum counters paths then)

abbrev pub behind_checksum : Bool → ℕ → ℕ → Then Counts → Then ℕ
behind_checksum covered numbers checksum then counters bytes at =
    with_field (paths_there covered numbers counters) bytes at (behind_counters checksum counters then)

abbrev pub from_checksum : Bool → ℕ → Then Counts → Then ℕ
from_checksum covered numbers then checksum bytes at =
    with_field (λ n. counted_only covered n && nat_le n arc_limit) bytes at
    (behind_checksum covered numbers checksum then)

-- ---- a function

abbrev pub function_of : Sizes → Counts → List Op → List ℕ → FunctionValue
function_of s c ops table = record {
  params = s.params;
  cells = s.cells;
  depth = s.depth;
  gives = s.gives;
  checksum = c.checksum;
  counters = c.counters;
  paths = c.paths;
  passes = c.passes;
  ops = ops;
  table = table;
}

abbrev pub behind_ops : Sizes → Counts → List Op → List ℕ → ℕ → Then Placed → Then (List ℕ)
behind_ops s c ops places here then table bytes at =
    then (record { function = function_of s c ops table; places = places; table = here }) bytes at

abbrev pub behind_size : Sizes → Counts → Then Placed → Then (List Op × List ℕ)
behind_size s c then os bytes here = with_table c.paths c.passes bytes here (behind_ops s c os.0 os.1 here then)

abbrev pub behind_counts : Sizes → Counts → Then Placed → Then ℕ
behind_counts s c then size bytes at = with_placed_ops size bytes at (behind_size s c then)

abbrev pub behind_sizes : ℕ → Sizes → Then Placed → Then Counts
behind_sizes start s then c bytes at = with_size start bytes at (behind_counts s c then)

abbrev pub from_sizes : Bool → ℕ → ℕ → Then Placed → Then Sizes
from_sizes covered numbers start then s bytes at = with_counts covered numbers bytes at (behind_sizes start s then)

-- ---- the head

abbrev pub behind_main : ℕ → ℕ → ℕ × ℕ → Then Head → Then ℕ
behind_main stamp covered main then count bytes at =
    then (record {
      stamp = stamp;
      covered = covered == 1;
      main = main.0;
      main_at = main.1;
      globals = count;
    }) bytes at

abbrev pub behind_covered : ℕ → ℕ → Then Head → Then (ℕ × ℕ)
behind_covered stamp covered then main bytes at =
    with_field (λ n. nat_le n array_limit) bytes at (behind_main stamp covered main then)

abbrev pub behind_stamp : ℕ → Then Head → Then ℕ
behind_stamp stamp then covered bytes at = with_main bytes at (behind_covered stamp covered then)

abbrev pub behind_version : Then Head → Then ℕ
behind_version then stamp bytes at = with_field (λ n. nat_le n 1) bytes at (behind_stamp stamp then)

abbrev pub behind_magic : Then Head → Then ℕ
behind_magic then v bytes at = with_word bytes at (behind_version then)

abbrev pub from_magic : Then Head → Then ℕ
from_magic then m bytes at = with_version bytes at (behind_magic then)

-- ---- all items

abbrev pub behind_count : Head → List ℤ → Then Items → Then (List Placed)
behind_count h globals then functions bytes at = then (items_of h globals functions) bytes at

abbrev pub behind_globals : Head → List ℤ → Then Items → Then ℕ
behind_globals h globals then count bytes at = with_all_functions count h.covered bytes at (behind_count h globals then)

abbrev pub behind_head : Head → Then Items → Then (List ℤ)
behind_head h then globals bytes at = with_word bytes at (behind_globals h globals then)

abbrev pub from_head : Then Items → Then Head
from_head then h bytes at = with_first_globals h.globals bytes at (behind_head h then)
