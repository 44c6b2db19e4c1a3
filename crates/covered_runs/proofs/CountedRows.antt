-- What a worked loop counts, computed: `int main(void) { int n = 0; while (getchar() == 'a') n++; return n; }` on the
-- bytes `aa`.
use Rattle.std.proofs.Common.{◌≡◌, refl, ℕ, pos, true, List, [], ◌∷◌, Option, Some, length, map}
use Rattle.std.specs.Prelude.{codes}
use Rattle.std.specs.Option.{option_map}
use Rattle.int_ops.specs.declared.types.IntType.TheVariants as type
use Rattle.cov_base.specs.Walks.{Walk}
use Rattle.stack_ops.specs.declared.operation.Op.{Op}
use Rattle.stack_ops.specs.declared.operation.Op.TheVariants as op
use Rattle.stack_ops.specs.Code.{FunctionValue, CodeValue}
use Rattle.code_runs.specs.CodeRun.{Marked, Ran}
use Rattle.code_runs.specs.CodeRun as codes_run
use Rattle.flow_graph.specs.Graph.{Ending, Block, Graph, GraphUnit}
use Rattle.flow_graph.specs.Nets.{net_of, real}
use Rattle.flow_graph.specs.WalkRun.{Walked}
use Rattle.flow_graph.specs.WalkRun as walk_run
use Rattle.span_tree.specs.Tree.{off}
use Rattle.word_rules.specs.WordRules.{begin_spelled}
use Rattle.prime_paths.specs.Lister.{listing}
use Rattle.path_masks.specs.Masks.{width, row_of_start, bits_of}
use Rattle.path_masks.specs.Tables.{row_of}
use Rattle.stack_code.specs.Modes.{ShapeValue}
use Rattle.stack_code.specs.UnitCode.{function_code, unit_code}
use Rattle.covered_runs.specs.CallWords.{words_by}
use Rattle.covered_runs.specs.CoveredWalks.{off_arcs, counters_of, walks_of}

abbrev block : List Op → Ending → List ℕ → Block
block ops end lines = record { ops = ops; end = end; lines = lines }

abbrev starts_at_zero : List Op
starts_at_zero = op.Push (pos 0) ∷ op.StoreLocal 0 ∷ op.Drop ∷ []

abbrev tests_byte : List Op
tests_byte = op.GetChar ∷ op.Push (pos 97) ∷ op.Equal type.Int 3 ∷ []

abbrev steps : List Op
steps =
    op.LoadLocal 0 ∷ op.Dup ∷ op.Push (pos 1) ∷ op.Add type.Int 4 ∷ op.StoreLocal 0 ∷ op.Drop ∷ op.Drop ∷ []

abbrev counting : Graph
counting = record {
  name = codes "main";
  line = 1;
  params = 0;
  cells = 1;
  gives = true;
  blocks = block starts_at_zero (Ending.Jump 3) (1 ∷ 2 ∷ []) ∷ block tests_byte (Ending.Branch 4 5) (3 ∷ [])
      ∷ block steps (Ending.Back 3) (4 ∷ []) ∷ block (op.LoadLocal 0 ∷ []) Ending.Return (5 ∷ []) ∷ [];
}

abbrev unit : GraphUnit
unit = record { globals = []; main = 0; graphs = counting ∷ [] }

abbrev paths : List (List ℕ)
paths = (2 ∷ 3 ∷ 4 ∷ []) ∷ (2 ∷ 3 ∷ 5 ∷ []) ∷ (3 ∷ 4 ∷ 3 ∷ []) ∷ (4 ∷ 3 ∷ 4 ∷ []) ∷ (4 ∷ 3 ∷ 5 ∷ []) ∷ []

all_paths : listing (net_of counting) ≡ paths
all_paths = refl

abbrev shape : ShapeValue
shape = record {
  net = net_of counting;
  plan = off (net_of counting);
  rows = Some (record {
    width = width paths;
    begin = begin_spelled (row_of_start 2 paths);
    passes = map (row_of paths) (net_of counting).arcs;
  });
  paths = length paths;
  checksum = 7;
}

abbrev covered : CodeValue
covered = unit_code true unit (shape ∷ []) 0

-- the two arcs off the tree lead from 2 to 3 and from 4 back to 3
arcs_that_count : off_arcs (net_of counting) ≡ real 2 3 ∷ real 4 3 ∷ []
arcs_that_count = refl

abbrev walks : List Walk
walks = record { function = 0; blocks = 0 ∷ 2 ∷ 3 ∷ 4 ∷ 3 ∷ 4 ∷ 3 ∷ 5 ∷ 1 ∷ [] } ∷ []

abbrev walks_in : Option Walked → Option (List Walk)
walks_in o = option_map (λ (w : Walked). w.walks) o

the_walk : walks_in (walk_run.goes 9 unit (walk_run.first unit (97 ∷ 97 ∷ []) 9)) ≡ Some walks
the_walk = refl

-- its counters are 1 and 2
counters_of_the_walk : counters_of (net_of counting) 0 walks ≡ 1 ∷ 2 ∷ []
counters_of_the_walk = refl

-- and its bits those of the paths 0, 2, 3 and 4
bits_of_the_walk : bits_of paths (walks_of 0 walks) ≡ 29 ∷ []
bits_of_the_walk = refl

-- no call is of another function
no_other_walks : walks_of 1 walks ≡ []
no_other_walks = refl

abbrev counters_in : Option Ran → Option (List (List ℕ))
counters_in o = option_map (λ (r : Ran). r.tally.counters) o

abbrev words_in : Option Ran → Option (List (List ℕ))
words_in o = option_map (λ (r : Ran). r.tally.words) o

the_run_counts : counters_in (codes_run.goes 70 covered (codes_run.first covered (97 ∷ 97 ∷ []) 9))
    ≡ Some ((1 ∷ 2 ∷ []) ∷ [])
the_run_counts = refl

the_run_marks : words_in (codes_run.goes 70 covered (codes_run.first covered (97 ∷ 97 ∷ []) 9)) ≡ Some ((29 ∷ []) ∷ [])
the_run_marks = refl

-- ---- each call has path bits of its own

abbrev main_code : FunctionValue
main_code = function_code (counting ∷ []) counting (Some shape)

-- a call that goes round once while another begins: the paths 2 3 4 and 3 4 3 are seen
abbrev calls : List Marked
calls = record { function = 0; ops = op.PathBegin ∷ op.PathPass 0 ∷ op.PathPass 1 ∷ op.PathPass 3 ∷ [] }
    ∷ record { function = 0; ops = op.PathBegin ∷ op.PathPass 0 ∷ [] } ∷ []

each_call_has_its_own_bits : words_by main_code 0 calls ≡ 5 ∷ []
each_call_has_its_own_bits = refl

other_functions_marks : words_by main_code 1 calls ≡ 0 ∷ []
other_functions_marks = refl
