-- The code of two units written by hand, in both modes, and the limit of tables, computed.
use Rattle.std.proofs.Common.{◌≡◌, refl, ℕ, pos, true, false, List, [], ◌∷◌, Some, None, length, map}
use Rattle.std.specs.Prelude.{codes}
use Rattle.int_ops.specs.declared.types.IntType.TheVariants as type
use Rattle.stack_ops.specs.declared.operation.Op.{Op}
use Rattle.stack_ops.specs.declared.operation.Op.TheVariants as op
use Rattle.stack_ops.specs.Code.{FunctionValue}
use Rattle.code_runs.specs.CodeChecks.{code_fault}
use Rattle.flow_graph.specs.Graph.{Ending, Block, Graph, GraphUnit}
use Rattle.flow_graph.specs.Nets.{net_of}
use Rattle.span_tree.specs.Tree.{off}
use Rattle.word_rules.specs.WordRules.{begin_spelled}
use Rattle.path_masks.specs.Masks.{width, row_of_start}
use Rattle.path_masks.specs.Tables.{row_of}
use Rattle.stack_code.specs.Deepest.{graph_depth}
use Rattle.stack_code.specs.Modes.{ShapeValue}
use Rattle.stack_code.specs.UnitCode.{function_code, unit_code, size_fault}
use Rattle.stack_code.specs.declared.shape.EmitFault.TheVariants as fault

abbrev block : List Op → Ending → List ℕ → Block
block ops end lines = record { ops = ops; end = end; lines = lines }

-- the shape of a graph with these listed paths
abbrev shape : Graph → List (List ℕ) → ℕ → ShapeValue
shape g paths checksum = record {
  net = net_of g;
  plan = off (net_of g);
  rows = Some (record {
    width = width paths;
    begin = begin_spelled (row_of_start 2 paths);
    passes = map (row_of paths) (net_of g).arcs;
  });
  paths = length paths;
  checksum = checksum;
}

-- ---- `int main(void) { int n = 0; while (getchar() == 'a') n++; return n; }`, a line for each part

abbrev starts_at_zero : List Op
starts_at_zero = op.Push (pos 0) ∷ op.StoreLocal 0 ∷ op.Drop ∷ []

abbrev tests_byte : List Op
tests_byte = op.GetChar ∷ op.Push (pos 97) ∷ op.Equal type.Int 3 ∷ []

abbrev steps : List Op
steps =
    op.LoadLocal 0 ∷ op.Dup ∷ op.Push (pos 1) ∷ op.Add type.Int 4 ∷ op.StoreLocal 0 ∷ op.Drop ∷ op.Drop ∷ []

abbrev counting : Graph
counting = record {
  name = codes "main";
  line = 1;
  params = 0;
  cells = 1;
  gives = true;
  blocks = block starts_at_zero (Ending.Jump 3) (1 ∷ 2 ∷ []) ∷ block tests_byte (Ending.Branch 4 5) (3 ∷ [])
      ∷ block steps (Ending.Back 3) (4 ∷ []) ∷ block (op.LoadLocal 0 ∷ []) Ending.Return (5 ∷ []) ∷ [];
}

abbrev counting_paths : List (List ℕ)
counting_paths =
    (2 ∷ 3 ∷ 4 ∷ []) ∷ (2 ∷ 3 ∷ 5 ∷ []) ∷ (3 ∷ 4 ∷ 3 ∷ []) ∷ (4 ∷ 3 ∷ 4 ∷ []) ∷ (4 ∷ 3 ∷ 5 ∷ []) ∷ []

abbrev main_of : Graph → GraphUnit
main_of g = record { globals = []; main = 0; graphs = g ∷ [] }

plain_loop : (function_code (counting ∷ []) counting None).ops
    ≡ op.Push (pos 0) ∷ op.StoreLocal 0 ∷ op.Drop ∷ op.GetChar ∷ op.Push (pos 97) ∷ op.Equal type.Int 3
    ∷ op.IfZero 15 ∷ op.LoadLocal 0 ∷ op.Dup ∷ op.Push (pos 1) ∷ op.Add type.Int 4 ∷ op.StoreLocal 0 ∷ op.Drop
    ∷ op.Drop ∷ op.Back 3 ∷ op.LoadLocal 0 ∷ op.Return ∷ []
plain_loop = refl

-- a counter on each of the two arcs off the tree, and a row on each of the four between blocks
covered_loop : (function_code (counting ∷ []) counting (Some (shape counting counting_paths 7))).ops
    ≡ op.PathBegin ∷ op.Push (pos 0) ∷ op.StoreLocal 0 ∷ op.Drop ∷ op.Count 0 ∷ op.PathPass 0
    ∷ op.GetChar ∷ op.Push (pos 97) ∷ op.Equal type.Int 3 ∷ op.IfZero 12 ∷ op.PathPass 1 ∷ op.Jump 14
    ∷ op.PathPass 2 ∷ op.Jump 24 ∷ op.LoadLocal 0 ∷ op.Dup ∷ op.Push (pos 1) ∷ op.Add type.Int 4
    ∷ op.StoreLocal 0 ∷ op.Drop ∷ op.Drop ∷ op.Count 1 ∷ op.PathPass 3 ∷ op.Back 6 ∷ op.LoadLocal 0 ∷ op.Return ∷ []
covered_loop = refl

deep_loop : graph_depth (counting ∷ []) counting ≡ 3
deep_loop = refl

abbrev loop_counts : FunctionValue → List ℕ
loop_counts f = f.checksum ∷ f.counters ∷ f.paths ∷ f.passes ∷ length f.table ∷ []

plain_counts : loop_counts (function_code (counting ∷ []) counting None) ≡ 0 ∷ 0 ∷ 0 ∷ 0 ∷ 0 ∷ []
plain_counts = refl

covered_counts : loop_counts (function_code (counting ∷ []) counting (Some (shape counting counting_paths 7)))
    ≡ 7 ∷ 2 ∷ 5 ∷ 4 ∷ 24 ∷ []
covered_counts = refl

plain_loop_passes : code_fault (unit_code false (main_of counting) [] 0) ≡ None
plain_loop_passes = refl

covered_loop_passes : code_fault (unit_code true (main_of counting) (shape counting counting_paths 7 ∷ []) 0) ≡ None
covered_loop_passes = refl

-- ---- `switch (c) { case 1: case 2: return 7; default: ; } return 0;` has one stub for both cases

abbrev choosing : Graph
choosing = record {
  name = codes "main";
  line = 1;
  params = 0;
  cells = 1;
  gives = true;
  blocks = block (op.LoadLocal 0 ∷ []) (Ending.Switch ((pos 1, 3) ∷ (pos 2, 3) ∷ []) 4) (1 ∷ [])
      ∷ block (op.Push (pos 7) ∷ []) Ending.Return (1 ∷ []) ∷ block [] (Ending.Jump 5) []
      ∷ block (op.Push (pos 0) ∷ []) Ending.Return (1 ∷ []) ∷ [];
}

plain_switch : (function_code (choosing ∷ []) choosing None).ops
    ≡ op.LoadLocal 0 ∷ op.CaseJump (pos 1) 5 ∷ op.CaseJump (pos 2) 5 ∷ op.Drop ∷ op.Jump 7
    ∷ op.Push (pos 7) ∷ op.Return ∷ op.Push (pos 0) ∷ op.Return ∷ []
plain_switch = refl

covered_switch : (function_code (choosing ∷ []) choosing
    (Some (shape choosing ((2 ∷ 3 ∷ []) ∷ (2 ∷ 4 ∷ 5 ∷ []) ∷ []) 0))).ops
    ≡ op.PathBegin ∷ op.LoadLocal 0 ∷ op.CaseJump (pos 1) 8 ∷ op.CaseJump (pos 2) 8 ∷ op.Drop ∷ op.Count 1
    ∷ op.PathPass 1 ∷ op.Jump 13 ∷ op.Count 0 ∷ op.PathPass 0 ∷ op.Jump 11 ∷ op.Push (pos 7) ∷ op.Return
    ∷ op.PathPass 2 ∷ op.Push (pos 0) ∷ op.Return ∷ []
covered_switch = refl

-- ---- both sides of the limit of tables

tables_at_the_limit : size_fault 2097152 ≡ None
tables_at_the_limit = refl

tables_past_the_limit : size_fault 2097153 ≡ Some (fault.TablesTooLarge 2097153)
tables_past_the_limit = refl
