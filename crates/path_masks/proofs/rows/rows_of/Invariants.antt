use Rattle.std.proofs.Common.{◌≡◌, ◌++◌, map, drop, flat_map, length}
use Rattle.word_rules.specs.WordRules.{begin_spelled}
use Rattle.path_masks.specs.Masks.{row_of_start}
use Rattle.path_masks.specs.Tables.{row_of, row_or, laid}
use Rattle.path_masks.proofs.rows.rows_of.Given as goal

abbrev pub invariant-loop-arc : goal.invariant-loop-arc
invariant-loop-arc l = record {
  table : l.table.items ++ flat_map row_or (map (row_of l.paths) (drop l.arc-index l.net.arcs))
      ≡ begin_spelled (row_of_start 2 l.paths) ++ flat_map row_or (map (row_of l.paths) l.net.arcs);
  spans : l.spans.items ++ laid (length l.table.items) (map (row_of l.paths) (drop l.arc-index l.net.arcs))
      ≡ laid l.begin (map (row_of l.paths) l.net.arcs);
}
