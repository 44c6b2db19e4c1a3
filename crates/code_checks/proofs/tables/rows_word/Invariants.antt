use Rattle.std.proofs.Common.{◌≡◌, ◌-◌, ◌≤◌, drop, length, None}
use Rattle.code_runs.specs.Tables.{rows_fault, rows_word}
use Rattle.code_checks.proofs.tables.rows_word.Given as goal

abbrev pub invariant-loop : goal.invariant-loop
invariant-loop l = record {
  within : l.at ≤ length l.table;
  layout : rows_fault l.words (l.passes - l.counter) l.at (drop l.at l.table) ≡ None;
  told : rows_word l.words (l.passes - l.counter) l.at (drop l.at l.table)
      ≡ rows_word l.words l.passes l.start (drop l.start l.table);
}
