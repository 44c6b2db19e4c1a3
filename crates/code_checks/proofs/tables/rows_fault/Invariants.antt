use Rattle.std.proofs.Common.{◌≡◌, ◌-◌, ◌≤◌, drop, length}
use Rattle.code_runs.specs.Tables.{rows_fault}
use Rattle.code_checks.proofs.tables.rows_fault.Given as goal

abbrev pub invariant-loop : goal.invariant-loop
invariant-loop l = record {
  within : l.at ≤ length l.table;
  told : rows_fault l.words (l.passes - l.counter) l.at (drop l.at l.table)
      ≡ rows_fault l.words l.passes l.start (drop l.start l.table);
}
