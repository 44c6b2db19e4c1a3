use Rattle.std.proofs.Common.{◌≡◌, ◌+◌, ◌-◌, ◌*◌, ◌≤◌, drop, length, get_or}
use Rattle.code_runs.specs.Tables.{word_fault}
use Rattle.code_checks.proofs.tables.word_fault.Given as goal

abbrev pub invariant-loop : goal.invariant-loop
invariant-loop l = record {
  told : word_fault l.size l.words (get_or l.table l.at 0 - l.counter) l.least l.entry (drop l.entry l.table)
      ≡ word_fault l.size l.words (get_or l.table l.at 0) 0 (l.at + 1) (drop (l.at + 1) l.table);
  room : l.entry + l.size * (get_or l.table l.at 0 - l.counter) ≤ length l.table;
}
