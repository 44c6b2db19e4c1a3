use Rattle.std.proofs.Common.{length, ◌+◌, ◌-◌, ◌≡◌, ◌<◌, drop, ◌≤◌}
use Rattle.std.specs.List.{All, fold}
use Rattle.word_rules.specs.WordRules.{words_of, passed, pass_entries, pass_row}
use Rattle.word_rules.proofs.words.pass.Given as goal

abbrev pub invariant-loop-at : goal.invariant-loop-at
invariant-loop-at l = record {
  place : l.at ≤ length l.row + 4;
  bits : length l.bits ≡ length l.fn.bits;
  seen : length l.seen ≡ length l.bits;
  within : All (λ e. e.word < length l.bits) (pass_entries (drop l.at l.row));
  words : fold passed (words_of l.bits l.seen) (pass_entries (drop l.at l.row))
      ≡ fold passed (words_of l.fn.bits l.fn.seen) (pass_row l.row);
}

abbrev pub decreases-loop-at : goal.decreases-loop-at
decreases-loop-at l = length l.row + 1 - l.at
