use Rattle.std.proofs.Common.{length, ◌+◌, ◌-◌, ◌≡◌, ◌<◌, drop, ◌≤◌}
use Rattle.std.specs.Prelude.{replicate}
use Rattle.std.specs.List.{All, fold}
use Rattle.word_rules.specs.WordRules.{words_of, begun, begin_entries, begin_row}
use Rattle.word_rules.proofs.words.begin.Given as goal

abbrev pub invariant-loop-at : goal.invariant-loop-at
invariant-loop-at l = record {
  place : l.at ≤ length l.row + 3;
  bits : length l.bits ≡ length l.fn.bits;
  seen : length l.seen ≡ length l.bits;
  within : All (λ e. e.word < length l.bits) (begin_entries (drop l.at l.row));
  words : fold begun (words_of l.bits l.seen) (begin_entries (drop l.at l.row))
      ≡ fold begun (words_of (replicate (length l.fn.bits) 0) l.fn.seen) (begin_row l.row);
}

abbrev pub decreases-loop-at : goal.decreases-loop-at
decreases-loop-at l = length l.row + 1 - l.at
