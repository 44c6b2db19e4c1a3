use Rattle.std.proofs.Common.{◌≡◌, ◌+◌, ◌≤◌, map, drop}
use Rattle.c_grammar.specs.Words.{word_number, times}
use Rattle.c_grammar.proofs.type_names.times.Given as goal

-- the count is of the words before, of which there are as many as the index says
abbrev pub invariant-loop-other : goal.invariant-loop-other
invariant-loop-other l =
    (l.number ≡ word_number l.fn.word)
    × (times l.number (map word_number (drop l.other-index l.words)) + l.count ≡ times l.number
    (map word_number l.words))
    × (l.count ≤ l.other-index)
