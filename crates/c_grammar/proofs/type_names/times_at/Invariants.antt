use Rattle.std.proofs.Common.{◌≡◌, ◌+◌, ◌≤◌, drop}
use Rattle.c_grammar.specs.Words.{word_number, type_words, times}
use Rattle.c_grammar.proofs.type_names.times_at.Given as goal

-- the count is of the words before, of which there are as many as the index says
abbrev pub invariant-loop-token : goal.invariant-loop-token
invariant-loop-token l =
    (l.number ≡ word_number l.fn.word)
    × (times l.number (type_words (drop l.token-index l.tokens)) + l.count ≡ times l.number (type_words l.tokens))
    × (l.count ≤ l.token-index)
