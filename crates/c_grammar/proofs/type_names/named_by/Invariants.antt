use Rattle.std.proofs.Common.{◌≡◌, map, drop}
use Rattle.c_grammar.specs.Words.{word_number, type_words, named_by}
use Rattle.c_grammar.proofs.type_names.named_by.Given as goal

-- what the lists from here on name is what all name
abbrev pub invariant-loop-words : goal.invariant-loop-words
invariant-loop-words l =
    named_by (map (λ e. (map word_number e.0.now, e.1)) (drop l.words-index l.lists)) (type_words l.tokens)
    ≡ named_by (map (λ e. (map word_number e.0.now, e.1)) l.lists) (type_words l.tokens)
