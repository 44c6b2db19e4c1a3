use Rattle.std.proofs.Common.{◌≡◌, ◌++◌, drop}
use Rattle.std.specs.Prelude.{flat_map}
use Rattle.gcov_items.specs.Items.{word_bytes}
use Rattle.gcno_format.proofs.writing.put_words.Given as goal

abbrev pub invariant-loop-word : goal.invariant-loop-word
invariant-loop-word l =
    l.out.items ++ flat_map word_bytes (drop l.word-index l.words) ≡ l.fn.out.items ++ flat_map word_bytes l.words
