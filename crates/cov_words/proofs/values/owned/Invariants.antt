use Rattle.std.proofs.Common.{◌≡◌, ℕ, List, map, take, string_bytes}
use Rattle.std.specs.Borrow.{Bor}
use Rattle.cov_words.proofs.values.owned.Given as goal

abbrev pub invariant-loop-word : goal.invariant-loop-word
invariant-loop-word l = map string_bytes l.names.items ≡ map (λ (s : Bor (List ℕ)). s.now) (take l.word-index l.words)
