use Rattle.std.proofs.Common.{◌≡◌, ◌≤◌, length}
use Rattle.c_grammar.specs.Words.{behind_words}
use Rattle.c_grammar.proofs.type_words.behind_words.Given as goal

-- what stands behind the type words from here on is what stands behind all
abbrev pub invariant-loop-first : goal.invariant-loop-first
invariant-loop-first l = (behind_words l.rest ≡ behind_words l.tokens) × (length l.rest ≤ length l.tokens)

-- what is left gets shorter
abbrev pub decreases-loop-first : goal.decreases-loop-first
decreases-loop-first l = length l.rest
