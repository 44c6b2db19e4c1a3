-- Behind type words there are no more tokens.
use Rattle.std.proofs.Common.{ℕ, ◌≤◌, Bool, true, false, cond, List, [], ◌∷◌, length, Some, arith}
use Rattle.c_tokens.specs.declared.token.Token.{Token}
use Rattle.c_grammar.specs.Words.{key_of, is_type_word, behind_words}

either_shorter : (b : Bool) (xs ys : List Token) {n : ℕ} → length xs ≤ n → length ys ≤ n → length (cond b xs ys) ≤ n
either_shorter true xs ys p q = p
either_shorter false xs ys p q = q

pub words_shorter : (ts : List Token) → length (behind_words ts) ≤ length ts
words_shorter [] = omega arith
words_shorter (t ∷ ts) = either_shorter (is_type_word (key_of (Some t.kind))) (behind_words ts) (t ∷ ts)
    (omega (arith, words_shorter ts)) (omega arith)
