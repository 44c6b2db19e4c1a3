-- Where the tokens of a text stand, and which numbers they have (own).
use Rattle.std.specs.Prelude.{ℕ, ◌+◌, ◌<◌, ◌≤◌, List, [], ◌∷◌}
use Rattle.int_ops.specs.Ranges.{Range}
use Rattle.c_tokens.specs.declared.token.Token.{Token}
use Rattle.c_tokens.specs.declared.token.TokenKind.{TokenKind}
use Rattle.c_tokens.specs.declared.token.TokenKind.TheVariants as token_kind

-- a number is one of its type
abbrev pub HasNumber : TokenKind → Type 0
HasNumber (token_kind.Number n t) = Range t n
HasNumber kind = Unit {0}

-- The token has at least one byte and stands between these places, on a line that the text before the second may have.
pub record StandsBetween (from to : ℕ) (t : Token) : Type 0 where
  pub behind : from ≤ t.start
  pub some : t.start < t.end
  pub within : t.end ≤ to
  pub line : 1 ≤ t.line
  pub lines : t.line ≤ to + 1
  pub number : HasNumber t.kind

-- the tokens stand one behind another between two places
abbrev pub StandInOrder : ℕ → ℕ → List Token → Type 0
StandInOrder from to [] = from ≤ to
StandInOrder from to (t ∷ ts) = StandsBetween from to t × StandInOrder t.end to ts
