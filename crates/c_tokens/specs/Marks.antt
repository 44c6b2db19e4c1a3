-- The marks of the language (C17 6.4.6).
use Rattle.std.specs.Prelude.{◌≡◌, ℕ, ◌≤◌, nat_eq, cond, List, [], ◌∷◌, ◌++◌, length, Option, Some, None, codes}
use Rattle.std.specs.List.{starts_with}
use Rattle.c_tokens.specs.declared.token.Punct.{Punct}
use Rattle.c_tokens.specs.declared.token.Punct.TheVariants as mark
use Rattle.c_tokens.specs.Words.{look_up}

-- the marks (C17 6.4.6)
unfoldable pub marks : List (List ℕ × Punct)
marks =
    (codes "<<=", mark.ShiftLeftAssign) ∷
    (codes ">>=", mark.ShiftRightAssign) ∷
    (codes "++", mark.PlusPlus) ∷
    (codes "--", mark.MinusMinus) ∷
    (codes "<<", mark.ShiftLeft) ∷
    (codes ">>", mark.ShiftRight) ∷
    (codes "<=", mark.LessEqual) ∷
    (codes ">=", mark.GreaterEqual) ∷
    (codes "==", mark.EqualEqual) ∷
    (codes "!=", mark.NotEqual) ∷
    (codes "&&", mark.AndAnd) ∷
    (codes "||", mark.OrOr) ∷
    (codes "+=", mark.PlusAssign) ∷
    (codes "-=", mark.MinusAssign) ∷
    (codes "*=", mark.StarAssign) ∷
    (codes "/=", mark.SlashAssign) ∷
    (codes "%=", mark.PercentAssign) ∷
    (codes "&=", mark.AndAssign) ∷
    (codes "^=", mark.CaretAssign) ∷
    (codes "|=", mark.OrAssign) ∷
    (codes "(", mark.OpenParen) ∷
    (codes ")", mark.CloseParen) ∷
    (codes "[", mark.OpenBracket) ∷
    (codes "]", mark.CloseBracket) ∷
    (codes "{", mark.OpenBrace) ∷
    (codes "}", mark.CloseBrace) ∷
    (codes ";", mark.Semicolon) ∷
    (codes ",", mark.Comma) ∷
    (codes ":", mark.Colon) ∷
    (codes "?", mark.Question) ∷
    (codes "~", mark.Tilde) ∷
    (codes "!", mark.Not) ∷
    (codes "+", mark.Plus) ∷
    (codes "-", mark.Minus) ∷
    (codes "*", mark.Star) ∷
    (codes "/", mark.Slash) ∷
    (codes "%", mark.Percent) ∷
    (codes "<", mark.Less) ∷
    (codes ">", mark.Greater) ∷
    (codes "=", mark.Assign) ∷
    (codes "&", mark.And) ∷
    (codes "|", mark.Or) ∷
    (codes "^", mark.Caret) ∷
    []

-- a mark of these bytes begins the text (C17 6.4.6)
pub record BeginsMark (text spelling : List ℕ) (m : Punct) : Type 0 where
  pub listed : look_up marks spelling ≡ Some m
  pub rest : List ℕ
  pub front : text ≡ spelling ++ rest

-- it is the longest mark that begins the text (C17 6.4 paragraph 4)
pub record IsLongestMark (text spelling : List ℕ) (m : Punct) : Type 0 where
  pub begins : BeginsMark text spelling m
  pub longest : (other : List ℕ) (n : Punct) → BeginsMark text other n → length other ≤ length spelling

-- The first mark of a table that the text begins with, and its length (own). It is proved to be the longest.
abbrev pub first_mark : List (List ℕ × Punct) → List ℕ → Option (ℕ × Punct)
first_mark [] text = None
first_mark (m ∷ ms) text = cond (starts_with nat_eq text m.0) (Some (length m.0, m.1)) (first_mark ms text)
