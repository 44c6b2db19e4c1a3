-- The tokens of a text, and its faults (C17 6.4).
use Rattle.std.specs.Prelude.{
  ◌≡◌,
  ℕ,
  ◌+◌,
  ◌-◌,
  ◌<◌,
  ◌==◌,
  ◌||◌,
  Bool,
  List,
  [],
  ◌∷◌,
  ◌++◌,
  length,
  slice_index,
  count_by,
  Option,
  Some,
  None,
}
use Rattle.c_tokens.specs.declared.token.LexFault.{LexFault}
use Rattle.c_tokens.specs.declared.token.Token.{Token}
use Rattle.c_tokens.specs.declared.token.TokenKind.{TokenKind}
use Rattle.c_tokens.specs.Items.{front_of, IsItemOf, IsFaultOf}

-- the text before a place is empty or ends with a newline (own)
abbrev pub starts_line : List ℕ → Bool
starts_line before = length before == 0 || slice_index before (length before - 1) == 10

-- the line of a place, from 1, by the text before it (own)
abbrev pub line_after : List ℕ → ℕ
line_after before = 1 + count_by (λ b. b == 10) before

-- behind a text, these bytes are the item that begins the rest of the text (C17 6.4 paragraph 4)
abbrev pub IsItem : List ℕ → List ℕ → List ℕ → Option TokenKind → Type 0
IsItem before text item kind = IsItemOf (front_of text) (starts_line before) text item kind

-- behind a text, no item begins the rest of the text, which is not empty, and this is the fault (own)
pub record IsFault (before text : List ℕ) (fault : LexFault) : Type 0 where
  pub more : 0 < length text
  pub found : IsFaultOf (front_of text) (starts_line before) text (length before) fault

-- the token of this kind, if there is one, that stands from a place up to another and begins on this line (own)
abbrev pub token_at : Option TokenKind → ℕ → ℕ → ℕ → List Token
token_at None start end line = []
token_at (Some kind) start end line = record { kind = kind; start = start; end = end; line = line } ∷ []

-- the token that an item behind a text is, if it is one (own)
abbrev pub token_of : List ℕ → List ℕ → Option TokenKind → List Token
token_of before item kind = token_at kind (length before) (length before + length item) (line_after before)

-- Behind a text, items fill the rest of the text one after another, and the list has their tokens in order (C17
-- 5.1.1.2, 6.4).
pub data Fills : List ℕ → List ℕ → List Token → Type 0 where
  ends : {before : List ℕ} → Fills before [] []
  takes : {before text : List ℕ} (item rest : List ℕ) (kind : Option TokenKind) {list tokens : List Token} → text ≡
      item ++ rest
      → IsItem before text item kind → Fills (before ++ item) rest tokens → list ≡ token_of before item kind ++ tokens
      → Fills before text list

-- Behind a text, items fill the rest of the text up to a place where none begins, and this is the fault of that place
-- (own).
pub data Fails : List ℕ → List ℕ → LexFault → Type 0 where
  here : {before text : List ℕ} {fault : LexFault} → IsFault before text fault → Fails before text fault
  later : {before text : List ℕ} (item rest : List ℕ) (kind : Option TokenKind) {fault : LexFault} → text ≡ item ++ rest
      → IsItem before text item kind → Fails (before ++ item) rest fault → Fails before text fault

-- items fill the text one after another, and the list has its tokens in order (C17 6.4 paragraphs 1 to 4)
abbrev pub Splits : List ℕ → List Token → Type 0
Splits text list = Fills [] text list

-- items fill the text up to a place where none begins, and this is the fault of that place (own)
abbrev pub LexFaultAt : List ℕ → LexFault → Type 0
LexFaultAt text fault = Fails [] text fault
