-- The items that fill a text: blanks, comments, include lines and tokens (C17 5.1.1.2 paragraph 1, 6.4).
use Rattle.std.specs.Prelude.{
  ◌≡◌,
  ℕ,
  ◌+◌,
  ◌<◌,
  ◌≤◌,
  ◌==◌,
  ◌&&◌,
  ◌||◌,
  nat_eq,
  Bool,
  true,
  false,
  cond,
  List,
  take,
  drop,
  length,
  slice_index,
  Option,
  Some,
  None,
  Ok,
  Err,
  pos,
  codes,
}
use Rattle.std.specs.List.{starts_with, list_all, take_while}
use Rattle.int_ops.specs.declared.types.IntType.{IntType}
use Rattle.int_ops.specs.declared.types.IntType.TheVariants as type
use Rattle.c_tokens.specs.declared.bytes.ByteClass.TheVariants as class
use Rattle.c_tokens.specs.declared.items.ItemFront.{ItemFront}
use Rattle.c_tokens.specs.declared.items.ItemFront.TheVariants as front
use Rattle.c_tokens.specs.declared.literals.Literal.{Literal}
use Rattle.c_tokens.specs.declared.literals.Literal.TheVariants as literal
use Rattle.c_tokens.specs.declared.token.LeftWord.{LeftWord}
use Rattle.c_tokens.specs.declared.token.LeftWord.TheVariants as left
use Rattle.c_tokens.specs.declared.token.LexFault.{LexFault}
use Rattle.c_tokens.specs.declared.token.LexFault.TheVariants as fault
use Rattle.c_tokens.specs.declared.token.Punct.{Punct}
use Rattle.c_tokens.specs.declared.token.TokenKind.{TokenKind}
use Rattle.c_tokens.specs.declared.token.TokenKind.TheVariants as token_kind
use Rattle.c_tokens.specs.Bytes.{is_in}
use Rattle.c_tokens.specs.Characters.{IsCharacter, StopsFitting, signed_char}
use Rattle.c_tokens.specs.Literals.{literal_of}
use Rattle.c_tokens.specs.Marks.{BeginsMark, IsLongestMark}
use Rattle.c_tokens.specs.Words.{word_of}

-- What can begin at the front of a text, told by its first bytes. Where a comment begins nothing else does (C17 6.4.9).
abbrev pub front_of : List ℕ → ItemFront
front_of text =
    let b = slice_index text 0 in
    let next = slice_index text 1 in
    cond (is_in class.Blank b) front.Blank
    (cond (b == 47 && next == 47) front.LineComment
    (cond (b == 47 && next == 42) front.BlockComment
    (cond (is_in class.Decimal b) front.Number
    (cond (is_in class.Word b) front.Word
    (cond (b == 39) front.Character
    (cond (b == 35) front.Hash
    (cond (b == 34) front.Quote
    front.Mark)))))))

-- `*/` stands at this place of the text (C17 6.4.9 paragraph 1)
pub record EndsComment (text : List ℕ) (place : ℕ) : Type 0 where
  pub star : slice_index text place ≡ 42
  pub slash : slice_index text (place + 1) ≡ 47

-- the first `*/` behind a `/*` stands at this place (C17 6.4.9 paragraph 1)
pub record IsFirstEnd (text : List ℕ) (place : ℕ) : Type 0 where
  pub behind : 2 ≤ place
  pub ends : EndsComment text place
  pub first : (k : ℕ) → 2 ≤ k → k < place → EndsComment text k → ⊥

-- the text up to the end of the line (C17 5.1.1.2 paragraph 1, 6.4.9 paragraph 2)
abbrev pub line_of : List ℕ → List ℕ
line_of text = take_while (is_in class.Line) text

-- the line is these bytes, blanks at its end aside (own)
abbrev pub is_line : List ℕ → List ℕ → Bool
is_line bytes line = starts_with nat_eq line bytes && list_all (is_in class.Blank) (drop (length bytes) line)

-- the line names one of the two headers that may be included (own, after C17 6.10.2)
unfoldable pub is_include : List ℕ → Bool
is_include line = is_line (codes "#include <stdio.h>") line || is_line (codes "#include <stdlib.h>") line

-- The bytes are the item that begins a text in this way, and this is the kind of the token that they are, if they are
-- one. A word and
-- a number are the longest run of their bytes (C17 6.4 paragraph 4). An include line begins where a line begins.
abbrev pub IsItemOf : ItemFront → Bool → List ℕ → List ℕ → Option TokenKind → Type 0
IsItemOf front.Blank starts_line text item kind = (item ≡ take 1 text) × (kind ≡ None)
IsItemOf front.LineComment starts_line text item kind = (item ≡ line_of text) × (kind ≡ None)
IsItemOf front.BlockComment starts_line text item kind =
    (end : ℕ) × IsFirstEnd text end × (item ≡ take (end + 2) text) × (kind ≡ None)
IsItemOf front.Number starts_line text item kind =
    (n : ℕ) × (t : IntType) × (item ≡ take_while (is_in class.Number) text) × (literal_of item ≡ literal.Number n t)
    × (kind ≡ Some (token_kind.Number (pos n) t))
IsItemOf front.Word starts_line text item kind =
    (token : TokenKind) × (item ≡ take_while (is_in class.Word) text) × (word_of item ≡ Ok token) × (kind ≡ Some token)
IsItemOf front.Character starts_line text item kind =
    (value : ℕ) × IsCharacter item value × (kind ≡ Some (token_kind.Number (signed_char value) type.Int))
IsItemOf front.Hash starts_line text item kind =
    (item ≡ line_of text) × ((starts_line && is_include (line_of text)) ≡ true) × (kind ≡ None)
IsItemOf front.Quote starts_line text item kind = ⊥
IsItemOf front.Mark starts_line text item kind =
    (m : Punct) × IsLongestMark text item m × (kind ≡ Some (token_kind.Mark m))

-- the fault of a run that begins as a number, if it is none (own)
abbrev pub literal_fault : Literal → ℕ → Option LexFault
literal_fault (literal.Number n t) place = None
literal_fault literal.OutOfForm place = Some (fault.BadNumber place)
literal_fault literal.TooBig place = Some (fault.BigLiteral place)

-- No item begins the text, which stands at this place and begins in this way, and this is its fault (own).
abbrev pub IsFaultOf : ItemFront → Bool → List ℕ → ℕ → LexFault → Type 0
IsFaultOf front.Blank starts_line text place found = ⊥
IsFaultOf front.LineComment starts_line text place found = ⊥
IsFaultOf front.BlockComment starts_line text place found =
    ((k : ℕ) → 2 ≤ k → EndsComment text k → ⊥) × (found ≡ fault.OpenComment place)
IsFaultOf front.Number starts_line text place found =
    literal_fault (literal_of (take_while (is_in class.Number) text)) place ≡ Some found
IsFaultOf front.Word starts_line text place found =
    (w : LeftWord) × (word_of (take_while (is_in class.Word) text) ≡ Err w) × (found ≡ fault.LeftOut w place)
IsFaultOf front.Character starts_line text place found =
    (fitting : List ℕ) × StopsFitting text fitting × (found ≡ fault.BadByte (place + length fitting))
IsFaultOf front.Hash starts_line text place found =
    ((starts_line && is_include (line_of text)) ≡ false) × (found ≡ fault.LeftOut left.Hash place)
IsFaultOf front.Quote starts_line text place found = found ≡ fault.LeftOut left.Quote place
IsFaultOf front.Mark starts_line text place found =
    ((spelling : List ℕ) (m : Punct) → BeginsMark text spelling m → ⊥) × (found ≡ fault.BadByte place)
