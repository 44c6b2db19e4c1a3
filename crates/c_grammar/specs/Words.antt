-- What the grammar asks of the next tokens: marks, words, and the type that type words name.
use Rattle.std.specs.Prelude.{
  ℕ,
  ◌+◌,
  ◌==◌,
  ◌&&◌,
  Bool,
  true,
  false,
  cond,
  List,
  [],
  ◌∷◌,
  length,
  min,
  Option,
  Some,
  None,
  slice_range,
}
use denote.Enum.Bare.{sameb}
use Rattle.c_tokens.specs.contracts.token.Punct.{the_type as the_mark}
use Rattle.int_ops.specs.declared.types.IntType.TheVariants as type
use Rattle.c_tokens.specs.declared.token.Keyword.{Keyword}
use Rattle.c_tokens.specs.declared.token.Keyword.TheVariants as key
use Rattle.c_tokens.specs.declared.token.Punct.{Punct}
use Rattle.c_tokens.specs.declared.token.Token.{Token}
use Rattle.c_tokens.specs.declared.token.TokenKind.{TokenKind}
use Rattle.c_tokens.specs.declared.token.TokenKind.TheVariants as kind
use Rattle.c_tree.specs.declared.expr.Base.{Base}
use Rattle.c_tree.specs.declared.expr.Base.TheVariants as base

-- the bytes of the text at a token (own)
abbrev pub name_of : List ℕ → Token → List ℕ
name_of text t = slice_range text t.start t.end

-- the kind of the next token, where there is one (own)
abbrev pub next_kind : List Token → Option TokenKind
next_kind [] = None
next_kind (t ∷ ts) = Some t.kind

-- where the next token begins, or the length of the text (own)
abbrev pub place_at : List ℕ → List Token → ℕ
place_at text [] = min (length text) 4294967295
place_at text (t ∷ ts) = t.start

-- what stands behind the next token (own)
abbrev pub behind : List Token → List Token
behind [] = []
behind (t ∷ ts) = ts

-- a kind is that of a name (own)
abbrev pub is_name : Option TokenKind → Bool
is_name (Some kind.Name) = true
is_name _ = false

-- the mark of a kind (own)
abbrev pub mark_of : Option TokenKind → Option Punct
mark_of (Some (kind.Mark m)) = Some m
mark_of _ = None

-- the keyword of a kind (own)
abbrev pub key_of : Option TokenKind → Option Keyword
key_of (Some (kind.Key k)) = Some k
key_of _ = None

-- the mark that the next token is (own)
abbrev pub mark_at : List Token → Option Punct
mark_at tokens = mark_of (next_kind tokens)

-- the mark is there and is this one (own)
abbrev pub is_mark : Punct → Option Punct → Bool
is_mark m None = false
is_mark m (Some n) = sameb the_mark n m

-- the next token is this mark (own)
abbrev pub next_is : Punct → List Token → Bool
next_is m tokens = is_mark m (mark_at tokens)

-- the keyword that the next token is (own)
abbrev pub key_at : List Token → Option Keyword
key_at tokens = key_of (next_kind tokens)

-- the next token is a name (own)
abbrev pub name_at : List Token → Bool
name_at tokens = is_name (next_kind tokens)

-- the type words, numbered from 1; every other keyword has 0 (C17 6.7.2 paragraph 1)
abbrev pub word_number : Keyword → ℕ
word_number key.Void = 1
word_number key.Bool = 2
word_number key.Char = 3
word_number key.Short = 4
word_number key.Int = 5
word_number key.Long = 6
word_number key.Signed = 7
word_number key.Unsigned = 8
word_number _ = 0

-- a keyword is there and is a type word (C17 6.7.2 paragraph 1)
abbrev pub is_type_word : Option Keyword → Bool
is_type_word None = false
is_type_word (Some k) = cond (word_number k == 0) false true

-- the next token is a type word (own)
abbrev pub type_at : List Token → Bool
type_at tokens = is_type_word (key_at tokens)

-- a type word, where it is one, before further ones (own)
abbrev pub words_with : Option Keyword → List ℕ → List ℕ
words_with None words = []
words_with (Some k) words = cond (word_number k == 0) [] (word_number k ∷ words)

-- the type words that tokens begin with, by number (C17 6.7 paragraph 1)
abbrev pub type_words : List Token → List ℕ
type_words [] = []
type_words (t ∷ ts) = words_with (key_of (Some t.kind)) (type_words ts)

-- what stands behind the type words that tokens begin with (own)
abbrev pub behind_words : List Token → List Token
behind_words [] = []
behind_words (t ∷ ts) = cond (is_type_word (key_of (Some t.kind))) (behind_words ts) (t ∷ ts)

-- how often a word stands in a list (own)
abbrev pub times : ℕ → List ℕ → ℕ
times word [] = 0
times word (w ∷ ws) = cond (w == word) (1 + times word ws) (times word ws)

-- the eight type words stand equally often in two lists (C17 6.7.2 paragraph 2: in any order)
abbrev pub same_words : List ℕ → List ℕ → Bool
same_words a b =
    times 1 a == times 1 b && (times 2 a == times 2 b && (times 3 a == times 3 b && (times 4 a == times 4 b
    && (times 5 a == times 5 b && (times 6 a == times 6 b && (times 7 a == times 7 b && times 8 a == times 8 b))))))

-- the lists of words that name a type, without those of `long long` and of types that the language lacks (C17 6.7.2
-- paragraph 2)
unfoldable pub type_lists : List (List ℕ × Base)
type_lists =
    (void ∷ [], base.Void) ∷
    (bool ∷ [], base.Int type.Bool) ∷
    (char ∷ [], base.Int type.Char) ∷
    (signed ∷ char ∷ [], base.Int type.SignedChar) ∷
    (unsigned ∷ char ∷ [], base.Int type.UnsignedChar) ∷
    (short ∷ [], base.Int type.Short) ∷
    (signed ∷ short ∷ [], base.Int type.Short) ∷
    (short ∷ int ∷ [], base.Int type.Short) ∷
    (signed ∷ short ∷ int ∷ [], base.Int type.Short) ∷
    (unsigned ∷ short ∷ [], base.Int type.UnsignedShort) ∷
    (unsigned ∷ short ∷ int ∷ [], base.Int type.UnsignedShort) ∷
    (int ∷ [], base.Int type.Int) ∷
    (signed ∷ [], base.Int type.Int) ∷
    (signed ∷ int ∷ [], base.Int type.Int) ∷
    (unsigned ∷ [], base.Int type.UnsignedInt) ∷
    (unsigned ∷ int ∷ [], base.Int type.UnsignedInt) ∷
    (long ∷ [], base.Int type.Long) ∷
    (signed ∷ long ∷ [], base.Int type.Long) ∷
    (long ∷ int ∷ [], base.Int type.Long) ∷
    (signed ∷ long ∷ int ∷ [], base.Int type.Long) ∷
    (unsigned ∷ long ∷ [], base.Int type.UnsignedLong) ∷
    (unsigned ∷ long ∷ int ∷ [], base.Int type.UnsignedLong) ∷
    []
  where
    void : ℕ
    void = word_number key.Void

    bool : ℕ
    bool = word_number key.Bool

    char : ℕ
    char = word_number key.Char

    short : ℕ
    short = word_number key.Short

    int : ℕ
    int = word_number key.Int

    long : ℕ
    long = word_number key.Long

    signed : ℕ
    signed = word_number key.Signed

    unsigned : ℕ
    unsigned = word_number key.Unsigned

-- what the first list with the same words names (own)
abbrev pub named_by : List (List ℕ × Base) → List ℕ → Option Base
named_by [] words = None
named_by (e ∷ es) words = cond (same_words words e.0) (Some e.1) (named_by es words)

-- the type that the type words name with which tokens begin (C17 6.7.2 paragraph 2)
abbrev pub base_at : List Token → Option Base
base_at tokens = named_by type_lists (type_words tokens)
