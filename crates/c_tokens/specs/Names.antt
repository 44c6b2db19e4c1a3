-- The bytes of names (C17 6.4.2.1).
use Rattle.std.specs.Prelude.{◌≡◌, ℕ, true, false, List, [], ◌∷◌, slice_range}
use Rattle.c_tokens.specs.declared.bytes.ByteClass.TheVariants as class
use Rattle.c_tokens.specs.declared.token.Token.{Token}
use Rattle.c_tokens.specs.declared.token.TokenKind.TheVariants as token_kind
use Rattle.c_tokens.specs.Bytes.{is_in}
use Rattle.c_tokens.specs.Tokens.{Splits}

-- each byte is a letter, a digit or `_` (C17 6.4.2.1 paragraph 1)
abbrev pub AreWordBytes : List ℕ → Type 0
AreWordBytes [] = Unit {0}
AreWordBytes (b ∷ bs) = (is_in class.Word b ≡ true) × AreWordBytes bs

-- the bytes are a name: letters, digits and `_`, of which the first is no digit (C17 6.4.2.1 paragraph 2)
abbrev pub IsName : List ℕ → Type 0
IsName [] = ⊥
IsName (b ∷ bs) = (is_in class.Word b ≡ true) × (is_in class.Decimal b ≡ false) × AreWordBytes bs

-- each token that is a name has such bytes in the text (C17 6.4.2.1)
abbrev pub HaveNames : List ℕ → List Token → Type 0
HaveNames text [] = Unit {0}
HaveNames text (t ∷ ts) = (t.kind ≡ token_kind.Name → IsName (slice_range text t.start t.end)) × HaveNames text ts

-- whatever the text, each of its tokens that is a name has the bytes of one (C17 6.4.2.1)
abbrev pub NamesOfLetters : Type 0
NamesOfLetters = (text : List ℕ) (tokens : List Token) → Splits text tokens → HaveNames text tokens
