-- Words, numbers and characters worked out, and a text cut into its tokens.
use Rattle.std.proofs.Common.{◌≡◌, ℕ, [], ◌∷◌, Some, Ok, Err, codes, refl}
use Rattle.int_ops.specs.declared.types.IntType.TheVariants as type
use Rattle.c_tokens.specs.declared.literals.Literal.TheVariants as literal
use Rattle.c_tokens.specs.declared.quoted.Reading.TheVariants.{Quote}
use Rattle.c_tokens.specs.declared.token.LeftWord.TheVariants as left
use Rattle.c_tokens.specs.declared.token.Punct.{Punct}
use Rattle.c_tokens.specs.declared.token.Punct.TheVariants as mark
use Rattle.c_tokens.specs.declared.token.Token.{Token}
use Rattle.c_tokens.specs.declared.token.TokenKind.TheVariants as token_kind
use Rattle.c_tokens.specs.Literals.{literal_of, suffixes}
use Rattle.c_tokens.specs.Marks.{marks}
use Rattle.c_tokens.specs.Reading.{next_step, character_at}
use Rattle.c_tokens.specs.Tokens.{ends, takes, Splits}
use Rattle.c_tokens.specs.Words.{keywords, left_words, word_of}
use Rattle.c_tokens.proofs.MarkLaws.{longest_mark}

decimal-above_int : literal_of (codes "4294967295") ≡ literal.Number 4294967295 type.Long
unfolding suffixes
decimal-above_int = refl

hexadecimal-above_int : literal_of (codes "0xffffffff") ≡ literal.Number 4294967295 type.UnsignedInt
unfolding suffixes
hexadecimal-above_int = refl

unsigned-most : literal_of (codes "18446744073709551615u") ≡ literal.Number 18446744073709551615 type.UnsignedLong
unfolding suffixes
unsigned-most = refl

unsigned-above : literal_of (codes "18446744073709551616u") ≡ literal.TooBig
unfolding suffixes
unsigned-above = refl

no_hexadecimal_digit : literal_of (codes "0x") ≡ literal.OutOfForm
unfolding suffixes
no_hexadecimal_digit = refl

goto-left_out : word_of (codes "goto") ≡ Err left.Goto
unfolding keywords left_words
goto-left_out = refl

eof-name : word_of (codes "EOF") ≡ Ok token_kind.EofName
unfolding keywords left_words
eof-name = refl

-- '\400' has a third digit that does not fit
octal-above : character_at Quote 0 (39 ∷ 92 ∷ 52 ∷ 48 ∷ 48 ∷ 39 ∷ []) ≡ Err 4
unfolding next_step
octal-above = refl

-- the token of a mark from one place to another, on the first line
abbrev mark_at : Punct → ℕ → ℕ → Token
mark_at m start end = record { kind = token_kind.Mark m; start = start; end = end; line = 1 }

-- five plus signs are two steps and a sum
plus_signs : Splits (codes "+++++") (mark_at mark.PlusPlus 0 2 ∷ mark_at mark.PlusPlus 2 4 ∷ mark_at mark.Plus 4 5 ∷ [])
unfolding marks
plus_signs =
    takes (codes "++") (codes "+++") (Some (token_kind.Mark mark.PlusPlus)) refl (mark.PlusPlus, longest_mark (codes "+++++") 2 mark.PlusPlus refl, refl)
    (takes (codes "++") (codes "+") (Some (token_kind.Mark mark.PlusPlus)) refl (mark.PlusPlus, longest_mark (codes "+++") 2 mark.PlusPlus refl, refl)
    (takes (codes "+") [] (Some (token_kind.Mark mark.Plus)) refl (mark.Plus, longest_mark (codes "+") 1 mark.Plus refl, refl)
    ends refl) refl) refl
