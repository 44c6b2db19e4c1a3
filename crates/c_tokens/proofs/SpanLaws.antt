-- The tokens of a text stand one behind another in it.
use Rattle.std.proofs.Common.{◌≡◌, ℕ, ◌+◌, ◌<◌, ◌≤◌, Bool, true, false, cond, List, [], ◌∷◌, ◌++◌, length, take, ◌-◌, Option, Some, None, Ok, ℤ, pos, negsuc, refl, sym, ap, ◌∙◌, subst, arith, length-append}
use Rattle.std.specs.Prelude.{T, find, ◌==◌, nat_lt, int_le, slice_index, drop, ◌&&◌}
use Rattle.std.specs.List.{prefix_len, take_while}
use Rattle.std.proofs.lemmas.Bool.Decides.{nat_tests}
use Rattle.std.proofs.lemmas.Int.{ints}
use Rattle.std.proofs.lemmas.List.Sums.{count_by-le-length, take_while-cons}
use Rattle.int_ops.specs.declared.types.IntType.{IntType}
use Rattle.int_ops.specs.declared.types.IntType.TheVariants as type
use Rattle.int_ops.specs.Ranges.{Range, is_in_range, least, greatest}
use Rattle.c_tokens.specs.declared.bytes.ByteClass.TheVariants as class
use Rattle.c_tokens.specs.declared.items.ItemFront.{ItemFront}
use Rattle.c_tokens.specs.declared.items.ItemFront.TheVariants as front
use Rattle.c_tokens.specs.declared.literals.NumberBase.{NumberBase}
use Rattle.c_tokens.specs.declared.literals.Literal.TheVariants as literal
use Rattle.c_tokens.specs.declared.literals.Suffix.{Suffix}
use Rattle.c_tokens.specs.declared.token.Keyword.{Keyword}
use Rattle.c_tokens.specs.declared.token.LeftWord.{LeftWord}
use Rattle.c_tokens.specs.declared.token.Token.{Token}
use Rattle.c_tokens.specs.declared.token.TokenKind.{TokenKind}
use Rattle.c_tokens.specs.declared.token.TokenKind.TheVariants as token_kind
use Rattle.c_tokens.specs.Bytes.{is_in}
use Rattle.c_tokens.specs.Characters.{signed_char}
use Rattle.c_tokens.specs.Items.{front_of, IsItemOf}
use Rattle.c_tokens.specs.Literals.{digit_class, radix, number_from, suffixes, types_of, typed, suffixed, literal_in, literal_of, base_of, digits_start}
use Rattle.c_tokens.specs.Spans.{HasNumber, StandInOrder}
use Rattle.c_tokens.specs.Tokens.{starts_line, token_of, Fills, ends, takes}
use Rattle.c_tokens.specs.Words.{look_up, first_of}
use Rattle.c_tokens.proofs.CharacterLaws.{and_parts}
use Rattle.c_tokens.proofs.TextLaws.{nothing_listed}

-- ---- numbers lie in their types

holds : (b : Bool) → b ≡ true → T b
holds true is = tt
holds false is = cc

in_range : (t : IntType) (n : ℤ) → is_in_range t n ≡ true → Range t n
in_range t n is =
    let parts = and_parts (int_le (least t) n) (int_le n (greatest t)) is in
    (record { le = holds _ parts.0 }, record { le = holds _ parts.1 })

find-holds : (n : ℕ) (ts : List IntType) (t : IntType) → find (λ t. is_in_range t (pos n)) ts ≡ Some t → Range t (pos n)
find-holds n [] t e = cc
find-holds n (x ∷ ts) t e = go (is_in_range x (pos n)) refl (find-holds n ts t) e
  where
    go : (b : Bool) → is_in_range x (pos n) ≡ b → (find (λ t. is_in_range t (pos n)) ts ≡ Some t → Range t (pos n))
        → cond b (Some x) (find (λ t. is_in_range t (pos n)) ts) ≡ Some t → Range t (pos n)
    go true is again e = subst (λ y. Range y (pos n)) (let same : x ≡ t = cc in same) (in_range x (pos n) is)
    go false is again e = again e

typed-holds : (o : Option IntType) (m n : ℕ) (t : IntType) → (o ≡ Some t → Range t (pos m)) → typed o m ≡ literal.Number n t → Range t (pos n)
typed-holds None m n t holds e = cc
typed-holds (Some x) m n t holds e =
    let same : x ≡ t = cc in
    subst (λ k. Range t (pos k)) (let number : m ≡ n = cc in number) (holds (ap (λ y. Some y) same))

suffixed-holds : (o : Option Suffix) (b : NumberBase) (m n : ℕ) (t : IntType) → suffixed o b m ≡ literal.Number n t → Range t (pos n)
suffixed-holds None b m n t e = cc
suffixed-holds (Some s) b m n t e = typed-holds (find (λ t. is_in_range t (pos m)) (types_of b s)) m n t (find-holds m (types_of b s) t) e

literal_in-holds : (b : NumberBase) (body : List ℕ) (n : ℕ) (t : IntType) → literal_in b body ≡ literal.Number n t → Range t (pos n)
literal_in-holds b body n t e = go (count == 0) e
  where
    count : ℕ
    count = prefix_len (is_in (digit_class b)) body

    found : Option Suffix
    found = look_up suffixes (drop count body)

    number : ℕ
    number = number_from (radix b) 0 (take count body)

    go : (z : Bool) → cond z literal.OutOfForm (suffixed found b number) ≡ literal.Number n t → Range t (pos n)
    go true e = cc
    go false e = suffixed-holds found b number n t e

first_of-number : (k : Option Keyword) (eof : Bool) (left : Option LeftWord) (token : TokenKind) → first_of k eof left ≡ Ok token → HasNumber token
first_of-number (Some k) eof left token e = subst HasNumber (let same : token_kind.Key k ≡ token = cc in same) tt
first_of-number None true left token e = subst HasNumber (let same : token_kind.EofName ≡ token = cc in same) tt
first_of-number None false (Some w) token e = cc
first_of-number None false None token e = subst HasNumber (let same : token_kind.Name ≡ token = cc in same) tt

character-number : (value : ℕ) → HasNumber (token_kind.Number (signed_char value) type.Int)
character-number value = go (nat_lt value 128) refl
  where
    go : (b : Bool) → nat_lt value 128 ≡ b → Range type.Int (cond b (pos value) (negsuc (255 - value)))
    go true is = let small : value < 128 = grind (arith, nat_tests) in (omega (arith, ints), omega (arith, ints))
    go false is = let large : 128 ≤ value = grind (arith, nat_tests) in (omega (arith, ints), omega (arith, ints))

token_number : (f : ItemFront) (starts : Bool) (text item : List ℕ) (kind : TokenKind) → IsItemOf f starts text item (Some kind) → HasNumber kind
token_number front.Blank starts text item kind is = let no_kind = is.1 in cc
token_number front.LineComment starts text item kind is = let no_kind = is.1 in cc
token_number front.BlockComment starts text item kind is = let no_kind = is.3 in cc
token_number front.Number starts text item kind is =
    subst HasNumber (let same : token_kind.Number (pos is.0) is.1 ≡ kind = (let e = is.4 in cc) in same)
    (literal_in-holds (base_of item) (drop (digits_start (base_of item)) item) is.0 is.1 is.3)
token_number front.Word starts text item kind is =
    subst HasNumber (let same : is.0 ≡ kind = (let e = is.3 in cc) in same) (first_of-number _ _ _ is.0 is.2)
token_number front.Character starts text item kind is =
    subst HasNumber (let same : token_kind.Number (signed_char is.0) type.Int ≡ kind = (let e = is.2 in cc) in same) (character-number is.0)
token_number front.Hash starts text item kind is = let no_kind = is.2 in cc
token_number front.Quote starts text item kind is = absurd is
token_number front.Mark starts text item kind is =
    subst HasNumber (let same : token_kind.Mark is.0 ≡ kind = (let e = is.2 in cc) in same) tt

-- ---- tokens have bytes

-- what begins a text as a word is a byte of words
front-word : (blank line block digit word : Bool) (others : ItemFront) → (others ≡ front.Word → ⊥)
    → cond blank front.Blank (cond line front.LineComment (cond block front.BlockComment (cond digit front.Number (cond word front.Word others)))) ≡ front.Word
    → word ≡ true
front-word true line block digit word others no_word e = cc
front-word false true block digit word others no_word e = cc
front-word false false true digit word others no_word e = cc
front-word false false false true word others no_word e = cc
front-word false false false false true others no_word e = refl
front-word false false false false false others no_word e = absurd (no_word e)

no_word_left : (quote hash double : Bool) → cond quote front.Character (cond hash front.Hash (cond double front.Quote front.Mark)) ≡ front.Word → ⊥
no_word_left true hash double e = cc
no_word_left false true double e = cc
no_word_left false false true e = cc
no_word_left false false false e = cc

word-begins : (b : ℕ) (text : List ℕ) → front_of (b ∷ text) ≡ front.Word → is_in class.Word b ≡ true
word-begins b text e =
    front-word (is_in class.Blank b) (b == 47 && slice_index text 0 == 47) (b == 47 && slice_index text 0 == 42) (is_in class.Decimal b) (is_in class.Word b)
    (cond (b == 39) front.Character (cond (b == 35) front.Hash (cond (b == 34) front.Quote front.Mark)))
    (no_word_left (b == 39) (b == 35) (b == 34)) e

some_bytes : (item : List ℕ) → (item ≡ [] → ⊥) → 0 < length item
some_bytes [] other = absurd (other refl)
some_bytes (b ∷ item) other = omega arith

word_has_bytes : (text : List ℕ) → front_of text ≡ front.Word → take_while (is_in class.Word) text ≡ [] → ⊥
word_has_bytes [] is none = cc
word_has_bytes (b ∷ text) is none =
    let first = word-begins b text is in
    let run : take_while (is_in class.Word) (b ∷ text) ≡ b ∷ take_while (is_in class.Word) text =
    take_while-cons (is_in class.Word) b text ∙ ap (λ t. cond t (b ∷ take_while (is_in class.Word) text) []) first in
    let both : [] ≡ b ∷ take_while (is_in class.Word) text = sym none ∙ run in
    cc

no_literal : (n : ℕ) (t : IntType) → literal_of [] ≡ literal.Number n t → ⊥
no_literal n t e = cc

token_bytes : (f : ItemFront) (starts : Bool) (text item rest : List ℕ) (kind : TokenKind) → front_of text ≡ f → text ≡ item ++ rest
    → IsItemOf f starts text item (Some kind) → item ≡ [] → ⊥
token_bytes front.Blank starts text item rest kind f_is text_is is none = let no_kind = is.1 in cc
token_bytes front.LineComment starts text item rest kind f_is text_is is none = let no_kind = is.1 in cc
token_bytes front.BlockComment starts text item rest kind f_is text_is is none = let no_kind = is.3 in cc
token_bytes front.Number starts text item rest kind f_is text_is is none =
    no_literal is.0 is.1 (ap literal_of (sym none) ∙ is.3)
token_bytes front.Word starts text item rest kind f_is text_is is none = word_has_bytes text f_is (sym is.1 ∙ none)
token_bytes front.Character starts text item rest kind f_is text_is is none = let quoted = is.1.quoted in let both : [] ≡ 39 ∷ (is.1.inside ++ 39 ∷ []) = sym none ∙ quoted in cc
token_bytes front.Hash starts text item rest kind f_is text_is is none = let no_kind = is.2 in cc
token_bytes front.Quote starts text item rest kind f_is text_is is none = is
token_bytes front.Mark starts text item rest kind f_is text_is is none =
    nothing_listed item [] is.0 is.1.begins.listed (sym (ap (λ i. i ++ []) none))

-- ---- the tokens of a text

in_order-le : (from to : ℕ) (tokens : List Token) → StandInOrder from to tokens → from ≤ to
in_order-le from to [] h = h
in_order-le from to (t ∷ ts) h = let b = h.0.behind in let s = h.0.some in let w = h.0.within in omega arith

in_order-earlier : (before from to : ℕ) (tokens : List Token) → before ≤ from → StandInOrder from to tokens → StandInOrder before to tokens
in_order-earlier before from to [] le h = omega arith
in_order-earlier before from to (t ∷ ts) le h = (
  record {
    behind = (let b = h.0.behind in omega arith);
    some = h.0.some;
    within = h.0.within;
    line = h.0.line;
    lines = h.0.lines;
    number = h.0.number;
  },
  h.1,
)

-- an item and the tokens behind it
joined : (before text item rest : List ℕ) (kind : Option TokenKind) (tokens : List Token) → text ≡ item ++ rest
    → IsItemOf (front_of text) (starts_line before) text item kind
    → StandInOrder (length before + length item) (length before + length text) tokens
    → StandInOrder (length before) (length before + length text) (token_of before item kind ++ tokens)
joined before text item rest None tokens text_is form order = in_order-earlier (length before) _ _ tokens (omega arith) order
joined before text item rest (Some kind) tokens text_is form order =
    let bytes = some_bytes item (token_bytes (front_of text) (starts_line before) text item rest kind refl text_is form) in
    let end = in_order-le _ _ tokens order in
    let count = count_by-le-length (λ b. b == 10) before in (
      record {
        behind = omega arith;
        some = omega arith;
        within = end;
        line = omega arith;
        lines = omega arith;
        number = token_number (front_of text) (starts_line before) text item kind form;
      },
      order,
    )

pub fills-in_order : {before text : List ℕ} {list : List Token} → Fills before text list → StandInOrder (length before) (length before + length text) list
fills-in_order {before = before} ends = omega arith
fills-in_order {before = before} {text = text} {list = list} (takes item rest kind {tokens = tokens} text_is form more list_is) =
    let from : length (before ++ item) ≡ length before + length item = length-append before item in
    let size = ap length text_is ∙ length-append item rest in
    let to : length (before ++ item) + length rest ≡ length before + length text = omega arith in
    let order = subst (λ n. StandInOrder n (length before + length text) tokens) from
    (subst (λ n. StandInOrder (length (before ++ item)) n tokens) to (fills-in_order more)) in
    subst (λ l. StandInOrder (length before) (length before + length text) l) (sym list_is)
    (joined before text item rest kind tokens text_is form order)
