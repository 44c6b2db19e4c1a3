-- The bytes of each token that is a name are a name.
use Rattle.std.proofs.Common.{
  ◌≡◌,
  ℕ,
  ◌+◌,
  ◌-◌,
  Bool,
  true,
  false,
  cond,
  List,
  [],
  ◌∷◌,
  ◌++◌,
  length,
  take,
  drop,
  Option,
  Some,
  None,
  refl,
  sym,
  ap,
  ◌∙◌,
  subst,
  arith,
}
use Rattle.std.specs.Prelude.{◌==◌, ◌&&◌, slice_index, slice_range}
use Rattle.std.specs.List.{take_while}
use Rattle.std.proofs.Math.Seq.{drop-append_seam, take-append_seam}
use Rattle.std.proofs.lemmas.List.{append_assoc}
use Rattle.std.proofs.lemmas.List.Sums.{take_while-cons}
use Rattle.c_tokens.specs.declared.bytes.ByteClass.TheVariants as class
use Rattle.c_tokens.specs.declared.items.ItemFront.{ItemFront}
use Rattle.c_tokens.specs.declared.items.ItemFront.TheVariants as front
use Rattle.c_tokens.specs.declared.token.Token.{Token}
use Rattle.c_tokens.specs.declared.token.TokenKind.{TokenKind}
use Rattle.c_tokens.specs.declared.token.TokenKind.TheVariants as token_kind
use Rattle.c_tokens.specs.Bytes.{is_in}
use Rattle.c_tokens.specs.Items.{front_of, IsItemOf}
use Rattle.c_tokens.specs.Names.{AreWordBytes, IsName, HaveNames}
use Rattle.c_tokens.specs.Tokens.{starts_line, token_of, Fills, Splits, ends, takes}

-- the run of the bytes of words in front of a text has such bytes
word_run : (text : List ℕ) → AreWordBytes (take_while (is_in class.Word) text)
word_run [] = tt
word_run (b ∷ text) =
    subst AreWordBytes (sym (take_while-cons (is_in class.Word) b text)) (go (is_in class.Word b) refl (word_run text))
  where
    go : (word : Bool) → is_in class.Word b ≡ word → AreWordBytes (take_while (is_in class.Word) text)
        → AreWordBytes (cond word (b ∷ take_while (is_in class.Word) text) [])
    go true is run = (is, run)
    go false is run = tt

-- what begins a text as a word is a byte of words and no digit
front_word : (blank line block digit word : Bool) (others : ItemFront) → (others ≡ front.Word → ⊥)
    → cond blank front.Blank (cond line front.LineComment
    (cond block front.BlockComment (cond digit front.Number (cond word front.Word others)))) ≡ front.Word
    → (word ≡ true) × (digit ≡ false)
front_word true line block digit word others no_word e = cc
front_word false true block digit word others no_word e = cc
front_word false false true digit word others no_word e = cc
front_word false false false true word others no_word e = cc
front_word false false false false true others no_word e = (refl, refl)
front_word false false false false false others no_word e = absurd (no_word e)

no_word_left : (quote hash double : Bool) → cond quote front.Character
    (cond hash front.Hash (cond double front.Quote front.Mark)) ≡ front.Word → ⊥
no_word_left true hash double e = cc
no_word_left false true double e = cc
no_word_left false false true e = cc
no_word_left false false false e = cc

-- the longest run of the bytes of words is a name, where it begins a text as a word
run_name : (text : List ℕ) → front_of text ≡ front.Word → IsName (take_while (is_in class.Word) text)
run_name [] is = cc
run_name (b ∷ text) is =
    let first = front_word (is_in class.Blank b) (b == 47 && slice_index text 0 == 47)
    (b == 47 && slice_index text 0 == 42) (is_in class.Decimal b)
    (is_in class.Word b) (cond (b == 39) front.Character
    (cond (b == 35) front.Hash (cond (b == 34) front.Quote front.Mark)))
    (no_word_left (b == 39) (b == 35) (b == 34)) is in
    let run : take_while (is_in class.Word) (b ∷ text) ≡ b ∷ take_while (is_in class.Word) text =
    take_while-cons (is_in class.Word) b text ∙ ap (λ t. cond t (b ∷ take_while (is_in class.Word) text) []) first.0
    in
    subst IsName (sym run) (first.0, first.1, word_run text)

-- an item that is a name has such bytes
item_name : (f : ItemFront) (starts : Bool) (text item : List ℕ) (kind : TokenKind) → front_of text ≡ f → IsItemOf f
    starts text item (Some kind)
    → kind ≡ token_kind.Name → IsName item
item_name front.Blank starts text item kind f is k = let no_kind = is.1 in cc
item_name front.LineComment starts text item kind f is k = let no_kind = is.1 in cc
item_name front.BlockComment starts text item kind f is k = let no_kind = is.3 in cc
item_name front.Number starts text item kind f is k = let e = is.4 in cc
item_name front.Word starts text item kind f is k = subst IsName (sym is.1) (run_name text f)
item_name front.Character starts text item kind f is k = let e = is.2 in cc
item_name front.Hash starts text item kind f is k = let no_kind = is.2 in cc
item_name front.Quote starts text item kind f is k = absurd is
item_name front.Mark starts text item kind f is k = let e = is.2 in cc

-- the bytes from the end of what stands before an item up to its end are the item
item_range : (before item rest : List ℕ) → slice_range (before ++ (item ++ rest)) (length before)
    (length before + length item) ≡ item
item_range before item rest =
    ap (λ n. take n (drop (length before) (before ++ (item ++ rest))))
    (let h : length before + length item - length before ≡ length item = omega arith in h)
    ∙ ap (take (length item)) (drop-append_seam before (item ++ rest)) ∙ take-append_seam item rest

-- the names among the tokens of the rest of a text
fills_names : {before text : List ℕ} {list : List Token} → Fills before text list → HaveNames (before ++ text) list
fills_names ends = tt
fills_names {before = before} {text = text} (takes item rest kind {tokens = tokens} text_is form more list_is) =
    let whole : before ++ text ≡ before ++ (item ++ rest) = ap (λ t. before ++ t) text_is in
    let others : HaveNames (before ++ text) tokens =
    subst (λ t. HaveNames t tokens) (append_assoc before item rest ∙ sym whole) (fills_names more) in
    subst (HaveNames (before ++ text)) (sym list_is) (go kind form others)
  where
    go : (kind : Option TokenKind) → IsItemOf (front_of text) (starts_line before) text item kind → HaveNames
        (before ++ text) tokens
        → HaveNames (before ++ text) (token_of before item kind ++ tokens)
    go None form others = others
    go (Some kind) form others = (
      λ is. subst IsName (sym (ap (λ t. slice_range t (length before) (length before + length item))
          (ap (λ t. before ++ t) text_is) ∙ item_range before item rest))
          (item_name (front_of text) (starts_line before) text item kind refl form is),
      others,
    )

-- each token of a text that is a name has the bytes of one (C17 6.4.2.1)
pub split_names : {text : List ℕ} {tokens : List Token} → Splits text tokens → HaveNames text tokens
split_names s = fills_names s
