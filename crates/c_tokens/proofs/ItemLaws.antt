-- At most one item begins a text, at most one fault stands there, and not both.
use Rattle.std.proofs.Common.{◌≡◌, ℕ, ◌+◌, ◌<◌, ◌≤◌, Bool, true, false, List, ◌++◌, length, take, Option, Some, None, Ok, Err, pos, sym, ap, ap₂, ◌∙◌, arith, inl, inr}
use Rattle.std.specs.Prelude.{◌⊎◌, Result}
use Rattle.std.specs.List.{take_while}
use Rattle.std.proofs.lemmas.Bool.{cases_lt}
use Rattle.std.proofs.Math.Seq.{take-append_seam}
use Rattle.int_ops.specs.declared.types.IntType.{IntType}
use Rattle.int_ops.specs.declared.types.IntType.TheVariants as type
use Rattle.c_tokens.specs.declared.bytes.ByteClass.TheVariants as class
use Rattle.c_tokens.specs.declared.items.ItemFront.{ItemFront}
use Rattle.c_tokens.specs.declared.items.ItemFront.TheVariants as front
use Rattle.c_tokens.specs.declared.literals.Literal.TheVariants as literal
use Rattle.c_tokens.specs.declared.quoted.Reading.TheVariants as reading
use Rattle.c_tokens.specs.declared.token.LeftWord.{LeftWord}
use Rattle.c_tokens.specs.declared.token.LexFault.{LexFault}
use Rattle.c_tokens.specs.declared.token.LexFault.TheVariants as fault
use Rattle.c_tokens.specs.declared.token.TokenKind.{TokenKind}
use Rattle.c_tokens.specs.declared.token.TokenKind.TheVariants as token_kind
use Rattle.c_tokens.specs.Bytes.{is_in}
use Rattle.c_tokens.specs.Characters.{signed_char}
use Rattle.c_tokens.specs.Items.{IsFirstEnd, IsItemOf, IsFaultOf, literal_fault}
use Rattle.c_tokens.specs.Literals.{literal_of}
use Rattle.c_tokens.specs.Marks.{marks}
use Rattle.c_tokens.specs.Reading.{character_at}
use Rattle.c_tokens.specs.Words.{look_up, word_of}
use Rattle.c_tokens.proofs.ReadingLaws.{character_read, misfit_read}

one_end : (text : List ℕ) (a b : ℕ) → IsFirstEnd text a → IsFirstEnd text b → a ≡ b
one_end text a b ea eb = go (cases_lt a b) (cases_lt b a)
  where
    go : (a < b) ⊎ (b ≤ a) → (b < a) ⊎ (a ≤ b) → a ≡ b
    go (inl less) other = absurd (eb.first a ea.behind less ea.ends)
    go (inr le) (inl less) = absurd (ea.first b eb.behind less eb.ends)
    go (inr le) (inr ge) = omega arith

-- bytes at the front of a text are as many as they are
front-take : (text item rest : List ℕ) → text ≡ item ++ rest → item ≡ take (length item) text
front-take text item rest is = sym (ap (take (length item)) is ∙ take-append_seam item rest)

-- fronts of one length are one
same_front : (text a b ra rb : List ℕ) → text ≡ a ++ ra → text ≡ b ++ rb → length a ≡ length b → a ≡ b
same_front text a b ra rb is_a is_b same =
    front-take text a ra is_a ∙ (ap (λ n. take n text) same ∙ sym (front-take text b rb is_b))

-- the same of what a text has at its front
one_number : (ia ib run : List ℕ) (na nb : ℕ) (ta tb : IntType) → ia ≡ run → ib ≡ run → literal_of ia ≡ literal.Number na ta
    → literal_of ib ≡ literal.Number nb tb → token_kind.Number (pos na) ta ≡ token_kind.Number (pos nb) tb
one_number ia ib run na nb ta tb ea eb la lb =
    let both : literal.Number na ta ≡ literal.Number nb tb = sym la ∙ (ap literal_of (ea ∙ sym eb) ∙ lb) in
    ap₂ (λ n t. token_kind.Number (pos n) t) (let same : na ≡ nb = cc in same) (let same : ta ≡ tb = cc in same)

pub one_item : (f : ItemFront) (starts : Bool) (text ia ib ra rb : List ℕ) (ka kb : Option TokenKind) → text ≡ ia ++ ra → text ≡ ib ++ rb
    → IsItemOf f starts text ia ka → IsItemOf f starts text ib kb → (ia ≡ ib) × (ka ≡ kb)
one_item front.Blank starts text ia ib ra rb ka kb is_a is_b a b = (a.0 ∙ sym b.0, a.1 ∙ sym b.1)
one_item front.LineComment starts text ia ib ra rb ka kb is_a is_b a b = (a.0 ∙ sym b.0, a.1 ∙ sym b.1)
one_item front.BlockComment starts text ia ib ra rb ka kb is_a is_b a b =
    (a.2 ∙ (ap (λ n. take (n + 2) text) (one_end text a.0 b.0 a.1 b.1) ∙ sym b.2), a.3 ∙ sym b.3)
one_item front.Number starts text ia ib ra rb ka kb is_a is_b a b =
    (a.2 ∙ sym b.2, a.4 ∙ (ap (λ k. Some k) (one_number ia ib _ a.0 b.0 a.1 b.1 a.2 b.2 a.3 b.3) ∙ sym b.4))
one_item front.Word starts text ia ib ra rb ka kb is_a is_b a b =
    let words : ◌≡◌ {A = Result TokenKind LeftWord} (Ok a.0) (Ok b.0) = sym a.2 ∙ (ap word_of (a.1 ∙ sym b.1) ∙ b.2) in
    (a.1 ∙ sym b.1, a.3 ∙ (ap (λ k. Some k) (let same : a.0 ≡ b.0 = cc in same) ∙ sym b.3))
one_item front.Character starts text ia ib ra rb ka kb is_a is_b a b =
    let read_a = ap (character_at reading.Quote 0) is_a ∙ character_read ia ra a.0 a.1 in
    let read_b = ap (character_at reading.Quote 0) is_b ∙ character_read ib rb b.0 b.1 in
    let pair : ◌≡◌ {A = ℕ × ℕ} (a.0, length ia) (b.0, length ib) = (let both : ◌≡◌ {A = Result (ℕ × ℕ) ℕ} (Ok (a.0, length ia)) (Ok (b.0, length ib)) = sym read_a ∙ read_b in cc) in
    (same_front text ia ib ra rb is_a is_b (ap (λ p. p.1) pair), a.2 ∙ (ap (λ p. Some (token_kind.Number (signed_char p.0) type.Int)) pair ∙ sym b.2))
one_item front.Hash starts text ia ib ra rb ka kb is_a is_b a b = (a.0 ∙ sym b.0, a.2 ∙ sym b.2)
one_item front.Quote starts text ia ib ra rb ka kb is_a is_b a b = absurd a
one_item front.Mark starts text ia ib ra rb ka kb is_a is_b a b =
    let size : length ia ≡ length ib = (let less = a.1.longest ib b.0 b.1.begins in let more = b.1.longest ia a.0 a.1.begins in omega arith) in
    let same = same_front text ia ib ra rb is_a is_b size in
    let both : Some a.0 ≡ Some b.0 = sym a.1.begins.listed ∙ (ap (look_up marks) same ∙ b.1.begins.listed) in
    (same, a.2 ∙ (ap (λ m. Some (token_kind.Mark m)) (let marks_same : a.0 ≡ b.0 = cc in marks_same) ∙ sym b.2))

pub no_fault : (f : ItemFront) (starts : Bool) (text item rest : List ℕ) (kind : Option TokenKind) (place : ℕ) (found : LexFault)
    → text ≡ item ++ rest → IsItemOf f starts text item kind → IsFaultOf f starts text place found → ⊥
no_fault front.Blank starts text item rest kind place found is a b = b
no_fault front.LineComment starts text item rest kind place found is a b = b
no_fault front.BlockComment starts text item rest kind place found is a b = b.0 a.0 a.1.behind a.1.ends
no_fault front.Number starts text item rest kind place found is a b =
    let none : literal_fault (literal_of (take_while (is_in class.Number) text)) place ≡ None =
    ap (λ i. literal_fault (literal_of i) place) (sym a.2) ∙ ap (λ l. literal_fault l place) a.3 in
    cc
no_fault front.Word starts text item rest kind place found is a b =
    let both : ◌≡◌ {A = Result TokenKind LeftWord} (Ok a.0) (Err b.0) = sym a.2 ∙ (ap word_of a.1 ∙ b.1) in cc
no_fault front.Character starts text item rest kind place found is a b =
    let read = ap (character_at reading.Quote 0) is ∙ character_read item rest a.0 a.1 in
    let misfit = misfit_read text b.0 b.1 in
    let both : ◌≡◌ {A = Result (ℕ × ℕ) ℕ} (Ok (a.0, length item)) (Err (length b.0)) = sym read ∙ misfit in cc
no_fault front.Hash starts text item rest kind place found is a b = let both : true ≡ false = sym a.1 ∙ b.0 in cc
no_fault front.Quote starts text item rest kind place found is a b = a
no_fault front.Mark starts text item rest kind place found is a b = b.0 item a.0 a.1.begins

pub one_fault : (f : ItemFront) (starts : Bool) (text : List ℕ) (place : ℕ) (a b : LexFault) → IsFaultOf f starts text place a → IsFaultOf f starts text place b
    → a ≡ b
one_fault front.Blank starts text place a b fa fb = absurd fa
one_fault front.LineComment starts text place a b fa fb = absurd fa
one_fault front.BlockComment starts text place a b fa fb = fa.1 ∙ sym fb.1
one_fault front.Number starts text place a b fa fb = let both : Some a ≡ Some b = sym fa ∙ fb in cc
one_fault front.Word starts text place a b fa fb =
    let both : ◌≡◌ {A = Result TokenKind LeftWord} (Err fa.0) (Err fb.0) = sym fa.1 ∙ fb.1 in
    fa.2 ∙ (ap (λ w. fault.LeftOut w place) (let same : fa.0 ≡ fb.0 = cc in same) ∙ sym fb.2)
one_fault front.Character starts text place a b fa fb =
    let both : ◌≡◌ {A = Result (ℕ × ℕ) ℕ} (Err (length fa.0)) (Err (length fb.0)) = sym (misfit_read text fa.0 fa.1) ∙ misfit_read text fb.0 fb.1 in
    fa.2 ∙ (ap (λ n. fault.BadByte (place + n)) (let same : length fa.0 ≡ length fb.0 = cc in same) ∙ sym fb.2)
one_fault front.Hash starts text place a b fa fb = fa.1 ∙ sym fb.1
one_fault front.Quote starts text place a b fa fb = fa ∙ sym fb
one_fault front.Mark starts text place a b fa fb = fa.1 ∙ sym fb.1
