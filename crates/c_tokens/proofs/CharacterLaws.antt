-- Bytes that are read from quote to quote are a character constant, and a character constant is read so.
use Rattle.std.proofs.Common.{◌≡◌, ◌≢◌, ℕ, ◌+◌, ◌*◌, ◌<◌, ◌≤◌, Bool, true, false, ◌&&◌, eqb, ltb, cond, List, [], ◌∷◌, ◌++◌, length, Option, Some, None, refl, ap, ap₂, ◌∙◌, subst, arith}
use Rattle.std.specs.List.{list_all}
use Rattle.std.proofs.lemmas.Bool.Decides.{nat_tests}
use Rattle.c_tokens.specs.declared.bytes.ByteClass.TheVariants as class
use Rattle.c_tokens.specs.declared.quoted.Reading.{Reading}
use Rattle.c_tokens.specs.declared.quoted.Reading.TheVariants as reading
use Rattle.c_tokens.specs.declared.quoted.Step.{Step}
use Rattle.c_tokens.specs.declared.quoted.Step.TheVariants as step
use Rattle.c_tokens.specs.Bytes.{is_in}
use Rattle.c_tokens.specs.Characters.{is_plain, escaped, Means, plain, simple, octal, hexadecimal, IsCharacter}
use Rattle.c_tokens.specs.Literals.{digit_value, number_from}
use Rattle.c_tokens.specs.Reading.{close, closing, escape, next_step}

-- the value with which bytes end a character, after a step
abbrev pub value_after : Step → List ℕ → (Reading → Option ℕ) → Option ℕ
value_after step.Misfit bytes go = None
value_after (step.Ends value) [] go = Some value
value_after (step.Ends value) (b ∷ bytes) go = None
value_after (step.Goes r) bytes go = go r

-- the value with which bytes end a character that is being read
abbrev pub value_from : List ℕ → Reading → Option ℕ
value_from [] r = None
value_from (b ∷ bytes) r = value_after (next_step r b) bytes (value_from bytes)

-- Behind some bytes of the inside, these bytes are the others and the last quote.
abbrev Rest : List ℕ → List ℕ → ℕ → Type 0
Rest before bytes value = (more : List ℕ) × (bytes ≡ more ++ 39 ∷ []) × Means (before ++ more) value

octal_value : (d : ℕ) → is_in class.Octal d ≡ true → digit_value d ≤ 7
octal_value d is = grind (arith, nat_tests)

hexadecimal_value : (d : ℕ) → is_in class.Hexadecimal d ≡ true → digit_value d ≤ 15
hexadecimal_value d is = grind (arith, nat_tests)

-- ---- what is read is a character constant

-- the last quote is the last byte
closes : (n b : ℕ) (bytes : List ℕ) (v : ℕ) → value_after (close n b) bytes (value_from bytes) ≡ Some v → (b ∷ bytes ≡ 39 ∷ []) × (n ≡ v)
closes n b bytes v e = go (eqb b 39) refl bytes e
  where
    go : (t : Bool) → eqb b 39 ≡ t → (bytes : List ℕ) → value_after (cond t (step.Ends n) step.Misfit) bytes (value_from bytes) ≡ Some v
        → (b ∷ bytes ≡ 39 ∷ []) × (n ≡ v)
    go true is [] e = (let b_is : b ≡ 39 = grind (arith, nat_tests) in ap (λ x. x ∷ []) b_is, cc)
    go true is (x ∷ bytes) e = cc
    go false is bytes e = cc

closed : (n : ℕ) (bytes : List ℕ) (v : ℕ) → value_from bytes (reading.Close n) ≡ Some v → (bytes ≡ 39 ∷ []) × (n ≡ v)
unfolding next_step
closed n [] v e = cc
closed n (b ∷ bytes) v e = closes n b bytes v e

two_octals : (d1 d2 : ℕ) (bytes : List ℕ) (v : ℕ) → is_in class.Octal d1 ≡ true → is_in class.Octal d2 ≡ true
    → value_from bytes (reading.OctalDigits (8 * digit_value d1 + digit_value d2)) ≡ Some v → Rest (92 ∷ d1 ∷ d2 ∷ []) bytes v
unfolding next_step
two_octals d1 d2 [] v is1 is2 e = cc
two_octals d1 d2 (b ∷ bytes) v is1 is2 e = go (ltb (8 * digit_value d1 + digit_value d2) 32) refl (is_in class.Octal b) refl e
  where
    two : (b ∷ bytes ≡ 39 ∷ []) × (8 * digit_value d1 + digit_value d2 ≡ v) → Rest (92 ∷ d1 ∷ d2 ∷ []) (b ∷ bytes) v
    two h =
        let a = octal_value d1 is1 in
        let c = octal_value d2 is2 in
        ([], h.0, octal {digits = d1 ∷ d2 ∷ []} {value = v} (rw (is1, is2) refl) (omega arith) (omega arith) (omega arith) (omega arith))

    three : is_in class.Octal b ≡ true → ltb (8 * digit_value d1 + digit_value d2) 32 ≡ true
        → (bytes ≡ 39 ∷ []) × (8 * (8 * digit_value d1 + digit_value d2) + digit_value b ≡ v) → Rest (92 ∷ d1 ∷ d2 ∷ []) (b ∷ bytes) v
    three is3 less h =
        let a = octal_value d1 is1 in
        let c = octal_value d2 is2 in
        let d = octal_value b is3 in
        let few : 8 * digit_value d1 + digit_value d2 < 32 = grind (arith, nat_tests) in
        (b ∷ [], ap (λ x. b ∷ x) h.0, octal {digits = d1 ∷ d2 ∷ b ∷ []} {value = v} (rw (is1, is2, is3) refl) (omega arith) (omega arith) (omega arith) (omega arith))

    go : (t : Bool) → ltb (8 * digit_value d1 + digit_value d2) 32 ≡ t → (u : Bool) → is_in class.Octal b ≡ u
        → value_after (cond (t && u) (step.Goes (reading.Close (8 * (8 * digit_value d1 + digit_value d2) + digit_value b))) (close (8 * digit_value d1 + digit_value d2) b)) bytes (value_from bytes) ≡ Some v
        → Rest (92 ∷ d1 ∷ d2 ∷ []) (b ∷ bytes) v
    go true less true is3 e = three is3 less (closed _ bytes v e)
    go true less false is3 e = two (closes _ b bytes v e)
    go false less u is3 e = two (closes _ b bytes v e)

one_octal : (d1 : ℕ) (bytes : List ℕ) (v : ℕ) → is_in class.Octal d1 ≡ true
    → value_from bytes (reading.OctalDigit (digit_value d1)) ≡ Some v → Rest (92 ∷ d1 ∷ []) bytes v
unfolding next_step
one_octal d1 [] v is1 e = cc
one_octal d1 (b ∷ bytes) v is1 e = go (ltb (digit_value d1) 8) refl (is_in class.Octal b) refl e
  where
    one : (b ∷ bytes ≡ 39 ∷ []) × (digit_value d1 ≡ v) → Rest (92 ∷ d1 ∷ []) (b ∷ bytes) v
    one h =
        let a = octal_value d1 is1 in
        ([], h.0, octal {digits = d1 ∷ []} {value = v} (rw is1 refl) (omega arith) (omega arith) (omega arith) (omega arith))

    more : Rest (92 ∷ d1 ∷ b ∷ []) bytes v → Rest (92 ∷ d1 ∷ []) (b ∷ bytes) v
    more r = (b ∷ r.0, ap (λ x. b ∷ x) r.1, r.2)

    go : (t : Bool) → ltb (digit_value d1) 8 ≡ t → (u : Bool) → is_in class.Octal b ≡ u
        → value_after (cond (t && u) (step.Goes (reading.OctalDigits (8 * digit_value d1 + digit_value b))) (close (digit_value d1) b)) bytes (value_from bytes) ≡ Some v
        → Rest (92 ∷ d1 ∷ []) (b ∷ bytes) v
    go true less true is2 e = more (two_octals d1 b bytes v is1 is2 e)
    go true less false is2 e = one (closes _ b bytes v e)
    go false less u is2 e = one (closes _ b bytes v e)

one_hexadecimal : (d1 : ℕ) (bytes : List ℕ) (v : ℕ) → is_in class.Hexadecimal d1 ≡ true
    → value_from bytes (reading.HexadecimalDigit (digit_value d1)) ≡ Some v → Rest (92 ∷ 120 ∷ d1 ∷ []) bytes v
unfolding next_step
one_hexadecimal d1 [] v is1 e = cc
one_hexadecimal d1 (b ∷ bytes) v is1 e = go (ltb (digit_value d1) 16) refl (is_in class.Hexadecimal b) refl e
  where
    one : (b ∷ bytes ≡ 39 ∷ []) × (digit_value d1 ≡ v) → Rest (92 ∷ 120 ∷ d1 ∷ []) (b ∷ bytes) v
    one h = ([], h.0, hexadecimal {digits = d1 ∷ []} {value = v} (rw is1 refl) (omega arith) (omega arith) (omega arith))

    two : is_in class.Hexadecimal b ≡ true → (bytes ≡ 39 ∷ []) × (16 * digit_value d1 + digit_value b ≡ v) → Rest (92 ∷ 120 ∷ d1 ∷ []) (b ∷ bytes) v
    two is2 h = (b ∷ [], ap (λ x. b ∷ x) h.0, hexadecimal {digits = d1 ∷ b ∷ []} {value = v} (rw (is1, is2) refl) (omega arith) (omega arith) (omega arith))

    go : (t : Bool) → ltb (digit_value d1) 16 ≡ t → (u : Bool) → is_in class.Hexadecimal b ≡ u
        → value_after (cond (t && u) (step.Goes (reading.Close (16 * digit_value d1 + digit_value b))) (close (digit_value d1) b)) bytes (value_from bytes) ≡ Some v
        → Rest (92 ∷ 120 ∷ d1 ∷ []) (b ∷ bytes) v
    go true less true is2 e = two is2 (closed _ bytes v e)
    go true less false is2 e = one (closes _ b bytes v e)
    go false less u is2 e = one (closes _ b bytes v e)

no_hexadecimal : (bytes : List ℕ) (v : ℕ) → value_from bytes reading.Hexadecimal ≡ Some v → Rest (92 ∷ 120 ∷ []) bytes v
unfolding next_step
no_hexadecimal [] v e = cc
no_hexadecimal (b ∷ bytes) v e = go (is_in class.Hexadecimal b) refl e
  where
    more : Rest (92 ∷ 120 ∷ b ∷ []) bytes v → Rest (92 ∷ 120 ∷ []) (b ∷ bytes) v
    more r = (b ∷ r.0, ap (λ x. b ∷ x) r.1, r.2)

    go : (t : Bool) → is_in class.Hexadecimal b ≡ t
        → value_after (cond t (step.Goes (reading.HexadecimalDigit (digit_value b))) step.Misfit) bytes (value_from bytes) ≡ Some v
        → Rest (92 ∷ 120 ∷ []) (b ∷ bytes) v
    go true is e = more (one_hexadecimal b bytes v is e)
    go false is e = cc

after_backslash : (bytes : List ℕ) (v : ℕ) → value_from bytes reading.Escape ≡ Some v → Rest (92 ∷ []) bytes v
unfolding next_step
after_backslash [] v e = cc
after_backslash (b ∷ bytes) v e = go (is_in class.Octal b) refl (eqb b 120) refl (escaped b) refl e
  where
    one : Rest (92 ∷ b ∷ []) bytes v → Rest (92 ∷ []) (b ∷ bytes) v
    one r = (b ∷ r.0, ap (λ x. b ∷ x) r.1, r.2)

    two : b ≡ 120 → Rest (92 ∷ 120 ∷ []) bytes v → Rest (92 ∷ []) (b ∷ bytes) v
    two is r = (120 ∷ r.0, ap₂ (λ x xs. x ∷ xs) is r.1, r.2)

    three : (w : ℕ) → escaped b ≡ Some w → (bytes ≡ 39 ∷ []) × (w ≡ v) → Rest (92 ∷ []) (b ∷ bytes) v
    three w is h = (b ∷ [], ap (λ x. b ∷ x) h.0, simple {b = b} {value = v} (is ∙ ap (λ x. Some x) h.1))

    go : (t : Bool) → is_in class.Octal b ≡ t → (u : Bool) → eqb b 120 ≡ u → (o : Option ℕ) → escaped b ≡ o
        → value_after (cond t (step.Goes (reading.OctalDigit (digit_value b))) (cond u (step.Goes reading.Hexadecimal) (closing o))) bytes (value_from bytes) ≡ Some v
        → Rest (92 ∷ []) (b ∷ bytes) v
    go true is u ux o os e = one (one_octal b bytes v is e)
    go false is true ux o os e = two (grind (arith, nat_tests)) (no_hexadecimal bytes v e)
    go false is false ux None os e = cc
    go false is false ux (Some w) os e = three w os (closed w bytes v e)

after_quote : (bytes : List ℕ) (v : ℕ) → value_from bytes reading.Inside ≡ Some v → Rest [] bytes v
unfolding next_step
after_quote [] v e = cc
after_quote (b ∷ bytes) v e = go (eqb b 92) refl (is_plain b) refl e
  where
    one : b ≡ 92 → Rest (92 ∷ []) bytes v → Rest [] (b ∷ bytes) v
    one is r = (92 ∷ r.0, ap₂ (λ x xs. x ∷ xs) is r.1, r.2)

    two : is_plain b ≡ true → (bytes ≡ 39 ∷ []) × (b ≡ v) → Rest [] (b ∷ bytes) v
    two is h = (b ∷ [], ap (λ x. b ∷ x) h.0, subst (λ x. Means (b ∷ []) x) h.1 (plain {b = b} is))

    go : (t : Bool) → eqb b 92 ≡ t → (u : Bool) → is_plain b ≡ u
        → value_after (cond t (step.Goes reading.Escape) (cond u (step.Goes (reading.Close b)) step.Misfit)) bytes (value_from bytes) ≡ Some v
        → Rest [] (b ∷ bytes) v
    go true is u us e = one (grind (arith, nat_tests)) (after_backslash bytes v e)
    go false is true us e = two us (closed b bytes v e)
    go false is false us e = cc

pub value_from-character : (bytes : List ℕ) (v : ℕ) → value_from bytes reading.Quote ≡ Some v → IsCharacter bytes v
unfolding next_step
value_from-character [] v e = cc
value_from-character (b ∷ bytes) v e = go (eqb b 39) refl e
  where
    whole : b ≡ 39 → Rest [] bytes v → IsCharacter (b ∷ bytes) v
    whole is r = record { inside = r.0; quoted = ap₂ (λ x xs. x ∷ xs) is r.1; means = r.2 }

    go : (t : Bool) → eqb b 39 ≡ t
        → value_after (cond t (step.Goes reading.Inside) step.Misfit) bytes (value_from bytes) ≡ Some v → IsCharacter (b ∷ bytes) v
    go true is e = whole (grind (arith, nat_tests)) (after_quote bytes v e)
    go false is e = cc

-- ---- a character constant is read

octal-least : (d : ℕ) → is_in class.Octal d ≡ true → 48 ≤ d
octal-least d is = grind (arith, nat_tests)

octal-most : (d : ℕ) → is_in class.Octal d ≡ true → d ≤ 55
octal-most d is = grind (arith, nat_tests)

no_equal : (a b : ℕ) → a ≢ b → eqb a b ≡ false
no_equal a b other = grind (arith, nat_tests)

escaped-octal : (b : ℕ) → is_in class.Octal b ≡ true → escaped b ≡ None
escaped-octal b is =
    let low = octal-least b is in
    let high = octal-most b is in
    rw (
      no_equal b 110 (omega arith),
      no_equal b 116 (omega arith),
      no_equal b 114 (omega arith),
      no_equal b 97 (omega arith),
      no_equal b 98 (omega arith),
      no_equal b 102 (omega arith),
      no_equal b 118 (omega arith),
      no_equal b 92 (omega arith),
      no_equal b 39 (omega arith),
      no_equal b 34 (omega arith),
      no_equal b 63 (omega arith),
    ) refl

escape-simple : (b v : ℕ) → escaped b ≡ Some v → escape b ≡ step.Goes (reading.Close v)
escape-simple b v is = go (is_in class.Octal b) refl (eqb b 120) refl
  where
    go : (t : Bool) → is_in class.Octal b ≡ t → (u : Bool) → eqb b 120 ≡ u
        → cond t (step.Goes (reading.OctalDigit (digit_value b))) (cond u (step.Goes reading.Hexadecimal) (closing (escaped b))) ≡ step.Goes (reading.Close v)
    go true t_is u u_is = let none = escaped-octal b t_is in cc
    go false t_is true u_is = let b_is : b ≡ 120 = grind (arith, nat_tests) in let none : escaped b ≡ None = rw b_is refl in cc
    go false t_is false u_is = rw is refl

-- a step that a digit cannot take closes the character
and_false : (t : Bool) → (t && false) ≡ false
and_false true = refl
and_false false = refl

less : (n m : ℕ) → n < m → ltb n m ≡ true
less n m h = grind (arith, nat_tests)

pub and_parts : (a b : Bool) → (a && b) ≡ true → (a ≡ true) × (b ≡ true)
and_parts true b h = (refl, h)
and_parts false b h = cc

plain-no_backslash : (b : ℕ) → is_plain b ≡ true → eqb b 92 ≡ false
plain-no_backslash b is = grind (arith, nat_tests)

-- what a quote does behind digits, and what one more digit does
pub octal_digit-quote : (n : ℕ) → value_from (39 ∷ []) (reading.OctalDigit n) ≡ Some n
unfolding next_step
octal_digit-quote n = rw (and_false (ltb n 8)) refl

pub octal_digits-quote : (n : ℕ) → value_from (39 ∷ []) (reading.OctalDigits n) ≡ Some n
unfolding next_step
octal_digits-quote n = rw (and_false (ltb n 32)) refl

pub hexadecimal_digit-quote : (n : ℕ) → value_from (39 ∷ []) (reading.HexadecimalDigit n) ≡ Some n
unfolding next_step
hexadecimal_digit-quote n = rw (and_false (ltb n 16)) refl

pub close-quote : (n : ℕ) → value_from (39 ∷ []) (reading.Close n) ≡ Some n
unfolding next_step
close-quote n = refl

escape-octal : (d : ℕ) (bytes : List ℕ) → is_in class.Octal d ≡ true
    → value_from (d ∷ bytes) reading.Escape ≡ value_from bytes (reading.OctalDigit (digit_value d))
unfolding next_step
escape-octal d bytes is = ap (λ t. value_after (cond t (step.Goes (reading.OctalDigit (digit_value d))) (cond (eqb d 120) (step.Goes reading.Hexadecimal) (closing (escaped d)))) bytes (value_from bytes)) is

octal_digit-octal : (n d : ℕ) (bytes : List ℕ) → n < 8 → is_in class.Octal d ≡ true
    → value_from (d ∷ bytes) (reading.OctalDigit n) ≡ value_from bytes (reading.OctalDigits (8 * n + digit_value d))
unfolding next_step
octal_digit-octal n d bytes few is =
    ap₂ (λ t u. value_after (cond (t && u) (step.Goes (reading.OctalDigits (8 * n + digit_value d))) (close n d)) bytes (value_from bytes)) (less n 8 few) is

octal_digits-octal : (n d : ℕ) (bytes : List ℕ) → n < 32 → is_in class.Octal d ≡ true
    → value_from (d ∷ bytes) (reading.OctalDigits n) ≡ value_from bytes (reading.Close (8 * n + digit_value d))
unfolding next_step
octal_digits-octal n d bytes few is =
    ap₂ (λ t u. value_after (cond (t && u) (step.Goes (reading.Close (8 * n + digit_value d))) (close n d)) bytes (value_from bytes)) (less n 32 few) is

x-hexadecimal : (d : ℕ) (bytes : List ℕ) → is_in class.Hexadecimal d ≡ true
    → value_from (d ∷ bytes) reading.Hexadecimal ≡ value_from bytes (reading.HexadecimalDigit (digit_value d))
unfolding next_step
x-hexadecimal d bytes is = ap (λ t. value_after (cond t (step.Goes (reading.HexadecimalDigit (digit_value d))) step.Misfit) bytes (value_from bytes)) is

hexadecimal_digit-hexadecimal : (n d : ℕ) (bytes : List ℕ) → n < 16 → is_in class.Hexadecimal d ≡ true
    → value_from (d ∷ bytes) (reading.HexadecimalDigit n) ≡ value_from bytes (reading.Close (16 * n + digit_value d))
unfolding next_step
hexadecimal_digit-hexadecimal n d bytes few is =
    ap₂ (λ t u. value_after (cond (t && u) (step.Goes (reading.Close (16 * n + digit_value d))) (close n d)) bytes (value_from bytes)) (less n 16 few) is

some_value : (o : Option ℕ) (n v : ℕ) → o ≡ Some n → n ≡ v → o ≡ Some v
some_value o n v e is = e ∙ ap (λ x. Some x) is

octal_read : (digits : List ℕ) (v : ℕ) → list_all (is_in class.Octal) digits ≡ true → 0 < length digits → length digits ≤ 3
    → v ≡ number_from 8 0 digits → v ≤ 255 → value_from (digits ++ 39 ∷ []) reading.Escape ≡ Some v
octal_read [] v all more few value small = absurd (omega arith)
octal_read (d1 ∷ []) v all more few value small =
    let is1 = (and_parts _ _ all).0 in
    some_value _ (digit_value d1) v (escape-octal d1 (39 ∷ []) is1 ∙ octal_digit-quote _) (omega arith)
octal_read (d1 ∷ d2 ∷ []) v all more few value small =
    let all1 = and_parts _ _ all in
    let is2 = (and_parts _ _ all1.1).0 in
    let n1 = octal_value d1 all1.0 in
    some_value _ (8 * digit_value d1 + digit_value d2) v
    (escape-octal d1 (d2 ∷ 39 ∷ []) all1.0 ∙ (octal_digit-octal (digit_value d1) d2 (39 ∷ []) (omega arith) is2 ∙ octal_digits-quote _)) (omega arith)
octal_read (d1 ∷ d2 ∷ d3 ∷ []) v all more few value small =
    let all1 = and_parts _ _ all in
    let all2 = and_parts _ _ all1.1 in
    let is3 = (and_parts _ _ all2.1).0 in
    let n1 = octal_value d1 all1.0 in
    some_value _ (8 * (8 * digit_value d1 + digit_value d2) + digit_value d3) v
    (escape-octal d1 (d2 ∷ d3 ∷ 39 ∷ []) all1.0 ∙ (octal_digit-octal (digit_value d1) d2 (d3 ∷ 39 ∷ []) (omega arith) all2.0
    ∙ (octal_digits-octal (8 * digit_value d1 + digit_value d2) d3 (39 ∷ []) (omega arith) is3 ∙ close-quote _))) (omega arith)
octal_read (d1 ∷ d2 ∷ d3 ∷ d4 ∷ ds) v all more few value small = absurd (omega arith)

hexadecimal_read : (digits : List ℕ) (v : ℕ) → list_all (is_in class.Hexadecimal) digits ≡ true → 0 < length digits → length digits ≤ 2
    → v ≡ number_from 16 0 digits → value_from (digits ++ 39 ∷ []) reading.Hexadecimal ≡ Some v
hexadecimal_read [] v all more few value = absurd (omega arith)
hexadecimal_read (d1 ∷ []) v all more few value =
    let is1 = (and_parts _ _ all).0 in
    some_value _ (digit_value d1) v (x-hexadecimal d1 (39 ∷ []) is1 ∙ hexadecimal_digit-quote _) (omega arith)
hexadecimal_read (d1 ∷ d2 ∷ []) v all more few value =
    let all1 = and_parts _ _ all in
    let is2 = (and_parts _ _ all1.1).0 in
    let n1 = hexadecimal_value d1 all1.0 in
    some_value _ (16 * digit_value d1 + digit_value d2) v
    (x-hexadecimal d1 (d2 ∷ 39 ∷ []) all1.0 ∙ (hexadecimal_digit-hexadecimal (digit_value d1) d2 (39 ∷ []) (omega arith) is2 ∙ close-quote _)) (omega arith)
hexadecimal_read (d1 ∷ d2 ∷ d3 ∷ ds) v all more few value = absurd (omega arith)

inside_read : {bytes : List ℕ} {v : ℕ} → Means bytes v → value_from (bytes ++ 39 ∷ []) reading.Inside ≡ Some v
unfolding next_step
inside_read (plain {b = b} is) =
    ap₂ (λ t u. value_after (cond t (step.Goes reading.Escape) (cond u (step.Goes (reading.Close b)) step.Misfit)) (39 ∷ []) (value_from (39 ∷ []))) (plain-no_backslash b is) is
    ∙ close-quote b
inside_read (simple {b = b} {value = v} is) = ap (λ t. value_after t (39 ∷ []) (value_from (39 ∷ []))) (escape-simple b v is)
inside_read (octal {digits = digits} {value = v} all more few value small) = octal_read digits v all more few value small
inside_read (hexadecimal {digits = digits} {value = v} all more few value) = hexadecimal_read digits v all more few value

pub character-value_from : (bytes : List ℕ) (v : ℕ) → IsCharacter bytes v → value_from bytes reading.Quote ≡ Some v
unfolding next_step
character-value_from bytes v is = ap (λ x. value_from x reading.Quote) is.quoted ∙ inside_read is.means
