-- How far a text is read as a character is where it stops fitting one.
use Rattle.std.proofs.Common.{◌≡◌, ℕ, suc, ◌+◌, ◌≤◌, List, [], ◌∷◌, ◌++◌, length, take, drop, Option, Some, None, Ok, Err, refl, sym, ap, ap₂, ◌∙◌, subst, arith, inl, inr, append_assoc}
use Rattle.std.specs.Prelude.{◌⊎◌}
use Rattle.std.proofs.lemmas.List.{append-nil, take-append-drop}
use Rattle.c_tokens.specs.declared.quoted.Reading.{Reading}
use Rattle.c_tokens.specs.declared.quoted.Reading.TheVariants as reading
use Rattle.c_tokens.specs.declared.quoted.Step.{Step}
use Rattle.c_tokens.specs.declared.quoted.Step.TheVariants as step
use Rattle.c_tokens.specs.Characters.{IsCharacter, Fits, StopsFitting}
use Rattle.c_tokens.specs.Reading.{next_step, after_step, character_at}
use Rattle.c_tokens.proofs.CharacterLaws.{value_after, value_from, octal_digit-quote, octal_digits-quote, hexadecimal_digit-quote, close-quote, value_from-character, character-value_from}

-- the bytes lead from one reading to another
abbrev walk_after : Step → (Reading → Option Reading) → Option Reading
walk_after step.Misfit go = None
walk_after (step.Ends value) go = None
walk_after (step.Goes r) go = go r

abbrev walk : List ℕ → Reading → Option Reading
walk [] r = Some r
walk (b ∷ bytes) r = walk_after (next_step r b) (walk bytes)

-- every reading can be completed
completed : (r : Reading) → (rest : List ℕ) × (v : ℕ) × (value_from rest r ≡ Some v)
unfolding next_step
completed reading.Quote = (39 ∷ 97 ∷ 39 ∷ [], 97, refl)
completed reading.Inside = (97 ∷ 39 ∷ [], 97, refl)
completed reading.Escape = (110 ∷ 39 ∷ [], 10, refl)
completed (reading.OctalDigit n) = (39 ∷ [], n, octal_digit-quote n)
completed (reading.OctalDigits n) = (39 ∷ [], n, octal_digits-quote n)
completed reading.Hexadecimal = (48 ∷ 39 ∷ [], 0, refl)
completed (reading.HexadecimalDigit n) = (39 ∷ [], n, hexadecimal_digit-quote n)
completed (reading.Close n) = (39 ∷ [], n, close-quote n)

-- after the bytes of a walk, a value is what the reading that it leads to gives
value_from-walk : (bytes rest : List ℕ) (r s : Reading) → walk bytes r ≡ Some s → value_from (bytes ++ rest) r ≡ value_from rest s
value_from-walk [] rest r s e = ap (value_from rest) (let same : r ≡ s = cc in same)
value_from-walk (b ∷ bytes) rest r s e = go (next_step r b) (λ t. value_from-walk bytes rest t s) e
  where
    go : (t : Step) → ((u : Reading) → walk bytes u ≡ Some s → value_from (bytes ++ rest) u ≡ value_from rest s)
        → walk_after t (walk bytes) ≡ Some s → value_after t (bytes ++ rest) (value_from (bytes ++ rest)) ≡ value_from rest s
    go step.Misfit again e = cc
    go (step.Ends value) again e = cc
    go (step.Goes n) again e = again n e

-- bytes that begin a character constant either lead to a reading or are the whole constant
walked : (bytes rest : List ℕ) (r : Reading) (v : ℕ) → value_from (bytes ++ rest) r ≡ Some v
    → ((s : Reading) × (walk bytes r ≡ Some s)) ⊎ (value_from bytes r ≡ Some v)
walked [] rest r v e = inl (r, refl)
walked (b ∷ bytes) rest r v e = go (next_step r b) bytes (λ t. walked bytes rest t v) e
  where
    go : (t : Step) (bytes : List ℕ)
        → ((u : Reading) → value_from (bytes ++ rest) u ≡ Some v → ((s : Reading) × (walk bytes u ≡ Some s)) ⊎ (value_from bytes u ≡ Some v))
        → value_after t (bytes ++ rest) (value_from (bytes ++ rest)) ≡ Some v
        → ((s : Reading) × (walk_after t (walk bytes) ≡ Some s)) ⊎ (value_after t bytes (value_from bytes) ≡ Some v)
    go step.Misfit bytes again e = cc
    go (step.Ends value) [] again e = inr (ends rest e)
      where
        ends : (rest : List ℕ) → value_after (step.Ends value) rest (value_from rest) ≡ Some v → Some value ≡ Some v
        ends [] e = e
        ends (x ∷ rest) e = cc
    go (step.Ends value) (x ∷ bytes) again e = cc
    go (step.Goes n) bytes again e = again n e

-- the bytes read so far, then what is read of the others
character_at-walk : (bytes rest : List ℕ) (r s : Reading) (place : ℕ) → walk bytes r ≡ Some s
    → character_at r place (bytes ++ rest) ≡ character_at s (place + length bytes) rest
character_at-walk [] rest r s place e = ap₂ (λ t n. character_at t n rest) (let same : r ≡ s = cc in same) (let more : place ≡ place + 0 = omega arith in more)
character_at-walk (b ∷ bytes) rest r s place e = go (next_step r b) (λ t. character_at-walk bytes rest t s (place + 1)) e
  where
    places : place + 1 + length bytes ≡ place + length (b ∷ bytes)
    places = omega arith

    go : (t : Step) → ((u : Reading) → walk bytes u ≡ Some s → character_at u (place + 1) (bytes ++ rest) ≡ character_at s (place + 1 + length bytes) rest)
        → walk_after t (walk bytes) ≡ Some s
        → after_step t place (λ next. character_at next (place + 1) (bytes ++ rest)) ≡ character_at s (place + length (b ∷ bytes)) rest
    go step.Misfit again e = cc
    go (step.Ends value) again e = cc
    go (step.Goes n) again e = again n e ∙ ap (λ k. character_at s k rest) places

-- a character constant at the front of a text is read whole
character_at-whole : (bytes rest : List ℕ) (r : Reading) (place v : ℕ) → value_from bytes r ≡ Some v
    → character_at r place (bytes ++ rest) ≡ Ok (v, place + length bytes)
character_at-whole [] rest r place v e = cc
character_at-whole (b ∷ bytes) rest r place v e = go (next_step r b) bytes (λ t. character_at-whole bytes rest t (place + 1) v) e
  where
    go : (t : Step) (bytes : List ℕ) → ((u : Reading) → value_from bytes u ≡ Some v → character_at u (place + 1) (bytes ++ rest) ≡ Ok (v, place + 1 + length bytes))
        → value_after t bytes (value_from bytes) ≡ Some v
        → after_step t place (λ next. character_at next (place + 1) (bytes ++ rest)) ≡ Ok (v, place + length (b ∷ bytes))
    go step.Misfit bytes again e = cc
    go (step.Ends value) [] again e = ap₂ (λ x k. Ok (x, k)) (let same : value ≡ v = cc in same) (let places : place + 1 ≡ place + length (b ∷ []) = omega arith in places)
    go (step.Ends value) (x ∷ bytes) again e = cc
    go (step.Goes n) bytes again e = again n e ∙ ap (λ k. Ok (v, k)) (let places : place + 1 + length bytes ≡ place + length (b ∷ bytes) = omega arith in places)

-- what is read whole, and what stops
character_at-ok : (text : List ℕ) (r : Reading) (place v n : ℕ) → character_at r place text ≡ Ok (v, n)
    → (k : ℕ) × (n ≡ place + k) × (value_from (take k text) r ≡ Some v)
character_at-ok [] r place v n e = cc
character_at-ok (b ∷ text) r place v n e = go (next_step r b) refl (λ t. character_at-ok text t (place + 1) v n) e
  where
    go : (t : Step) → next_step r b ≡ t
        → ((u : Reading) → character_at u (place + 1) text ≡ Ok (v, n) → (k : ℕ) × (n ≡ place + 1 + k) × (value_from (take k text) u ≡ Some v))
        → after_step t place (λ next. character_at next (place + 1) text) ≡ Ok (v, n)
        → (k : ℕ) × (n ≡ place + k) × (value_from (take k (b ∷ text)) r ≡ Some v)
    go step.Misfit is again e = cc
    go (step.Ends value) is again e =
        let pair : ◌≡◌ {A = ℕ × ℕ} (value, place + 1) (v, n) = cc in
        (1, ap (λ p. p.1) (sym pair), ap (λ s. value_after s [] (value_from [])) is ∙ ap (λ p. Some p.0) pair)
    go (step.Goes u) is again e =
        let h = again u e in
        (suc h.0, (let at = h.1 in omega arith), ap (λ s. value_after s (take h.0 text) (value_from (take h.0 text))) is ∙ h.2)

-- a reading stops behind so many bytes of a text
pub record StopsAt (text : List ℕ) (r : Reading) (count : ℕ) : Type 0 where
  pub last : Reading
  pub within : count ≤ length text
  pub leads : walk (take count text) r ≡ Some last
  pub misfit : (b : ℕ) (more : List ℕ) → drop count text ≡ b ∷ more → next_step last b ≡ step.Misfit

character_at-err : (text : List ℕ) (r : Reading) (place n : ℕ) → character_at r place text ≡ Err n
    → (k : ℕ) × (n ≡ place + k) × StopsAt text r k
character_at-err [] r place n e =
    (0, (let at : place ≡ n = cc in omega arith), record { last = r; within = omega arith; leads = refl; misfit = λ b more is. cc })
character_at-err (b ∷ text) r place n e = go (next_step r b) refl (λ t. character_at-err text t (place + 1) n) e
  where
    go : (t : Step) → next_step r b ≡ t
        → ((u : Reading) → character_at u (place + 1) text ≡ Err n → (k : ℕ) × (n ≡ place + 1 + k) × StopsAt text u k)
        → after_step t place (λ next. character_at next (place + 1) text) ≡ Err n
        → (k : ℕ) × (n ≡ place + k) × StopsAt (b ∷ text) r k
    go step.Misfit is again e =
        (0, (let at : place ≡ n = cc in omega arith), record { last = r; within = omega arith; leads = refl; misfit = λ c more e. ap (next_step r) (let same : c ≡ b = cc in same) ∙ is })
    go (step.Ends value) is again e = cc
    go (step.Goes u) is again e =
        let h = again u e in
        let s = h.2 in (
          suc h.0,
          (let at = h.1 in omega arith),
          record {
            last = s.last;
            within = (let w = s.within in omega arith);
            leads = ap (λ t. walk_after t (walk (take h.0 text))) is ∙ s.leads;
            misfit = s.misfit;
          },
        )

-- ---- the relation of character constants and the reading of a text

pub read_character : (text : List ℕ) (v n : ℕ) → character_at reading.Quote 0 text ≡ Ok (v, n) → IsCharacter (take n text) v
read_character text v n e =
    let h = character_at-ok text reading.Quote 0 v n e in
    let at : h.0 ≡ n = (let is = h.1 in omega arith) in
    subst (λ (k : ℕ). IsCharacter (take k text) v) at (value_from-character (take h.0 text) v h.2)

pub character_read : (bytes rest : List ℕ) (v : ℕ) → IsCharacter bytes v → character_at reading.Quote 0 (bytes ++ rest) ≡ Ok (v, length bytes)
character_read bytes rest v is =
    character_at-whole bytes rest reading.Quote 0 v (character-value_from bytes v is) ∙ ap (λ k. Ok (v, k)) (let same : 0 + length bytes ≡ length bytes = omega arith in same)

-- bytes that lead to a reading begin a character constant
fits : (bytes : List ℕ) (s : Reading) → walk bytes reading.Quote ≡ Some s → Fits bytes
fits bytes s leads =
    let c = completed s in
    record { rest = c.0; value = c.1; whole = value_from-character (bytes ++ c.0) c.1 (value_from-walk bytes c.0 reading.Quote s leads ∙ c.2) }

-- a byte that does not fit the reading that bytes lead to begins nothing behind them
misfit-fits : (bytes : List ℕ) (b : ℕ) (s : Reading) → walk bytes reading.Quote ≡ Some s → next_step s b ≡ step.Misfit → Fits (bytes ++ b ∷ []) → ⊥
misfit-fits bytes b s leads none_fits f =
    let whole = character-value_from _ f.value f.whole in
    let regroup : (bytes ++ b ∷ []) ++ f.rest ≡ bytes ++ (b ∷ f.rest) = append_assoc bytes (b ∷ []) f.rest in
    let none : value_from (b ∷ f.rest) s ≡ None = ap (λ t. value_after t f.rest (value_from f.rest)) none_fits in
    let some : value_from (b ∷ f.rest) s ≡ Some f.value =
    sym (value_from-walk bytes (b ∷ f.rest) reading.Quote s leads) ∙ (ap (λ x. value_from x reading.Quote) (sym regroup) ∙ whole) in
    cc

-- bytes that lead to a reading are no character constant
walk-character : (bytes : List ℕ) (s : Reading) (v : ℕ) → walk bytes reading.Quote ≡ Some s → IsCharacter bytes v → ⊥
walk-character bytes s v leads is =
    let some = character-value_from bytes v is in
    let none : value_from (bytes ++ []) reading.Quote ≡ None = value_from-walk bytes [] reading.Quote s leads in
    let same : bytes ++ [] ≡ bytes = append-nil bytes in
    let both : Some v ≡ None = sym some ∙ (ap (λ x. value_from x reading.Quote) (sym same) ∙ none) in
    cc

pub read_misfit : (text : List ℕ) (n : ℕ) → character_at reading.Quote 0 text ≡ Err n → StopsFitting text (take n text)
read_misfit text n e =
    let h = character_at-err text reading.Quote 0 n e in
    let at : h.0 ≡ n = (let is = h.1 in omega arith) in
    let s = h.2 in
    subst (λ (k : ℕ). StopsFitting text (take k text)) at (record {
      rest = drop h.0 text;
      parts = sym (take-append-drop h.0 text);
      fits = fits (take h.0 text) s.last s.leads;
      unfinished = λ v is. walk-character (take h.0 text) s.last v s.leads is;
      next = λ b more is f. misfit-fits (take h.0 text) b s.last s.leads (s.misfit b more is) f;
    })

-- what comes first behind a reading of a fitting front
after_front : (bytes rest : List ℕ) (s : Reading) (place : ℕ) → walk bytes reading.Quote ≡ Some s
    → ((b : ℕ) (more : List ℕ) → rest ≡ b ∷ more → Fits (bytes ++ b ∷ []) → ⊥) → character_at s place rest ≡ Err place
after_front bytes [] s place leads next = refl
after_front bytes (b ∷ rest) s place leads next = go (next_step s b) refl
  where
    more : (w : ℕ) (tail : List ℕ) → value_from (b ∷ tail) s ≡ Some w → Fits (bytes ++ b ∷ [])
    more w tail e =
        let regroup : (bytes ++ b ∷ []) ++ tail ≡ bytes ++ (b ∷ tail) = append_assoc bytes (b ∷ []) tail in
        record {
          rest = tail;
          value = w;
          whole = value_from-character _ w (ap (λ x. value_from x reading.Quote) regroup ∙ (value_from-walk bytes (b ∷ tail) reading.Quote s leads ∙ e));
        }

    go : (t : Step) → next_step s b ≡ t → after_step t place (λ n. character_at n (place + 1) rest) ≡ Err place
    go step.Misfit is = refl
    go (step.Ends value) is = absurd (next b rest refl (more value [] (ap (λ t. value_after t [] (value_from [])) is)))
    go (step.Goes u) is =
        let c = completed u in
        absurd (next b rest refl (more c.1 c.0 (ap (λ t. value_after t c.0 (value_from c.0)) is ∙ c.2)))

pub misfit_read : (text front : List ℕ) → StopsFitting text front → character_at reading.Quote 0 text ≡ Err (length front)
misfit_read text front stops = go (walked front f.rest reading.Quote f.value (character-value_from _ f.value f.whole))
  where
    f : Fits front
    f = stops.fits

    go : ((s : Reading) × (walk front reading.Quote ≡ Some s)) ⊎ (value_from front reading.Quote ≡ Some f.value)
        → character_at reading.Quote 0 text ≡ Err (length front)
    go (inl h) =
        ap (character_at reading.Quote 0) stops.parts ∙ (character_at-walk front stops.rest reading.Quote h.0 0 h.1
        ∙ (ap (λ k. character_at h.0 k stops.rest) (let same : 0 + length front ≡ length front = omega arith in same)
        ∙ after_front front stops.rest h.0 (length front) h.1 stops.next))
    go (inr h) = absurd (stops.unfinished f.value (value_from-character front f.value h))
