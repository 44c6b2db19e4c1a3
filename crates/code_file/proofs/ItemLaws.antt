-- Bytes, words, longs, numbers and types at the front of bytes.
use Rattle.std.proofs.Common.{◌≡◌, refl, sym, ap, subst, ◌∙◌, ℕ, zero, suc, ◌+◌, ◌-◌, ◌^◌, ◌<◌, ◌≤◌, ◌==◌, ◌&&◌}
use Rattle.std.proofs.Common.{Bool, true, false, cond, List, [], ◌∷◌, length, map, Option, Some, None, ℤ, pos, negsuc}
use Rattle.std.proofs.Common.{arith, eqb-true, ◌⊎◌, inl, inr}
use Rattle.std.specs.Prelude.{nat_lt, nat_le, slice_get}
use Rattle.std.specs.Option.{option_map}
use Rattle.std.proofs.lemmas.List.{append-nil}
use Rattle.std.specs.Int.{from_le_bytes, w32, w64}
use Rattle.std.proofs.lemmas.Nat.{le_bytes_4, le_bytes_8}
use Rattle.std.proofs.lemmas.Bool.{leb-true, lt-ltb, le-ltb, le-leb, cases_lt}
use Rattle.std.proofs.lemmas.Option.{slice_get-map, same_Some, none-some}
use Rattle.code_runs.specs.CodeChecks.{is_number}
use Rattle.code_file.specs.OpItems.{number_bytes}
use Rattle.int_ops.specs.declared.types.IntType.{IntType}
use Rattle.int_ops.specs.declared.types.IntType.TheVariants as type
use Rattle.int_ops.specs.Codes.{type_code}
use Rattle.gcov_items.specs.Items.{word_bytes, long_bytes}
use Rattle.code_file.specs.declared.fault.CodeFault.{CodeFault}
use Rattle.code_file.specs.declared.fault.CodeFault.TheVariants as fault
use Rattle.code_file.specs.Reading.{Fault, with_byte, with_word, with_long, wanted, with_field, number_of}
use Rattle.code_file.specs.Reading.{with_number, types, with_type}
use Rattle.code_file.proofs.Outcomes.{IsItemFault, AreBytes, Outcome, takes, refuses, ends, nothing_if, bytes_each}
use Rattle.code_file.proofs.Outcomes.{followed}

-- a byte
abbrev pub IsByte : List ℕ → ℕ → Type 0
IsByte used b = used ≡ b ∷ []

pub byte_outcome : (at : ℕ) (bytes : List ℕ) → Outcome (λ bytes then. with_byte bytes at then) IsByte at bytes
byte_outcome at [] = ends (λ then. ap (λ n. Fault (fault.Short n)) (omega arith))
byte_outcome at (b ∷ rest) = takes b (b ∷ []) rest refl refl (λ tail then. refl)

-- a word
abbrev pub IsWord : List ℕ → ℕ → Type 0
IsWord used n = (length used ≡ 4) × (AreBytes used → used ≡ word_bytes n)

four_spelled : (a b c d : ℕ) → AreBytes (a ∷ b ∷ c ∷ d ∷ [])
    → a ∷ b ∷ c ∷ d ∷ [] ≡ word_bytes (from_le_bytes w32 (a ∷ b ∷ c ∷ d ∷ []))
four_spelled a b c d h =
    sym (le_bytes_4 (a ∷ b ∷ c ∷ d ∷ []) (from_le_bytes w32 (a ∷ b ∷ c ∷ d ∷ [])) refl
    (bytes_each (a ∷ b ∷ c ∷ d ∷ []) h) refl)

pub word_outcome : (at : ℕ) (bytes : List ℕ) → Outcome (λ bytes then. with_word bytes at then) IsWord at bytes
word_outcome at [] = ends (λ then. refl)
word_outcome at (a ∷ []) = ends (λ then. refl)
word_outcome at (a ∷ b ∷ []) = ends (λ then. refl)
word_outcome at (a ∷ b ∷ c ∷ []) = ends (λ then. refl)
word_outcome at (a ∷ b ∷ c ∷ d ∷ rest) =
    takes (from_le_bytes w32 (a ∷ b ∷ c ∷ d ∷ [])) (a ∷ b ∷ c ∷ d ∷ []) rest refl (refl, four_spelled a b c d)
    (λ tail then. refl)

-- a long
abbrev pub IsLong : List ℕ → ℕ → Type 0
IsLong used n = (length used ≡ 8) × (AreBytes used → used ≡ long_bytes n)

pub long_outcome : (at : ℕ) (bytes : List ℕ) → Outcome (λ bytes then. with_long bytes at then) IsLong at bytes
long_outcome at [] = ends (λ then. refl)
long_outcome at (a ∷ []) = ends (λ then. refl)
long_outcome at (a ∷ b ∷ []) = ends (λ then. refl)
long_outcome at (a ∷ b ∷ c ∷ []) = ends (λ then. refl)
long_outcome at (a ∷ b ∷ c ∷ d ∷ []) = ends (λ then. refl)
long_outcome at (a ∷ b ∷ c ∷ d ∷ e ∷ []) = ends (λ then. refl)
long_outcome at (a ∷ b ∷ c ∷ d ∷ e ∷ f ∷ []) = ends (λ then. refl)
long_outcome at (a ∷ b ∷ c ∷ d ∷ e ∷ f ∷ g ∷ []) = ends (λ then. refl)
long_outcome at (a ∷ b ∷ c ∷ d ∷ e ∷ f ∷ g ∷ h ∷ rest) =
    let eight : List ℕ = a ∷ b ∷ c ∷ d ∷ e ∷ f ∷ g ∷ h ∷ [] in
    takes (from_le_bytes w64 eight) eight rest refl
    (refl, λ are. sym (le_bytes_8 eight (from_le_bytes w64 eight) refl (bytes_each eight are) refl))
    (λ tail then. refl)

-- a word that passes a test
abbrev pub IsField : (ℕ → Bool) → List ℕ → ℕ → Type 0
IsField test used n = (test n ≡ true) × IsWord used n

pub field_outcome : (test : ℕ → Bool) (at : ℕ) (bytes : List ℕ)
    → Outcome (λ bytes then. with_field test bytes at then) (IsField test) at bytes
field_outcome test at bytes =
    followed (λ bytes then. with_word bytes at then)
    (λ n next bytes then. wanted (test n) (fault.Field at) (then n bytes next)) IsWord
    (λ n next used x. (used ≡ []) × (x ≡ n) × (test n ≡ true)) (IsField test) at bytes (word_outcome at bytes)
    (λ n next rest. nothing_if (λ used x. (used ≡ []) × (x ≡ n) × (test n ≡ true)) next rest (fault.Field at) n (test n)
    tt (λ e. (refl, refl, e)))
    (λ n used x more g k. rw (k.0, k.1) (rw append-nil (k.2, g)))

-- ---- numbers

abbrev pub IsNumberField : List ℕ → ℤ → Type 0
IsNumberField used n = (length used ≡ 9) × (AreBytes used → (is_number n ≡ true) × (used ≡ number_bytes n))

long_fits : (a b c d e f g h : ℕ) → AreBytes (a ∷ b ∷ c ∷ d ∷ e ∷ f ∷ g ∷ h ∷ [])
    → from_le_bytes w64 (a ∷ b ∷ c ∷ d ∷ e ∷ f ∷ g ∷ h ∷ []) < 2 ^ 64
long_fits a b c d e f g h are =
    omega (
      arith,
      are.0,
      are.1.0,
      are.1.1.0,
      are.1.1.1.0,
      are.1.1.1.1.0,
      are.1.1.1.1.1.0,
      are.1.1.1.1.1.1.0,
      are.1.1.1.1.1.1.1.0,
    )

not_below : (m : ℕ) → nat_lt m (2 ^ 63) ≡ false → 2 ^ 63 ≤ m
not_below m h = go (cases_lt m (2 ^ 63))
  where
    go : (m < 2 ^ 63) ⊎ (2 ^ 63 ≤ m) → 2 ^ 63 ≤ m
    go (inl lt) = let t = lt-ltb m (2 ^ 63) lt in absurd (cc)
    go (inr ge) = ge

small_number : (m : ℕ) → m < 2 ^ 64 → is_number (pos m) ≡ true
small_number m lt = rw (le-leb m (2 ^ 64 - 1) (omega (arith, lt))) refl

number_spelled : (mark m : ℕ) (n : ℤ) → number_of mark m ≡ Some n → m < 2 ^ 64
    → (is_number n ≡ true) × (mark ∷ long_bytes m ≡ number_bytes n)
number_spelled mark m n e lt =
    go (mark == 0) (mark == 1) (nat_lt m (2 ^ 63)) (nat_le (2 ^ 63) m) refl refl refl refl e
  where
    go : (z o l g : Bool) → (mark == 0) ≡ z → (mark == 1) ≡ o → nat_lt m (2 ^ 63) ≡ l → nat_le (2 ^ 63) m ≡ g
        → cond z (Some (cond l (pos m) (negsuc (2 ^ 64 - 1 - m)))) (cond (o && g) (Some (pos m)) None) ≡ Some n
        → (is_number n ≡ true) × (mark ∷ long_bytes m ≡ number_bytes n)
    go true o true g p q r s e =
        let same : pos m ≡ n = same_Some (pos m) n e in
        subst (λ (x : ℤ). (is_number x ≡ true) × (mark ∷ long_bytes m ≡ number_bytes x)) same
        (small_number m lt, rw (r, eqb-true mark 0 p) refl)
    go true o false g p q r s e =
        let same : negsuc (2 ^ 64 - 1 - m) ≡ n = same_Some (negsuc (2 ^ 64 - 1 - m)) n e in
        let high : 2 ^ 63 ≤ m = not_below m r in
        let back : 2 ^ 64 - 1 - (2 ^ 64 - 1 - m) ≡ m = omega (arith, lt) in
        subst (λ (x : ℤ). (is_number x ≡ true) × (mark ∷ long_bytes m ≡ number_bytes x)) same
        (rw (le-leb (2 ^ 64 - 1 - m) (2 ^ 63 - 1) (omega (arith, high))) refl, rw (back, eqb-true mark 0 p) refl)
    go false true l true p q r s e =
        let same : pos m ≡ n = same_Some (pos m) n e in
        let low : nat_lt m (2 ^ 63) ≡ false = le-ltb m (2 ^ 63) (leb-true (2 ^ 63) m s) in
        subst (λ (x : ℤ). (is_number x ≡ true) × (mark ∷ long_bytes m ≡ number_bytes x)) same
        (small_number m lt, rw (low, eqb-true mark 1 q) refl)
    go false true l false p q r s e = absurd (none-some n e)
    go false false l g p q r s e = absurd (none-some n e)

pub number_outcome : (f : CodeFault) → IsItemFault f → (at : ℕ) (bytes : List ℕ)
    → Outcome (λ bytes then. with_number f bytes at then) IsNumberField at bytes
number_outcome f is at [] = ends (λ then. refl)
number_outcome f is at (m ∷ []) = ends (λ then. refl)
number_outcome f is at (m ∷ a ∷ []) = ends (λ then. refl)
number_outcome f is at (m ∷ a ∷ b ∷ []) = ends (λ then. refl)
number_outcome f is at (m ∷ a ∷ b ∷ c ∷ []) = ends (λ then. refl)
number_outcome f is at (m ∷ a ∷ b ∷ c ∷ d ∷ []) = ends (λ then. refl)
number_outcome f is at (m ∷ a ∷ b ∷ c ∷ d ∷ e ∷ []) = ends (λ then. refl)
number_outcome f is at (m ∷ a ∷ b ∷ c ∷ d ∷ e ∷ g ∷ []) = ends (λ then. refl)
number_outcome f is at (m ∷ a ∷ b ∷ c ∷ d ∷ e ∷ g ∷ h ∷ []) = ends (λ then. refl)
number_outcome f is at (m ∷ a ∷ b ∷ c ∷ d ∷ e ∷ g ∷ h ∷ i ∷ rest) = go (number_of m (from_le_bytes w64 eight)) refl
  where
    eight : List ℕ
    eight = a ∷ b ∷ c ∷ d ∷ e ∷ g ∷ h ∷ i ∷ []

    go : (o : Option ℤ) → number_of m (from_le_bytes w64 eight) ≡ o
        → Outcome (λ bytes then. with_number f bytes at then) IsNumberField at
        (m ∷ a ∷ b ∷ c ∷ d ∷ e ∷ g ∷ h ∷ i ∷ rest)
    go None is-none = refuses f is (λ tail then. rw is-none refl)
    go (Some n) is-some =
        takes n (m ∷ eight) rest refl (
          refl,
          λ are.
              (let k = number_spelled m (from_le_bytes w64 eight) n is-some (long_fits a b c d e g h i are.1) in (
                k.0,
                ap (λ (l : List ℕ). m ∷ l)
                    (sym (le_bytes_8 eight (from_le_bytes w64 eight) refl (bytes_each eight are.1) refl)) ∙ k.1,
              )),
        )
        (λ tail then. rw is-some refl)

-- ---- types

abbrev pub IsTypeByte : List ℕ → IntType → Type 0
IsTypeByte used t = used ≡ type_code t ∷ []

pub type_at : (t : IntType) → slice_get types (type_code t) ≡ Some t
type_at type.Bool = refl
type_at type.Char = refl
type_at type.SignedChar = refl
type_at type.UnsignedChar = refl
type_at type.Short = refl
type_at type.UnsignedShort = refl
type_at type.Int = refl
type_at type.UnsignedInt = refl
type_at type.Long = refl
type_at type.UnsignedLong = refl

-- numbers one after another
abbrev pub up_from : ℕ → ℕ → List ℕ
up_from a zero = []
up_from a (suc n) = a ∷ up_from (suc a) n

up_at : (a n k x : ℕ) → slice_get (up_from a n) k ≡ Some x → x ≡ a + k
up_at a zero k x e = absurd (none-some x e)
up_at a (suc n) zero x e = let same = same_Some a x e in omega (arith, same)
up_at a (suc n) (suc k) x e = let same = up_at (suc a) n k x e in omega (arith, same)

-- what stands in the order of its numbers has its place as its number
pub in_order : {A : Type 0} (f : A → ℕ) (xs : List A) (n : ℕ) → map f xs ≡ up_from 0 n → (k : ℕ) (x : A)
    → slice_get xs k ≡ Some x → f x ≡ k
in_order f xs n h k x e =
    let there : slice_get (up_from 0 n) k ≡ Some (f x) =
    subst (λ (l : List ℕ). slice_get l k ≡ Some (f x)) h (slice_get-map f xs k ∙ ap (option_map f) e) in
    let same = up_at 0 n k (f x) there in omega (arith, same)

pub type_outcome : (f : CodeFault) → IsItemFault f → (at : ℕ) (bytes : List ℕ)
    → Outcome (λ bytes then. with_type f bytes at then) IsTypeByte at bytes
type_outcome f is at [] = ends (λ then. ap (λ n. Fault (fault.Short n)) (omega arith))
type_outcome f is at (b ∷ rest) = go (slice_get types b) refl
  where
    go : (o : Option IntType) → slice_get types b ≡ o
        → Outcome (λ bytes then. with_type f bytes at then) IsTypeByte at (b ∷ rest)
    go None e = refuses f is (λ tail then. rw e refl)
    go (Some t) e =
        takes t (b ∷ []) rest refl (ap (λ (n : ℕ). n ∷ []) (sym (in_order type_code types 10 refl b t e))) (λ tail then. rw e refl)
