-- What is read is spelled so, and what is spelled so is read.
use Rattle.std.proofs.Common.{◌≡◌, ℕ, zero, suc, ◌+◌, ◌*◌, ◌/◌, ◌%◌, ◌^◌, ◌<◌, ◌≤◌, ◌==◌, Bool, true, false}
use Rattle.std.proofs.Common.{cond, ltb, leb}
use Rattle.std.proofs.Common.{List, [], ◌∷◌, ◌++◌, length, get_or, take, drop, Result, Ok, Err, refl, sym, ap}
use Rattle.std.proofs.Common.{subst, ◌∙◌}
use Rattle.std.proofs.Common.{append_assoc, append-nil, arith, inl, inr, eqb-true, eq-eqb}
use Rattle.std.specs.List.{All}
use Rattle.std.specs.Int.{Width, w32, w64, byte_len, from_le_bytes, to_le_bytes}
use Rattle.std.proofs.lemmas.Bool.{cases_lt, cases_Bool, ltb-false, le-ltb, lt-ltb, leb-true, le-leb}
use Rattle.std.proofs.lemmas.Bool.{cond-true, cond-false}
use Rattle.std.proofs.lemmas.List.{take-append-drop, length-append, length-take, get_or-drop, get_or-take, get_or_past}
use Rattle.std.proofs.lemmas.List.{nil_from_length}
use Rattle.std.proofs.lemmas.List.Elements.{All-nil, All-cons, All-head, All-tail}
use Rattle.gcov_items.specs.Items.{word_bytes, long_bytes, header_bytes}
use Rattle.gcov_records.specs.declared.fault.FileFault.{FileFault}
use Rattle.gcov_records.specs.declared.fault.FileFault.TheVariants as fault
use Rattle.gcov_records.specs.Records.{spelled_from, longs_bytes, long_record}
use Rattle.gcov_records.specs.Reading.{Got, Reading, on_got, ◌>>=◌, give, only_if, tested, number, word, long, fixed}
use Rattle.gcov_records.specs.Reading.{header, each, limited, long_size, longs}
use Rattle.gcov_records.proofs.Items.{IsWide, wide32, wide64, number_again}

-- each is a byte
abbrev pub IsBytes : List ℕ → Type 0
IsBytes bytes = (i : ℕ) → get_or bytes i 0 < 256

-- a reading and a spelling of the values that fit
pub record Spells {A : Type 0} (item : Reading A) (spell : A → List ℕ) (Fits : A → Type 0) : Type 0 where
  pub takes : (bytes : List ℕ) (at : ℕ) (g : Got A) → IsBytes bytes → item bytes at ≡ Ok g
      → (bytes ≡ spell g.value ++ g.rest) × Fits g.value × IsBytes g.rest
  pub again : (x : A) (rest : List ℕ) (at : ℕ) → Fits x
      → item (spell x ++ rest) at ≡ Ok (record { value = x; rest = rest; at = at + length (spell x) })

abbrev done : {A : Type 0} → A → Result A FileFault
done x = Ok x

pub ok_is : {A : Type 0} (x y : A) → done x ≡ done y → x ≡ y
ok_is x y e = cc

IsBytes-drop : (n : ℕ) (bytes : List ℕ) → IsBytes bytes → IsBytes (drop n bytes)
IsBytes-drop n bytes h i = rw get_or-drop (h (n + i))

IsBytes-take : (n : ℕ) (bytes : List ℕ) → IsBytes bytes → IsBytes (take n bytes)
IsBytes-take n bytes h i =
    elim (cases_lt i n) [
      | inl lt ↦ rw (get_or-take n bytes i 0 lt) (h i)
      | inr le ↦ rw (get_or_past (take n bytes) i 0 (let l = length-take n bytes in omega (arith, l, le))) (omega arith)
    ]

-- ---- numbers

-- a test that didn't fail
guard_ok : {A : Type 0} (b : Bool) (d : FileFault) (x y : A) → cond b (Err d) (Ok x) ≡ Ok y → (b ≡ false) × (x ≡ y)
guard_ok true d x y e = absurd cc
guard_ok false d x y e = (refl, ok_is x y e)

pub number_spells : (w : Width) (wide : IsWide w) → Spells (number w) (to_le_bytes w) (λ n. n < wide.limit)
number_spells w wide = record {
  takes = takes;
  again = λ n rest at lt. number_again w wide n rest at lt
      ∙ ap (λ l. Ok (record { value = n; rest = rest; at = at + l })) (sym (wide.len n));
}
  where
    got : List ℕ → ℕ → Got ℕ
    got bytes at = record {
      value = from_le_bytes w (take (byte_len w) bytes);
      rest = drop (byte_len w) bytes;
      at = at + byte_len w;
    }

    took : (bytes : List ℕ) → IsBytes bytes → byte_len w ≤ length bytes
        → (bytes ≡ to_le_bytes w (from_le_bytes w (take (byte_len w) bytes)) ++ drop (byte_len w) bytes)
        × (from_le_bytes w (take (byte_len w) bytes) < wide.limit) × IsBytes (drop (byte_len w) bytes)
    took bytes fits long = (
      sym (take-append-drop (byte_len w) bytes) ∙ ap (λ (l : List ℕ). l ++ drop (byte_len w) bytes)
          (sym (wide.back (take (byte_len w) bytes)
          (let l = length-take (byte_len w) bytes in omega (arith, l, long)) (IsBytes-take (byte_len w) bytes fits))),
      wide.below (take (byte_len w) bytes) (IsBytes-take (byte_len w) bytes fits),
      IsBytes-drop (byte_len w) bytes fits,
    )

    takes : (bytes : List ℕ) (at : ℕ) (g : Got ℕ) → IsBytes bytes → number w bytes at ≡ Ok g
        → (bytes ≡ to_le_bytes w g.value ++ g.rest) × (g.value < wide.limit) × IsBytes g.rest
    takes bytes at g fits e =
        let p = guard_ok (ltb (length bytes) (byte_len w)) (fault.Short (at + length bytes)) (got bytes at) g e in
        subst (λ (g : Got ℕ). (bytes ≡ to_le_bytes w g.value ++ g.rest) × (g.value < wide.limit) × IsBytes g.rest)
        p.1 (took bytes fits (ltb-false (length bytes) (byte_len w) p.0))

pub word_spells : Spells word word_bytes (λ n. n < 4294967296)
word_spells = number_spells w32 wide32

-- ---- tests

only_ok : {A : Type 0} (test : A → Bool) (f : FileFault) (o : Result (Got A) FileFault) (g : Got A)
    → only_if test f o ≡ Ok g → (o ≡ Ok g) × (test g.value ≡ true)
only_ok {A} test f (Err d) g e = absurd cc
only_ok {A} test f (Ok h) g e = go (test h.value) refl e
  where
    go : (x : Bool) → test h.value ≡ x → cond x (Ok h) (Err f) ≡ Ok g → (done h ≡ Ok g) × (test g.value ≡ true)
    go true t e = (e, subst (λ (k : Got A). test k.value ≡ true) (ok_is h g e) t)
    go false t e = absurd cc

pub tested_spells : {A : Type 0} (item : Reading A) (spell : A → List ℕ) (Fits : A → Type 0) (test : A → Bool)
    (found : ℕ → FileFault) → Spells item spell Fits
    → Spells (tested test found item) spell (λ x. Fits x × (test x ≡ true))
tested_spells {A} item spell Fits test found s = record {
  takes = λ bytes at g fits e.
      (let p = only_ok test (found at) (item bytes at) g e in
      let t = s.takes bytes at g fits p.0 in (t.0, (t.1, p.1), t.2));
  again = λ x rest at h. ap (only_if test (found at)) (s.again x rest at h.0)
      ∙ cond-true (test x) (Ok (record { value = x; rest = rest; at = at + length (spell x) })) (Err (found at)) h.1;
}

-- ---- one behind the other

on_ok : {A B : Type 0} (o : Result (Got A) FileFault) (next : A → Reading B) (g : Got B) → on_got o next ≡ Ok g
    → (h : Got A) × (o ≡ Ok h) × (next h.value h.rest h.at ≡ Ok g)
on_ok (Ok h) next g e = (h, refl, e)
on_ok (Err f) next g e = absurd cc

-- the first was spelled before the rest
pub bind_takes : {A B : Type 0} (item : Reading A) (spell : A → List ℕ) (Fits : A → Type 0) (next : A → Reading B)
    → Spells item spell Fits → (bytes : List ℕ) (at : ℕ) (g : Got B) → IsBytes bytes → (item >>= next) bytes at ≡ Ok g
    → (h : Got A) × (bytes ≡ spell h.value ++ h.rest) × Fits h.value × IsBytes h.rest × (next h.value h.rest h.at ≡
    Ok g)
bind_takes item spell Fits next s bytes at g fits e =
    let p = on_ok (item bytes at) next g e in
    let t = s.takes bytes at p.0 fits p.1 in (p.0, t.0, t.1, t.2, p.2)

pub give_spells : {A : Type 0} (x : A) → Spells (give x) (λ y. []) (λ y. y ≡ x)
give_spells {A} x = record {
  takes = λ bytes at g fits e.
      (let h : record { value = x; rest = bytes; at = at } ≡ g = ok_is _ _ e in (
        ap (λ (k : Got A). k.rest) h,
        sym (ap (λ (k : Got A). k.value) h),
        subst IsBytes (ap (λ (k : Got A). k.rest) h) fits,
      ));
  again = λ y rest at e. rw e (ap (λ a. Ok (record { value = x; rest = rest; at = a })) (omega arith));
}

pub bind_spells : {A B : Type 0} (item : Reading A) (next : A → Reading B) (spell : A → List ℕ) (then_ : B → List ℕ)
    (Fits : A → Type 0) (Next : A → B → Type 0) (first : B → A)
    → Spells item spell Fits → ((x : A) → Fits x → Spells (next x) then_ (Next x))
    → ((x : A) (y : B) → Fits x → Next x y → first y ≡ x)
    → Spells (item >>= next) (λ y. spell (first y) ++ then_ y) (λ y. Fits (first y) × Next (first y) y)
bind_spells {A} {B} item next spell then_ Fits Next first s t is = record { takes = takes; again = again }
  where
    takes : (bytes : List ℕ) (at : ℕ) (g : Got B) → IsBytes bytes → (item >>= next) bytes at ≡ Ok g
        → (bytes ≡ (spell (first g.value) ++ then_ g.value) ++ g.rest)
        × (Fits (first g.value) × Next (first g.value) g.value) × IsBytes g.rest
    takes bytes at g fits e =
        let p = bind_takes item spell Fits next s bytes at g fits e in
        let q = (t p.0.value p.2).takes p.0.rest p.0.at g p.3 p.4 in
        let same : first g.value ≡ p.0.value = is p.0.value g.value p.2 q.1 in (
          p.1 ∙ (ap (λ (l : List ℕ). spell p.0.value ++ l) q.0
              ∙ (sym (append_assoc (spell p.0.value) (then_ g.value) g.rest)
              ∙ ap (λ x. (spell x ++ then_ g.value) ++ g.rest) (sym same))),
          subst (λ x. Fits x × Next x g.value) (sym same) (p.2, q.1),
          q.2,
        )

    again : (y : B) (rest : List ℕ) (at : ℕ) → Fits (first y) × Next (first y) y
        → (item >>= next) ((spell (first y) ++ then_ y) ++ rest) at
        ≡ Ok (record { value = y; rest = rest; at = at + length (spell (first y) ++ then_ y) })
    again y rest at h =
        ap (λ (l : List ℕ). (item >>= next) l at) (append_assoc (spell (first y)) (then_ y) rest)
        ∙ (ap (λ o. on_got o next) (s.again (first y) (then_ y ++ rest) at h.0)
        ∙ ((t (first y) h.0).again y rest (at + length (spell (first y))) h.1
        ∙ ap (λ a. Ok (record { value = y; rest = rest; at = a }))
        (let l = length-append (spell (first y)) (then_ y) in omega (arith, l))))

-- the same reading, spelled in other words
pub respelled : {A : Type 0} (item : Reading A) (spell other : A → List ℕ) (Fits Other : A → Type 0)
    → Spells item spell Fits → ((x : A) → Fits x → Other x) → ((x : A) → Other x → Fits x)
    → ((x : A) → Fits x → spell x ≡ other x) → Spells item other Other
respelled item spell other Fits Other s to from same = record {
  takes = λ bytes at g fits e.
      (let t = s.takes bytes at g fits e in
      (t.0 ∙ ap (λ (l : List ℕ). l ++ g.rest) (same g.value t.1), to g.value t.1, t.2));
  again = λ x rest at h. subst (λ (l : List ℕ). item (l ++ rest) at
      ≡ Ok (record { value = x; rest = rest; at = at + length l })) (same x (from x h)) (s.again x rest at (from x h));
}

-- ---- many

-- one value more
more_spell : {A : Type 0} (item : ℕ → Reading A) (spell : ℕ → A → List ℕ) (Fits : A → Type 0) (i n : ℕ)
    → Spells (item i) (spell i) Fits
    → Spells (each (i + 1) n item) (spelled_from (i + 1) spell) (λ xs. (length xs ≡ n) × All Fits xs)
    → Spells (each i (suc n) item) (spelled_from i spell) (λ xs. (length xs ≡ suc n) × All Fits xs)
more_spell {A} item spell Fits i n here rest_ = record { takes = takes; again = again }
  where
    takes : (bytes : List ℕ) (at : ℕ) (g : Got (List A)) → IsBytes bytes → each i (suc n) item bytes at ≡ Ok g
        → (bytes ≡ spelled_from i spell g.value ++ g.rest) × ((length g.value ≡ suc n) × All Fits g.value)
        × IsBytes g.rest
    takes bytes at g fits e =
        let p = bind_takes (item i) (spell i) Fits (λ x. each (i + 1) n item >>= λ xs. give (x ∷ xs)) here bytes at g
        fits e in
        let q = bind_takes (each (i + 1) n item) (spelled_from (i + 1) spell) (λ xs. (length xs ≡ n) × All Fits xs)
        (λ xs. give (p.0.value ∷ xs)) rest_ p.0.rest p.0.at g p.3 p.4 in
        let same : record { value = p.0.value ∷ q.0.value; rest = q.0.rest; at = q.0.at } ≡ g = ok_is _ _ q.4 in
        subst (λ (g : Got (List A)). (bytes ≡ spelled_from i spell g.value ++ g.rest)
        × ((length g.value ≡ suc n) × All Fits g.value) × IsBytes g.rest) same (
          p.1 ∙ (ap (λ (l : List ℕ). spell i p.0.value ++ l) q.1
              ∙ sym (append_assoc (spell i p.0.value) (spelled_from (i + 1) spell q.0.value) q.0.rest)),
          (ap suc q.2.0, All-cons Fits p.0.value q.0.value p.2 q.2.1),
          q.3,
        )

    again : (xs : List A) (rest : List ℕ) (at : ℕ) → (length xs ≡ suc n) × All Fits xs
        → each i (suc n) item (spelled_from i spell xs ++ rest) at
        ≡ Ok (record { value = xs; rest = rest; at = at + length (spelled_from i spell xs) })
    again [] rest at h = absurd (let l = h.0 in omega (arith, l))
    again (x ∷ xs) rest at h =
        ap (λ (l : List ℕ). each i (suc n) item l at)
        (append_assoc (spell i x) (spelled_from (i + 1) spell xs) rest)
        ∙ (ap (λ o. on_got o (λ x. each (i + 1) n item >>= λ xs. give (x ∷ xs)))
        (here.again x (spelled_from (i + 1) spell xs ++ rest) at (All-head Fits x xs h.1))
        ∙ (ap (λ o. on_got o (λ xs. give (x ∷ xs)))
        (rest_.again xs rest (at + length (spell i x))
        ((let l = h.0 in omega (arith, l)), All-tail Fits x xs h.1))
        ∙ ap (λ a. Ok (record { value = x ∷ xs; rest = rest; at = a }))
        (let l = length-append (spell i x) (spelled_from (i + 1) spell xs) in omega (arith, l))))

pub each_spells : {A : Type 0} (item : ℕ → Reading A) (spell : ℕ → A → List ℕ) (Fits : A → Type 0)
    → (i n : ℕ) → ((j : ℕ) → j < i + n → Spells (item j) (spell j) Fits)
    → Spells (each i n item) (spelled_from i spell) (λ xs. (length xs ≡ n) × All Fits xs)
each_spells {A} item spell Fits i zero s =
    respelled (each i zero item) (λ y. []) (spelled_from i spell) (λ y. y ≡ []) (λ xs. (length xs ≡ 0) × All Fits xs)
    (give_spells []) (λ x e. (ap length e, subst (All Fits) (sym e) (All-nil Fits))) (λ x h. nil_from_length x h.0)
    (λ x e. ap (spelled_from i spell) (sym e))
each_spells {A} item spell Fits i (suc n) s =
    more_spell item spell Fits i n (s i (omega arith))
    (each_spells item spell Fits (i + 1) n (λ j lt. s j (omega (arith, lt))))

-- ---- words and records

-- the word n fits
abbrev pub IsThis : ℕ → ℕ → Type 0
IsThis n w = (w < 4294967296) × ((w == n) ≡ true)

pub fixed_spells : (n : ℕ) (found : ℕ → FileFault) → Spells (fixed n found) word_bytes (IsThis n)
fixed_spells n found = tested_spells word word_bytes (λ w. w < 4294967296) (λ w. w == n) found (number_spells w32
    wide32)

pub this_is : (n : ℕ) → n < 4294967296 → IsThis n n
this_is n lt = (lt, eq-eqb n n refl)

pub is_this : (n w : ℕ) → IsThis n w → n ≡ w
is_this n w h = sym (eqb-true w n h.1)

-- a record's tag and length
pub header_spells : {B : Type 0} (tag size : ℕ) (next : Reading B) (then_ : B → List ℕ) (Next : B → Type 0)
    → tag < 4294967296 → size < 4294967296 → Spells next then_ Next
    → Spells (header tag size >>= λ h. next) (λ y. header_bytes (tag, size) ++ then_ y) Next
header_spells {B} tag size next then_ Next t s n =
    respelled (header tag size >>= λ h. next)
    (λ y. (word_bytes tag ++ word_bytes size) ++ then_ y) (λ y. header_bytes (tag, size) ++ then_ y)
    (λ y. (IsThis tag tag × IsThis size size) × Next y) Next
    (bind_spells (header tag size) (λ h. next) (λ h. word_bytes tag ++ word_bytes h) then_
    (λ h. IsThis tag tag × IsThis size h) (λ h. Next) (λ y. size)
    (bind_spells (fixed tag fault.Tag) (λ t. fixed size fault.Length) word_bytes word_bytes (IsThis tag)
    (λ t. IsThis size) (λ y. tag) (fixed_spells tag fault.Tag) (λ t f. fixed_spells size fault.Length)
    (λ x y f m. is_this tag x f))
    (λ h f. n) (λ x y f m. is_this size x f.1))
    (λ x h. h.1) (λ x h. ((this_is tag t, this_is size s), h)) (λ y f. refl)

-- what a record of longs holds
pub record FitLongs (limit : ℕ) (numbers : List ℕ) : Type 0 where
  pub few : 8 * length numbers < 4294967296
  pub within : All (λ n. n ≤ limit) numbers

limited_spells : (limit i : ℕ) → limit < 18446744073709551616
    → Spells (limited limit i) long_bytes (λ n. n ≤ limit)
limited_spells limit i lt =
    respelled (limited limit i) long_bytes long_bytes
    (λ n. (n < 18446744073709551616) × (leb n limit ≡ true)) (λ n. n ≤ limit)
    (tested_spells long long_bytes (λ n. n < 18446744073709551616) (λ n. leb n limit) fault.Number
    (number_spells w64 wide64))
    (λ n h. leb-true n limit h.1) (λ n le. (omega (arith, le, lt), le-leb n limit le)) (λ n f. refl)

pub longs_spells : (tag limit : ℕ) → tag < 4294967296 → limit < 18446744073709551616
    → Spells (longs tag limit) (long_record tag) (FitLongs limit)
unfolding long_record
longs_spells tag limit t l =
    respelled (longs tag limit)
    (λ y. word_bytes tag ++ (word_bytes (8 * length y) ++ longs_bytes y)) (long_record tag)
    (λ y. IsThis tag tag × (((8 * length y < 4294967296) × (((8 * length y) % 8 == 0) ≡ true))
    × ((length y ≡ 8 * length y / 8) × All (λ n. n ≤ limit) y)))
    (FitLongs limit)
    (bind_spells (fixed tag fault.Tag) (λ t. long_size >>= λ size. each 0 (size / 8) (limited limit))
    word_bytes (λ y. word_bytes (8 * length y) ++ longs_bytes y) (IsThis tag)
    (λ t y. ((8 * length y < 4294967296) × (((8 * length y) % 8 == 0) ≡ true))
    × ((length y ≡ 8 * length y / 8) × All (λ n. n ≤ limit) y)) (λ y. tag) (fixed_spells tag fault.Tag)
    (λ t f. bind_spells long_size (λ size. each 0 (size / 8) (limited limit)) word_bytes longs_bytes
    (λ size. (size < 4294967296) × ((size % 8 == 0) ≡ true))
    (λ size y. (length y ≡ size / 8) × All (λ n. n ≤ limit) y) (λ y. 8 * length y)
    (tested_spells word word_bytes (λ w. w < 4294967296) (λ n. n % 8 == 0) fault.Length (number_spells w32 wide32))
    (λ size f. each_spells (limited limit) (λ i. long_bytes) (λ n. n ≤ limit) 0 (size / 8)
    (λ i lt. limited_spells limit i l))
    (λ size y f m. eighth size (length y) (eqb-true (size % 8) 0 f.1) m.0))
    (λ x y f m. is_this tag x f))
    (λ y h. record { few = h.1.0.0; within = h.1.1.1 })
    (λ y h. (
      this_is tag t,
      (
        (h.few, eq-eqb (8 * length y % 8) 0 (multiple (length y))),
        (
          wholly (length y),
          h.within,
        ),
      ),
    ))
    (λ y f. sym (append_assoc (word_bytes tag) (word_bytes (8 * length y)) (longs_bytes y)))
  where
    eighth : (size n : ℕ) → size % 8 ≡ 0 → n ≡ size / 8 → 8 * n ≡ size
    eighth size n e f = omega (arith, e, f)

    multiple : (n : ℕ) → 8 * n % 8 ≡ 0
    multiple n = omega arith

    wholly : (n : ℕ) → n ≡ 8 * n / 8
    wholly n = omega arith
