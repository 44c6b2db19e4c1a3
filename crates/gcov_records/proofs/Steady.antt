-- Reading doesn't look ahead: what was read stays so with more bytes behind, and so does each fault but Short.
use Rattle.std.proofs.Common.{◌≡◌, ℕ, zero, suc, ◌+◌, ◌/◌, ◌%◌, ◌<◌, ◌≤◌, ◌==◌, leb, Bool, true, false, cond}
use Rattle.std.proofs.Common.{ltb, List, [], ◌∷◌, ◌++◌}
use Rattle.std.proofs.Common.{length, take, drop, Result, Ok, Err, refl, sym, ap, subst, ◌∙◌, append_assoc}
use Rattle.std.proofs.Common.{arith, inl, inr}
use Rattle.std.specs.Int.{Width, w32, w64, byte_len, from_le_bytes}
use Rattle.std.proofs.lemmas.Bool.{cases_lt, le-ltb, lt-ltb, cond-true, cond-false}
use Rattle.std.proofs.lemmas.List.{take-append-le, drop-append-le, length-append, length-drop}
use Rattle.gcov_records.specs.declared.fault.FileFault.{FileFault}
use Rattle.gcov_records.specs.declared.fault.FileFault.TheVariants as fault
use Rattle.gcov_records.specs.Reading.{Got, Reading, on_got, ◌>>=◌, give, only_if, tested, number, each}
use Rattle.gcov_records.specs.Reading.{word, long, fixed, header, long_size, limited, longs}

-- a fault of an item, which is neither Short nor Extra
abbrev pub OfItem : FileFault → Type 0
OfItem (fault.Short n) = ⊥
OfItem (fault.Extra n) = ⊥
OfItem _ = Unit {0}

-- more bytes stand behind what was read
abbrev pub behind : {A : Type 0} → Got A → List ℕ → Got A
behind g more = record { value = g.value; rest = g.rest ++ more; at = g.at }

-- reading ends with a fault of an item
abbrev pub Fails : {A : Type 0} → Result (Got A) FileFault → Type 0
Fails (Ok g) = ⊥
Fails (Err found) = OfItem found

-- what a fault says of more bytes: one of an item is there whatever follows, Short is told at the end of the bytes
-- alone
abbrev pub Stays : {A : Type 0} → Reading A → List ℕ → ℕ → FileFault → Type 0
Stays item bytes at (fault.Short n) = n ≡ at + length bytes
Stays item bytes at (fault.Extra n) = ⊥
Stays item bytes at _ = (more : List ℕ) → Fails (item (bytes ++ more) at)

-- where reading goes on or stops, it does so with more bytes behind
abbrev pub Holds : {A : Type 0} → Reading A → List ℕ → ℕ → Result (Got A) FileFault → Type 0
Holds item bytes at (Ok g) =
    ((more : List ℕ) → item (bytes ++ more) at ≡ Ok (behind g more)) × (g.at + length g.rest ≡ at + length bytes)
Holds item bytes at (Err found) = Stays item bytes at found

pub record Steady {A : Type 0} (item : Reading A) : Type 0 where
  pub holds : (bytes : List ℕ) (at : ℕ) → Holds item bytes at (item bytes at)

pub give_steady : {A : Type 0} (x : A) → Steady (give x)
give_steady x = record { holds = λ bytes at. ((λ more. refl), refl) }

pub number_steady : (w : Width) → Steady (number w)
number_steady w = record { holds = holds }
  where
    holds : (bytes : List ℕ) (at : ℕ) → Holds (number w) bytes at (number w bytes at)
    holds bytes at = elim (cases_lt (length bytes) (byte_len w)) [
      | inl few ↦
          subst (Holds (number w) bytes at)
          (sym (cond-true (ltb (length bytes) (byte_len w)) (Err (fault.Short (at + length bytes))) got
          (lt-ltb (length bytes) (byte_len w) few))) refl
      | inr many ↦
          subst (Holds (number w) bytes at)
          (sym (cond-false (ltb (length bytes) (byte_len w)) (Err (fault.Short (at + length bytes))) got
          (le-ltb (length bytes) (byte_len w) many))) (
            (λ more. longer many more),
            (let l = length-drop (byte_len w) bytes in omega (arith, l, many)),
          )
    ]
      where
        got : Result (Got ℕ) FileFault
        got = Ok (record {
          value = from_le_bytes w (take (byte_len w) bytes);
          rest = drop (byte_len w) bytes;
          at = at + byte_len w;
        })

        longer : byte_len w ≤ length bytes → (more : List ℕ) → number w (bytes ++ more) at
            ≡ Ok (record {
              value = from_le_bytes w (take (byte_len w) bytes);
              rest = drop (byte_len w) bytes ++ more;
              at = at + byte_len w;
            })
        longer many more =
            let long : ltb (length (bytes ++ more)) (byte_len w) ≡ false =
            le-ltb _ _ (let l = length-append bytes more in omega (arith, l, many)) in
            rw (long, take-append-le (byte_len w) bytes more many, drop-append-le (byte_len w) bytes more many) refl

-- a fault of an item that is there whatever follows
item_stays : {A : Type 0} (item : Reading A) (bytes : List ℕ) (at : ℕ) (found : FileFault) → OfItem found
    → ((more : List ℕ) → Fails (item (bytes ++ more) at)) → Stays item bytes at found
item_stays item bytes at (fault.Short n) of h = absurd of
item_stays item bytes at (fault.Extra n) of h = absurd of
item_stays item bytes at (fault.Magic n) of h = h
item_stays item bytes at (fault.Version n) of h = h
item_stays item bytes at (fault.Tag n) of h = h
item_stays item bytes at (fault.Length n) of h = h
item_stays item bytes at (fault.Text n) of h = h
item_stays item bytes at (fault.Order n) of h = h
item_stays item bytes at (fault.Net n) of h = h
item_stays item bytes at (fault.Number n) of h = h

-- what goes on from a fault stays with it
stays_with : {A B : Type 0} (item : Reading A) (other : Reading B) (bytes rest : List ℕ) (at next : ℕ)
    (found : FileFault) → next + length rest ≡ at + length bytes
    → ((more : List ℕ) → Fails (item (rest ++ more) next) → Fails (other (bytes ++ more) at))
    → Stays item rest next found → Stays other bytes at found
stays_with item other bytes rest at next (fault.Short n) l h s = s ∙ l
stays_with item other bytes rest at next (fault.Extra n) l h s = s
stays_with item other bytes rest at next (fault.Magic n) l h s = λ more. h more (s more)
stays_with item other bytes rest at next (fault.Version n) l h s = λ more. h more (s more)
stays_with item other bytes rest at next (fault.Tag n) l h s = λ more. h more (s more)
stays_with item other bytes rest at next (fault.Length n) l h s = λ more. h more (s more)
stays_with item other bytes rest at next (fault.Text n) l h s = λ more. h more (s more)
stays_with item other bytes rest at next (fault.Order n) l h s = λ more. h more (s more)
stays_with item other bytes rest at next (fault.Net n) l h s = λ more. h more (s more)
stays_with item other bytes rest at next (fault.Number n) l h s = λ more. h more (s more)

only_if_fails : {A : Type 0} (test : A → Bool) (found : FileFault) (o : Result (Got A) FileFault) → Fails o
    → Fails (only_if test found o)
only_if_fails test found (Ok g) f = absurd f
only_if_fails test found (Err e) f = f

on_got_fails : {A B : Type 0} (next : A → Reading B) (o : Result (Got A) FileFault) → Fails o → Fails (on_got o next)
on_got_fails next (Ok g) f = absurd f
on_got_fails next (Err e) f = f

pub tested_steady : {A : Type 0} (test : A → Bool) (found : ℕ → FileFault) (item : Reading A)
    → ((at : ℕ) → OfItem (found at)) → Steady item → Steady (tested test found item)
tested_steady {A} test found item of s =
    record { holds = λ bytes at. go bytes at (item bytes at) (s.holds bytes at) }
  where
    go : (bytes : List ℕ) (at : ℕ) (o : Result (Got A) FileFault) → Holds item bytes at o
        → Holds (tested test found item) bytes at (only_if test (found at) o)
    go bytes at (Err f) h =
        stays_with item (tested test found item) bytes bytes at at f refl
        (λ more k. only_if_fails test (found at) (item (bytes ++ more) at) k) h
    go bytes at (Ok g) h = by (test g.value) refl
      where
        by : (x : Bool) → test g.value ≡ x
            → Holds (tested test found item) bytes at (cond x (Ok g) (Err (found at)))
        by true t = (
          (λ more. ap (only_if test (found at)) (h.0 more)
              ∙ cond-true (test g.value) (Ok (behind g more)) (Err (found at)) t),
          h.1,
        )
        by false t = item_stays (tested test found item) bytes at (found at) (of at)
            (λ more. subst Fails (sym (ap (only_if test (found at)) (h.0 more)
            ∙ cond-false (test g.value) (Ok (behind g more)) (Err (found at)) t)) (of at))

pub bind_steady : {A B : Type 0} (item : Reading A) (next : A → Reading B) → Steady item
    → ((x : A) → Steady (next x)) → Steady (item >>= next)
bind_steady {A} {B} item next s t = record { holds = λ bytes at. go bytes at (item bytes at) (s.holds bytes at) }
  where
    go : (bytes : List ℕ) (at : ℕ) (o : Result (Got A) FileFault) → Holds item bytes at o
        → Holds (item >>= next) bytes at (on_got o next)
    go bytes at (Err f) h =
        stays_with item (item >>= next) bytes bytes at at f refl
        (λ more k. on_got_fails next (item (bytes ++ more) at) k) h
    go bytes at (Ok g) h = by (next g.value g.rest g.at) ((t g.value).holds g.rest g.at)
      where
        by : (o : Result (Got B) FileFault) → Holds (next g.value) g.rest g.at o → Holds (item >>= next) bytes at o
        by (Ok k) m = ((λ more. ap (λ o. on_got o next) (h.0 more) ∙ m.0 more), m.1 ∙ h.1)
        by (Err f) m =
            stays_with (next g.value) (item >>= next) bytes g.rest at g.at f h.1
            (λ more k. subst Fails (sym (ap (λ o. on_got o next) (h.0 more))) k) m

pub each_steady : {A : Type 0} (i n : ℕ) (item : ℕ → Reading A) → ((i : ℕ) → Steady (item i)) → Steady (each i n item)
each_steady i zero item s = give_steady []
each_steady i (suc n) item s =
    bind_steady (item i) (λ x. each (i + 1) n item >>= λ xs. give (x ∷ xs)) (s i)
    (λ x. bind_steady (each (i + 1) n item) (λ xs. give (x ∷ xs)) (each_steady (i + 1) n item s)
    (λ xs. give_steady (x ∷ xs)))

-- ---- words and records

pub word_steady : Steady word
word_steady = number_steady w32

pub fixed_steady : (n : ℕ) (found : ℕ → FileFault) → ((at : ℕ) → OfItem (found at)) → Steady (fixed n found)
fixed_steady n found of = tested_steady (λ w. w == n) found word of word_steady

pub header_steady : (tag size : ℕ) → Steady (header tag size)
header_steady tag size =
    bind_steady (fixed tag fault.Tag) (λ t. fixed size fault.Length) (fixed_steady tag fault.Tag (λ at. tt))
    (λ t. fixed_steady size fault.Length (λ at. tt))

pub longs_steady : (tag limit : ℕ) → Steady (longs tag limit)
longs_steady tag limit =
    bind_steady (fixed tag fault.Tag) (λ t. long_size >>= λ size. each 0 (size / 8) (limited limit))
    (fixed_steady tag fault.Tag (λ at. tt))
    (λ t. bind_steady long_size (λ size. each 0 (size / 8) (limited limit))
    (tested_steady (λ n. n % 8 == 0) fault.Length word (λ at. tt) word_steady)
    (λ size. each_steady 0 (size / 8) (limited limit)
    (λ i. tested_steady (λ n. leb n limit) fault.Number long (λ at. tt) (number_steady w64))))
