-- Values read one after the other, as a loop does.
use Rattle.std.proofs.Common.{◌≡◌, ℕ, zero, suc, ◌+◌, ◌-◌, ◌<◌, ◌≤◌, List, [], ◌∷◌, ◌++◌, Result, Ok, Err}
use Rattle.std.proofs.Common.{refl, sym, ap, subst, ◌∙◌, append_assoc, append-nil, arith}
use Rattle.cov_base.specs.declared.refusal.Refusal.{Refusal}
use Rattle.cov_base.specs.declared.refusal.Refusal.TheVariants as refusal
use Rattle.gcov_items.specs.Items.{ReaderValue, left}
use Rattle.gcov_records.specs.declared.fault.FileFault.{FileFault}
use Rattle.gcov_records.specs.Reading.{Got, Reading, on_got, ◌>>=◌, give, each, Gives}

-- what was read before, and what is still read
abbrev pub with_front : {A : Type 0} → List A → Result (Got (List A)) FileFault → Result (Got (List A)) FileFault
with_front front (Ok got) = Ok (record { value = front ++ got.value; rest = got.rest; at = got.at })
with_front front (Err found) = Err found

regroup : {A : Type 0} (front : List A) (x : A) (read : Result (Got (List A)) FileFault)
    → with_front front (on_got read (λ xs. give (x ∷ xs))) ≡ with_front (front ++ x ∷ []) read
regroup front x (Ok g) = ap (λ l. Ok (record { value = l; rest = g.rest; at = g.at })) (sym (append_assoc front (x ∷
    []) g.value))
regroup front x (Err f) = refl

pub goes_on : {A : Type 0} (front : List A) (item : ℕ → Reading A) (count i : ℕ) (bytes : List ℕ) (at : ℕ) (x : A)
    (after : List ℕ) (next : ℕ) (total : Result (Got (List A)) FileFault) → i < count
    → item i bytes at ≡ Ok (record { value = x; rest = after; at = next })
    → with_front front (each i (count - i) item bytes at) ≡ total
    → with_front (front ++ x ∷ []) (each (i + 1) (count - (i + 1)) item after next) ≡ total
goes_on {A} front item count i bytes at x after next total lt h so_far =
    let k : count - i ≡ suc (count - (i + 1)) = omega (arith, lt) in
    sym (ap (λ n. with_front front (each i n item bytes at)) k
    ∙ ap (λ r. with_front front (on_got r (λ x. each (i + 1) (count - (i + 1)) item >>= λ xs. give (x ∷ xs)))) h
    ∙ regroup front x (each (i + 1) (count - (i + 1)) item after next)) ∙ so_far

pub stops : {A : Type 0} (front : List A) (item : ℕ → Reading A) (count i : ℕ) (bytes : List ℕ) (at : ℕ)
    (found : FileFault) (total : Result (Got (List A)) FileFault) → i < count
    → item i bytes at ≡ Err found → with_front front (each i (count - i) item bytes at) ≡ total → total ≡ Err found
stops front item count i bytes at found total lt h so_far =
    let k : count - i ≡ suc (count - (i + 1)) = omega (arith, lt) in
    sym so_far ∙ (ap (λ n. with_front front (each i n item bytes at)) k
    ∙ ap (λ r. with_front front (on_got r (λ x. each (i + 1) (count - (i + 1)) item >>= λ xs. give (x ∷ xs)))) h)

pub is_done : {A : Type 0} (front : List A) (item : ℕ → Reading A) (count i : ℕ) (bytes : List ℕ) (at : ℕ)
    (total : Result (Got (List A)) FileFault) → count ≤ i
    → with_front front (each i (count - i) item bytes at) ≡ total
    → total ≡ Ok (record { value = front; rest = bytes; at = at })
is_done front item count i bytes at total le so_far =
    let k : count - i ≡ 0 = omega (arith, le) in
    sym so_far ∙ (ap (λ n. with_front front (each i n item bytes at)) k
    ∙ ap (λ l. Ok (record { value = l; rest = bytes; at = at })) (append-nil front))

-- a call in the loop that gave a fault, or had no memory, ends the loop with it
pub stopped : {X Y A : Type 0} (view : X → List A) (seen : Y → A) (e : Refusal FileFault) (front : List A)
    (item : ℕ → Reading A) (count i : ℕ) (first old new : ReaderValue) → i < count
    → Gives seen (item i) old new (Err e)
    → with_front front (each i (count - i) item (left old) old.at) ≡ each 0 count item (left first) first.at
    → Gives view (each 0 count item) first new (Err e)
stopped view seen (refusal.Refused found) front item count i first old new lt h so_far =
    stops front item count i (left old) old.at found (each 0 count item (left first) first.at) lt h so_far
stopped view seen refusal.NoMemory front item count i first old new lt h so_far = tt
