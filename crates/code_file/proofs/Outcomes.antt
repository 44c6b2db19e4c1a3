-- What can come of an item at the front of bytes, whatever stands behind them: it is taken, it is refused, or the bytes
-- end within it.
use Rattle.std.proofs.Common.{◌≡◌, refl, sym, ap, ◌∙◌, ℕ, zero, suc, ◌+◌, ◌<◌, Bool, true, false}
use Rattle.std.proofs.Common.{List, [], ◌∷◌, ◌++◌, length, get_or, append_assoc, length-append, arith}
use Rattle.std.specs.List.{All}
use Rattle.code_file.specs.declared.fault.CodeFault.{CodeFault}
use Rattle.code_file.specs.declared.fault.CodeFault.TheVariants as fault
use Rattle.code_file.specs.Reading.{Told, Fault, wanted}

-- what goes on behind something
abbrev pub Then : Type 0 → Type 0
Then A = A → List ℕ → ℕ → Told

-- an item at a place: what bytes are for each way to go on behind it
abbrev pub Item : Type 0 → Type 0
Item A = List ℕ → Then A → Told

-- a fault that stands whatever more bytes come
abbrev pub IsItemFault : CodeFault → Type 0
IsItemFault (fault.Short n) = ⊥
IsItemFault (fault.Extra n) = ⊥
IsItemFault f = Unit {0}

-- the bytes are whole ones
abbrev pub AreBytes : List ℕ → Type 0
AreBytes [] = Unit {0}
AreBytes (b ∷ bytes) = (b < 256) × AreBytes bytes

pub bytes_both : (xs ys : List ℕ) → AreBytes (xs ++ ys) → AreBytes xs × AreBytes ys
bytes_both [] ys h = (tt, h)
bytes_both (x ∷ xs) ys h = let k = bytes_both xs ys h.1 in ((h.0, k.0), k.1)

pub bytes_each : (xs : List ℕ) → AreBytes xs → (i : ℕ) → get_or xs i 0 < 256
bytes_each [] h i = omega arith
bytes_each (x ∷ xs) h zero = h.0
bytes_each (x ∷ xs) h (suc i) = bytes_each xs h.1 i

pub bytes_from : (xs : List ℕ) → All (λ b. b < 256) xs → AreBytes xs
bytes_from [] h = tt
bytes_from (x ∷ xs) h = (h 0 0 (omega arith), bytes_from xs (λ k d lt. h (suc k) d (omega (arith, lt))))

-- What comes of an item; `Good` holds of the bytes that it takes and of what it is.
pub data Outcome {A : Type 0} (item : Item A) (Good : List ℕ → A → Type 0) (at : ℕ) (bytes : List ℕ) : Type 0 where
  takes : (x : A) (used rest : List ℕ) → bytes ≡ used ++ rest → Good used x
      → ((tail : List ℕ) (then : Then A) → item (used ++ tail) then ≡ then x tail (at + length used))
      → Outcome item Good at bytes
  refuses : (f : CodeFault) → IsItemFault f → ((tail : List ℕ) (then : Then A) → item (bytes ++ tail) then ≡ Fault f)
      → Outcome item Good at bytes
  ends : ((then : Then A) → item bytes then ≡ Fault (fault.Short (at + length bytes))) → Outcome item Good at bytes

-- nothing is taken
pub nothing : {A : Type 0} (Good : List ℕ → A → Type 0) (at : ℕ) (bytes : List ℕ) (x : A) → Good [] x
    → Outcome (λ bytes then. then x bytes at) Good at bytes
nothing Good at bytes x g =
    takes x [] bytes refl g (λ tail then. ap (λ n. then x tail n) (omega arith))

-- nothing is taken where a test holds
pub nothing_if : {A : Type 0} (Good : List ℕ → A → Type 0) (at : ℕ) (bytes : List ℕ) (f : CodeFault) (x : A) (b : Bool)
    → IsItemFault f → (b ≡ true → Good [] x) → Outcome (λ bytes then. wanted b f (then x bytes at)) Good at bytes
nothing_if Good at bytes f x true is g = nothing Good at bytes x (g refl)
nothing_if Good at bytes f x false is g = refuses f is (λ tail then. refl)

-- an item and then another
pub followed : {A B : Type 0} (first : Item A) (second : A → ℕ → Item B) (GoodA : List ℕ → A → Type 0)
    (GoodB : A → ℕ → List ℕ → B → Type 0) (Good : List ℕ → B → Type 0) (at : ℕ) (bytes : List ℕ)
    → Outcome first GoodA at bytes
    → ((x : A) (next : ℕ) (rest : List ℕ) → Outcome (second x next) (GoodB x next) next rest)
    → ((x : A) (used : List ℕ) (y : B) (more : List ℕ) → GoodA used x → GoodB x (at + length used) more y
    → Good (used ++ more) y)
    → Outcome (λ bytes then. first bytes (λ x rest next. second x next rest then)) Good at bytes
followed {A} {B} first second GoodA GoodB Good at bytes (refuses f is h) go join =
    refuses f is (λ tail then. h tail (λ x rest next. second x next rest then))
followed {A} {B} first second GoodA GoodB Good at bytes (ends h) go join =
    ends (λ then. h (λ x rest next. second x next rest then))
followed {A} {B} first second GoodA GoodB Good at bytes (takes x used rest e g goes) go join =
    on (go x (at + length used) rest)
  where
    on : Outcome (second x (at + length used)) (GoodB x (at + length used)) (at + length used) rest
        → Outcome (λ bytes then. first bytes (λ x rest next. second x next rest then)) Good at bytes
    on (takes y more left d k goes-on) =
        takes y (used ++ more) left (e ∙ (ap (λ (l : List ℕ). used ++ l) d ∙ sym (append_assoc used more left)))
        (join x used y more g k)
        (λ tail then.
        ap (λ (l : List ℕ). first l (λ x rest next. second x next rest then)) (append_assoc used more tail)
        ∙ (goes (more ++ tail) (λ x rest next. second x next rest then)
        ∙ (goes-on tail then
        ∙ ap (λ n. then y tail n) (let l = length-append used more in omega (arith, l)))))
    on (refuses f is h) =
        refuses f is (λ tail then.
        ap (λ (l : List ℕ). first l (λ x rest next. second x next rest then))
        (ap (λ (l : List ℕ). l ++ tail) e ∙ append_assoc used rest tail)
        ∙ (goes (rest ++ tail) (λ x rest next. second x next rest then) ∙ h tail then))
    on (ends h) =
        ends (λ then.
        ap (λ (l : List ℕ). first l (λ x rest next. second x next rest then)) e
        ∙ (goes rest (λ x rest next. second x next rest then)
        ∙ (h then ∙ ap (λ n. Fault (fault.Short n))
        (let l = ap length e ∙ length-append used rest in omega (arith, l)))))

-- the same outcome with what is weaker
pub weaker : {A : Type 0} (item : Item A) (GoodA Good : List ℕ → A → Type 0) (at : ℕ) (bytes : List ℕ)
    → ((used : List ℕ) (x : A) → GoodA used x → Good used x) → Outcome item GoodA at bytes → Outcome item Good at bytes
weaker item GoodA Good at bytes k (takes x used rest e g goes) = takes x used rest e (k used x g) goes
weaker item GoodA Good at bytes k (refuses f is h) = refuses f is h
weaker item GoodA Good at bytes k (ends h) = ends h

-- the same item, as something made of it
pub mapped : {A B : Type 0} (item : Item A) (g : A → B) (GoodA : List ℕ → A → Type 0) (Good : List ℕ → B → Type 0)
    (at : ℕ) (bytes : List ℕ) → Outcome item GoodA at bytes
    → ((used : List ℕ) (x : A) → GoodA used x → Good used (g x))
    → Outcome (λ bytes then. item bytes (λ x. then (g x))) Good at bytes
mapped item g GoodA Good at bytes (takes x used rest e k goes) h =
    takes (g x) used rest e (h used x k) (λ tail then. goes tail (λ x. then (g x)))
mapped item g GoodA Good at bytes (refuses f is k) h = refuses f is (λ tail then. k tail (λ x. then (g x)))
mapped item g GoodA Good at bytes (ends k) h = ends (λ then. k (λ x. then (g x)))

-- an item where a test holds
pub tested : {A : Type 0} (item : Item A) (Good : List ℕ → A → Type 0) (at : ℕ) (bytes : List ℕ) (f : CodeFault)
    (b : Bool) → IsItemFault f → Outcome item Good at bytes
    → Outcome (λ bytes then. wanted b f (item bytes then)) (λ used x. (b ≡ true) × Good used x) at bytes
tested item Good at bytes f true is h = weaker item Good (λ used x. (true ≡ true) × Good used x) at bytes (λ used x g. (refl, g)) h
tested item Good at bytes f false is h = refuses f is (λ tail then. refl)
