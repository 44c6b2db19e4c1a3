-- Merging in any order.
use Rattle.std.proofs.Common.{◌≡◌, refl, sym, ap, ap₂, subst, ◌∙◌, ℕ, zero, suc, ◌+◌, ◌<◌, ◌≤◌, ◌==◌, ◌&&◌}
use Rattle.std.proofs.Common.{max, Bool, true, false, cond}
use Rattle.std.proofs.Common.{List, [], ◌∷◌, length, Option, Some, None, ltb, arith, eqb-true, eq-eqb, bit_or}
use Rattle.std.specs.Option.{option_or, option_map}
use Rattle.std.specs.Int.{bit_at}
use Rattle.std.proofs.lemmas.Bool.{and_parts, and_from, ltb-false, le-ltb, cond-true, cond-false}
use Rattle.std.proofs.lemmas.Nat.{or_comm}
use Rattle.std.proofs.lemmas.Nat.Bits.{bit_at_or, same_from_bits}
use Rattle.gcda_format.specs.Data.{FunctionDataValue, DataValue, count_limit, word_limit}
use Rattle.run_merge.specs.declared.merging.MergeFault.{MergeFault}
use Rattle.run_merge.specs.declared.merging.MergeFault.TheVariants as fault
use Rattle.run_merge.specs.Merging.{joined, sums, ors, add_function, add_functions, added, same_shape}
use Rattle.run_merge.specs.Merging.{other_shape, passed}
use Rattle.run_merge.specs.Merging.{count_passed, merge_fault, InAnyOrder}

-- ---- what no fault says

or-none : {T : Type 0} (a b : Option T) → option_or a b ≡ None → (a ≡ None) × (b ≡ None)
or-none None b e = (refl, e)
or-none (Some x) b e = cc

none-or : {T : Type 0} (a b : Option T) → a ≡ None → b ≡ None → option_or a b ≡ None
none-or None b p q = q
none-or (Some x) b p q = cc

map-none : {T U : Type 0} (f : T → U) (o : Option T) → option_map f o ≡ None → o ≡ None
map-none f None e = refl
map-none f (Some x) e = cc

none-map : {T U : Type 0} (f : T → U) (o : Option T) → o ≡ None → option_map f o ≡ None
none-map f None e = refl
none-map f (Some x) e = cc

unless : {T : Type 0} (b : Bool) (x : T) → cond b None (Some x) ≡ None → b ≡ true
unless true x e = refl
unless false x e = cc

only : {T : Type 0} (b : Bool) (x : T) → cond b (Some x) None ≡ None → b ≡ false
only true x e = cc
only false x e = refl

both : (a b : Bool) → (a && b) ≡ true → (a ≡ true) × (b ≡ true)
both true b e = (refl, e)
both false b e = absurd cc

and_both : (a b : Bool) → a ≡ true → b ≡ true → (a && b) ≡ true
and_both true b e f = f
and_both false b e f = absurd cc

-- two functions have the same shape
pub record Same (a b : FunctionDataValue) : Type 0 where
  pub checksum : a.checksum ≡ b.checksum
  pub counters : length a.counters ≡ length b.counters
  pub bits : length a.bits ≡ length b.bits

pub same_of : (a b : FunctionDataValue) → same_shape a b ≡ true → Same a b
same_of a b e =
    let p = both (a.checksum == b.checksum) _ e in
    let q = both (length a.counters == length b.counters) (length a.bits == length b.bits) p.1 in
    record {
      checksum = eqb-true a.checksum b.checksum p.0;
      counters = eqb-true (length a.counters) (length b.counters) q.0;
      bits = eqb-true (length a.bits) (length b.bits) q.1;
    }

pub of_same : (a b : FunctionDataValue) → Same a b → same_shape a b ≡ true
of_same a b s =
    and_both (a.checksum == b.checksum) _ (eq-eqb a.checksum b.checksum s.checksum)
    (and_both (length a.counters == length b.counters) (length a.bits == length b.bits)
    (eq-eqb (length a.counters) (length b.counters) s.counters) (eq-eqb (length a.bits) (length b.bits) s.bits))

-- the sums of two lists are within the limit
abbrev pub SumsFit : List ℕ → List ℕ → Type 0
SumsFit [] ys = Unit {0}
SumsFit (x ∷ xs) [] = Unit {0}
SumsFit (x ∷ xs) (y ∷ ys) = (x + y ≤ count_limit) × SumsFit xs ys

-- the functions have the same shapes, and all sums are within the limit
abbrev pub Fit : List FunctionDataValue → List FunctionDataValue → Type 0
Fit [] [] = Unit {0}
Fit [] (b ∷ others) = ⊥
Fit (a ∷ more) [] = ⊥
Fit (a ∷ more) (b ∷ others) = Same a b × SumsFit a.counters b.counters × Fit more others

pub sums_fit : (c : ℕ) (xs ys : List ℕ) → passed c xs ys ≡ None → SumsFit xs ys
sums_fit c [] ys e = tt
sums_fit c (x ∷ xs) [] e = tt
sums_fit c (x ∷ xs) (y ∷ ys) e = go (ltb count_limit (x + y)) refl e (λ e. sums_fit (c + 1) xs ys e)
  where
    go : (b : Bool) → ltb count_limit (x + y) ≡ b → cond b (Some c) (passed (c + 1) xs ys) ≡ None
        → (passed (c + 1) xs ys ≡ None → SumsFit xs ys) → (x + y ≤ count_limit) × SumsFit xs ys
    go true t e rec = absurd (let never : Some c ≡ None = e in cc)
    go false t e rec = (ltb-false count_limit (x + y) t, rec e)

fit_sums : (c : ℕ) (xs ys : List ℕ) → SumsFit xs ys → passed c xs ys ≡ None
fit_sums c [] ys f = refl
fit_sums c (x ∷ xs) [] f = refl
fit_sums c (x ∷ xs) (y ∷ ys) f =
    cond-false (ltb count_limit (x + y)) (Some c) (passed (c + 1) xs ys) (le-ltb count_limit (x + y) f.0)
    ∙ fit_sums (c + 1) xs ys f.1

fit_of : (k : ℕ) (more others : List FunctionDataValue) → other_shape k more others ≡ None → count_passed k more
    others ≡ None → Fit more others
fit_of k [] [] e f = tt
fit_of k [] (b ∷ others) e f = absurd (let never : Some k ≡ None = e in cc)
fit_of k (a ∷ more) [] e f = absurd (let never : Some k ≡ None = e in cc)
fit_of k (a ∷ more) (b ∷ others) e f =
    let p = or-none (option_map (λ c. fault.CountPassed k c) (passed 0 a.counters b.counters)) (count_passed (k + 1)
    more others) f in
    go (same_shape a b) refl e (λ e. fit_of (k + 1) more others e p.1)
    (sums_fit 0 a.counters b.counters (map-none (λ c. fault.CountPassed k c) (passed 0 a.counters b.counters) p.0))
  where
    go : (x : Bool) → same_shape a b ≡ x → cond x (other_shape (k + 1) more others) (Some k) ≡ None
        → (other_shape (k + 1) more others ≡ None → Fit more others) → SumsFit a.counters b.counters
        → Same a b × SumsFit a.counters b.counters × Fit more others
    go true t e rec s = (same_of a b t, s, rec e)
    go false t e rec s = absurd (let never : Some k ≡ None = e in cc)

shape_of : (k : ℕ) (more others : List FunctionDataValue) → Fit more others → other_shape k more others ≡ None
shape_of k [] [] f = refl
shape_of k [] (b ∷ others) f = absurd f
shape_of k (a ∷ more) [] f = absurd f
shape_of k (a ∷ more) (b ∷ others) f =
    cond-true (same_shape a b) (other_shape (k + 1) more others) (Some k) (of_same a b f.0) ∙ shape_of (k + 1) more
    others f.2

counts_of : (k : ℕ) (more others : List FunctionDataValue) → Fit more others → count_passed k more others ≡ None
counts_of k [] [] f = refl
counts_of k [] (b ∷ others) f = refl
counts_of k (a ∷ more) [] f = refl
counts_of k (a ∷ more) (b ∷ others) f =
    none-or (option_map (λ c. fault.CountPassed k c) (passed 0 a.counters b.counters)) (count_passed (k + 1) more
    others)
    (none-map (λ c. fault.CountPassed k c) (passed 0 a.counters b.counters) (fit_sums 0 a.counters b.counters f.1))
    (counts_of (k + 1) more others f.2)

-- two are merged just where this holds
pub record Mergeable (a b : DataValue) : Type 0 where
  pub stamp : a.stamp ≡ b.stamp
  pub functions : Fit a.functions b.functions
  pub runs : a.runs + b.runs ≤ word_limit

pub mergeable_of : (a b : DataValue) → merge_fault a b ≡ None → Mergeable a b
mergeable_of a b e =
    let p = or-none _ _ e in
    let q = or-none _ _ p.1 in
    let r = or-none _ _ q.1 in
    record {
      stamp = eqb-true a.stamp b.stamp (unless (a.stamp == b.stamp) (fault.OtherBuild a.stamp b.stamp) p.0);
      functions = fit_of 0 a.functions b.functions
          (map-none fault.OtherShape (other_shape 0 a.functions b.functions) q.0) r.1;
      runs = ltb-false word_limit (a.runs + b.runs) (only (ltb word_limit (a.runs + b.runs)) fault.RunsPassed r.0);
    }

pub fault_of : (a b : DataValue) → Mergeable a b → merge_fault a b ≡ None
fault_of a b m =
    none-or _ _ (cond-true (a.stamp == b.stamp) None (Some (fault.OtherBuild a.stamp b.stamp)) (eq-eqb a.stamp
    b.stamp m.stamp))
    (none-or _ _ (none-map fault.OtherShape (other_shape 0 a.functions b.functions) (shape_of 0 a.functions
    b.functions m.functions))
    (none-or _ _ (cond-false (ltb word_limit (a.runs + b.runs)) (Some fault.RunsPassed) None
    (le-ltb word_limit (a.runs + b.runs) m.runs)) (counts_of 0 a.functions b.functions m.functions)))

-- ---- two

joined_comm : (f : ℕ → ℕ → ℕ) → ((x y : ℕ) → f x y ≡ f y x) → (xs ys : List ℕ) → joined f xs ys ≡ joined f ys xs
joined_comm f c [] [] = refl
joined_comm f c [] (y ∷ ys) = refl
joined_comm f c (x ∷ xs) [] = refl
joined_comm f c (x ∷ xs) (y ∷ ys) = ap₂ (λ z zs. z ∷ zs) (c x y) (joined_comm f c xs ys)

add_comm_ : (x y : ℕ) → x + y ≡ y + x
add_comm_ x y = omega arith

sums_turned : (xs ys : List ℕ) → SumsFit xs ys → SumsFit ys xs
sums_turned [] [] f = tt
sums_turned [] (y ∷ ys) f = tt
sums_turned (x ∷ xs) [] f = tt
sums_turned (x ∷ xs) (y ∷ ys) f = ((let l = f.0 in omega (arith, l)), sums_turned xs ys f.1)

same_turned : (a b : FunctionDataValue) → Same a b → Same b a
same_turned a b s = record { checksum = sym s.checksum; counters = sym s.counters; bits = sym s.bits }

fit_turned : (more others : List FunctionDataValue) → Fit more others → Fit others more
fit_turned [] [] f = tt
fit_turned [] (b ∷ others) f = absurd f
fit_turned (a ∷ more) [] f = absurd f
fit_turned (a ∷ more) (b ∷ others) f = (
  same_turned a b f.0,
  sums_turned a.counters b.counters f.1,
  fit_turned more
      others f.2,
)

abbrev function : ℕ → List ℕ → List ℕ → FunctionDataValue
function checksum counters bits = record { checksum = checksum; counters = counters; bits = bits }

function_comm : (a b : FunctionDataValue) → Same a b → add_function a b ≡ add_function b a
function_comm a b s =
    ap (λ c. function c (sums a.counters b.counters) (ors a.bits b.bits)) s.checksum
    ∙ ap₂ (λ cs others. function b.checksum cs others) (joined_comm (λ x y. x + y) add_comm_ a.counters b.counters)
    (joined_comm bit_or or_comm a.bits b.bits)

functions_comm : (more others : List FunctionDataValue) → Fit more others → add_functions more others ≡
    add_functions others more
functions_comm [] [] f = refl
functions_comm [] (b ∷ others) f = absurd f
functions_comm (a ∷ more) [] f = absurd f
functions_comm (a ∷ more) (b ∷ others) f = ap₂ (λ x xs. x ∷ xs) (function_comm a b f.0) (functions_comm more others f.2)

abbrev counts : ℕ → ℕ → List FunctionDataValue → DataValue
counts stamp runs functions = record { stamp = stamp; runs = runs; functions = functions }

two : (a b : DataValue) → merge_fault a b ≡ None → (merge_fault b a ≡ None) × (added a b ≡ added b a)
two a b e =
    let m = mergeable_of a b e in (
      fault_of b a (record {
        stamp = sym m.stamp;
        functions = fit_turned a.functions b.functions m.functions;
        runs = (let r = m.runs in omega (arith, r));
      }),
      ap (λ s. counts s (a.runs + b.runs) (add_functions a.functions b.functions)) m.stamp
          ∙ ap₂ (λ r fs. counts b.stamp r fs) (add_comm_ a.runs b.runs) (functions_comm a.functions b.functions
          m.functions),
    )

-- ---- three

joined_assoc : (f : ℕ → ℕ → ℕ) → ((x y z : ℕ) → f (f x y) z ≡ f x (f y z)) → (xs ys zs : List ℕ)
    → joined f (joined f xs ys) zs ≡ joined f xs (joined f ys zs)
joined_assoc f c [] ys zs = refl
joined_assoc f c (x ∷ xs) [] zs = refl
joined_assoc f c (x ∷ xs) (y ∷ ys) [] = refl
joined_assoc f c (x ∷ xs) (y ∷ ys) (z ∷ zs) = ap₂ (λ w ws. w ∷ ws) (c x y z) (joined_assoc f c xs ys zs)

add_assoc_ : (x y z : ℕ) → (x + y) + z ≡ x + (y + z)
add_assoc_ x y z = omega arith

or_assoc : (x y z : ℕ) → bit_or (bit_or x y) z ≡ bit_or x (bit_or y z)
or_assoc x y z = same_from_bits _ _ (λ i.
    bit_at_or (bit_or x y) z i ∙ (ap (λ n. max n (bit_at z i)) (bit_at_or x y i)
    ∙ (greatest (bit_at x i) (bit_at y i) (bit_at z i)
    ∙ sym (bit_at_or x (bit_or y z) i ∙ ap (λ n. max (bit_at x i) n) (bit_at_or y z i)))))
  where
    greatest : (a b c : ℕ) → max (max a b) c ≡ max a (max b c)
    greatest a b c = omega arith

joined_long : (f : ℕ → ℕ → ℕ) (xs ys : List ℕ) → length xs ≡ length ys → length (joined f xs ys) ≡ length xs
joined_long f [] ys e = refl
joined_long f (x ∷ xs) [] e = absurd (omega (arith, e))
joined_long f (x ∷ xs) (y ∷ ys) e = ap suc (joined_long f xs ys (omega (arith, e)))

same_joined : (a b c : FunctionDataValue) → Same a b → Same (add_function a b) c → Same b c × Same a (add_function b c)
same_joined a b c s t =
    let counters = joined_long (λ x y. x + y) a.counters b.counters s.counters in
    let bits = joined_long bit_or a.bits b.bits s.bits in
    let first = sym s.counters ∙ (sym counters ∙ t.counters) in
    let second = sym s.bits ∙ (sym bits ∙ t.bits) in (
      record { checksum = sym s.checksum ∙ t.checksum; counters = first; bits = second },
      record {
        checksum = s.checksum;
        counters = s.counters ∙ sym (joined_long (λ x y. x + y) b.counters c.counters first);
        bits = s.bits ∙ sym (joined_long bit_or b.bits c.bits second);
      },
    )

sums_joined : (xs ys zs : List ℕ) → SumsFit xs ys → SumsFit (sums xs ys) zs → length xs ≡ length ys
    → SumsFit ys zs × SumsFit xs (sums ys zs)
sums_joined [] [] zs f g e = (tt, tt)
sums_joined [] (y ∷ ys) zs f g e = absurd (omega (arith, e))
sums_joined (x ∷ xs) [] zs f g e = absurd (omega (arith, e))
sums_joined (x ∷ xs) (y ∷ ys) [] f g e = (tt, tt)
sums_joined (x ∷ xs) (y ∷ ys) (z ∷ zs) f g e =
    let r = sums_joined xs ys zs f.1 g.1 (omega (arith, e)) in
    let l = g.0 in
    (((omega (arith, l)), r.0), ((omega (arith, l)), r.1))

fit_joined : (more others cs : List FunctionDataValue) → Fit more others → Fit (add_functions more others) cs
    → Fit others cs × Fit more (add_functions others cs)
fit_joined [] [] [] f g = (tt, tt)
fit_joined [] [] (c ∷ cs) f g = absurd g
fit_joined [] (b ∷ others) cs f g = absurd f
fit_joined (a ∷ more) [] cs f g = absurd f
fit_joined (a ∷ more) (b ∷ others) [] f g = absurd g
fit_joined (a ∷ more) (b ∷ others) (c ∷ cs) f g =
    let s = same_joined a b c f.0 g.0 in
    let n = sums_joined a.counters b.counters c.counters f.1 g.1 f.0.counters in
    let r = fit_joined more others cs f.2 g.2 in
    ((s.0, n.0, r.0), (s.1, n.1, r.1))

function_assoc : (a b c : FunctionDataValue)
    → add_function (add_function a b) c ≡ add_function a (add_function b c)
function_assoc a b c =
    ap₂ (λ cs others. function a.checksum cs others) (joined_assoc (λ x y. x + y) add_assoc_ a.counters b.counters
    c.counters)
    (joined_assoc bit_or or_assoc a.bits b.bits c.bits)

functions_assoc : (more others cs : List FunctionDataValue)
    → add_functions (add_functions more others) cs ≡ add_functions more (add_functions others cs)
functions_assoc [] others cs = refl
functions_assoc (a ∷ more) [] cs = refl
functions_assoc (a ∷ more) (b ∷ others) [] = refl
functions_assoc (a ∷ more) (b ∷ others) (c ∷ cs) = ap₂ (λ x xs. x ∷ xs) (function_assoc a b c) (functions_assoc more
    others cs)

three : (a b c : DataValue) → merge_fault a b ≡ None → merge_fault (added a b) c ≡ None
    → (merge_fault b c ≡ None) × (merge_fault a (added b c) ≡ None) × (added (added a b) c ≡ added a (added b c))
three a b c e f =
    let m = mergeable_of a b e in
    let n = mergeable_of (added a b) c f in
    let fits = fit_joined a.functions b.functions c.functions m.functions n.functions in
    let r = n.runs in (
      fault_of b c (record { stamp = sym m.stamp ∙ n.stamp; functions = fits.0; runs = omega (arith, r) }),
      fault_of a (added b c) (record { stamp = m.stamp; functions = fits.1; runs = omega (arith, r) }),
      ap₂ (λ r fs. counts a.stamp r fs) (add_assoc_ a.runs b.runs c.runs)
          (functions_assoc a.functions b.functions c.functions),
    )

pub any_order : InAnyOrder
any_order = record { two = two; three = three }
