-- Data of runs, merged.
use Rattle.std.proofs.Common.{◌≡◌, refl, sym, ap, ap₂, subst, ◌∙◌, ℕ, zero, suc, ◌+◌, ◌^◌, ◌<◌, ◌≤◌}
use Rattle.std.proofs.Common.{List, [], ◌∷◌, length, map}
use Rattle.std.proofs.Common.{replicate, get_or, arith, Some, None, bit_or}
use Rattle.std.specs.Prelude.{slice_get}
use Rattle.std.specs.List.{All}
use Rattle.std.specs.Int.Bits.{or_zero_l}
use Rattle.std.proofs.lemmas.Nat.{or_lt}
use Rattle.std.proofs.lemmas.List.{length-replicate}
use Rattle.std.proofs.lemmas.List.Elements.{All-nil, All-cons, All-head, All-tail, All-weaker}
use Rattle.std.proofs.lemmas.Option.{same_Some, none-some}
use Rattle.stack_ops.specs.Code.{FunctionValue, CodeValue}
use Rattle.code_runs.specs.CodeChecks.{code_fault}
use Rattle.code_runs.specs.CodeRun.{Ran, CodeRun}
use Rattle.code_runs.specs.Tables.{words_in}
use Rattle.gcda_format.specs.Data.{FunctionDataValue, DataValue, IsFunctionData, IsData, FitsRecord}
use Rattle.gcda_format.specs.Data.{count_limit, word_limit, long_limit}
use Rattle.run_merge.specs.Merging.{HasFew, joined, sums, ors, add_function, add_functions, added, merge_fault}
use Rattle.run_merge.proofs.OrderLaws.{Same, SumsFit, Fit, mergeable_of, fault_of}
use Rattle.run_counts.specs.Counts.{counts_from, counts_of, function_zeros, no_counts, HasLongs}
use Rattle.run_counts.proofs.DataLaws.{counts_long}
use Rattle.run_counts.proofs.FewLaws.{code_few}
use Rattle.run_counts.proofs.RunShapes.{lengths, run_shaped}

-- ---- merged data can stand in a file

joined_long : (f : ℕ → ℕ → ℕ) (xs ys : List ℕ) → length xs ≡ length ys → length (joined f xs ys) ≡ length xs
joined_long f [] ys e = refl
joined_long f (x ∷ xs) [] e = absurd (omega (arith, e))
joined_long f (x ∷ xs) (y ∷ ys) e = ap suc (joined_long f xs ys (omega (arith, e)))

sums_within : (xs ys : List ℕ) → SumsFit xs ys → All (λ n. n ≤ count_limit) (sums xs ys)
sums_within [] ys f = All-nil (λ n. n ≤ count_limit)
sums_within (x ∷ xs) [] f = All-nil (λ n. n ≤ count_limit)
sums_within (x ∷ xs) (y ∷ ys) f =
    All-cons (λ n. n ≤ count_limit) (x + y) (sums xs ys) f.0 (sums_within xs ys f.1)

or_long : (a b : ℕ) → a ≤ long_limit → b ≤ long_limit → bit_or a b ≤ long_limit
or_long a b la lb =
    let lt : bit_or a b < 2 ^ 64 = or_lt 64 a b (omega (arith, la)) (omega (arith, lb)) in
    omega (arith, lt)

ors_within : (xs ys : List ℕ) → All (λ n. n ≤ long_limit) xs → All (λ n. n ≤ long_limit) ys
    → All (λ n. n ≤ long_limit) (ors xs ys)
ors_within [] ys p q = All-nil (λ n. n ≤ long_limit)
ors_within (x ∷ xs) [] p q = All-nil (λ n. n ≤ long_limit)
ors_within (x ∷ xs) (y ∷ ys) p q =
    All-cons (λ n. n ≤ long_limit) (bit_or x y) (ors xs ys)
    (or_long x y (All-head (λ n. n ≤ long_limit) x xs p) (All-head (λ n. n ≤ long_limit) y ys q))
    (ors_within xs ys (All-tail (λ n. n ≤ long_limit) x xs p) (All-tail (λ n. n ≤ long_limit) y ys q))

fits_joined : (f : ℕ → ℕ → ℕ) (xs ys : List ℕ) → length xs ≡ length ys → FitsRecord xs → FitsRecord (joined f xs ys)
fits_joined f xs ys e fits = rw (joined_long f xs ys e) fits

function_data : (a b : FunctionDataValue) → Same a b → SumsFit a.counters b.counters → IsFunctionData a → HasLongs b
    → IsFunctionData (add_function a b)
function_data a b same sums_fit is longs = record {
  checksum = is.checksum;
  few = record {
    counters = fits_joined (λ x y. x + y) a.counters b.counters same.counters is.few.counters;
    bits = fits_joined bit_or a.bits b.bits same.bits is.few.bits;
  };
  counts = sums_within a.counters b.counters sums_fit;
  longs = ors_within a.bits b.bits is.longs longs.bits;
}

functions_long : (xs ys : List FunctionDataValue) → Fit xs ys → length (add_functions xs ys) ≡ length xs
functions_long [] [] f = refl
functions_long [] (y ∷ ys) f = absurd f
functions_long (x ∷ xs) [] f = absurd f
functions_long (x ∷ xs) (y ∷ ys) f = ap suc (functions_long xs ys f.2)

functions_data : (xs ys : List FunctionDataValue) → Fit xs ys → All IsFunctionData xs → All HasLongs ys
    → All IsFunctionData (add_functions xs ys)
functions_data [] [] f is longs = All-nil IsFunctionData
functions_data [] (y ∷ ys) f is longs = absurd f
functions_data (x ∷ xs) [] f is longs = absurd f
functions_data (x ∷ xs) (y ∷ ys) f is longs =
    All-cons IsFunctionData (add_function x y) (add_functions xs ys)
    (function_data x y f.0 f.1 (All-head IsFunctionData x xs is) (All-head HasLongs y ys longs))
    (functions_data xs ys f.2 (All-tail IsFunctionData x xs is) (All-tail HasLongs y ys longs))

-- data that can stand in a file still can when the data of a run were merged into them
pub added_data : (a b : DataValue) → merge_fault a b ≡ None → All HasLongs b.functions → IsData a → IsData (added a b)
added_data a b e longs is =
    let m = mergeable_of a b e in
    let few : length a.functions ≤ word_limit = is.few in
    record {
      stamp = is.stamp;
      runs = m.runs;
      few = rw (functions_long a.functions b.functions m.functions) few;
      functions = functions_data a.functions b.functions m.functions is.functions longs;
    }

-- ---- few functions and counters

counters_long : (xs ys : List FunctionDataValue) → Fit xs ys → All (λ d. length d.counters ≤ word_limit) xs
    → All (λ d. length d.counters ≤ word_limit) (add_functions xs ys)
counters_long [] [] f few = All-nil (λ (d : FunctionDataValue). length d.counters ≤ word_limit)
counters_long [] (y ∷ ys) f few = absurd f
counters_long (x ∷ xs) [] f few = absurd f
counters_long (x ∷ xs) (y ∷ ys) f few =
    All-cons (λ (d : FunctionDataValue). length d.counters ≤ word_limit) (add_function x y) (add_functions xs ys)
    (rw (joined_long (λ a b. a + b) x.counters y.counters f.0.counters)
    (All-head (λ (d : FunctionDataValue). length d.counters ≤ word_limit) x xs few))
    (counters_long xs ys f.2 (All-tail (λ (d : FunctionDataValue). length d.counters ≤ word_limit) x xs few))

-- merged data have as few as the old ones
pub added_few : (a b : DataValue) → merge_fault a b ≡ None → HasFew a → HasFew (added a b)
added_few a b e few =
    let m = mergeable_of a b e in
    record {
      functions = rw (functions_long a.functions b.functions m.functions) few.functions;
      counters = counters_long a.functions b.functions m.functions few.counters;
    }

-- data that can stand in a file have few
pub data_few : (d : DataValue) → IsData d → HasFew d
data_few d is = record {
  functions = is.few;
  counters = All-weaker IsFunctionData (λ f. length f.counters ≤ word_limit)
      (λ f fits. (let le = fits.few.counters in omega (arith, le))) d.functions is.functions;
}

-- the lists of a tally have the lengths that functions say
long_at : (size : FunctionValue → ℕ) (all : List (List ℕ)) (fs : List FunctionValue) → lengths all ≡ map size fs
    → (i : ℕ) (f : FunctionValue) → slice_get fs i ≡ Some f → length (get_or all i []) ≡ size f
long_at size all [] e i f is = absurd (none-some f is)
long_at size [] (g ∷ fs) e i f is = absurd (cc)
long_at size (x ∷ all) (g ∷ fs) e zero f is =
    let here : length x ≡ size g = cc in here ∙ ap size (same_Some g f is)
long_at size (x ∷ all) (g ∷ fs) e (suc i) f is =
    let rest : lengths all ≡ map size fs = cc in long_at size all fs rest i f is

counters_few : (k : ℕ) (cs ws : List (List ℕ)) (fs : List FunctionValue)
    → ((i : ℕ) (f : FunctionValue) → slice_get fs i ≡ Some f → length (get_or cs (k + i) []) ≤ word_limit)
    → All (λ d. length d.counters ≤ word_limit) (counts_from k cs ws fs)
counters_few k cs ws [] h = All-nil (λ (d : FunctionDataValue). length d.counters ≤ word_limit)
counters_few k cs ws (f ∷ fs) h =
    All-cons (λ (d : FunctionDataValue). length d.counters ≤ word_limit) _ (counts_from (k + 1) cs ws fs)
    (let add : k + 0 ≡ k = omega arith in subst (λ n. length (get_or cs n []) ≤ word_limit) add (h 0 f refl))
    (counters_few (k + 1) cs ws fs (λ i g is.
    (let add : k + suc i ≡ k + 1 + i = omega arith in
    subst (λ n. length (get_or cs n []) ≤ word_limit) add (h (suc i) g is))))

-- the data of a run have few functions and counters
pub run_few : (c : CodeValue) → code_fault c ≡ None → (input : List ℕ) (turns : ℕ) (ran : Ran)
    → CodeRun c input turns ran → HasFew (counts_of c ran.tally)
run_few c kept input turns ran h =
    let few = code_few c kept in
    let shaped = run_shaped c input turns ran h in
    let functions : length c.functions ≤ 1048576 = few.0 in
    record {
      functions = rw (counts_long 0 ran.tally.counters ran.tally.words c.functions) (omega (arith, functions));
      counters = counters_few 0 ran.tally.counters ran.tally.words c.functions (λ i f is.
          (let le : f.counters ≤ 4096 = (few.1 i f is).counters in
          let add : 0 + i ≡ i = omega arith in
          let long : length (get_or ran.tally.counters i []) ≡ f.counters =
          long_at (λ f. f.counters) ran.tally.counters c.functions shaped.counters i f is in
          subst (λ n. length (get_or ran.tally.counters n []) ≤ word_limit) (sym add) (omega (arith, le, long))));
    }

-- ---- the first run

sums_zero : (n : ℕ) (ys : List ℕ) → length ys ≡ n → sums (replicate n 0) ys ≡ ys
sums_zero zero [] e = refl
sums_zero zero (y ∷ ys) e = absurd (omega (arith, e))
sums_zero (suc n) [] e = absurd (omega (arith, e))
sums_zero (suc n) (y ∷ ys) e =
    ap₂ (λ z zs. z ∷ zs) (let zero_left : 0 + y ≡ y = omega arith in zero_left) (sums_zero n ys (omega (arith, e)))

ors_zero : (n : ℕ) (ys : List ℕ) → length ys ≡ n → ors (replicate n 0) ys ≡ ys
ors_zero zero [] e = refl
ors_zero zero (y ∷ ys) e = absurd (omega (arith, e))
ors_zero (suc n) [] e = absurd (omega (arith, e))
ors_zero (suc n) (y ∷ ys) e = ap₂ (λ z zs. z ∷ zs) (or_zero_l y) (ors_zero n ys (omega (arith, e)))

zeros_fit : (n : ℕ) (ys : List ℕ) → All (λ y. y ≤ count_limit) ys → SumsFit (replicate n 0) ys
zeros_fit zero ys h = tt
zeros_fit (suc n) [] h = tt
zeros_fit (suc n) (y ∷ ys) h = (
  let le : y ≤ count_limit = All-head (λ y. y ≤ count_limit) y ys h in omega (arith, le),
  zeros_fit n ys (All-tail (λ y. y ≤ count_limit) y ys h),
)

-- what is true of each list is true of the one at any place
at_each : (cs : List (List ℕ)) → All (All (λ n. n ≤ count_limit)) cs → (k : ℕ)
    → All (λ n. n ≤ count_limit) (get_or cs k [])
at_each [] h k = All-nil (λ n. n ≤ count_limit)
at_each (x ∷ cs) h zero = All-head (All (λ n. n ≤ count_limit)) x cs h
at_each (x ∷ cs) h (suc k) = at_each cs (All-tail (All (λ n. n ≤ count_limit)) x cs h) k

-- the lists from number k on have the lengths of these functions
record Suits (k : ℕ) (cs ws : List (List ℕ)) (fs : List FunctionValue) : Type 0 where
  counters : (i : ℕ) (f : FunctionValue) → slice_get fs i ≡ Some f → length (get_or cs (k + i) []) ≡ f.counters
  words : (i : ℕ) (f : FunctionValue) → slice_get fs i ≡ Some f → length (get_or ws (k + i) []) ≡ words_in f.paths

suits_here : (k : ℕ) (cs ws : List (List ℕ)) (f : FunctionValue) (fs : List FunctionValue) → Suits k cs ws (f ∷ fs)
    → (length (get_or cs k []) ≡ f.counters) × (length (get_or ws k []) ≡ words_in f.paths)
suits_here k cs ws f fs s =
    let add : k + 0 ≡ k = omega arith in (
      subst (λ n. length (get_or cs n []) ≡ f.counters) add (s.counters 0 f refl),
      subst (λ n. length (get_or ws n []) ≡ words_in f.paths) add (s.words 0 f refl),
    )

suits_on : (k : ℕ) (cs ws : List (List ℕ)) (f : FunctionValue) (fs : List FunctionValue) → Suits k cs ws (f ∷ fs)
    → Suits (k + 1) cs ws fs
suits_on k cs ws f fs s = record {
  counters = λ i g is. (let add : k + suc i ≡ k + 1 + i = omega arith in
      subst (λ n. length (get_or cs n []) ≡ g.counters) add (s.counters (suc i) g is));
  words = λ i g is. (let add : k + suc i ≡ k + 1 + i = omega arith in
      subst (λ n. length (get_or ws n []) ≡ words_in g.paths) add (s.words (suc i) g is));
}

first_fit : (k : ℕ) (cs ws : List (List ℕ)) (fs : List FunctionValue) → Suits k cs ws fs
    → All (All (λ n. n ≤ count_limit)) cs → Fit (map function_zeros fs) (counts_from k cs ws fs)
first_fit k cs ws [] s h = tt
first_fit k cs ws (f ∷ fs) s h =
    let here = suits_here k cs ws f fs s in (
      record {
        checksum = refl;
        counters = length-replicate {A = ℕ} f.counters 0 ∙ sym here.0;
        bits = length-replicate {A = ℕ} (words_in f.paths) 0 ∙ sym here.1;
      },
      zeros_fit f.counters (get_or cs k []) (at_each cs h k),
      first_fit (k + 1) cs ws fs (suits_on k cs ws f fs s) h,
    )

first_added : (k : ℕ) (cs ws : List (List ℕ)) (fs : List FunctionValue) → Suits k cs ws fs
    → add_functions (map function_zeros fs) (counts_from k cs ws fs) ≡ counts_from k cs ws fs
first_added k cs ws [] s = refl
first_added k cs ws (f ∷ fs) s =
    let here = suits_here k cs ws f fs s in
    ap₂ (λ (d : FunctionDataValue) (ds : List FunctionDataValue). d ∷ ds)
    (ap₂ (λ (xs ys : List ℕ). record { checksum = f.checksum; counters = xs; bits = ys })
    (sums_zero f.counters (get_or cs k []) here.0) (ors_zero (words_in f.paths) (get_or ws k []) here.1))
    (first_added (k + 1) cs ws fs (suits_on k cs ws f fs s))

-- merged into the data of no run, a run's are themselves
pub first_is_itself : (c : CodeValue) (input : List ℕ) (turns : ℕ) (ran : Ran) → CodeRun c input turns ran
    → All (All (λ n. n ≤ count_limit)) ran.tally.counters
    → (merge_fault (no_counts c) (counts_of c ran.tally) ≡ None)
    × (added (no_counts c) (counts_of c ran.tally) ≡ counts_of c ran.tally)
first_is_itself c input turns ran h within =
    let shaped = run_shaped c input turns ran h in
    let cs = ran.tally.counters in
    let ws = ran.tally.words in
    let s : Suits 0 cs ws c.functions = record {
      counters = λ i f is. (let add : 0 + i ≡ i = omega arith in
          subst (λ n. length (get_or cs n []) ≡ f.counters) (sym add)
          (long_at (λ f. f.counters) cs c.functions shaped.counters i f is));
      words = λ i f is. (let add : 0 + i ≡ i = omega arith in
          subst (λ n. length (get_or ws n []) ≡ words_in f.paths) (sym add)
          (long_at (λ f. words_in f.paths) ws c.functions shaped.words i f is));
    } in (
      fault_of (no_counts c) (counts_of c ran.tally) (record {
        stamp = refl;
        functions = first_fit 0 cs ws c.functions s within;
        runs = omega arith;
      }),
      ap (λ (ds : List FunctionDataValue). record { stamp = c.stamp; runs = 1; functions = ds })
          (first_added 0 cs ws c.functions s),
    )
