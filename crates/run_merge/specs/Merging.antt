-- What counts of runs are together, and why they may not be put together.
use Rattle.std.specs.Prelude.{
  ◌≡◌,
  ℕ,
  ◌+◌,
  ◌≤◌,
  ◌==◌,
  ◌&&◌,
  nat_lt,
  Bool,
  if◌then◌else◌,
  List,
  [],
  ◌∷◌,
  length,
  Option,
  Some,
  None,
  Result,
  Ok,
  Err,
  bit_or,
}
use Rattle.std.specs.List.{All}
use Rattle.std.specs.Option.{option_or, option_map}
use Rattle.gcda_format.specs.Data.{FunctionDataValue, DataValue, count_limit, word_limit}
use Rattle.run_merge.specs.declared.merging.MergeFault.{MergeFault}
use Rattle.run_merge.specs.declared.merging.MergeFault.TheVariants as fault

-- functions and counters have numbers of 32 bits
pub record HasFew (d : DataValue) : Type 0 where
  pub functions : length d.functions ≤ word_limit
  pub counters : All (λ f. length f.counters ≤ word_limit) d.functions

-- ---- together

-- two lists, joined number by number
abbrev pub joined : (ℕ → ℕ → ℕ) → List ℕ → List ℕ → List ℕ
joined join [] ys = []
joined join (x ∷ xs) [] = []
joined join (x ∷ xs) (y ∷ ys) = join x y ∷ joined join xs ys

-- the sums of counts
abbrev pub sums : List ℕ → List ℕ → List ℕ
sums = joined (λ x y. x + y)

-- the bits that are set in one or the other
abbrev pub ors : List ℕ → List ℕ → List ℕ
ors = joined bit_or

-- the counts of a function together: the sums of its counters, and the bits of either
abbrev pub add_function : FunctionDataValue → FunctionDataValue → FunctionDataValue
add_function a b =
    record { checksum = a.checksum; counters = sums a.counters b.counters; bits = ors a.bits b.bits }

-- function by function
abbrev pub add_functions : List FunctionDataValue → List FunctionDataValue → List FunctionDataValue
add_functions [] others = []
add_functions (a ∷ more) [] = []
add_functions (a ∷ more) (b ∷ others) = add_function a b ∷ add_functions more others

-- the counts of both: the sum of the runs, and of each function its counts together
abbrev pub added : DataValue → DataValue → DataValue
added a b = record { stamp = a.stamp; runs = a.runs + b.runs; functions = add_functions a.functions b.functions }

-- ---- why not

-- the functions have the same checksum, and as many counters and longs of bits
abbrev pub same_shape : FunctionDataValue → FunctionDataValue → Bool
same_shape a b =
    (a.checksum == b.checksum) && ((length a.counters == length b.counters) && (length a.bits == length b.bits))

-- of these functions, the first of which has number k, the number of the first that one lacks or that has another shape
abbrev pub other_shape : ℕ → List FunctionDataValue → List FunctionDataValue → Option ℕ
other_shape k [] [] = None
other_shape k [] (b ∷ others) = Some k
other_shape k (a ∷ more) [] = Some k
other_shape k (a ∷ more) (b ∷ others) = if same_shape a b then other_shape (k + 1) more others else Some k

-- of these counters, the first of which has number c, the number of the first whose sum passes the limit
abbrev pub passed : ℕ → List ℕ → List ℕ → Option ℕ
passed c [] ys = None
passed c (x ∷ xs) [] = None
passed c (x ∷ xs) (y ∷ ys) = if nat_lt count_limit (x + y) then Some c else passed (c + 1) xs ys

-- of these functions, the first of which has number k, the first counter whose sum passes the limit
abbrev pub count_passed : ℕ → List FunctionDataValue → List FunctionDataValue → Option MergeFault
count_passed k [] others = None
count_passed k (a ∷ more) [] = None
count_passed k (a ∷ more) (b ∷ others) = option_or (option_map (λ c. fault.CountPassed k c) (passed 0 a.counters
    b.counters))
    (count_passed (k + 1) more others)

-- The first that stands: other stamps, another shape of a function, more runs than can be told, a count above the
-- limit.
abbrev pub merge_fault : DataValue → DataValue → Option MergeFault
merge_fault a b =
    option_or (if a.stamp == b.stamp then None else Some (fault.OtherBuild a.stamp b.stamp))
    (option_or (option_map fault.OtherShape (other_shape 0 a.functions b.functions))
    (option_or (if nat_lt word_limit (a.runs + b.runs) then Some fault.RunsPassed else None)
    (count_passed 0 a.functions b.functions)))

-- the old counts became those of both; or they were left as they are, for the first fault that stands
abbrev pub Merges : {T : Type 0} → DataValue → DataValue → DataValue → Result T MergeFault → Type 0
Merges old run new (Ok x) = (merge_fault old run ≡ None) × (new ≡ added old run)
Merges old run new (Err found) = (merge_fault old run ≡ Some found) × (new ≡ old)

-- ---- any order

-- Where two are merged, they can be merged the other way round as well, and give the same; where a third is merged into
-- the counts of two, the second and the third can be merged first, and all three are the same.
pub record InAnyOrder : Type 0 where
  pub two : (a b : DataValue) → merge_fault a b ≡ None → (merge_fault b a ≡ None) × (added a b ≡ added b a)
  pub three : (a b c : DataValue) → merge_fault a b ≡ None → merge_fault (added a b) c ≡ None
      → (merge_fault b c ≡ None) × (merge_fault a (added b c) ≡ None) × (added (added a b) c ≡ added a (added b c))
