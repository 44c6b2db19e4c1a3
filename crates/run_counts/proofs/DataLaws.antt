-- The data of functions, one after another.
use Rattle.std.proofs.Common.{◌≡◌, refl, sym, ap, subst, ◌∙◌, ℕ, suc, ◌+◌, ◌<◌, ◌≤◌}
use Rattle.std.proofs.Common.{List, [], ◌∷◌, ◌++◌, length, get_or, drop, map}
use Rattle.std.proofs.Common.{append_assoc, arith, Some, None}
use Rattle.std.specs.Prelude.{slice_get, slice_index_or}
use Rattle.std.specs.List.{All}
use Rattle.std.proofs.lemmas.List.{drop_more, length-map, length-replicate}
use Rattle.std.proofs.lemmas.List.Elements.{All-nil, All-cons, All-head, All-tail, All-replicate}
use Rattle.stack_ops.specs.Code.{FunctionValue, CodeValue}
use Rattle.code_runs.specs.CodeChecks.{code_fault}
use Rattle.code_runs.specs.Tables.{words_in}
use Rattle.gcda_format.specs.Data.{FunctionDataValue, DataValue, IsFunctionData, IsData}
use Rattle.gcda_format.specs.Data.{count_limit, word_limit, long_limit}
use Rattle.run_merge.specs.Merging.{HasFew}
use Rattle.run_counts.specs.Counts.{counts_from, function_zeros, no_counts}
use Rattle.run_counts.proofs.FewLaws.{IsFew, code_few}

-- the data of function k
abbrev pub function_of : ℕ → List (List ℕ) → List (List ℕ) → FunctionValue → FunctionDataValue
function_of k counters words f =
    record { checksum = f.checksum; counters = slice_index_or counters k []; bits = slice_index_or words k [] }

-- one function more
pub counts_more : (k : ℕ) (cs ws : List (List ℕ)) (fs : List FunctionValue) (f : FunctionValue)
    (front new : List FunctionDataValue) (d : FunctionDataValue) (all : List FunctionDataValue) → k < length fs
    → d ≡ function_of k cs ws (get_or fs k f) → new ≡ front ++ d ∷ []
    → front ++ counts_from k cs ws (drop k fs) ≡ all → new ++ counts_from (k + 1) cs ws (drop (k + 1) fs) ≡ all
counts_more k cs ws fs f front new d all lt is is_new before =
    let rest : List FunctionDataValue = counts_from (k + 1) cs ws (drop (k + 1) fs) in
    ap (λ (l : List FunctionDataValue). l ++ rest) is_new
    ∙ (append_assoc front (d ∷ []) rest
    ∙ (ap (λ (x : FunctionDataValue). front ++ x ∷ rest) is
    ∙ (sym (ap (λ (gs : List FunctionValue). front ++ counts_from k cs ws gs) (drop_more fs k f lt)) ∙ before)))

-- one function more, whose counts are 0
pub zeros_more : (k : ℕ) (fs : List FunctionValue) (f : FunctionValue) (front new : List FunctionDataValue)
    (d : FunctionDataValue) (all : List FunctionDataValue) → k < length fs → d ≡ function_zeros (get_or fs k f)
    → new ≡ front ++ d ∷ [] → front ++ map function_zeros (drop k fs) ≡ all
    → new ++ map function_zeros (drop (k + 1) fs) ≡ all
zeros_more k fs f front new d all lt is is_new before =
    let rest : List FunctionDataValue = map function_zeros (drop (k + 1) fs) in
    ap (λ (l : List FunctionDataValue). l ++ rest) is_new
    ∙ (append_assoc front (d ∷ []) rest
    ∙ (ap (λ (x : FunctionDataValue). front ++ x ∷ rest) is
    ∙ (sym (ap (λ (gs : List FunctionValue). front ++ map function_zeros gs) (drop_more fs k f lt)) ∙ before)))

-- there is data for each function
pub counts_long : (k : ℕ) (cs ws : List (List ℕ)) (fs : List FunctionValue)
    → length (counts_from k cs ws fs) ≡ length fs
counts_long k cs ws [] = refl
counts_long k cs ws (f ∷ fs) = ap suc (counts_long (k + 1) cs ws fs)

-- ---- the data of no run

zeros_data : (f : FunctionValue) → IsFew f → f.checksum ≤ word_limit → IsFunctionData (function_zeros f)
zeros_data f few checksum = record {
  checksum = checksum;
  few = record {
    counters = rw (length-replicate {A = ℕ} f.counters 0) (let le = few.counters in omega (arith, le));
    bits = rw (length-replicate {A = ℕ} (words_in f.paths) 0) (let le = few.paths in omega (arith, le));
  };
  counts = All-replicate (λ n. n ≤ count_limit) f.counters 0 (omega arith);
  longs = All-replicate (λ n. n ≤ long_limit) (words_in f.paths) 0 (omega arith);
}

all_zeros_data : (fs : List FunctionValue) → ((i : ℕ) (f : FunctionValue) → slice_get fs i ≡ Some f → IsFew f)
    → All (λ d. d.checksum ≤ word_limit) (map function_zeros fs) → All IsFunctionData (map function_zeros fs)
all_zeros_data [] few checksums = All-nil IsFunctionData
all_zeros_data (f ∷ fs) few checksums =
    All-cons IsFunctionData (function_zeros f) (map function_zeros fs)
    (zeros_data f (few 0 f refl)
    (All-head (λ d. d.checksum ≤ word_limit) (function_zeros f) (map function_zeros fs) checksums))
    (all_zeros_data fs (λ i g is. few (suc i) g is)
    (All-tail (λ d. d.checksum ≤ word_limit) (function_zeros f) (map function_zeros fs) checksums))

-- the data of no run can stand in a file
pub no_counts_data : (c : CodeValue) (d : DataValue) → d ≡ no_counts c → code_fault c ≡ None → d.stamp ≤ word_limit
    → All (λ x. x.checksum ≤ word_limit) d.functions → IsData d
no_counts_data c d is kept stamp checksums =
    let few = code_few c kept in
    let functions : length c.functions ≤ 1048576 = few.0 in
    let zeros : d.functions ≡ map function_zeros c.functions = ap (λ (x : DataValue). x.functions) is in
    let none : d.runs ≡ 0 = ap (λ (x : DataValue). x.runs) is in
    record {
      stamp = stamp;
      runs = omega (arith, none);
      few = rw (zeros, length-map c.functions function_zeros) (omega (arith, functions));
      functions = rw zeros (all_zeros_data c.functions few.1
          (subst (All (λ x. x.checksum ≤ word_limit)) zeros checksums));
    }

zeros_few : (fs : List FunctionValue) → ((i : ℕ) (f : FunctionValue) → slice_get fs i ≡ Some f → IsFew f)
    → All (λ d. length d.counters ≤ word_limit) (map function_zeros fs)
zeros_few [] few = All-nil (λ (d : FunctionDataValue). length d.counters ≤ word_limit)
zeros_few (f ∷ fs) few =
    All-cons (λ (d : FunctionDataValue). length d.counters ≤ word_limit) (function_zeros f) (map function_zeros fs)
    (let le : f.counters ≤ 4096 = (few 0 f refl).counters in
    rw (length-replicate {A = ℕ} f.counters 0) (omega (arith, le)))
    (zeros_few fs (λ i g is. few (suc i) g is))

-- the data of no run have few functions and counters
pub no_counts_few : (c : CodeValue) (d : DataValue) → d ≡ no_counts c → code_fault c ≡ None → HasFew d
no_counts_few c d is kept =
    let few = code_few c kept in
    let functions : length c.functions ≤ 1048576 = few.0 in
    let zeros : d.functions ≡ map function_zeros c.functions = ap (λ (x : DataValue). x.functions) is in
    record {
      functions = rw (zeros, length-map c.functions function_zeros) (omega (arith, functions));
      counters = rw zeros (zeros_few c.functions few.1);
    }
