-- What is left behind the last function or counter.
use Rattle.std.proofs.Common.{◌≡◌, refl, sym, ap, ◌∙◌, ℕ, ◌+◌, ◌<◌, ◌≤◌, min, List, [], ◌∷◌, length, drop, get_or}
use Rattle.std.proofs.Common.{Option, Some, None, inl, inr, arith}
use Rattle.std.proofs.lemmas.Bool.{cases_lt}
use Rattle.std.proofs.lemmas.List.{drop_all, drop_more}
use Rattle.gcda_format.specs.Data.{FunctionDataValue}
use Rattle.run_merge.specs.declared.merging.MergeFault.{MergeFault}
use Rattle.run_merge.specs.Merging.{passed, count_passed, other_shape}

passed_nil : (c : ℕ) (xs : List ℕ) → passed c xs [] ≡ None
passed_nil c [] = refl
passed_nil c (x ∷ xs) = refl

-- behind the shorter list no sum passes
pub passed_done : (c n : ℕ) (xs ys : List ℕ) (total : Option ℕ) → min (length xs) (length ys) ≤ n
    → passed c (drop n xs) (drop n ys) ≡ total → None ≡ total
passed_done c n xs ys total le h = elim (cases_lt n (length xs)) [
  | inl l ↦
      sym (ap (λ (r : List ℕ). passed c (drop n xs) r) (drop_all n ys (omega (arith, le, l)))
      ∙ passed_nil c (drop n xs)) ∙ h
  | inr past ↦ sym (ap (λ (r : List ℕ). passed c r (drop n ys)) (drop_all n xs past)) ∙ h
]

count_nil : (k : ℕ) (fs : List FunctionDataValue) → count_passed k fs [] ≡ None
count_nil k [] = refl
count_nil k (f ∷ fs) = refl

-- behind the shorter list no count passes
pub count_done : (k n : ℕ) (fs gs : List FunctionDataValue) (total : Option MergeFault)
    → min (length fs) (length gs) ≤ n → count_passed k (drop n fs) (drop n gs) ≡ total → None ≡ total
count_done k n fs gs total le h = elim (cases_lt n (length fs)) [
  | inl l ↦
      sym (ap (λ (r : List FunctionDataValue). count_passed k (drop n fs) r) (drop_all n gs (omega (arith, le, l)))
      ∙ count_nil k (drop n fs)) ∙ h
  | inr past ↦ sym (ap (λ (r : List FunctionDataValue). count_passed k r (drop n gs)) (drop_all n fs past)) ∙ h
]

-- the first function that the old counts lack
pub shape_more : (n : ℕ) (fs gs : List FunctionDataValue) (total : Option ℕ) → length fs ≤ n → n ≤ length fs
    → length fs < length gs → other_shape n (drop n fs) (drop n gs) ≡ total → Some (length fs) ≡ total
shape_more n fs gs total le most more h =
    let same : length fs ≡ n = omega (arith, le, most) in
    ap Some same
    ∙ (sym (ap (λ (r : List FunctionDataValue). other_shape n r (drop n gs)) (drop_all n fs le)
    ∙ ap (λ (r : List FunctionDataValue). other_shape n [] r)
    (drop_more gs n (record { checksum = 0; counters = []; bits = [] }) (omega (arith, same, more)))) ∙ h)
