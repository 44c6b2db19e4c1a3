-- Sorted goals of cases, each once.
use Rattle.std.proofs.Common.{◌≡◌, refl, sym, ap, ◌∙◌, ℕ, ◌≤◌, List, [], ◌∷◌, ◌++◌, map, length, eqb, nat_cmp, arith}
use Rattle.std.proofs.Common.{take_all}
use Rattle.std.specs.Prelude.{ℤ, take}
use Rattle.std.specs.List.{dedup}
use Rattle.std.specs.List.Sorted.{IsSorted, IsPermutation}
use Rattle.std.proofs.lemmas.List.Sorted.{length_permutation}
use Rattle.flow_graph.specs.Graph.{Ending}
use Rattle.flow_graph.specs.Ascending.{inserted}
use Rattle.flow_graph.specs.Nets.{targets}
use Rattle.fake_arcs.proofs.Distinct.{sorted_targets}
use Rattle.stack_code.specs.Laying.{goals}

-- cases whose last stands apart
record Ended (cases : List (ℤ × ℕ)) : Type 0 where
  front : List (ℤ × ℕ)
  last : ℤ × ℕ
  is : cases ≡ front ++ last ∷ []

ended : (c : ℤ × ℕ) (cases : List (ℤ × ℕ)) → Ended (c ∷ cases)
ended c [] = record { front = []; last = c; is = refl }
ended c (d ∷ cases) = let rest = ended d cases in record {
  front = c ∷ rest.front;
  last = rest.last;
  is = ap (λ (l : List (ℤ × ℕ)). c ∷ l) rest.is;
}

goals_ended : (front : List (ℤ × ℕ)) (last : ℤ × ℕ)
    → targets (Ending.Switch front last.1) ≡ goals (front ++ last ∷ [])
goals_ended [] last = refl
goals_ended (c ∷ front) last = ap (inserted c.1) (goals_ended front last)

targets_ended : (front : List (ℤ × ℕ)) (last : ℤ × ℕ)
    → map (λ (c : ℤ × ℕ). c.1) (front ++ last ∷ []) ≡ map (λ (c : ℤ × ℕ). c.1) front ++ last.1 ∷ []
targets_ended [] last = refl
targets_ended (c ∷ front) last = ap (λ (l : List ℕ). c.1 ∷ l) (targets_ended front last)

nothing : (xs ys : List ℕ) → xs ≡ [] → length ys ≡ length xs → ys ≡ []
nothing xs [] e l = refl
nothing xs (y ∷ ys) e l = absurd (let none = ap (λ (l : List ℕ). length l) e in omega (arith, l, none))

pub sorted_goals : (cases : List (ℤ × ℕ)) (raw sorted new : List ℕ) → raw ≡ map (λ (c : ℤ × ℕ). c.1) cases
    → IsPermutation raw sorted → IsSorted nat_cmp sorted → new ≡ dedup eqb sorted
    → new ≡ goals cases
sorted_goals [] raw sorted new e p s d =
    d ∙ ap (dedup eqb) (nothing raw sorted e (length_permutation raw sorted p))
sorted_goals (c ∷ cases) raw sorted new e p s d =
    let h : Ended (c ∷ cases) = ended c cases in
    sorted_targets h.front h.last.1 raw sorted new
    (e ∙ ap (map (λ (c : ℤ × ℕ). c.1)) h.is ∙ targets_ended h.front h.last) p s d
    ∙ goals_ended h.front h.last ∙ sym (ap goals h.is)

pub same_cases : (cases : List (ℤ × ℕ)) → map (λ (c : ℤ × ℕ). (c.0, c.1)) cases ≡ cases
same_cases [] = refl
same_cases (c ∷ cases) = ap (λ (l : List (ℤ × ℕ)). c ∷ l) (same_cases cases)

-- what the loop over cases found
pub raw_cases : (cases : List (ℤ × ℕ)) (k : ℕ) (found : List ℕ) → found ≡ map (λ (c : ℤ × ℕ). c.1) (take k cases)
    → length cases ≤ k → found ≡ map (λ (c : ℤ × ℕ). c.1) (map (λ (c : ℤ × ℕ). (c.0, c.1)) cases)
raw_cases cases k found e l =
    e ∙ ap (λ (x : List (ℤ × ℕ)). map (λ (c : ℤ × ℕ). c.1) x) (take_all k cases l ∙ sym (same_cases cases))
