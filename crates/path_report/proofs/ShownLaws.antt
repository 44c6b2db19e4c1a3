-- Functions as a report shows them.
use Rattle.std.proofs.Common.{◌≡◌, refl, sym, ap, subst, ◌∙◌, ℕ, suc, ◌+◌, ◌^◌, ◌<◌, ◌≤◌, List, [], ◌∷◌, ◌++◌, length, get_or, drop, map, arith, append_assoc, append-nil, pos, negsuc}
use Rattle.std.specs.Prelude.{ℤ, unsigned_abs, ◌≤ℤ◌}
use Rattle.std.specs.List.{All}
use Rattle.std.proofs.lemmas.Int.{ints}
use Rattle.std.proofs.lemmas.List.{drop_all, drop_more, length-map}
use Rattle.std.proofs.lemmas.List.Elements.{All-nil, All-cons, All-head, All-tail}
use Rattle.cov_base.specs.Net.{IsNet}
use Rattle.gcno_format.specs.Notes.{FunctionNotesValue}
use Rattle.function_tallies.specs.Tally.{FunctionTallyValue}
use Rattle.function_tallies.specs.Tallies.{IsOf}
use Rattle.path_report.specs.Tallies.{AreOf}
use Rattle.path_report.specs.Report.{shown, all_shown}
use Rattle.report_parts.specs.Shown.{ShownValue, IsShown}

-- numbers from 0 to 2^80 are counts up to 2^80
counts_small : (numbers : List ℤ) → All (λ n. (pos 0 ≤ℤ n) × (n ≤ℤ pos (2 ^ 80))) numbers
    → All (λ count. count ≤ 2 ^ 80) (map unsigned_abs numbers)
counts_small [] all = All-nil (λ count. count ≤ 2 ^ 80)
counts_small (n ∷ numbers) all =
    All-cons (λ count. count ≤ 2 ^ 80) (unsigned_abs n) (map unsigned_abs numbers)
    (each n (All-head (λ n. (pos 0 ≤ℤ n) × (n ≤ℤ pos (2 ^ 80))) n numbers all))
    (counts_small numbers (All-tail (λ n. (pos 0 ≤ℤ n) × (n ≤ℤ pos (2 ^ 80))) n numbers all))
  where
    each : (n : ℤ) → (pos 0 ≤ℤ n) × (n ≤ℤ pos (2 ^ 80)) → unsigned_abs n ≤ 2 ^ 80
    each (pos n) h = (let high = h.1 in omega (arith, ints, high))
    each (negsuc n) h = (let low = h.0 in let high = h.1 in omega (arith, ints, low, high))

-- A function with a tally of its net is as a report shows it.
pub is_shown : (limit : ℕ) (f : FunctionNotesValue) (t : FunctionTallyValue) → IsNet f.net → IsOf limit f.net t
    → IsShown (shown f t)
is_shown limit f t net of = record {
  net = net;
  long = length-map t.arcs unsigned_abs ∙ of.long;
  small = counts_small t.arcs of.numbers;
}

-- There are as many tallies as functions.
pub as_many : (limit : ℕ) (fs : List FunctionNotesValue) (ts : List FunctionTallyValue) → AreOf limit fs ts
    → length fs ≡ length ts
as_many limit [] [] h = refl
as_many limit [] (t ∷ ts) h = absurd h
as_many limit (f ∷ fs) [] h = absurd h
as_many limit (f ∷ fs) (t ∷ ts) h = ap suc (as_many limit fs ts h.1)

-- the tally of a function is of its net
pub of_here : (limit k : ℕ) (fs : List FunctionNotesValue) (ts : List FunctionTallyValue) (f : FunctionNotesValue)
    (t : FunctionTallyValue) → k < length fs → k < length ts → AreOf limit (drop k fs) (drop k ts)
    → IsOf limit (get_or fs k f).net (get_or ts k t) × AreOf limit (drop (k + 1) fs) (drop (k + 1) ts)
of_here limit k fs ts f t in_fs in_ts h =
    subst (λ ys. AreOf limit (get_or fs k f ∷ drop (k + 1) fs) ys) (drop_more ts k t in_ts)
    (subst (λ xs. AreOf limit xs (drop k ts)) (drop_more fs k f in_fs) h)

-- one function more is shown
pub shown_more : (k : ℕ) (fs : List FunctionNotesValue) (ts : List FunctionTallyValue) (f : FunctionNotesValue)
    (t : FunctionTallyValue) (front new : List ShownValue) (s : ShownValue) (all : List ShownValue) → k < length fs → k < length ts
    → s ≡ shown (get_or fs k f) (get_or ts k t) → new ≡ front ++ s ∷ []
    → front ++ all_shown (drop k fs) (drop k ts) ≡ all
    → new ++ all_shown (drop (k + 1) fs) (drop (k + 1) ts) ≡ all
shown_more k fs ts f t front new s all in_fs in_ts is is_new before =
    ap (λ l. l ++ all_shown (drop (k + 1) fs) (drop (k + 1) ts)) is_new
    ∙ (append_assoc front (s ∷ []) (all_shown (drop (k + 1) fs) (drop (k + 1) ts))
    ∙ (ap (λ x. front ++ x ∷ all_shown (drop (k + 1) fs) (drop (k + 1) ts)) is
    ∙ (ap (λ l. front ++ l) (sym (ap (λ xs. all_shown xs (drop k ts)) (drop_more fs k f in_fs)
    ∙ ap (λ ys. all_shown (get_or fs k f ∷ drop (k + 1) fs) ys) (drop_more ts k t in_ts))) ∙ before)))

-- none is left
pub shown_done : (k : ℕ) (fs : List FunctionNotesValue) (ts : List FunctionTallyValue) (front all : List ShownValue)
    → length fs ≤ k → front ++ all_shown (drop k fs) (drop k ts) ≡ all → front ≡ all
shown_done k fs ts front all past before =
    sym (append-nil front) ∙ (ap (λ xs. front ++ all_shown xs (drop k ts)) (sym (drop_all k fs past)) ∙ before)
