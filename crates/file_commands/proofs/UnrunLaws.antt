-- Functions of which nothing was run, one by one.
use Rattle.std.proofs.Common.{◌≡◌, refl, sym, ap, subst, ◌∙◌, ℕ, zero, suc, ◌+◌, ◌/◌, ◌%◌, ◌^◌, ◌<◌, ◌≤◌, true}
use Rattle.std.proofs.Common.{pos, List, [], ◌∷◌, ◌++◌, length, get_or, drop, replicate, append_assoc, append-nil}
use Rattle.std.proofs.Common.{arith}
use Rattle.std.specs.Prelude.{◌≤ℤ◌}
use Rattle.std.specs.List.{All}
use Rattle.std.proofs.Math.Nat.{zero-div}
use Rattle.std.proofs.lemmas.Int.{ints}
use Rattle.std.proofs.lemmas.Bool.Decides.{nat_tests}
use Rattle.std.proofs.lemmas.List.{length-replicate}
use Rattle.std.proofs.lemmas.List.Elements.{All-replicate}
use Rattle.prime_paths.specs.declared.listing.Listing.{Listing}
use Rattle.prime_paths.specs.declared.listing.Listing.TheVariants as listing
use Rattle.path_masks.specs.Masks.{width}
use Rattle.std.proofs.lemmas.List.{drop_all, drop_more}
use Rattle.gcno_format.specs.Notes.{FunctionNotesValue}
use Rattle.function_tallies.specs.Tally.{FunctionTallyValue}
use Rattle.path_report.specs.Tallies.{AreOf}
use Rattle.function_tallies.specs.Tallies.{IsOf, ends_below, fits_paths}
use Rattle.file_commands.specs.Tallied.{IsUnrun, AreUnrun, words_for}

-- what holds of the tallies of functions from one on, behind those before
abbrev pub Behind : ℕ → List FunctionNotesValue → ℕ → List FunctionTallyValue → Type 0
Behind limit fs k front = (ts : List FunctionTallyValue) → AreUnrun limit (drop k fs) ts
    → AreUnrun limit fs (front ++ ts)

-- one function more is unrun
pub unrun_more : (limit k : ℕ) (fs : List FunctionNotesValue) (f : FunctionNotesValue) (front : List FunctionTallyValue)
    (t : FunctionTallyValue) → k < length fs → IsUnrun limit (get_or fs k f) t → Behind limit fs k front
    → Behind limit fs (k + 1) (front ++ t ∷ [])
unrun_more limit k fs f front t in_fs is before ts h =
    subst (AreUnrun limit fs) (sym (append_assoc front (t ∷ []) ts))
    (before (t ∷ ts) (subst (λ xs. AreUnrun limit xs (t ∷ ts)) (sym (drop_more fs k f in_fs)) (is, h)))

-- no function is left
pub unrun_all : (limit k : ℕ) (fs : List FunctionNotesValue) (front : List FunctionTallyValue) → length fs ≤ k
    → Behind limit fs k front → AreUnrun limit fs front
unrun_all limit k fs front past before =
    subst (AreUnrun limit fs) (append-nil front)
    (before [] (subst (λ xs. AreUnrun limit xs []) (sym (drop_all k fs past)) tt))

-- each of so many numbers is this one
same_at : (d n i : ℕ) → get_or (replicate n d) i d ≡ d
same_at d zero i = refl
same_at d (suc n) zero = refl
same_at d (suc n) (suc i) = same_at d n i

-- words of 0 have no bit
ends_low : (k n : ℕ) → ends_below k (replicate n 0) ≡ true
ends_low k n =
    rw (same_at 0 n (k / 64)) (rw (zero-div (2 ^ (k % 64))))

-- and they are as many as the listed paths need
fits : (paths : Listing) → fits_paths paths (replicate (words_for paths) 0) ≡ true
fits (listing.All paths) =
    grind (arith, nat_tests, length-replicate {A = ℕ} (width paths) 0, ends_low (length paths) (width paths))
fits listing.LimitPassed = refl

-- such a tally is of the net and the limit
pub unrun_of : (limit : ℕ) (f : FunctionNotesValue) (t : FunctionTallyValue) → IsUnrun limit f t → IsOf limit f.net t
unrun_of limit f t h = record {
  long = ap length h.arcs ∙ length-replicate (length f.net.arcs) (pos 0);
  numbers = subst (All (λ n. (pos 0 ≤ℤ n) × (n ≤ℤ pos (2 ^ 80)))) (sym h.arcs)
      (All-replicate (λ n. (pos 0 ≤ℤ n) × (n ≤ℤ pos (2 ^ 80))) (length f.net.arcs) (pos 0)
      (omega (arith, ints), omega (arith, ints)));
  lists = h.lists;
  words = subst (λ bits. fits_paths t.listing bits ≡ true) (sym h.bits) (fits t.listing);
}

-- and so are all of them
pub all_of : (limit : ℕ) (fs : List FunctionNotesValue) (ts : List FunctionTallyValue) → AreUnrun limit fs ts
    → AreOf limit fs ts
all_of limit [] [] h = tt
all_of limit [] (t ∷ ts) h = absurd h
all_of limit (f ∷ fs) [] h = absurd h
all_of limit (f ∷ fs) (t ∷ ts) h = (unrun_of limit f t h.0, all_of limit fs ts h.1)
