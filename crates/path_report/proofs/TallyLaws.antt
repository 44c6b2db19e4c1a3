-- Tallies and faults, function by function.
use Rattle.std.proofs.Common.{◌≡◌, refl, sym, subst, ℕ, ◌+◌, ◌<◌, ◌≤◌, inl, inr, List, [], ◌∷◌, ◌++◌, length, get_or, drop, append_assoc, append-nil}
use Rattle.std.specs.Prelude.{Err}
use Rattle.std.proofs.lemmas.List.{drop_all, drop_more}
use Rattle.cov_base.specs.declared.refusal.Refusal.{Refusal}
use Rattle.cov_base.specs.declared.refusal.Refusal.TheVariants as refusal
use Rattle.gcda_format.specs.Data.{DataValue, FunctionDataValue}
use Rattle.gcno_format.specs.Notes.{NotesValue, FunctionNotesValue}
use Rattle.function_tallies.specs.Tally.{FunctionTallyValue}
use Rattle.function_tallies.specs.Tallies.{IsTallied, FaultOf, IsOf, TalliesFunction}
use Rattle.function_tallies.specs.declared.tally.TallyFault.{TallyFault}
use Rattle.function_tallies.specs.declared.tally.TallyFault.TheVariants as fault
use Rattle.path_report.specs.Tallies.{AreTallied, IsFirstOf, Tallies, AreOf, RefusesFirst}

-- what holds of the tallies of functions from one on, behind those before
abbrev pub Behind : ℕ → List FunctionNotesValue → List FunctionDataValue → ℕ → List FunctionTallyValue → Type 0
Behind limit fs ds k front = (ts : List FunctionTallyValue) → AreTallied limit (drop k fs) (drop k ds) ts
    → AreTallied limit fs ds (front ++ ts)

-- the same of tallies of their nets
abbrev pub OfBehind : ℕ → List FunctionNotesValue → ℕ → List FunctionTallyValue → Type 0
OfBehind limit fs k front = (ts : List FunctionTallyValue) → AreOf limit (drop k fs) ts → AreOf limit fs (front ++ ts)

-- the first fault from a function on is the first of all
abbrev pub FirstBehind : ℕ → List FunctionNotesValue → List FunctionDataValue → ℕ → Type 0
FirstBehind limit fs ds k = (found : TallyFault) → IsFirstOf limit k (drop k fs) (drop k ds) found
    → IsFirstOf limit 0 fs ds found

-- one function more has its tally
pub tallied_more : (limit k : ℕ) (fs : List FunctionNotesValue) (ds : List FunctionDataValue) (f : FunctionNotesValue)
    (d : FunctionDataValue) (front : List FunctionTallyValue) (t : FunctionTallyValue) → k < length fs → k < length ds
    → IsTallied limit (get_or fs k f).checksum (get_or fs k f).net (get_or ds k d) t → Behind limit fs ds k front
    → Behind limit fs ds (k + 1) (front ++ t ∷ [])
tallied_more limit k fs ds f d front t in_fs in_ds is before ts h =
    subst (AreTallied limit fs ds) (sym (append_assoc front (t ∷ []) ts))
    (before (t ∷ ts) (subst (λ xs. AreTallied limit xs (drop k ds) (t ∷ ts)) (sym (drop_more fs k f in_fs))
    (subst (λ ys. AreTallied limit (get_or fs k f ∷ drop (k + 1) fs) ys (t ∷ ts)) (sym (drop_more ds k d in_ds)) (is, h))))

pub of_more : (limit k : ℕ) (fs : List FunctionNotesValue) (f : FunctionNotesValue) (front : List FunctionTallyValue)
    (t : FunctionTallyValue) → k < length fs → IsOf limit (get_or fs k f).net t → OfBehind limit fs k front
    → OfBehind limit fs (k + 1) (front ++ t ∷ [])
of_more limit k fs f front t in_fs is before ts h =
    subst (AreOf limit fs) (sym (append_assoc front (t ∷ []) ts))
    (before (t ∷ ts) (subst (λ xs. AreOf limit xs (t ∷ ts)) (sym (drop_more fs k f in_fs)) (is, h)))

-- what is the first fault at a function and behind it
at_function : (limit k : ℕ) (fs : List FunctionNotesValue) (ds : List FunctionDataValue) (f : FunctionNotesValue)
    (d : FunctionDataValue) (found : TallyFault) → k < length fs → k < length ds
    → IsFirstOf limit k (get_or fs k f ∷ drop (k + 1) fs) (get_or ds k d ∷ drop (k + 1) ds) found
    → IsFirstOf limit k (drop k fs) (drop k ds) found
at_function limit k fs ds f d found in_fs in_ds h =
    subst (λ xs. IsFirstOf limit k xs (drop k ds) found) (sym (drop_more fs k f in_fs))
    (subst (λ ys. IsFirstOf limit k (get_or fs k f ∷ drop (k + 1) fs) ys found) (sym (drop_more ds k d in_ds)) h)

pub first_more : (limit k : ℕ) (fs : List FunctionNotesValue) (ds : List FunctionDataValue) (f : FunctionNotesValue)
    (d : FunctionDataValue) (t : FunctionTallyValue) → k < length fs → k < length ds
    → IsTallied limit (get_or fs k f).checksum (get_or fs k f).net (get_or ds k d) t → FirstBehind limit fs ds k
    → FirstBehind limit fs ds (k + 1)
first_more limit k fs ds f d t in_fs in_ds is before found h =
    before found (at_function limit k fs ds f d found in_fs in_ds (inr ((t, is), h)))

-- a fault of the function is the first
pub first_here : (limit k : ℕ) (fs : List FunctionNotesValue) (ds : List FunctionDataValue) (f : FunctionNotesValue)
    (d : FunctionDataValue) (found : TallyFault) → k < length fs → k < length ds
    → FaultOf limit k (get_or fs k f).checksum (get_or fs k f).net (get_or ds k d) found → FirstBehind limit fs ds k
    → IsFirstOf limit 0 fs ds found
first_here limit k fs ds f d found in_fs in_ds is before =
    before found (at_function limit k fs ds f d found in_fs in_ds (inl is))

-- a function without counts is at fault
pub first_lacks : (limit k : ℕ) (fs : List FunctionNotesValue) (ds : List FunctionDataValue) (f : FunctionNotesValue)
    → k < length fs → length ds ≤ k → FirstBehind limit fs ds k → IsFirstOf limit 0 fs ds (fault.OtherShape k)
first_lacks limit k fs ds f in_fs past before =
    before (fault.OtherShape k) (subst (λ xs. IsFirstOf limit k xs (drop k ds) (fault.OtherShape k)) (sym (drop_more fs k f in_fs))
    (subst (λ ys. IsFirstOf limit k (get_or fs k f ∷ drop (k + 1) fs) ys (fault.OtherShape k)) (sym (drop_all k ds past)) refl))

-- counts without a function are at fault
pub first_extra : (limit k : ℕ) (fs : List FunctionNotesValue) (ds : List FunctionDataValue) (d : FunctionDataValue)
    → length fs ≤ k → k < length ds → FirstBehind limit fs ds k → IsFirstOf limit 0 fs ds (fault.OtherShape k)
first_extra limit k fs ds d past in_ds before =
    before (fault.OtherShape k) (subst (λ xs. IsFirstOf limit k xs (drop k ds) (fault.OtherShape k)) (sym (drop_all k fs past))
    (subst (λ ys. IsFirstOf limit k [] ys (fault.OtherShape k)) (sym (drop_more ds k d in_ds)) refl))

-- no function is left
pub tallied_all : (limit k : ℕ) (fs : List FunctionNotesValue) (ds : List FunctionDataValue)
    (front : List FunctionTallyValue) → length fs ≤ k → length ds ≤ k → Behind limit fs ds k front
    → AreTallied limit fs ds front
tallied_all limit k fs ds front past_fs past_ds before =
    subst (AreTallied limit fs ds) (append-nil front)
    (before [] (subst (λ xs. AreTallied limit xs (drop k ds) []) (sym (drop_all k fs past_fs))
    (subst (λ ys. AreTallied limit [] ys []) (sym (drop_all k ds past_ds)) tt)))

pub of_all : (limit k : ℕ) (fs : List FunctionNotesValue) (front : List FunctionTallyValue) → length fs ≤ k
    → OfBehind limit fs k front → AreOf limit fs front
of_all limit k fs front past before =
    subst (AreOf limit fs) (append-nil front)
    (before [] (subst (λ xs. AreOf limit xs []) (sym (drop_all k fs past)) tt))

-- no function has a fault of the stamps
no_build : (limit k : ℕ) (fs : List FunctionNotesValue) (ds : List FunctionDataValue) (a b : ℕ)
    → IsFirstOf limit k fs ds (fault.OtherBuild a b) → ⊥
no_build limit k [] [] a b h = h
no_build limit k [] (d ∷ ds) a b h = (let wrong : fault.OtherBuild a b ≡ fault.OtherShape k = h in cc)
no_build limit k (f ∷ fs) [] a b h = (let wrong : fault.OtherBuild a b ≡ fault.OtherShape k = h in cc)
no_build limit k (f ∷ fs) (d ∷ ds) a b (inl h) = h
no_build limit k (f ∷ fs) (d ∷ ds) a b (inr h) = no_build limit (k + 1) fs ds a b h.1

-- Where the stamps are the same, the first fault of the functions is the first of all.
pub refuses : (notes : NotesValue) (counts : DataValue) (e : Refusal TallyFault) → notes.stamp ≡ counts.stamp
    → RefusesFirst notes.limit notes.functions counts.functions e → Tallies notes counts (Err e)
refuses notes counts (refusal.Refused (fault.OtherBuild a b)) same h =
    absurd (no_build notes.limit 0 notes.functions counts.functions a b h)
refuses notes counts (refusal.Refused (fault.OtherShape k)) same h = (same, h)
refuses notes counts (refusal.Refused (fault.NotAFlow k arc)) same h = (same, h)
refuses notes counts refusal.NoMemory same h = tt

-- A refusal at a function is the first of all.
pub refuses_at : (limit k : ℕ) (fs : List FunctionNotesValue) (ds : List FunctionDataValue) (f : FunctionNotesValue)
    (d : FunctionDataValue) (e : Refusal TallyFault) → k < length fs → k < length ds
    → TalliesFunction limit k (get_or fs k f).checksum (get_or fs k f).net (get_or ds k d) (Err e)
    → FirstBehind limit fs ds k → RefusesFirst limit fs ds e
refuses_at limit k fs ds f d (refusal.Refused found) in_fs in_ds is before =
    first_here limit k fs ds f d found in_fs in_ds is before
refuses_at limit k fs ds f d refusal.NoMemory in_fs in_ds is before = tt
