-- A report on a tally of walks tells what they did.
use Rattle.std.proofs.Common.{◌≡◌, refl, sym, ap, subst, ◌∙◌, ℕ, zero, suc, ◌+◌, ◌/◌, ◌%◌, ◌<◌, ◌==◌, Bool}
use Rattle.std.proofs.Common.{true, false, cond, inl, inr, arith, List, [], ◌∷◌, length, map, get_or, pos}
use Rattle.std.specs.Prelude.{Some, None, Ok, slice_get, nat_le, unsigned_abs}
use Rattle.std.specs.Bool.{Decides}
use Rattle.std.specs.Int.{bit_at}
use Rattle.std.specs.List.{All, list_any}
use Rattle.std.proofs.lemmas.Bool.{cond-true, le-leb, or_cases, or_left, or_right}
use Rattle.std.proofs.lemmas.List.Elements.{All-nil, All-cons, All-head, All-tail}
use Rattle.std.proofs.lemmas.Option.{same_Some, none-some}
use Rattle.cov_base.specs.Net.{NetValue, IsNet}
use Rattle.cov_base.specs.Walks.{Walk, GoesAlong, passages, line_passages}
use Rattle.cov_base.specs.declared.net.FlowArc.{FlowArc}
use Rattle.prime_paths.specs.Listings.{Lists}
use Rattle.prime_paths.specs.Paths.{Among, Contains}
use Rattle.prime_paths.specs.declared.listing.Listing.{Listing}
use Rattle.prime_paths.specs.declared.listing.Listing.TheVariants as listing
use Rattle.prime_paths.proofs.AllPaths.{one_list}
use Rattle.path_masks.specs.Masks.{contains, one_if, nth, words_of, bits_of}
use Rattle.path_masks.proofs.MaskLaws.{bits_tell}
use Rattle.path_masks.proofs.WalkBits.{contains_decides}
use Rattle.covered_runs.specs.CoveredWalks.{walks_of}
use Rattle.gcno_format.specs.Notes.{FunctionNotesValue}
use Rattle.function_tallies.specs.Tally.{FunctionTallyValue}
use Rattle.report_parts.specs.Laws.{GoesWithin}
use Rattle.report_parts.specs.Lines.{is_code_line}
use Rattle.report_parts.specs.Shown.{ShownValue, has_bit, IsShown}
use Rattle.report_parts.proofs.PassageLaws.{lines_are_passages}
use Rattle.path_report.specs.Report.{shown, all_shown}
use Rattle.path_report.specs.Tallies.{AreOf}
use Rattle.path_report.proofs.ShownLaws.{is_shown}
use Rattle.walk_counts.specs.Laws.{ReportsCountPassages, ReportsCountLines, BitsTellPaths}
use Rattle.walk_counts.specs.WalkData.{bits_within}
use Rattle.walk_counts.specs.WalkTallies.{AreFunctionTalliesOf}
use Rattle.walk_counts.specs.WholeWalks.{GoesThrough, AllGoThrough, IsToured}

-- ---- arcs

-- what is shown of a function with notes
record ShownAt (fs : List FunctionNotesValue) (all : List ShownValue) (k : ℕ) : Type 0 where
  notes : FunctionNotesValue
  noted : slice_get fs k ≡ Some notes
  own : ShownValue
  there : slice_get all k ≡ Some own
  net : own.net ≡ notes.net

shown_at : (limit i : ℕ) (fs : List FunctionNotesValue) (walks : List Walk) (ts : List FunctionTallyValue) (k : ℕ)
    → AreFunctionTalliesOf limit i fs walks ts → k < length fs → ShownAt fs (all_shown fs ts) k
shown_at limit i [] walks ts k h lt = absurd (omega (arith, lt))
shown_at limit i (f ∷ fs) walks [] k h lt = absurd h
shown_at limit i (f ∷ fs) walks (t ∷ ts) zero h lt =
    record { notes = f; noted = refl; own = shown f t; there = refl; net = refl }
shown_at limit i (f ∷ fs) walks (t ∷ ts) (suc k) h lt =
    let s = shown_at limit (suc i) fs walks ts k h.1 (omega (arith, lt)) in
    record { notes = s.notes; noted = s.noted; own = s.own; there = s.there; net = s.net }

-- how far passages are from 0 is themselves
own_counts : (i : ℕ) (walks : List Walk) (arcs : List FlowArc)
    → map unsigned_abs (map (λ arc. pos (passages walks i arc)) arcs) ≡ map (passages walks i) arcs
own_counts i walks [] = refl
own_counts i walks (arc ∷ arcs) = ap (λ (l : List ℕ). passages walks i arc ∷ l) (own_counts i walks arcs)

counts_are : (limit i : ℕ) (fs : List FunctionNotesValue) (walks : List Walk) (ts : List FunctionTallyValue) (k : ℕ)
    (s : ShownValue) → AreFunctionTalliesOf limit i fs walks ts → slice_get (all_shown fs ts) k ≡ Some s
    → s.counts ≡ map (passages walks (i + k)) s.net.arcs
counts_are limit i [] walks ts k s h at = absurd (none-some s at)
counts_are limit i (f ∷ fs) walks [] k s h at = absurd h
counts_are limit i (f ∷ fs) walks (t ∷ ts) zero s h at =
    subst (λ (x : ShownValue). x.counts ≡ map (passages walks (i + zero)) x.net.arcs) (same_Some (shown f t) s at)
    (ap (λ l. map unsigned_abs l) h.0.arcs ∙ own_counts i walks f.net.arcs
    ∙ ap (λ n. map (passages walks n) f.net.arcs) (let e : i ≡ i + zero = omega arith in e))
counts_are limit i (f ∷ fs) walks (t ∷ ts) (suc k) s h at =
    counts_are limit (suc i) fs walks ts k s h.1 at
    ∙ ap (λ n. map (passages walks n) s.net.arcs) (let e : suc i + k ≡ i + suc k = omega arith in e)

within : (limit : ℕ) (fs : List FunctionNotesValue) (walks : List Walk) (ts : List FunctionTallyValue)
    → AreFunctionTalliesOf limit 0 fs walks ts → (some : List Walk) → All (λ w. w.function < length fs) some
    → ((i : ℕ) (f : FunctionNotesValue) → slice_get fs i ≡ Some f → AllGoThrough f.net i some)
    → All (GoesWithin (all_shown fs ts)) some
within limit fs walks ts h [] noted through = All-nil (GoesWithin (all_shown fs ts))
within limit fs walks ts h (w ∷ some) noted through =
    let s = shown_at limit 0 fs walks ts w.function h (All-head (λ w. w.function < length fs) w some noted) in
    let goes = All-head (λ (v : Walk). v.function ≡ w.function → GoesThrough s.notes.net v.blocks) w some
    (through w.function s.notes s.noted) refl in
    All-cons (GoesWithin (all_shown fs ts)) w some
    (s.own, s.there, subst (λ (n : NetValue). GoesAlong n.arcs w.blocks) (sym s.net) goes.along)
    (within limit fs walks ts h some (All-tail (λ w. w.function < length fs) w some noted)
    (λ i f at. All-tail (λ (v : Walk). v.function ≡ i → GoesThrough f.net v.blocks) w some (through i f at)))

pub arcs_told : ReportsCountPassages
arcs_told notes runs walks tally h noted is = record {
  along = within notes.limit notes.functions walks tally.functions is.functions walks noted h.through;
  counts = λ k f at. counts_are notes.limit 0 notes.functions walks tally.functions k f is.functions at
      ∙ ap (λ n. map (passages walks n) f.net.arcs) (let e : 0 + k ≡ k = omega arith in e);
}

-- ---- lines

all_are_shown : (limit : ℕ) (fs : List FunctionNotesValue) (ts : List FunctionTallyValue)
    → ((i : ℕ) (f : FunctionNotesValue) → slice_get fs i ≡ Some f → IsNet f.net) → AreOf limit fs ts
    → All IsShown (all_shown fs ts)
all_are_shown limit [] ts nets of = All-nil IsShown
all_are_shown limit (f ∷ fs) [] nets of = absurd of
all_are_shown limit (f ∷ fs) (t ∷ ts) nets of =
    All-cons IsShown (shown f t) (all_shown fs ts) (is_shown limit f t (nets zero f refl) of.0)
    (all_are_shown limit fs ts (λ i g at. nets (suc i) g at) of.1)

own_nets : (limit : ℕ) (fs : List FunctionNotesValue) (ts : List FunctionTallyValue) → AreOf limit fs ts
    → map (λ s. s.net) (all_shown fs ts) ≡ map (λ f. f.net) fs
own_nets limit [] ts of = refl
own_nets limit (f ∷ fs) [] of = absurd of
own_nets limit (f ∷ fs) (t ∷ ts) of = ap (λ (l : List NetValue). f.net ∷ l) (own_nets limit fs ts of.1)

pub lines_told : ReportsCountLines
lines_told notes runs walks tally h noted is of line =
    lines_are_passages (all_shown notes.functions tally.functions)
    (all_are_shown notes.limit notes.functions tally.functions h.nets of) walks
    (arcs_told notes runs walks tally h noted is) line
    ∙ ap (λ (nets : List NetValue). cond (is_code_line (all_shown notes.functions tally.functions) line)
    (Some (line_passages nets walks line)) None) (own_nets notes.limit notes.functions tally.functions of)

-- ---- paths

-- the test of walks tells whether some of them contains the path
toured : (walks : List (List ℕ)) (path : List ℕ) → Decides (list_any (λ w. contains w path) walks) (IsToured walks path)
toured walks path = (told walks, λ h. tells walks h.walk h.among h.contains)
  where
    told : (walks : List (List ℕ)) → list_any (λ w. contains w path) walks ≡ true → IsToured walks path
    told [] e = absurd (let never : false ≡ true = e in cc)
    told (w ∷ walks) e = elim (or_cases (contains w path) (list_any (λ w. contains w path) walks) e) [
      | inl here ↦ record { walk = w; among = inl refl; contains = (contains_decides w path).0 here }
      | inr later ↦ (let r = told walks later in
          record { walk = r.walk; among = inr r.among; contains = r.contains })
    ]

    tells : (walks : List (List ℕ)) (w : List ℕ) → Among w walks → Contains w path
        → list_any (λ w. contains w path) walks ≡ true
    tells [] w m c = absurd m
    tells (v ∷ walks) w (inl e) c =
        or_left _ _ ((contains_decides v path).1 (subst (λ (x : List ℕ). Contains x path) e c))
    tells (v ∷ walks) w (inr m) c = or_right _ _ (tells walks w m c)

nth_there : (t : List ℕ → Bool) (ps : List (List ℕ)) (k : ℕ) (p : List ℕ) → slice_get ps k ≡ Some p → nth t ps k ≡ t p
nth_there t [] k p at = absurd (none-some p at)
nth_there t (q ∷ ps) zero p at = ap t (same_Some q p at)
nth_there t (q ∷ ps) (suc k) p at = nth_there t ps k p at

one_is_set : (b : Bool) → (one_if b == 1) ≡ b
one_is_set true = refl
one_is_set false = refl

pub paths_told : BitsTellPaths
paths_told limit net i walks t is paths all k path at =
    let lists : Lists net limit (Ok (listing.All paths)) =
    subst (λ (l : Listing). Lists net limit (Ok l)) all is.lists in
    let bits : t.bits ≡ words_of seen paths =
    is.bits ∙ ap (λ (ps : List (List ℕ)). bits_within limit ps (walks_of i walks))
    (one_list net is.primes is.primes_are ∙ sym (one_list net paths lists.0))
    ∙ cond-true (nat_le (length paths) limit) (bits_of paths (walks_of i walks)) []
    (le-leb (length paths) limit lists.1) in
    let told : has_bit t.bits k ≡ seen path =
    ap (λ (l : List ℕ). bit_at (get_or l (k / 64) 0) (k % 64) == 1) bits
    ∙ ap (λ (n : ℕ). n == 1) (bits_tell seen paths k) ∙ one_is_set (nth seen paths k)
    ∙ nth_there seen paths k path at in
    subst (λ (b : Bool). Decides b (IsToured (walks_of i walks) path)) (sym told) (toured (walks_of i walks) path)
  where
    seen : List ℕ → Bool
    seen p = list_any (λ w. contains w p) (walks_of i walks)
