-- Where nothing was run, a report tells of no walks.
use Rattle.std.proofs.Common.{◌≡◌, refl, sym, ap, subst, ◌∙◌, ℕ, suc, ◌≤◌, ◌<◌, Bool, true, false, cond, pos}
use Rattle.std.proofs.Common.{List, [], ◌∷◌, length, map, replicate}
use Rattle.std.specs.Prelude.{ℤ, nat_le, Ok}
use Rattle.std.proofs.lemmas.Bool.{le-leb, lt-leb}
use Rattle.cov_base.specs.Net.{NetValue}
use Rattle.cov_base.specs.Walks.{passages}
use Rattle.cov_base.specs.declared.net.FlowArc.{FlowArc}
use Rattle.c_tree.specs.Typed.{Typed}
use Rattle.prime_paths.specs.Listings.{Lists}
use Rattle.prime_paths.specs.Paths.{ArePrimes}
use Rattle.prime_paths.specs.declared.listing.Listing.{Listing}
use Rattle.prime_paths.specs.declared.listing.Listing.TheVariants as listing
use Rattle.prime_paths.proofs.PrimeLaws.{one_list_each}
use Rattle.path_masks.specs.Masks.{bits_of, width}
use Rattle.gcno_format.specs.Notes.{FunctionNotesValue, NotesValue}
use Rattle.function_tallies.specs.Tally.{FunctionTallyValue}
use Rattle.path_report.specs.Tally.{TallyValue}
use Rattle.walk_counts.specs.WalkData.{bits_within}
use Rattle.walk_counts.specs.WalkTallies.{AreFunctionTalliesOf, IsFunctionTallyOf}
use Rattle.walk_counts.proofs.WordShapes.{bits_listed}
use Rattle.file_commands.specs.Tallied.{AreUnrun, IsEmptyTally, IsUnrun, words_for}
use Rattle.headline.specs.SourceRuns.{TellsOf, notes_for}
use Rattle.headline.proofs.CountedRuns.{no_words}

-- ---- one function

none_passed : (i : ℕ) (arcs : List FlowArc)
    → replicate (length arcs) (pos 0) ≡ map (λ arc. pos (passages [] i arc)) arcs
none_passed i [] = refl
none_passed i (arc ∷ arcs) = ap (λ (l : List ℤ). pos 0 ∷ l) (none_passed i arcs)

-- the prime paths of a net
abbrev primes_of : NetValue → List (List ℕ)
primes_of net = (one_list_each net).0

primes_are : (net : NetValue) → ArePrimes net (primes_of net)
primes_are net = (one_list_each net).1

none_seen : (net : NetValue) (limit : ℕ) (l : Listing) → Lists net limit (Ok l)
    → replicate (words_for l) 0 ≡ bits_within limit (primes_of net) []
none_seen net limit (listing.All paths) h =
    let same : paths ≡ primes_of net = (one_list_each net).2 paths h.0 in
    let few : nat_le (length (primes_of net)) limit ≡ true =
    subst (λ (ps : List (List ℕ)). nat_le (length ps) limit ≡ true) same (le-leb (length paths) limit h.1) in
    no_words paths 0 (width paths)
    ∙ ap (λ (ps : List (List ℕ)). bits_of ps []) same
    ∙ ap (λ (z : Bool). cond z (bits_of (primes_of net) []) []) (sym few)
none_seen net limit listing.LimitPassed h =
    let same : h.0 ≡ primes_of net = (one_list_each net).2 h.0 h.1 in
    let more : nat_le (length (primes_of net)) limit ≡ false =
    subst (λ (ps : List (List ℕ)). nat_le (length ps) limit ≡ false) same (lt-leb (length h.0) limit h.2) in
    ap (λ (z : Bool). cond z (bits_of (primes_of net) []) []) (sym more)

unrun_told : (limit i : ℕ) (f : FunctionNotesValue) (t : FunctionTallyValue) → IsUnrun limit f t
    → IsFunctionTallyOf limit f.net i [] t
unrun_told limit i f t h = record {
  arcs = h.arcs ∙ none_passed i f.net.arcs;
  lists = h.lists;
  primes = primes_of f.net;
  primes_are = primes_are f.net;
  bits = h.bits ∙ none_seen f.net limit t.listing h.lists;
}

-- ---- all functions

all_told : (limit i : ℕ) (fs : List FunctionNotesValue) (ts : List FunctionTallyValue) → AreUnrun limit fs ts
    → AreFunctionTalliesOf limit i fs [] ts
all_told limit i [] [] h = tt
all_told limit i [] (t ∷ ts) h = absurd h
all_told limit i (f ∷ fs) [] h = absurd h
all_told limit i (f ∷ fs) (t ∷ ts) h = (unrun_told limit i f t h.0, all_told limit (suc i) fs ts h.1)

-- the tally of no run tells of none
pub no_run_told : (limit : ℕ) (text : List ℕ) (source : Typed) (tally : TallyValue)
    → IsEmptyTally (notes_for limit text source) tally → TellsOf limit text source [] tally
no_run_told limit text source tally h = record {
  walked = [];
  are = tt;
  tells = record {
    runs_are = h.runs;
    functions = all_told limit 0 (notes_for limit text source).functions tally.functions h.functions;
  };
}

unrun_there : (limit : ℕ) (fs : List FunctionNotesValue) → (ts : List FunctionTallyValue) × AreUnrun limit fs ts
unrun_there limit [] = ([], tt)
unrun_there limit (f ∷ fs) =
    let listed = bits_listed f.net limit (primes_of f.net) [] (primes_are f.net) in
    let rest = unrun_there limit fs in (
      record {
        arcs = replicate (length f.net.arcs) (pos 0);
        listing = listed.listing;
        bits = replicate (words_for listed.listing) 0;
      } ∷ rest.0,
      (record { arcs = refl; lists = listed.lists; bits = refl }, rest.1),
    )

-- there is such a tally
pub no_run_tallied : (notes : NotesValue) → (tally : TallyValue) × IsEmptyTally notes tally
no_run_tallied notes =
    let all = unrun_there notes.limit notes.functions in
    (record { runs = 0; functions = all.0 }, record { runs = refl; functions = all.1 })
