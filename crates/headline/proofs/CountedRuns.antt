-- A run of a code that counts and renders a source is a run of the source, and no run is one of none.
use Rattle.std.proofs.Common.{◌≡◌, refl, sym, ap, ap₂, subst, ◌∙◌, ℕ, zero, suc, ◌+◌, Bool, true, false, cond, arith}
use Rattle.std.proofs.Common.{List, [], ◌∷◌, length, map, replicate, get_or, Some, pos}
use Rattle.std.specs.Prelude.{ℤ, nat_le, slice_get}
use Rattle.std.proofs.lemmas.List.{length-map}
use Rattle.std.proofs.lemmas.Option.{same_Some, get_or_from_slice_get}
use Rattle.cov_base.specs.Net.{NetValue}
use Rattle.cov_base.specs.Walks.{Walk, passages}
use Rattle.cov_base.specs.declared.net.FlowArc.{FlowArc}
use Rattle.c_lower.specs.Lowered.{unit_of}
use Rattle.flow_graph.specs.Graph.{Graph}
use Rattle.flow_graph.specs.Nets.{net_of, pruned}
use Rattle.flow_graph.specs.WalkRun.{IsClosed}
use Rattle.span_tree.specs.Tree.{off}
use Rattle.prime_paths.specs.Lister.{numbers}
use Rattle.path_masks.specs.Masks.{word_of, chunk, width, bits_of}
use Rattle.path_masks.proofs.WordLaws.{word_none}
use Rattle.stack_ops.specs.Code.{FunctionValue, CodeValue}
use Rattle.stack_ops.specs.declared.endings.Outcome.{Outcome}
use Rattle.stack_ops.specs.declared.endings.Outcome.TheVariants as outcome
use Rattle.code_runs.specs.CodeRun.{Tally, Ran}
use Rattle.code_runs.specs.Tables.{words_in}
use Rattle.code_runs.proofs.Ends.{one_run}
use Rattle.covered_runs.specs.CoveredWalks.{off_arcs, counters_of}
use Rattle.covered_code.specs.RendersCovered.{IsCoveredFunction, CountsWalks, RendersCovered}
use Rattle.covered_code.specs.Shapes.{count_within}
use Rattle.covered_code.specs.UnitNotes.{function_of}
use Rattle.run_counts.specs.Counts.{counts_from, counts_of, function_zeros, no_counts}
use Rattle.run_counts.specs.Texts.{is_closed}
use Rattle.walk_counts.specs.WalkData.{bits_within, AreFunctionDataOf, IsDataOf}
use Rattle.walk_counts.proofs.Circulating.{off_agree}
use Rattle.headline.specs.SourceRuns.{notes_for}
use Rattle.headline.specs.Laws.{RunsAreMeant}

-- ---- functions of a code with their graphs

-- the functions are those of these graphs, in order, and none is lacking
abbrev pub AreCovered : ℕ → List Graph → List FunctionValue → Type 0
AreCovered limit [] [] = Unit {0}
AreCovered limit (g ∷ gs) (f ∷ fs) = IsCoveredFunction limit g f × AreCovered limit gs fs
AreCovered limit _ _ = ⊥

-- the function of this number is the graph's
abbrev CoveredAt : ℕ → Graph → List FunctionValue → ℕ → Type 0
CoveredAt limit g fs i = (f : FunctionValue) × (slice_get fs i ≡ Some f) × IsCoveredFunction limit g f

are_covered : (limit : ℕ) (gs : List Graph) (fs : List FunctionValue) → length fs ≡ length gs
    → ((i : ℕ) (g : Graph) → slice_get gs i ≡ Some g → CoveredAt limit g fs i) → AreCovered limit gs fs
are_covered limit [] [] e h = tt
are_covered limit [] (f ∷ fs) e h = absurd (omega (arith, e))
are_covered limit (g ∷ gs) [] e h = absurd (omega (arith, e))
are_covered limit (g ∷ gs) (f ∷ fs) e h =
    let first : CoveredAt limit g (f ∷ fs) zero = h zero g refl in (
      subst (λ (x : FunctionValue). IsCoveredFunction limit g x) (sym (same_Some f first.0 first.1)) first.2,
      are_covered limit gs fs (omega (arith, e)) (λ i x at. h (suc i) x at),
    )

-- ---- one run

functions_counted : (limit k : ℕ) (gs : List Graph) (fs : List FunctionValue) (walks : List Walk) (t : Tally)
    → AreCovered limit gs fs
    → ((i : ℕ) (g : Graph) → slice_get gs i ≡ Some g → CountsWalks limit (net_of g) (k + i) walks t)
    → AreFunctionDataOf limit k (map function_of gs) walks (counts_from k t.counters t.words fs)
functions_counted limit k [] [] walks t covered h = tt
functions_counted limit k [] (f ∷ fs) walks t covered h = absurd covered
functions_counted limit k (g ∷ gs) [] walks t covered h = absurd covered
functions_counted limit k (g ∷ gs) (f ∷ fs) walks t covered h =
    let own : CountsWalks limit (net_of g) k walks t =
    subst (λ (n : ℕ). CountsWalks limit (net_of g) n walks t) (let e : k + zero ≡ k = omega arith in e)
    (h zero g refl) in (
      record {
        checksum = covered.0.checksum_is;
        counters = get_or_from_slice_get t.counters k (counters_of (net_of g) k walks) [] own.counters;
        primes = own.primes;
        primes_are = own.primes_are;
        bits = get_or_from_slice_get t.words k _ [] own.words;
      },
      subst (λ (n : ℕ). AreFunctionDataOf limit (suc k) (map function_of gs) walks (counts_from n t.counters t.words fs))
          (let e : suc k ≡ k + 1 = omega arith in e)
          (functions_counted limit (suc k) gs fs walks t covered.1
          (λ i x at. subst (λ (n : ℕ). CountsWalks limit (net_of x) n walks t)
          (let e : k + suc i ≡ suc k + i = omega arith in e) (h (suc i) x at))),
    )

-- a run that returned or exited is closed
pub closed_so : (ending : Outcome) → is_closed ending ≡ true → IsClosed ending
closed_so (outcome.Returned status) e = tt
closed_so (outcome.Exited status) e = tt
closed_so (outcome.Trapped why line) e = absurd (cc)
closed_so outcome.OutOfTurns e = absurd (cc)

module _ (limit : ℕ) (text : List ℕ) (code : CodeValue) (renders : RendersCovered text limit code) where
  abbrev pub graphs : List Graph
  graphs = (pruned (unit_of renders.source)).graphs

  pub covered : AreCovered limit graphs code.functions
  covered = are_covered limit graphs code.functions renders.parts.count renders.parts.functions

  counted_data : (walks : List Walk) (t : Tally)
      → ((i : ℕ) (g : Graph) → slice_get graphs i ≡ Some g → CountsWalks limit (net_of g) i walks t)
      → IsDataOf (notes_for limit text renders.source) 1 walks (counts_of code t)
  counted_data walks t h = record {
    stamp = renders.stamp;
    runs_are = refl;
    functions = functions_counted limit 0 graphs code.functions walks t covered
        (λ i g at. subst (λ (n : ℕ). CountsWalks limit (net_of g) n walks t) (let e : i ≡ 0 + i = omega arith in e)
        (h i g at));
  }

pub runs_meant : RunsAreMeant
runs_meant limit text code renders asked ran comes =
    let counts = renders.counts asked.input asked.turns in
    let runs = renders.runs asked.input asked.turns in
    let same : counts.ran ≡ ran = one_run code asked.input asked.turns ran counts.ran comes counts.comes in
    let alike : runs.ran ≡ ran = one_run code asked.input asked.turns ran runs.ran comes runs.comes in
    record {
      output = ap (λ (r : Ran). r.output) (sym alike) ∙ runs.output;
      ending = ap (λ (r : Ran). r.ending) (sym alike) ∙ runs.ending;
      walked = counts.walked;
      walks = counts.walks;
      ends_so = ap (λ (r : Ran). r.ending) (sym same) ∙ counts.ending;
      counts = λ closed. counted_data limit text code renders counts.walked.walks ran.tally
          (λ i g at. subst (λ (r : Ran). CountsWalks limit (net_of g) i counts.walked.walks r.tally) same
          (counts.counted (subst (λ (r : Ran). IsClosed r.ending) (sym same) (closed_so ran.ending closed)) i g at));
    }

-- ---- no run

off_long : (net : NetValue) → length (off net) ≡ length (off_arcs net)
off_long net =
    sym (length-map (off net) (λ k. get_or (map (λ (a : FlowArc). pos (passages [] 0 a)) net.arcs) k (pos 0)))
    ∙ ap (λ (l : List ℤ). length l) (off_agree net 0 [])
    ∙ length-map (counters_of net 0 []) (λ (n : ℕ). pos n)
    ∙ length-map (off_arcs net) (passages [] 0)

none_passed : (k : ℕ) (arcs : List FlowArc) (n : ℕ) → n ≡ length arcs → replicate n 0 ≡ map (passages [] k) arcs
none_passed k [] zero e = refl
none_passed k [] (suc n) e = absurd (omega (arith, e))
none_passed k (arc ∷ arcs) zero e = absurd (omega (arith, e))
none_passed k (arc ∷ arcs) (suc n) e =
    ap (λ (l : List ℕ). 0 ∷ l) (none_passed k arcs n (omega (arith, e)))

-- words of which no bit is set
pub no_words : (paths : List (List ℕ)) (from n : ℕ)
    → replicate n 0 ≡ map (λ i. word_of (λ p. false) (chunk paths i)) (numbers from n)
no_words paths from zero = refl
no_words paths from (suc n) =
    ap₂ (λ (x : ℕ) (l : List ℕ). x ∷ l) (sym (word_none (λ p. false) (chunk paths from) (λ p m. refl)))
    (no_words paths (suc from) n)

no_bits : (limit : ℕ) (primes : List (List ℕ))
    → replicate (words_in (count_within limit (length primes))) 0 ≡ bits_within limit primes []
no_bits limit primes = by (nat_le (length primes) limit)
  where
    by : (z : Bool) → replicate (words_in (cond z (length primes) 0)) 0 ≡ cond z (bits_of primes []) []
    by true = no_words primes 0 (width primes)
    by false = refl

functions_unrun : (limit k : ℕ) (gs : List Graph) (fs : List FunctionValue) → AreCovered limit gs fs
    → AreFunctionDataOf limit k (map function_of gs) [] (map function_zeros fs)
functions_unrun limit k [] [] h = tt
functions_unrun limit k [] (f ∷ fs) h = absurd h
functions_unrun limit k (g ∷ gs) [] h = absurd h
functions_unrun limit k (g ∷ gs) (f ∷ fs) h = (
  record {
    checksum = h.0.checksum_is;
    counters = none_passed k (off_arcs (net_of g)) f.counters (h.0.counters ∙ off_long (net_of g));
    primes = h.0.primes;
    primes_are = h.0.primes_are;
    bits = ap (λ (n : ℕ). replicate {A = ℕ} (words_in n) 0) h.0.paths ∙ no_bits limit h.0.primes;
  },
  functions_unrun limit (suc k) gs fs h.1,
)

-- The counts of no run are data of none.
pub no_run : (limit : ℕ) (text : List ℕ) (code : CodeValue) (renders : RendersCovered text limit code)
    → IsDataOf (notes_for limit text renders.source) 0 [] (no_counts code)
no_run limit text code renders = record {
  stamp = renders.stamp;
  runs_are = refl;
  functions = functions_unrun limit 0 (graphs limit text code renders) code.functions
      (covered limit text code renders);
}
