-- The data of runs, with those of further runs added, are the data of all.
use Rattle.std.proofs.Common.{◌≡◌, refl, sym, ap, ap₂, ◌∙◌, ℕ, suc, ◌+◌, ◌==◌, ◌&&◌, ◌||◌, Bool, true, false}
use Rattle.std.proofs.Common.{cond, List, [], ◌∷◌, ◌++◌, length, map, filter, Option, Some, None, eq-eqb}
use Rattle.std.specs.Prelude.{nat_le, nat_lt}
use Rattle.std.specs.Option.{option_or, option_map}
use Rattle.std.specs.List.{list_any, count_by}
use Rattle.std.proofs.lemmas.Bool.{and_from, cond-true}
use Rattle.std.proofs.lemmas.List.{length-map, map-append}
use Rattle.std.proofs.lemmas.List.Elements.{All-append, filter-append}
use Rattle.std.proofs.lemmas.List.Folds.{list_any-append}
use Rattle.std.proofs.lemmas.List.Sums.{sum_by-append}
use Rattle.cov_base.specs.Net.{NetValue}
use Rattle.cov_base.specs.Walks.{Walk, moves, is_along, passages}
use Rattle.cov_base.specs.declared.net.FlowArc.{FlowArc}
use Rattle.prime_paths.specs.Lister.{numbers}
use Rattle.prime_paths.specs.Paths.{ArePrimes}
use Rattle.prime_paths.proofs.AllPaths.{one_list}
use Rattle.prime_paths.proofs.PrimeLaws.{one_list_each}
use Rattle.path_masks.specs.Masks.{contains, word_of, chunk, width, words_of, bits_of}
use Rattle.path_masks.proofs.MaskLaws.{words_length, words_same}
use Rattle.path_masks.proofs.WordLaws.{word_or}
use Rattle.covered_runs.specs.CoveredWalks.{off_arcs, counters_of, walks_of}
use Rattle.gcda_format.specs.Data.{FunctionDataValue, DataValue, word_limit}
use Rattle.gcno_format.specs.Notes.{FunctionNotesValue, NotesValue}
use Rattle.run_merge.specs.Merging.{sums, ors, add_function, add_functions, same_shape, other_shape}
use Rattle.run_merge.specs.Merging.{count_passed}
use Rattle.run_merge.specs.declared.merging.MergeFault.{MergeFault}
use Rattle.run_merge.specs.declared.merging.MergeFault.TheVariants as fault
use Rattle.walk_counts.specs.Laws.{CountersAddUp, BitsAddUp, RunsAddUp, RunsMerge, AllGoTogether}
use Rattle.walk_counts.specs.Laws.{WalksHaveOneData}
use Rattle.walk_counts.specs.WalkData.{bits_within, IsFunctionDataOf, AreFunctionDataOf, IsDataOf}
use Rattle.walk_counts.specs.WholeWalks.{GoesThrough}

-- ---- counters and bits

pub counters_add : CountersAddUp
counters_add net i walks others = each (off_arcs net)
  where
    each : (arcs : List FlowArc) → map (passages (walks ++ others) i) arcs
        ≡ sums (map (passages walks i) arcs) (map (passages others i) arcs)
    each [] = refl
    each (arc ∷ arcs) = ap₂ (λ (n : ℕ) (l : List ℕ). n ∷ l)
        (sum_by-append (λ (w : Walk). cond (w.function == i) (count_by (is_along arc) (moves w.blocks)) 0) walks others)
        (each arcs)

words_or : (t u : List ℕ → Bool) (ps : List (List ℕ)) → words_of (λ p. t p || u p) ps
    ≡ ors (words_of t ps) (words_of u ps)
words_or t u ps = each (numbers 0 (width ps))
  where
    each : (ns : List ℕ) → map (λ i. word_of (λ p. t p || u p) (chunk ps i)) ns
        ≡ ors (map (λ i. word_of t (chunk ps i)) ns) (map (λ i. word_of u (chunk ps i)) ns)
    each [] = refl
    each (n ∷ ns) = ap₂ (λ (x : ℕ) (l : List ℕ). x ∷ l) (sym (word_or t u (chunk ps n))) (each ns)

bits_more : (ps walks others : List (List ℕ))
    → bits_of ps (walks ++ others) ≡ ors (bits_of ps walks) (bits_of ps others)
bits_more ps walks others =
    words_same (λ p. list_any (λ w. contains w p) (walks ++ others))
    (λ p. list_any (λ w. contains w p) walks || list_any (λ w. contains w p) others) ps
    (λ p m. list_any-append (λ w. contains w p) walks others)
    ∙ words_or (λ p. list_any (λ w. contains w p) walks) (λ p. list_any (λ w. contains w p) others) ps

pub walks_more : (i : ℕ) (walks others : List Walk)
    → walks_of i (walks ++ others) ≡ walks_of i walks ++ walks_of i others
walks_more i walks others =
    ap (λ (ws : List Walk). map (λ (w : Walk). w.blocks) ws)
    (filter-append (λ (w : Walk). w.function == i) walks others)
    ∙ map-append (λ (w : Walk). w.blocks) (filter (λ (w : Walk). w.function == i) walks)
    (filter (λ (w : Walk). w.function == i) others)

pub bits_add : BitsAddUp
bits_add limit paths i walks others =
    ap (λ (ws : List (List ℕ)). bits_within limit paths ws) (walks_more i walks others)
    ∙ by (nat_le (length paths) limit)
  where
    by : (z : Bool) → cond z (bits_of paths (walks_of i walks ++ walks_of i others)) []
        ≡ ors (cond z (bits_of paths (walks_of i walks)) []) (cond z (bits_of paths (walks_of i others)) [])
    by true = bits_more paths (walks_of i walks) (walks_of i others)
    by false = refl

-- ---- data

-- a net has one list of prime paths
one_primes : (net : NetValue) (ps qs : List (List ℕ)) → ArePrimes net ps → ArePrimes net qs → ps ≡ qs
one_primes net ps qs p q = one_list net ps p ∙ sym (one_list net qs q)

function_adds : (limit known : ℕ) (net : NetValue) (i : ℕ) (walks others : List Walk) (a b : FunctionDataValue)
    → IsFunctionDataOf limit known net i walks a → IsFunctionDataOf limit known net i others b
    → IsFunctionDataOf limit known net i (walks ++ others) (add_function a b)
function_adds limit known net i walks others a b h k = record {
  checksum = h.checksum;
  counters = ap₂ sums h.counters k.counters ∙ sym (counters_add net i walks others);
  primes = h.primes;
  primes_are = h.primes_are;
  bits = ap₂ ors h.bits (k.bits ∙ ap (λ (ps : List (List ℕ)). bits_within limit ps (walks_of i others))
      (one_primes net k.primes h.primes k.primes_are h.primes_are))
      ∙ sym (bits_add limit h.primes i walks others);
}

functions_add : (limit i : ℕ) (fs : List FunctionNotesValue) (walks others : List Walk) (ds es : List FunctionDataValue)
    → AreFunctionDataOf limit i fs walks ds → AreFunctionDataOf limit i fs others es
    → AreFunctionDataOf limit i fs (walks ++ others) (add_functions ds es)
functions_add limit i [] walks others [] es h k = tt
functions_add limit i [] walks others (d ∷ ds) es h k = absurd h
functions_add limit i (f ∷ fs) walks others [] es h k = absurd h
functions_add limit i (f ∷ fs) walks others (d ∷ ds) [] h k = absurd k
functions_add limit i (f ∷ fs) walks others (d ∷ ds) (e ∷ es) h k = (
  function_adds limit f.checksum f.net i walks others d e h.0 k.0,
  functions_add limit (suc i) fs walks others ds es h.1 k.1,
)

pub runs_add : RunsAddUp
runs_add notes m n walks others a b h k = record {
  stamp = h.stamp;
  runs_are = ap₂ (λ (x y : ℕ). x + y) h.runs_are k.runs_are;
  functions = functions_add notes.limit 0 notes.functions walks others a.functions b.functions h.functions k.functions;
}

-- ---- one shape

bits_long : (limit : ℕ) (paths walks others : List (List ℕ))
    → length (bits_within limit paths walks) ≡ length (bits_within limit paths others)
bits_long limit paths walks others = by (nat_le (length paths) limit)
  where
    by : (z : Bool) → length (cond z (bits_of paths walks) []) ≡ length (cond z (bits_of paths others) [])
    by true = words_length (λ p. list_any (λ w. contains w p) walks) paths
        ∙ sym (words_length (λ p. list_any (λ w. contains w p) others) paths)
    by false = refl

function_shape : (limit known : ℕ) (net : NetValue) (i : ℕ) (walks others : List Walk) (a b : FunctionDataValue)
    → IsFunctionDataOf limit known net i walks a → IsFunctionDataOf limit known net i others b → same_shape a b ≡ true
function_shape limit known net i walks others a b h k =
    and_from (a.checksum == b.checksum) ((length a.counters == length b.counters) && (length a.bits == length b.bits))
    (eq-eqb a.checksum b.checksum (h.checksum ∙ sym k.checksum))
    (and_from (length a.counters == length b.counters) (length a.bits == length b.bits)
    (eq-eqb (length a.counters) (length b.counters)
    (ap (λ (l : List ℕ). length l) h.counters ∙ length-map (off_arcs net) (passages walks i)
    ∙ sym (length-map (off_arcs net) (passages others i)) ∙ sym (ap (λ (l : List ℕ). length l) k.counters)))
    (eq-eqb (length a.bits) (length b.bits)
    (ap (λ (l : List ℕ). length l) h.bits
    ∙ bits_long limit h.primes (walks_of i walks) (walks_of i others)
    ∙ ap (λ (ps : List (List ℕ)). length (bits_within limit ps (walks_of i others)))
    (one_primes net h.primes k.primes h.primes_are k.primes_are)
    ∙ sym (ap (λ (l : List ℕ). length l) k.bits))))

functions_shape : (limit i n : ℕ) (fs : List FunctionNotesValue) (walks others : List Walk)
    (ds es : List FunctionDataValue) → AreFunctionDataOf limit i fs walks ds → AreFunctionDataOf limit i fs others es
    → other_shape n ds es ≡ None
functions_shape limit i n [] walks others [] [] h k = refl
functions_shape limit i n [] walks others [] (e ∷ es) h k = absurd k
functions_shape limit i n [] walks others (d ∷ ds) es h k = absurd h
functions_shape limit i n (f ∷ fs) walks others [] es h k = absurd h
functions_shape limit i n (f ∷ fs) walks others (d ∷ ds) [] h k = absurd k
functions_shape limit i n (f ∷ fs) walks others (d ∷ ds) (e ∷ es) h k =
    cond-true (same_shape d e) (other_shape (n + 1) ds es) (Some n)
    (function_shape limit f.checksum f.net i walks others d e h.0 k.0)
    ∙ functions_shape limit (suc i) (n + 1) fs walks others ds es h.1 k.1

pub runs_merge : RunsMerge
runs_merge notes m n walks others a b h k =
    ap (λ (o : Option MergeFault). option_or o (option_or (option_map fault.OtherShape shapes) more))
    (cond-true (a.stamp == b.stamp) None (Some (fault.OtherBuild a.stamp b.stamp))
    (eq-eqb a.stamp b.stamp (h.stamp ∙ sym k.stamp)))
    ∙ ap (λ (o : Option ℕ). option_or (option_map fault.OtherShape o) more)
    (functions_shape notes.limit 0 0 notes.functions walks others a.functions b.functions h.functions k.functions)
    ∙ ap₂ (λ (x y : ℕ). option_or (cond (nat_lt word_limit (x + y)) (Some fault.RunsPassed) None) counts)
    h.runs_are k.runs_are
  where
    shapes : Option ℕ
    shapes = other_shape 0 a.functions b.functions

    counts : Option MergeFault
    counts = count_passed 0 a.functions b.functions

    more : Option MergeFault
    more = option_or (cond (nat_lt word_limit (a.runs + b.runs)) (Some fault.RunsPassed) None) counts

-- ---- one data

function_one : (limit known : ℕ) (net : NetValue) (i : ℕ) (walks : List Walk) (a b : FunctionDataValue)
    → IsFunctionDataOf limit known net i walks a → IsFunctionDataOf limit known net i walks b → a ≡ b
function_one limit known net i walks a b h k =
    ap (λ (n : ℕ). record a { checksum = n }) (h.checksum ∙ sym k.checksum)
    ∙ ap (λ (l : List ℕ). record b { counters = l; bits = a.bits }) (h.counters ∙ sym k.counters)
    ∙ ap (λ (l : List ℕ). record b { bits = l }) (h.bits
    ∙ ap (λ (ps : List (List ℕ)). bits_within limit ps (walks_of i walks))
    (one_primes net h.primes k.primes h.primes_are k.primes_are) ∙ sym k.bits)

functions_one : (limit i : ℕ) (fs : List FunctionNotesValue) (walks : List Walk) (ds es : List FunctionDataValue)
    → AreFunctionDataOf limit i fs walks ds → AreFunctionDataOf limit i fs walks es → ds ≡ es
functions_one limit i [] walks [] [] h k = refl
functions_one limit i [] walks [] (e ∷ es) h k = absurd k
functions_one limit i [] walks (d ∷ ds) es h k = absurd h
functions_one limit i (f ∷ fs) walks [] es h k = absurd h
functions_one limit i (f ∷ fs) walks (d ∷ ds) [] h k = absurd k
functions_one limit i (f ∷ fs) walks (d ∷ ds) (e ∷ es) h k =
    ap₂ (λ (x : FunctionDataValue) (l : List FunctionDataValue). x ∷ l)
    (function_one limit f.checksum f.net i walks d e h.0 k.0) (functions_one limit (suc i) fs walks ds es h.1 k.1)

no_two : (notes : NotesValue) (runs : ℕ) (walks : List Walk) (a b : DataValue) → IsDataOf notes runs walks a
    → IsDataOf notes runs walks b → a ≡ b
no_two notes runs walks a b h k =
    ap (λ (n : ℕ). record a { stamp = n }) (h.stamp ∙ sym k.stamp)
    ∙ ap (λ (n : ℕ). record b { runs = n; functions = a.functions }) (h.runs_are ∙ sym k.runs_are)
    ∙ ap (λ (l : List FunctionDataValue). record b { functions = l })
    (functions_one notes.limit 0 notes.functions walks a.functions b.functions h.functions k.functions)

functions_there : (limit i : ℕ) (fs : List FunctionNotesValue) (walks : List Walk)
    → (ds : List FunctionDataValue) × AreFunctionDataOf limit i fs walks ds
functions_there limit i [] walks = ([], tt)
functions_there limit i (f ∷ fs) walks =
    let primes = one_list_each f.net in
    let rest = functions_there limit (suc i) fs walks in (
      record {
        checksum = f.checksum;
        counters = counters_of f.net i walks;
        bits = bits_within limit primes.0 (walks_of i walks);
      } ∷ rest.0,
      (
        record {
          checksum = refl;
          counters = refl;
          primes = primes.0;
          primes_are = primes.1;
          bits = refl;
        },
        rest.1,
      ),
    )

pub one_data : WalksHaveOneData
one_data notes runs walks =
    let functions = functions_there notes.limit 0 notes.functions walks in
    let counts : DataValue = record { stamp = notes.stamp; runs = runs; functions = functions.0 } in
    let are : IsDataOf notes runs walks counts =
    record { stamp = refl; runs_are = refl; functions = functions.1 } in
    (counts, are, λ others other. no_two notes runs walks others counts other are)

-- ---- walks of all

pub go_together : AllGoTogether
go_together notes walks others h k = record {
  nets = h.nets;
  through = λ i f at. All-append (λ (w : Walk). w.function ≡ i → GoesThrough f.net w.blocks) walks others
      (h.through i f at) (k.through i f at);
}
