-- The tally of data of walks is what the walks did.
use Rattle.std.proofs.Common.{◌≡◌, refl, sym, ap, subst, ◌∙◌, ℕ, zero, suc, ◌+◌, false, inl, inr, arith}
use Rattle.std.proofs.Common.{List, [], ◌∷◌, length, map, get_or, pos}
use Rattle.std.specs.Prelude.{ℤ, Some, None, slice_get, Ok}
use Rattle.std.specs.List.{All, position}
use Rattle.std.proofs.lemmas.Bool.{le-ltb}
use Rattle.std.proofs.lemmas.List.{length-map}
use Rattle.std.proofs.lemmas.List.Elements.{All-nil, All-cons}
use Rattle.std.proofs.lemmas.Option.{none-some}
use Rattle.cov_base.specs.Net.{NetValue, IsNet}
use Rattle.cov_base.specs.Walks.{Walk, passages}
use Rattle.cov_base.specs.declared.net.FlowArc.{FlowArc}
use Rattle.cov_base.proofs.NetLaws.{no_position-from_All}
use Rattle.prime_paths.proofs.AllPaths.{one_list}
use Rattle.span_tree.specs.Tree.{off}
use Rattle.flow_solver.specs.Circulation.{Circulation, is_negative}
use Rattle.flow_solver.proofs.Solutions.{has_one}
use Rattle.covered_runs.specs.CoveredWalks.{counters_of, walks_of}
use Rattle.gcda_format.specs.Data.{FunctionDataValue}
use Rattle.gcno_format.specs.Notes.{FunctionNotesValue, NotesValue}
use Rattle.function_tallies.specs.Tallies.{HasShape, IsTallied, FaultOf}
use Rattle.function_tallies.specs.Tally.{FunctionTallyValue}
use Rattle.function_tallies.specs.declared.tally.TallyFault.{TallyFault}
use Rattle.function_tallies.specs.declared.tally.TallyFault.TheVariants as fault
use Rattle.path_report.specs.Tallies.{AreTallied, IsFirstOf, IsFirstFault, Tallies}
use Rattle.path_report.specs.Tally.{TallyValue}
use Rattle.walk_counts.specs.Laws.{TalliesWalks, FunctionTalliesAreWalks, TalliesAreWalks}
use Rattle.walk_counts.specs.WalkData.{bits_within, IsFunctionDataOf, AreFunctionDataOf}
use Rattle.walk_counts.specs.WalkTallies.{IsFunctionTallyOf, AreFunctionTalliesOf, IsTallyOfWalks, GoThroughNets}
use Rattle.walk_counts.specs.WholeWalks.{AllGoThrough, passages_of}
use Rattle.walk_counts.proofs.Circulating.{circulate, off_agree}
use Rattle.walk_counts.proofs.WordShapes.{ListsBits, bits_listed}

-- ---- one function

-- passages are never negative
none_negative : (net : NetValue) (i : ℕ) (walks : List Walk) → position is_negative (passages_of net i walks) ≡ None
none_negative net i walks = no_position-from_All is_negative (passages_of net i walks) (each net.arcs)
  where
    each : (arcs : List FlowArc)
        → All (λ x. is_negative x ≡ false) (map (λ arc. pos (passages walks i arc)) arcs)
    each [] = All-nil (λ x. is_negative x ≡ false)
    each (arc ∷ arcs) = All-cons (λ x. is_negative x ≡ false) (pos (passages walks i arc))
        (map (λ arc. pos (passages walks i arc)) arcs) (le-ltb (passages walks i arc) 0 (omega arith)) (each arcs)

-- there is a counter for each arc off the tree
counters_long : (net : NetValue) (i : ℕ) (walks : List Walk) → length (counters_of net i walks) ≡ length (off net)
counters_long net i walks =
    sym (length-map (counters_of net i walks) pos)
    ∙ ap (λ (l : List ℤ). length l) (sym (off_agree net i walks))
    ∙ length-map (off net) (λ k. get_or (passages_of net i walks) k (pos 0))

module _ (limit known : ℕ) (net : NetValue) (is : IsNet net) (i : ℕ) (walks : List Walk)
    (through : AllGoThrough net i walks) (d : FunctionDataValue) (h : IsFunctionDataOf limit known net i walks d) where
  shape : HasShape limit known net d
  shape =
      let b : ListsBits net limit d.bits = subst (λ (l : List ℕ). ListsBits net limit l) (sym h.bits)
      (bits_listed net limit h.primes (walks_of i walks) h.primes_are) in
      record {
        checksum = h.checksum;
        counters = ap (λ (l : List ℕ). length l) h.counters ∙ counters_long net i walks;
        listing = b.listing;
        lists = b.lists;
        words = b.fits;
      }

  numbers : Circulation net d.counters (passages_of net i walks)
  numbers = subst (λ (l : List ℕ). Circulation net l (passages_of net i walks)) (sym h.counters)
      (circulate net is i walks through).circulates

  only : (others : List ℤ) → Circulation net d.counters others → others ≡ passages_of net i walks
  only others c = (has_one net is).one d.counters others (passages_of net i walks) c numbers

  sound : (k : ℕ) (found : TallyFault) → FaultOf limit k known net d found → ⊥
  sound k (fault.OtherShape n) f = f.1 shape
  sound k (fault.NotAFlow n arc) f =
      none-some arc (sym (none_negative net i walks)
      ∙ ap (λ (l : List ℤ). position is_negative l) (sym (only f.2.0 f.2.1)) ∙ f.2.2)
  sound k (fault.OtherBuild a b) f = f

  told : (t : FunctionTallyValue) → IsTallied limit known net d t → IsFunctionTallyOf limit net i walks t
  told t x = record {
    arcs = only t.arcs x.numbers;
    lists = x.lists;
    primes = h.primes;
    primes_are = h.primes_are;
    bits = x.bits ∙ h.bits;
  }

  tallied : (t : FunctionTallyValue) → IsFunctionTallyOf limit net i walks t → IsTallied limit known net d t
  tallied t x = record {
    shape = shape;
    numbers = subst (λ (l : List ℤ). Circulation net d.counters l) (sym x.arcs) numbers;
    flow = ap (λ (l : List ℤ). position is_negative l) x.arcs ∙ none_negative net i walks;
    lists = x.lists;
    bits = x.bits
        ∙ ap (λ (ps : List (List ℕ)). bits_within limit ps (walks_of i walks))
        (one_list net x.primes x.primes_are ∙ sym (one_list net h.primes h.primes_are))
        ∙ sym h.bits;
  }

  there : (t : FunctionTallyValue) × IsFunctionTallyOf limit net i walks t
  there = (
    record { arcs = passages_of net i walks; listing = shape.listing; bits = d.bits },
    record {
      arcs = refl;
      lists = shape.lists;
      primes = h.primes;
      primes_are = h.primes_are;
      bits = h.bits;
    },
  )

  pub tallies_walks : TalliesWalks limit known net i walks d
  tallies_walks = record {
    shape = shape;
    sound = sound;
    there = (there.0, tallied there.0 there.1);
    tally = λ t. (told t, tallied t);
  }

pub function_tallied : FunctionTalliesAreWalks
function_tallied limit known net is i walks through d h = tallies_walks limit known net is i walks through d h

-- ---- functions

-- these functions, of which the first has the number i, have nets through which their walks go
record AllThrough (i : ℕ) (fs : List FunctionNotesValue) (walks : List Walk) : Type 0 where
  nets : (j : ℕ) (f : FunctionNotesValue) → slice_get fs j ≡ Some f → IsNet f.net
  through : (j : ℕ) (f : FunctionNotesValue) → slice_get fs j ≡ Some f → AllGoThrough f.net (i + j) walks

further : (i : ℕ) (f : FunctionNotesValue) (fs : List FunctionNotesValue) (walks : List Walk)
    → AllThrough i (f ∷ fs) walks → AllThrough (suc i) fs walks
further i f fs walks h = record {
  nets = λ j g at. h.nets (suc j) g at;
  through = λ j g at. subst (λ n. AllGoThrough g.net n walks) (let e : i + suc j ≡ suc i + j = omega arith in e)
      (h.through (suc j) g at);
}

here : (limit i : ℕ) (f : FunctionNotesValue) (fs : List FunctionNotesValue) (walks : List Walk) (d : FunctionDataValue)
    → AllThrough i (f ∷ fs) walks → IsFunctionDataOf limit f.checksum f.net i walks d
    → TalliesWalks limit f.checksum f.net i walks d
here limit i f fs walks d h own =
    tallies_walks limit f.checksum f.net (h.nets zero f refl) i walks
    (subst (λ n. AllGoThrough f.net n walks) (let e : i + zero ≡ i = omega arith in e) (h.through zero f refl)) d own

no_first : (limit i k : ℕ) (fs : List FunctionNotesValue) (walks : List Walk) (ds : List FunctionDataValue)
    (found : TallyFault) → AllThrough i fs walks → AreFunctionDataOf limit i fs walks ds
    → IsFirstOf limit k fs ds found → ⊥
no_first limit i k [] walks [] found h own first = first
no_first limit i k [] walks (d ∷ ds) found h own first = own
no_first limit i k (f ∷ fs) walks [] found h own first = own
no_first limit i k (f ∷ fs) walks (d ∷ ds) found h own (inl x) = (here limit i f fs walks d h own.0).sound k found x
no_first limit i k (f ∷ fs) walks (d ∷ ds) found h own (inr x) =
    no_first limit (suc i) (k + 1) fs walks ds found (further i f fs walks h) own.1 x.1

all_told : (limit i : ℕ) (fs : List FunctionNotesValue) (walks : List Walk) (ds : List FunctionDataValue)
    (ts : List FunctionTallyValue) → AllThrough i fs walks → AreFunctionDataOf limit i fs walks ds
    → AreTallied limit fs ds ts → AreFunctionTalliesOf limit i fs walks ts
all_told limit i [] walks [] [] h own all = tt
all_told limit i [] walks [] (t ∷ ts) h own all = absurd all
all_told limit i [] walks (d ∷ ds) ts h own all = absurd own
all_told limit i (f ∷ fs) walks [] ts h own all = absurd own
all_told limit i (f ∷ fs) walks (d ∷ ds) [] h own all = absurd all
all_told limit i (f ∷ fs) walks (d ∷ ds) (t ∷ ts) h own all = (
  ((here limit i f fs walks d h own.0).tally t).0 all.0,
  all_told limit (suc i) fs walks ds ts (further i f fs walks h) own.1 all.1,
)

all_tallied : (limit i : ℕ) (fs : List FunctionNotesValue) (walks : List Walk) (ds : List FunctionDataValue)
    (ts : List FunctionTallyValue) → AllThrough i fs walks → AreFunctionDataOf limit i fs walks ds
    → AreFunctionTalliesOf limit i fs walks ts → AreTallied limit fs ds ts
all_tallied limit i [] walks [] [] h own all = tt
all_tallied limit i [] walks [] (t ∷ ts) h own all = absurd all
all_tallied limit i [] walks (d ∷ ds) ts h own all = absurd own
all_tallied limit i (f ∷ fs) walks [] ts h own all = absurd own
all_tallied limit i (f ∷ fs) walks (d ∷ ds) [] h own all = absurd all
all_tallied limit i (f ∷ fs) walks (d ∷ ds) (t ∷ ts) h own all = (
  ((here limit i f fs walks d h own.0).tally t).1 all.0,
  all_tallied limit (suc i) fs walks ds ts (further i f fs walks h) own.1 all.1,
)

all_there : (limit i : ℕ) (fs : List FunctionNotesValue) (walks : List Walk) (ds : List FunctionDataValue)
    → AllThrough i fs walks → AreFunctionDataOf limit i fs walks ds
    → (ts : List FunctionTallyValue) × AreTallied limit fs ds ts
all_there limit i [] walks [] h own = ([], tt)
all_there limit i [] walks (d ∷ ds) h own = absurd own
all_there limit i (f ∷ fs) walks [] h own = absurd own
all_there limit i (f ∷ fs) walks (d ∷ ds) h own =
    let first = (here limit i f fs walks d h own.0).there in
    let rest = all_there limit (suc i) fs walks ds (further i f fs walks h) own.1 in
    (first.0 ∷ rest.0, (first.1, rest.1))

-- ---- a program

from_first : (notes : NotesValue) (walks : List Walk) → GoThroughNets notes walks → AllThrough 0 notes.functions walks
from_first notes walks h = record {
  nets = h.nets;
  through = λ j f at. subst (λ n. AllGoThrough f.net n walks) (let e : j ≡ 0 + j = omega arith in e) (h.through j f at);
}

pub tallies_so : TalliesAreWalks
tallies_so notes runs walks h counts own = record {
  sound = no_fault;
  there = (record { runs = counts.runs; functions = all.0 }, (sym own.stamp, refl, all.1));
  tally = λ t. (told_all t, tallied_all t);
}
  where
    all : (ts : List FunctionTallyValue) × AreTallied notes.limit notes.functions counts.functions ts
    all = all_there notes.limit 0 notes.functions walks counts.functions (from_first notes walks h) own.functions

    no_fault : (found : TallyFault) → IsFirstFault notes counts found → ⊥
    no_fault (fault.OtherBuild a b) f = f.2 (f.0 ∙ sym own.stamp ∙ sym f.1)
    no_fault (fault.OtherShape n) f =
        no_first notes.limit 0 0 notes.functions walks counts.functions (fault.OtherShape n)
        (from_first notes walks h) own.functions f.1
    no_fault (fault.NotAFlow n arc) f =
        no_first notes.limit 0 0 notes.functions walks counts.functions (fault.NotAFlow n arc)
        (from_first notes walks h) own.functions f.1

    told_all : (t : TallyValue) → Tallies notes counts (Ok t) → IsTallyOfWalks notes runs walks t
    told_all t x = record {
      runs_are = x.1 ∙ own.runs_are;
      functions = all_told notes.limit 0 notes.functions walks counts.functions t.functions (from_first notes walks h)
          own.functions x.2;
    }

    tallied_all : (t : TallyValue) → IsTallyOfWalks notes runs walks t → Tallies notes counts (Ok t)
    tallied_all t x = (
      sym own.stamp,
      x.runs_are ∙ sym own.runs_are,
      all_tallied notes.limit 0 notes.functions walks counts.functions t.functions (from_first notes walks h)
          own.functions x.functions,
    )
