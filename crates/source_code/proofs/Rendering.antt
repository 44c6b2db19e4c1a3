-- The plain code of a text's graphs renders the text.
use Rattle.std.proofs.Common.{◌≡◌, ◌≤◌, refl, sym, ap, subst, ◌∙◌, ℕ, zero, suc, Bool, true, false, ℤ, List, [], ◌∷◌}
use Rattle.std.specs.Prelude.{Some, None, slice_get, ◌&&◌}
use Rattle.std.proofs.lemmas.Option.{same_Some}
use Rattle.int_ops.specs.Ranges.{IsNumber, least, greatest}
use Rattle.int_ops.specs.declared.types.IntType.TheVariants as type
use Rattle.std.specs.Prelude.{T, int_le}
use Rattle.c_tree.specs.Sound.{Each}
use Rattle.c_lower.specs.Lowered.{unit_of}
use Rattle.code_runs.specs.CodeChecks.{is_number}
use Rattle.flow_graph.specs.Graph.{Ending, Graph, GraphUnit}
use Rattle.flow_graph.specs.Nets.{size_of}
use Rattle.cov_base.specs.declared.refusal.Refusal.TheVariants as refusal
use Rattle.source_graphs.specs.SourceGraphs.{AreGraphsOf, Means, RefusesSource}
use Rattle.stack_ops.specs.Code.{CodeValue}
use Rattle.stack_code.specs.Fitting.{FitsCode, cases_of}
use Rattle.stack_code.specs.Laws.{EmittedCodeFollows, LaidCodeIsEmitted, PlainCodePasses, AreShapesOf}
use Rattle.stack_code.specs.Modes.{unit_marks}
use Rattle.stack_code.specs.Orderly.{IsOrderlyUnit}
use Rattle.stack_code.specs.UnitCode.{function_code, functions_from, unit_code}
use Rattle.stack_code.proofs.PassLaws.{unit_is, unit_only_marks}
use Rattle.stack_code.proofs.UnitLaws.{pruned_small}
use Rattle.orderly_units.specs.Laws.{HasCaseNumbers, LimitsHold, EachSourceIsOrderly, EachSourceIsWithin}
use Rattle.source_code.specs.Renders.{stamp_of, IsPlainCodeOf, Renders}

-- ---- limits

-- what holds of two tests holds of each
both : (a b : Bool) → (a && b) ≡ true → (a ≡ true) × (b ≡ true)
both true true h = (refl, refl)
both true false h = absurd (cc)
both false b h = absurd (cc)

-- a test that is true holds
holds : (b : Bool) → b ≡ true → T b
holds true h = tt
holds false h = absurd (cc)

-- what passes the test of numbers is one
number_of : (n : ℤ) → is_number n ≡ true → IsNumber n
number_of n h =
    let p = both (int_le (least type.Long) n) (int_le n (greatest type.UnsignedLong)) h in
    (record { le = holds _ p.0 }, record { le = holds _ p.1 })

-- what holds of each of these holds in other words
each_so : {A : Type 0} (P Q : A → Type 0) → ((x : A) → P x → Q x) → (xs : List A) → Each P xs → Each Q xs
each_so P Q f [] h = tt
each_so P Q f (x ∷ xs) h = (f x h.0, each_so P Q f xs h.1)

-- the cases of an ending are numbers
cases_fit : (end : Ending) → HasCaseNumbers end → Each (λ (c : ℤ × ℕ). IsNumber c.0) (cases_of end)
cases_fit (Ending.Jump t) h = tt
cases_fit (Ending.Back t) h = tt
cases_fit (Ending.Branch t f) h = tt
cases_fit (Ending.Switch cases default) h = each_so _ _ (λ c. number_of c.0) cases h
cases_fit (Ending.Call f line next) h = tt
cases_fit Ending.Return h = tt
cases_fit Ending.Exit h = tt

-- a unit within its limits fits a code
fits_code : (u : GraphUnit) → LimitsHold u → FitsCode u
fits_code u limits = record {
  globals = limits.globals;
  numbers = each_so _ _ number_of u.globals limits.numbers;
  graphs = λ i g at. record {
    params = (limits.each i g at).params;
    cells = (limits.each i g at).cells;
    cases = λ k b there. cases_fit b.end ((limits.each i g at).numbers k b there).cases;
  };
  size = limits.size;
}

-- ---- parts

-- the function of a graph, where nothing is counted
plain_at : (graphs : List Graph) (n : ℕ) (gs : List Graph) (i : ℕ) (g : Graph) → slice_get gs i ≡ Some g
    → slice_get (functions_from false graphs [] n gs) i ≡ Some (function_code graphs g None)
plain_at graphs n [] i g at = absurd (cc)
plain_at graphs n (h ∷ gs) zero g at = ap (λ x. Some (function_code graphs x None)) (same_Some h g at)
plain_at graphs n (h ∷ gs) (suc i) g at = plain_at graphs (suc n) gs i g at

-- the parts of the plain code of a unit
parts_of : (u : GraphUnit) (stamp : ℕ) → IsPlainCodeOf u (unit_code false u [] stamp)
parts_of u stamp = record {
  plain = refl;
  main = refl;
  globals = refl;
  count = (unit_is false u [] stamp).count;
  functions = λ i g at. (
    function_code u.graphs g None,
    plain_at u.graphs 0 u.graphs i g at,
    record { params = refl; cells = refl; gives = refl; checksum = refl; counters = refl; paths = refl; passes = refl },
  );
}

-- ---- runs

-- no function of a plain code has a shape
no_shapes : AreShapesOf false []
no_shapes i s e = absurd (cc)

pub renders : {text : List ℕ} {unit : GraphUnit} {code : CodeValue} → EachSourceIsOrderly → EachSourceIsWithin
    → PlainCodePasses → LaidCodeIsEmitted → EmittedCodeFollows → AreGraphsOf text unit
    → code ≡ unit_code false unit [] (stamp_of 0 text) → Renders text code
renders {text = text} {unit = unit} orderly within passes emitted follows a e =
    let stamp = stamp_of 0 text in
    let plain : CodeValue = unit_code false unit [] stamp in
    let back = sym a.pruned_are in
    let order : IsOrderlyUnit unit = subst IsOrderlyUnit back (orderly a.source a.is_source.sound) in
    let limits : LimitsHold unit = subst LimitsHold back (within a.source a.is_source.sound a.lowers a.fits) in
    let emits = emitted (unit_marks false []) unit plain (unit_is false unit [] stamp)
    (unit_only_marks false unit [] stamp no_shapes) in
    subst (Renders text) (sym e) (record {
      source = a.source;
      is_source = a.is_source;
      passes = passes unit [] stamp order (fits_code unit limits);
      stamp = refl;
      parts = subst (λ u. IsPlainCodeOf u plain) a.pruned_are (parts_of unit stamp);
      runs = λ input turns.
          (let m : Means a.source unit input turns = a.means input turns in
          let f = follows (unit_marks false []) unit plain emits (λ i g at. (order.each i g at).made) input turns
          m.walked m.comes in
          record {
            ran = f.ran;
            comes = f.comes;
            output = f.agrees.output ∙ m.output;
            ending = f.agrees.ending ∙ m.ending;
          });
    })

-- the graphs are small enough for a code
pub small : {text : List ℕ} {unit : GraphUnit} → AreGraphsOf text unit → size_of unit ≤ 1048576
small a = subst (λ u. size_of u ≤ 1048576) (sym a.pruned_are) (pruned_small (unit_of a.source) a.fits)

-- memory ran out
pub memory : {text : List ℕ} → RefusesSource text refusal.NoMemory
memory = RefusesSource.no_memory
