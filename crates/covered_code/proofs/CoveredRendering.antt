-- The covered code of a text's graphs renders the text.
use Rattle.std.proofs.Common.{◌≡◌, ◌≤◌, refl, sym, ap, subst, ◌∙◌, ℕ, Bool, true, false, ℤ, List, [], ◌∷◌, length, map}
use Rattle.std.proofs.Common.{Some, None}
use Rattle.std.specs.Prelude.{◌&&◌}
use Rattle.std.specs.List.{All}
use Rattle.std.specs.Prelude.{T, int_le}
use Rattle.std.proofs.lemmas.Bool.{ltb-false}
use Rattle.cov_base.specs.Net.{NetValue}
use Rattle.cov_base.specs.Walks.{Walk}
use Rattle.cov_base.proofs.NetLaws.{option_or-None, cond-None}
use Rattle.cov_base.specs.declared.refusal.Refusal.TheVariants as refusal
use Rattle.int_ops.specs.Ranges.{IsNumber, least, greatest}
use Rattle.int_ops.specs.declared.types.IntType.TheVariants as type
use Rattle.c_tree.specs.Sound.{Each}
use Rattle.c_lower.specs.Lowered.{unit_of}
use Rattle.code_runs.specs.CodeChecks.{is_number}
use Rattle.code_runs.specs.CodeRun.{Tally}
use Rattle.flow_graph.specs.Graph.{Ending, Graph, GraphUnit}
use Rattle.flow_graph.specs.Nets.{size_of, net_of, pruned}
use Rattle.flow_graph.specs.WalkRun.{Walked, WalkRun, IsClosed}
use Rattle.fake_arcs.specs.Size.{graphs_fault}
use Rattle.fake_arcs.specs.Tidy.{IsTidy}
use Rattle.fake_arcs.proofs.Tidied.{graphs_tidy}
use Rattle.prune_agrees.proofs.Made.{lowered_made}
use Rattle.stack_ops.specs.Code.{CodeValue}
use Rattle.stack_code.specs.declared.shape.EmitFault.{EmitFault}
use Rattle.stack_code.specs.Fitting.{FitsCode, cases_of}
use Rattle.stack_code.specs.Laws.{EmittedCodeFollows, LaidCodeIsEmitted, CoveredCodePasses}
use Rattle.stack_code.specs.Modes.{ShapeValue, unit_marks}
use Rattle.stack_code.specs.Orderly.{IsOrderlyUnit}
use Rattle.stack_code.specs.UnitCode.{function_code, tables_size, tables_fault, unit_code}
use Rattle.stack_code.proofs.PassLaws.{unit_is, unit_only_marks}
use Rattle.stack_code.proofs.UnitLaws.{pruned_small}
use Rattle.orderly_units.specs.Laws.{HasCaseNumbers, LimitsHold, EachSourceIsOrderly, EachSourceIsWithin}
use Rattle.source_graphs.specs.declared.graphs.SourceFault.{SourceFault}
use Rattle.source_graphs.specs.SourceGraphs.{AreGraphsOf, Means, RefusesSource}
use Rattle.source_code.specs.Renders.{stamp_of}
use Rattle.covered_runs.specs.CallWords.{IsWhole}
use Rattle.covered_runs.specs.CoveredWalks.{counters_of, AreWordsOf, IsCounted, HasShapes}
use Rattle.covered_runs.specs.Laws.{ClosedRunsAreCounted}
use Rattle.covered_runs.proofs.CoveredRuns.{code_sound, function_is}
use Rattle.covered_runs.proofs.FewNumbers.{numbers_few}
use Rattle.covered_runs.proofs.WordLaws.{tallies_are_whole}
use Rattle.covered_code.specs.declared.covered.CodeFault.TheVariants as fault
use Rattle.covered_code.specs.RendersCovered.{
  IsCoveredFunction,
  IsCoveredCodeOf,
  CountsWalks,
  CountsAs,
  RendersCovered,
  IsCovered,
  RefusesCovered,
}
use Rattle.covered_code.specs.RendersCovered as covered
use Rattle.gcno_format.specs.Notes.{FunctionNotesValue, NotesValue, word_limit}
use Rattle.gcno_format.specs.Spelling.{IsNotes}
use Rattle.covered_code.specs.Shapes.{IsMade, AreMade}
use Rattle.covered_code.specs.UnitNotes.{function_of, notes_of, HasWord}
use Rattle.covered_code.proofs.ListedRows.{count_listed, words_listed}
use Rattle.covered_code.proofs.MadeShapes.{made_at, has_shapes, primes_listed}
use Rattle.covered_code.proofs.WritableNotes.{notes_stand, writable}

-- ---- limits

-- what holds of two tests holds of each
both : (a b : Bool) → (a && b) ≡ true → (a ≡ true) × (b ≡ true)
both true true h = (refl, refl)
both true false h = absurd (cc)
both false b h = absurd (cc)

-- a test that is true holds
holds : (b : Bool) → b ≡ true → T b
holds true h = tt
holds false h = absurd (cc)

-- what passes the test of numbers is one
number_of : (n : ℤ) → is_number n ≡ true → IsNumber n
number_of n h =
    let p = both (int_le (least type.Long) n) (int_le n (greatest type.UnsignedLong)) h in
    (record { le = holds _ p.0 }, record { le = holds _ p.1 })

-- what holds of each of these holds in other words
each_so : {A : Type 0} (P Q : A → Type 0) → ((x : A) → P x → Q x) → (xs : List A) → Each P xs → Each Q xs
each_so P Q f [] h = tt
each_so P Q f (x ∷ xs) h = (f x h.0, each_so P Q f xs h.1)

-- the cases of an ending are numbers
cases_fit : (end : Ending) → HasCaseNumbers end → Each (λ (c : ℤ × ℕ). IsNumber c.0) (cases_of end)
cases_fit (Ending.Jump t) h = tt
cases_fit (Ending.Back t) h = tt
cases_fit (Ending.Branch t f) h = tt
cases_fit (Ending.Switch cases default) h = each_so _ _ (λ c. number_of c.0) cases h
cases_fit (Ending.Call f line next) h = tt
cases_fit Ending.Return h = tt
cases_fit Ending.Exit h = tt

-- a unit within its limits fits a code
fits_code : (u : GraphUnit) → LimitsHold u → FitsCode u
fits_code u limits = record {
  globals = limits.globals;
  numbers = each_so _ _ number_of u.globals limits.numbers;
  graphs = λ i g at. record {
    params = (limits.each i g at).params;
    cells = (limits.each i g at).cells;
    cases = λ k b there. cases_fit b.end ((limits.each i g at).numbers k b there).cases;
  };
  size = limits.size;
}

-- the graphs are small enough for a code
pub small : {text : List ℕ} {unit : GraphUnit} → AreGraphsOf text unit → size_of unit ≤ 1048576
small a = subst (λ u. size_of u ≤ 1048576) (sym a.pruned_are) (pruned_small (unit_of a.source) a.fits)

-- the graphs are tidy
pub tidy : {text : List ℕ} {unit : GraphUnit} → AreGraphsOf text unit → All IsTidy unit.graphs
tidy a = subst (λ (u : GraphUnit). All IsTidy u.graphs) (sym a.pruned_are)
    (graphs_tidy 0 (unit_of a.source).graphs
    (option_or-None (graphs_fault 0 (unit_of a.source).graphs) _ a.fits).0 (lowered_made a.source a.is_source.sound))

-- the tables are within their limit where no fault says otherwise
tables_few : (shapes : List ShapeValue) → tables_fault true shapes ≡ None → tables_size shapes ≤ 2097152
tables_few shapes e = ltb-false 2097152 (tables_size shapes) (cond-None _ _ e)

-- ---- refusals

pub not_accepted : {text : List ℕ} {limit : ℕ} {found : SourceFault} → RefusesSource text (refusal.Refused found)
    → RefusesCovered text limit (refusal.Refused (fault.Source found))
not_accepted h = covered.not_accepted h

pub too_large : {text : List ℕ} {limit : ℕ} {u : GraphUnit} {found : EmitFault} (shapes : List ShapeValue)
    → AreGraphsOf text u → AreMade limit u.graphs shapes → tables_fault true shapes ≡ Some found
    → RefusesCovered text limit (refusal.Refused (fault.Emit found))
too_large shapes a made h = covered.too_large shapes a made h

pub memory : {text : List ℕ} {limit : ℕ} → RefusesCovered text limit refusal.NoMemory
memory = covered.no_memory

-- ---- the code

module _ (limit : ℕ) (u : GraphUnit) (shapes : List ShapeValue) (stamp : ℕ) (made : AreMade limit u.graphs shapes)
  where
    -- the parts of the code of the unit
    parts_of : IsCoveredCodeOf limit u (unit_code true u shapes stamp)
    parts_of = record {
      covered = refl;
      main = refl;
      globals = refl;
      count = (unit_is true u shapes stamp).count;
      functions = λ i g at. (let o = made_at limit u.graphs shapes made i g at in (
        function_code u.graphs g (Some o.0),
        function_is u shapes stamp i g o.0 at o.1,
        record {
          params = refl;
          cells = refl;
          gives = refl;
          checksum_is = o.2.checksum_is;
          counters = ap (λ (l : List ℕ). length l) o.2.plan;
          primes = o.2.rows.paths;
          primes_are = o.2.rows.primes;
          paths = count_listed (net_of g) limit o.2.rows.paths o.0.rows o.0.paths o.2.rows.by;
        },
      ));
    }

    -- what closed runs count
    counts_walks : (i : ℕ) (g : Graph) (s : ShapeValue) (walks : List Walk) (t : Tally) → IsMade limit g s
        → IsCounted s i walks t → CountsWalks limit (net_of g) i walks t
    counts_walks i g s walks t m h = record {
      counters = h.counters ∙ ap (λ (n : NetValue). Some (counters_of n i walks)) m.net;
      primes = m.rows.paths;
      primes_are = m.rows.primes;
      words = h.there ∙ ap (λ (l : List ℕ). Some l)
          (words_listed (net_of g) limit m.rows.paths s.rows s.paths i walks h.words m.rows.by m.rows.primes
          (subst (λ (n : NetValue). AreWordsOf n s.rows i walks h.words) m.net h.words_are));
    }

-- Code renders a text, and this unit is that of the source.
abbrev pub RendersUnit : List ℕ → ℕ → GraphUnit → CodeValue → Type 0
RendersUnit text limit unit code = (r : RendersCovered text limit code) × (unit ≡ pruned (unit_of r.source))

pub renders : {text : List ℕ} {limit : ℕ} {unit : GraphUnit} {code : CodeValue} (shapes : List ShapeValue)
    → EachSourceIsOrderly → EachSourceIsWithin → CoveredCodePasses → LaidCodeIsEmitted → EmittedCodeFollows
    → ClosedRunsAreCounted → limit ≤ 65536 → AreGraphsOf text unit → AreMade limit unit.graphs shapes
    → code ≡ unit_code true unit shapes (stamp_of limit text) → tables_fault true shapes ≡ None
    → RendersUnit text limit unit code
renders {text = text} {limit = limit} {unit = unit} shapes orderly within passes emitted follows counted few a made e
    fine =
    let stamp = stamp_of limit text in
    let plain : CodeValue = unit_code true unit shapes stamp in
    let back = sym a.pruned_are in
    let order : IsOrderlyUnit unit = subst IsOrderlyUnit back (orderly a.source a.is_source.sound) in
    let limits : LimitsHold unit = subst LimitsHold back (within a.source a.is_source.sound a.lowers a.fits) in
    let shaped : HasShapes unit shapes = has_shapes limit unit shapes few (tidy a) made in
    let emits = emitted (unit_marks true shapes) unit plain (unit_is true unit shapes stamp)
    (unit_only_marks true unit shapes stamp (λ i s e. shaped.are i s e)) in
    let run = λ (input : List ℕ) (turns : ℕ) (walked : Walked) (w : WalkRun unit input turns walked).
    follows (unit_marks true shapes) unit plain emits (λ i g at. (order.each i g at).made) input turns walked w in
    subst (RendersUnit text limit unit) (sym e) (
      record {
        source = a.source;
        is_source = a.is_source;
        passes = passes unit shapes stamp order (fits_code unit limits) (λ i s e. shaped.are i s e)
            (numbers_few unit shapes stamp shaped (λ i s there. primes_listed limit unit.graphs shapes made i s there)
            (small a) (tables_few shapes fine));
        stamp = refl;
        parts = subst (λ u. IsCoveredCodeOf limit u plain) a.pruned_are (parts_of limit unit shapes stamp made);
        runs = λ input turns.
            (let m : Means a.source unit input turns = a.means input turns in
            let f = run input turns m.walked m.comes in
            record {
              ran = f.ran;
              comes = f.comes;
              output = f.agrees.output ∙ m.output;
              ending = f.agrees.ending ∙ m.ending;
            });
        counts = λ input turns. subst (λ u. CountsAs limit u plain input turns) a.pruned_are
            (let m : Means a.source unit input turns = a.means input turns in
            let f = run input turns m.walked m.comes in
            let whole : IsWhole plain f.ran.tally =
            tallies_are_whole plain (code_sound unit shapes stamp order shaped) input turns f.ran f.comes in
            record {
              walked = m.walked;
              walks = m.comes;
              ran = f.ran;
              comes = f.comes;
              ending = f.agrees.ending;
              counters = whole.counters_of ∙ (unit_is true unit shapes stamp).count;
              words = whole.words_of ∙ (unit_is true unit shapes stamp).count;
              counted = λ closed i g at.
                  (let o = made_at limit unit.graphs shapes made i g at in
                  counts_walks limit unit shapes stamp made i g o.0 m.walked.walks f.ran.tally o.2
                  (counted unit shapes stamp order shaped input turns m.walked f.ran m.comes
                  (subst IsClosed f.agrees.ending closed) f.comes i o.0 g at o.1));
            });
      },
      a.pruned_are,
    )

-- A code that renders a text and the notes of the text's graphs cover it.
pub covers : {text : List ℕ} {limit : ℕ} {unit : GraphUnit} {code : CodeValue} {functions : List FunctionNotesValue}
    (stamp : ℕ) → stamp ≤ word_limit → length text ≤ 1048576 → limit ≤ 65536 → AreGraphsOf text unit
    → RendersUnit text limit unit code → stamp ≡ stamp_of limit text → functions ≡ map function_of unit.graphs
    → All HasWord functions → IsCovered text limit (record {
      code = code;
      notes = record { stamp = stamp; limit = limit; functions = functions };
    })
covers {text = text} {limit = limit} {unit = unit} {functions = functions} stamp word fits few a r marked e words =
    let stand : IsNotes (with_parts stamp functions) =
    notes_stand limit stamp word fits few a (small a) (tidy a) e words in
    record {
      renders = r.0;
      notes_are = ap (λ (n : ℕ). with_parts n functions) marked
          ∙ ap (λ (fs : List FunctionNotesValue). with_parts (stamp_of limit text) fs) e
          ∙ ap (λ (u : GraphUnit). notes_of limit (stamp_of limit text) u) r.1;
      writable = writable (with_parts stamp functions) stand;
      stand = stand;
    }
  where
    with_parts : ℕ → List FunctionNotesValue → NotesValue
    with_parts n fs = record { stamp = n; limit = limit; functions = fs }
