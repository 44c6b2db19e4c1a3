-- What a closed run of covered code has counted is what the walks of its unit passed.
use Rattle.std.proofs.Common.{◌≡◌, refl, sym, ap, subst, ◌∙◌, ℕ, zero, suc, ◌+◌, ◌==◌, Bool, true, false}
use Rattle.std.proofs.Common.{List, [], ◌∷◌, ◌++◌, length, map, filter, cond, replicate, Option, Some, None, arith, eqb-true}
use Rattle.std.specs.Prelude.{slice_get}
use Rattle.std.specs.List.{All}
use Rattle.std.proofs.lemmas.List.{length-replicate}
use Rattle.std.proofs.lemmas.List.Elements.{All-nil, All-cons, All-head, All-tail}
use Rattle.std.proofs.lemmas.Option.{same_Some, none-some}
use Rattle.cov_base.specs.Net.{NetValue, IsNet}
use Rattle.cov_base.specs.Walks.{Walk}
use Rattle.path_masks.specs.NetWalks.{IsWalk}
use Rattle.path_masks.specs.Tables.{RowsValue, table_seen}
use Rattle.path_masks.proofs.NetWalkLaws.{primes_seen}
use Rattle.word_rules.specs.WordRules.{words_of}
use Rattle.stack_ops.specs.Code.{FunctionValue, CodeValue}
use Rattle.stack_ops.specs.declared.operation.Op.{Op}
use Rattle.code_runs.specs.CodeRun.{Ran, Marked, CodeRun}
use Rattle.code_runs.specs.Counts.{total}
use Rattle.code_runs.specs.Sound.{Sound}
use Rattle.code_runs.specs.Tables.{words_in}
use Rattle.code_runs.proofs.CountLaws.{counters_are_marks}
use Rattle.code_runs.proofs.Ends.{one_run}
use Rattle.flow_graph.specs.Graph.{Graph, GraphUnit}
use Rattle.flow_graph.specs.Laws.{AllWhole}
use Rattle.flow_graph.specs.Nets.{net_of}
use Rattle.flow_graph.specs.WalkRun.{Walked, WalkRun, IsClosed}
use Rattle.flow_graph.proofs.WalkLaws.{closed_walks}
use Rattle.stack_code.specs.Agreement.{marks_of}
use Rattle.stack_code.specs.Laws.{AreShapesOf, Follows}
use Rattle.stack_code.specs.Modes.{ShapeValue, HasRows, IsShape, shape_marks, covered_marks, unit_marks}
use Rattle.stack_code.specs.Orderly.{IsOrderlyUnit}
use Rattle.stack_code.specs.UnitCode.{function_code, functions_from, table_in, unit_code}
use Rattle.stack_code.proofs.Followed.{emitted_follows, laid_emits}
use Rattle.stack_code.proofs.PassLaws.{unit_is, unit_suits, unit_only_marks}
use Rattle.stack_code.proofs.Sounding.{laid_sound}
use Rattle.covered_runs.specs.CallWords.{no_words, words_by}
use Rattle.covered_runs.specs.CoveredWalks.{walks_of, AreWordsOf, IsCounted, HasShapes}
use Rattle.covered_runs.specs.Laws.{GoesInItsNet, WalksGoAlongArcs, ClosedRunsAreCounted}
use Rattle.covered_runs.proofs.ArcCounts.{counters_are}
use Rattle.covered_runs.proofs.ArcWalks.{walks_along}
use Rattle.covered_runs.proofs.Gains.{calls_long}
use Rattle.covered_runs.proofs.PathWords.{calls_do}
use Rattle.covered_runs.proofs.WordLaws.{words_are_marks, tallies_are_whole}

pub along_arcs : WalksGoAlongArcs
along_arcs u made input turns walked run = walks_along u made input turns walked run

-- ---- the functions of a code

function_at : (graphs : List Graph) (shapes : List ShapeValue) (n : ℕ) (gs : List Graph) (i : ℕ)
    (g : Graph) → slice_get gs i ≡ Some g
    → slice_get (functions_from true graphs shapes n gs) i
    ≡ Some (function_code graphs g (slice_get shapes (n + i)))
function_at graphs shapes n [] i g at = absurd (none-some g at)
function_at graphs shapes n (h ∷ gs) zero g at =
    let e : n ≡ n + 0 = omega arith in
    ap (λ (x : Graph). Some (function_code graphs x (slice_get shapes n))) (same_Some h g at)
    ∙ ap (λ k. Some (function_code graphs g (slice_get shapes k))) e
function_at graphs shapes n (h ∷ gs) (suc i) g at =
    let e : suc n + i ≡ n + suc i = omega arith in
    function_at graphs shapes (suc n) gs i g at
    ∙ ap (λ k. Some (function_code graphs g (slice_get shapes k))) e

-- the function of a graph that has a shape
pub function_is : (u : GraphUnit) (shapes : List ShapeValue) (stamp i : ℕ) (g : Graph) (s : ShapeValue)
    → slice_get u.graphs i ≡ Some g → slice_get shapes i ≡ Some s
    → slice_get (unit_code true u shapes stamp).functions i ≡ Some (function_code u.graphs g (Some s))
function_is u shapes stamp i g s at there =
    let e : 0 + i ≡ i = omega arith in
    function_at u.graphs shapes 0 u.graphs i g at
    ∙ ap (λ k. Some (function_code u.graphs g (slice_get shapes k))) e
    ∙ ap (λ (o : Option ShapeValue). Some (function_code u.graphs g o)) there

-- ---- walks of a function

-- walks of a function go through its net
walks_in_net : (u : GraphUnit) (i : ℕ) (g : Graph) → slice_get u.graphs i ≡ Some g → (walks : List Walk)
    → All (GoesInItsNet u) walks → AllWhole walks → All (λ w. w.function ≡ i → IsWalk (net_of g) w.blocks) walks
walks_in_net u i g at [] along whole = All-nil (λ (w : Walk). w.function ≡ i → IsWalk (net_of g) w.blocks)
walks_in_net u i g at (w ∷ walks) along whole =
    All-cons (λ (w : Walk). w.function ≡ i → IsWalk (net_of g) w.blocks) w walks
    (λ is. record {
      rest = whole.0.0 ++ 1 ∷ [];
      first = whole.0.1;
      along = All-head (GoesInItsNet u) w walks along g (subst (λ (k : ℕ). slice_get u.graphs k ≡ Some g) (sym is) at);
    })
    (walks_in_net u i g at walks (All-tail (GoesInItsNet u) w walks along) whole.1)

-- the walks of a function, as lists of blocks
chosen_walks : (P : List ℕ → Type 0) (i : ℕ) (walks : List Walk) → All (λ w. w.function ≡ i → P w.blocks) walks
    → All P (walks_of i walks)
chosen_walks P i [] h = All-nil P
chosen_walks P i (w ∷ walks) h =
    by (w.function == i) refl (chosen_walks P i walks (All-tail (λ (w : Walk). w.function ≡ i → P w.blocks) w walks h))
  where
    here : w.function ≡ i → P w.blocks
    here = All-head (λ (w : Walk). w.function ≡ i → P w.blocks) w walks h

    by : (z : Bool) → (w.function == i) ≡ z → All P (walks_of i walks)
        → All P (map (λ (v : Walk). v.blocks) (cond z (w ∷ filter (λ (v : Walk). v.function == i) walks)
        (filter (λ (v : Walk). v.function == i) walks)))
    by true e rest = All-cons P w.blocks (walks_of i walks) (here (eqb-true w.function i e)) rest
    by false e rest = rest

-- ---- words

no_long : (xs : List ℕ) → length xs ≡ 0 → xs ≡ []
no_long [] e = refl
no_long (x ∷ xs) e = absurd (omega (arith, e))

-- the path words of a function for walks, by cases on its rows
words_so : (m : ℕ → ℕ → ℕ → List Op) (s : ShapeValue) (i : ℕ) (f : FunctionValue) (o : Option RowsValue)
    → s.rows ≡ o → m i ≡ covered_marks s → IsNet s.net → HasRows s.net s.paths o → f.paths ≡ s.paths
    → ((rows : RowsValue) → o ≡ Some rows → f.table ≡ table_seen rows) → (walks : List Walk)
    → All (λ w. w.function ≡ i → IsWalk s.net w.blocks) walks
    → AreWordsOf s.net o i walks (words_by f i (map (marks_of m) walks))
words_so m s i f None has marked net none paths table walks in_net =
    no_long (words_by f i (map (marks_of m) walks))
    (calls_long f i (map (marks_of m) walks) (no_words f) ∙ length-replicate (words_in f.paths) 0
    ∙ ap (λ (n : ℕ). words_in n) (paths ∙ none))
words_so m s i f (Some rows) has marked net own paths table walks in_net =
    λ ps primes are.
    (let wide : words_in f.paths ≡ rows.width =
    ap (λ (n : ℕ). words_in n) (paths ∙ own.count_is) ∙ sym own.rows_are.width in
    let long : length (no_words f) ≡ rows.width = length-replicate (words_in f.paths) 0 ∙ wide in
    calls_do s ps rows has are m i f marked (table rows refl) net walks (no_words f) (no_words f) refl in_net
    ∙ primes_seen s.net (length ps) ps rows net (primes, omega arith) are (walks_of i walks)
    (words_of (no_words f) (no_words f)) (chosen_walks (IsWalk s.net) i walks in_net) long
    (ap (λ (n : ℕ). replicate {A = ℕ} n 0) wide))

-- ---- the law

module _ (u : GraphUnit) (shapes : List ShapeValue) (stamp : ℕ) (order : IsOrderlyUnit u) (has : HasShapes u shapes) where
  abbrev code : CodeValue
  code = unit_code true u shapes stamp

  shaped : AreShapesOf true shapes
  shaped i s e = has.are i s e

  pub code_sound : Sound (unit_code true u shapes stamp)
  code_sound = laid_sound (unit_marks true shapes) u code (unit_is true u shapes stamp) order
      (unit_suits true u shapes stamp shaped)

  follows : (input : List ℕ) (turns : ℕ) (walked : Walked) → WalkRun u input turns walked
      → Follows (unit_marks true shapes) code input turns walked
  follows input turns walked run =
      emitted_follows (unit_marks true shapes) u code
      (laid_emits (unit_marks true shapes) u code (unit_is true u shapes stamp) (unit_only_marks true u shapes stamp shaped))
      (λ i g at. (order.each i g at).made) input turns walked run

  -- what a closed run marks
  marks_are : (input : List ℕ) (turns : ℕ) (walked : Walked) (ran : Ran) → WalkRun u input turns walked
      → IsClosed walked.ending → CodeRun code input turns ran
      → ran.tally.marks ≡ map (marks_of (unit_marks true shapes)) walked.walks
  marks_are input turns walked ran run closed comes =
      let f = follows input turns walked run in
      let same : ran ≡ f.ran = one_run code input turns f.ran ran f.comes comes in
      ap (λ (r : Ran). r.tally.marks) same ∙ f.agrees.told closed

  marked : (i : ℕ) (s : ShapeValue) → slice_get shapes i ≡ Some s → unit_marks true shapes i ≡ covered_marks s
  marked i s there = ap (λ (o : Option ShapeValue). shape_marks o) there

  -- the net of a shape is that of its graph
  net_is : (i : ℕ) (g : Graph) (s : ShapeValue) → slice_get u.graphs i ≡ Some g → slice_get shapes i ≡ Some s
      → net_of g ≡ s.net
  net_is i g s at there =
      let n = has.nets i g at in
      sym n.2 ∙ ap (λ (x : ShapeValue). x.net) (same_Some n.0 s (sym n.1 ∙ there))

  in_net : (input : List ℕ) (turns : ℕ) (walked : Walked) → WalkRun u input turns walked → IsClosed walked.ending
      → (i : ℕ) (g : Graph) (s : ShapeValue) → slice_get u.graphs i ≡ Some g → slice_get shapes i ≡ Some s
      → All (λ w. w.function ≡ i → IsWalk s.net w.blocks) walked.walks
  in_net input turns walked run closed i g s at there =
      subst (λ (net : NetValue). All (λ (w : Walk). w.function ≡ i → IsWalk net w.blocks) walked.walks)
      (net_is i g s at there)
      (walks_in_net u i g at walked.walks
      (walks_along u (λ k x t. (order.each k x t).made) input turns walked run)
      (closed_walks u input turns walked run closed))

  counted : (input : List ℕ) (turns : ℕ) (walked : Walked) (ran : Ran) → WalkRun u input turns walked
      → IsClosed walked.ending → CodeRun code input turns ran → (i : ℕ) (s : ShapeValue) (g : Graph)
      → slice_get u.graphs i ≡ Some g → slice_get shapes i ≡ Some s → IsCounted s i walked.walks ran.tally
  counted input turns walked ran run closed comes i s g at there =
      let f : FunctionValue = function_code u.graphs g (Some s) in
      let here = function_is u shapes stamp i g s at there in
      let shape : IsShape s = has.are i s there in
      let are = marks_are input turns walked ran run closed comes in
      let row = (tallies_are_whole code code_sound input turns ran comes).counters i f here in
      record {
        counters = row.1 ∙ ap (λ (l : List ℕ). Some l) (counters_are (unit_marks true shapes) s i (marked i s there)
            shape.net shape.plan walked.walks ran.tally.counters row.0
            (λ n. counters_are_marks code code_sound input turns ran comes i n ∙ ap (λ (l : List Marked). total i n l) are)
            row.1 row.2);
        words = words_by f i ran.tally.marks;
        there = words_are_marks code code_sound input turns ran comes i f here;
        words_are = subst (λ (l : List Marked). AreWordsOf s.net s.rows i walked.walks (words_by f i l)) (sym are)
            (words_so (unit_marks true shapes) s i f s.rows refl (marked i s there) shape.net shape.rows refl
            (λ rows e. ap (λ (o : Option RowsValue). table_in o) e) walked.walks
            (in_net input turns walked run closed i g s at there));
      }

pub closed_counted : ClosedRunsAreCounted
closed_counted u shapes stamp order has input turns walked ran run closed comes i s g at there =
    counted u shapes stamp order has input turns walked ran run closed comes i s g at there
