-- Path words along walks.
use Rattle.std.proofs.Common.{◌≡◌, ◌≢◌, refl, sym, ap, subst, ◌∙◌, ℕ, zero, suc, ◌<◌, ◌==◌, ◌&&◌, Bool}
use Rattle.std.proofs.Common.{true, false, cond, List, [], ◌∷◌, length, map, filter, take, get_or, replicate}
use Rattle.std.proofs.Common.{Option, Some, None, arith, eqb-true, eq-eqb, fold, inl, inr}
use Rattle.std.specs.Prelude.{option_map}
use Rattle.std.specs.List.{All, position}
use Rattle.std.proofs.lemmas.Bool.{and_parts, or_parts, or_cases, both_ways, ne_eqb}
use Rattle.std.proofs.lemmas.List.{length-replicate, length-set}
use Rattle.std.proofs.lemmas.List.Elements.{All-head, All-tail}
use Rattle.std.proofs.lemmas.List.Quantifiers.{position-Some}
use Rattle.std.proofs.lemmas.List.Sums.{fold-append}
use Rattle.cov_base.specs.Net.{IsNet, joins, has_arc, is_outside}
use Rattle.cov_base.specs.Walks.{Walk, moves_from, moves, GoesAlong}
use Rattle.cov_base.specs.declared.net.ArcKind.TheVariants as arc_kind
use Rattle.cov_base.specs.declared.net.FlowArc.{FlowArc}
use Rattle.cov_base.proofs.NetLaws.{HasShape-from_IsNet, All-from_no_position}
use Rattle.stack_ops.specs.declared.operation.Op.{Op}
use Rattle.stack_ops.specs.declared.operation.Op.TheVariants as op
use Rattle.stack_ops.specs.Code.{FunctionValue}
use Rattle.word_rules.specs.WordRules.{BeginEntry, PassEntry, Words, words_of, begin_row, pass_row, begun, passed, begin_by, pass_by}
use Rattle.path_masks.specs.NetWalks.{row_along, passed_by, moved_by, walked_by, IsWalk}
use Rattle.path_masks.specs.Tables.{RowsValue, AreRows, row_of, rows_in, number_at, table_seen}
use Rattle.stack_code.specs.Agreement.{along_from, along, marks_of}
use Rattle.stack_code.specs.Modes.{ShapeValue, counter_of, counting, passing, tracing, covered_marks}
use Rattle.stack_code.specs.Modes.{row_of as row_number}
use Rattle.covered_runs.specs.CallWords.{marked_by, no_words, after_call, after_calls}
use Rattle.covered_runs.specs.CoveredWalks.{walks_of}
use Rattle.covered_runs.proofs.TableRows.{begin_found, pass_found}

no_arc : FlowArc
no_arc = record { from = 0; to = 0; kind = arc_kind.Real }

-- ---- the row of a move

row_along_none : (arcs : List FlowArc) (rows : List (Option (List ℕ))) (a b : ℕ) → All (λ x. joins a b x ≡ false) arcs
    → row_along arcs rows a b ≡ None
row_along_none [] rows a b h = refl
row_along_none (arc ∷ arcs) [] a b h = refl
row_along_none (arc ∷ arcs) (row ∷ rows) a b h =
    ap (λ c. cond c row (row_along arcs rows a b)) (All-head (λ x. joins a b x ≡ false) arc arcs h)
    ∙ row_along_none arcs rows a b (All-tail (λ x. joins a b x ≡ false) arc arcs h)

row_along_at : (arcs : List FlowArc) (rows : List (Option (List ℕ))) (a b k : ℕ) → length rows ≡ length arcs
    → k < length arcs → joins a b (get_or arcs k no_arc) ≡ true
    → ((i : ℕ) → i < k → joins a b (get_or arcs i no_arc) ≡ false) → row_along arcs rows a b ≡ get_or rows k None
row_along_at [] rows a b k long lt is differ = absurd (omega (arith, lt))
row_along_at (arc ∷ arcs) [] a b k long lt is differ = absurd (omega (arith, long))
row_along_at (arc ∷ arcs) (row ∷ rows) a b zero long lt is differ = ap (λ c. cond c row (row_along arcs rows a b)) is
row_along_at (arc ∷ arcs) (row ∷ rows) a b (suc k) long lt is differ =
    ap (λ c. cond c row (row_along arcs rows a b)) (differ 0 (omega arith))
    ∙ row_along_at arcs rows a b k (omega (arith, long)) (omega (arith, lt)) is (λ i l. differ (suc i) (omega (arith, l)))

-- the row of the arc at a place, if there is one
abbrev row_of_place : List (Option (List ℕ)) → Option ℕ → Option (List ℕ)
row_of_place rows None = None
row_of_place rows (Some k) = get_or rows k None

row_found : (arcs : List FlowArc) (rows : List (Option (List ℕ))) (a b : ℕ) → length rows ≡ length arcs
    → row_along arcs rows a b ≡ row_of_place rows (position (joins a b) arcs)
row_found arcs rows a b long = by (position (joins a b) arcs) refl
  where
    by : (o : Option ℕ) → position (joins a b) arcs ≡ o → row_along arcs rows a b ≡ row_of_place rows o
    by None e = row_along_none arcs rows a b (All-from_no_position (joins a b) arcs e)
    by (Some k) e = let p = position-Some (joins a b) arcs k no_arc e in
        row_along_at arcs rows a b k long p.0 p.1 p.2

map_long : {A B : Type 0} (v : A → B) (xs : List A) → length (map v xs) ≡ length xs
map_long v [] = refl
map_long v (x ∷ xs) = ap suc (map_long v xs)

-- ---- along a walk

module _ (s : ShapeValue) (ps : List (List ℕ)) (rows : RowsValue) (has : s.rows ≡ Some rows)
    (are : AreRows s.net.arcs ps rows) where
  rows_long : length rows.passes ≡ length s.net.arcs
  rows_long = ap (λ (l : List (Option (List ℕ))). length l) are.passes ∙ map_long (row_of ps) s.net.arcs

  -- what the marks of a move make of the words
  abbrev traced : ℕ → ℕ → Words → Words
  traced a b ws = cond ((a == 0) && (b == 2)) (begin_by (begin_row rows.begin) ws)
      (passed_by (row_along s.net.arcs rows.passes a b) ws)

  count_stays : (o : Option ℕ) (ws : Words) → fold (marked_by (table_seen rows)) ws (counting o) ≡ ws
  count_stays None ws = refl
  count_stays (Some n) ws = refl

  pass_does : (k : ℕ) (ws : Words)
      → fold (marked_by (table_seen rows)) ws (passing (number_at rows.passes k))
      ≡ passed_by (get_or rows.passes k None) ws
  pass_does k ws = by (get_or rows.passes k None) refl
    where
      by : (o : Option (List ℕ)) → get_or rows.passes k None ≡ o
          → fold (marked_by (table_seen rows)) ws (passing (option_map (λ row. rows_in (take k rows.passes)) o))
          ≡ passed_by o ws
      by None e = refl
      by (Some row) e = ap (λ (r : List ℕ). pass_by (pass_row r) ws) (pass_found s.net.arcs ps rows are k row e)

  row_does : (o : Option ℕ) (ws : Words)
      → fold (marked_by (table_seen rows)) ws (passing (row_number rows.passes o))
      ≡ passed_by (row_of_place rows.passes o) ws
  row_does None ws = refl
  row_does (Some k) ws = pass_does k ws

  trace_does : (a b : ℕ) (ws : Words)
      → fold (marked_by (table_seen rows)) ws (tracing (Some rows) (position (joins a b) s.net.arcs) a b)
      ≡ traced a b ws
  trace_does a b ws = by ((a == 0) && (b == 2))
    where
      by : (z : Bool)
          → fold (marked_by (table_seen rows)) ws
          (cond z (op.PathBegin ∷ []) (passing (row_number rows.passes (position (joins a b) s.net.arcs))))
          ≡ cond z (begin_by (begin_row rows.begin) ws) (passed_by (row_along s.net.arcs rows.passes a b) ws)
      by true = ap (λ (r : List ℕ). begin_by (begin_row r) ws) (begin_found s.net.arcs ps rows are)
      by false = row_does (position (joins a b) s.net.arcs) ws
          ∙ ap (λ (r : Option (List ℕ)). passed_by r ws) (sym (row_found s.net.arcs rows.passes a b rows_long))

  marks_do : (a b : ℕ) (ws : Words) → fold (marked_by (table_seen rows)) ws (covered_marks s a b) ≡ traced a b ws
  marks_do a b ws =
      let place : Option ℕ = position (joins a b) s.net.arcs in
      fold-append (marked_by (table_seen rows)) ws (counting (counter_of s.plan place)) (tracing s.rows place a b)
      ∙ ap (λ (v : Words). fold (marked_by (table_seen rows)) v (tracing s.rows place a b))
      (count_stays (counter_of s.plan place) ws)
      ∙ ap (λ (r : Option RowsValue). fold (marked_by (table_seen rows)) ws (tracing r place a b)) has
      ∙ trace_does a b ws

  -- no arc of a net leads into the entry
  not_entry : IsNet s.net → (a b : ℕ) → has_arc s.net.arcs a b ≡ true → b ≢ 0
  not_entry net a b h e = by s.net.arcs h ((HasShape-from_IsNet s.net net).inside)
    where
      by : (arcs : List FlowArc) → has_arc arcs a b ≡ true → All (λ x. is_outside s.net.blocks x ≡ false) arcs → ⊥
      by [] h all = (let never : false ≡ true = h in cc)
      by (arc ∷ arcs) h all = elim (or_cases (joins a b arc) (has_arc arcs a b) h) [
        | inl j ↦ (let ends = and_parts (arc.from == a) (arc.to == b) j in
            let out = All-head (λ x. is_outside s.net.blocks x ≡ false) arc arcs all in
            both_ways (arc.to == 0) (or_parts _ _ (or_parts _ _ out).0).1
            (eq-eqb arc.to 0 (eqb-true arc.to b ends.1 ∙ e)))
        | inr later ↦ by arcs later (All-tail (λ x. is_outside s.net.blocks x ≡ false) arc arcs all)
      ]

  inside_moves : (v b : ℕ) (ws : Words) → v ≢ 0 → traced v b ws ≡ moved_by s.net.arcs rows ws (v, b)
  inside_moves v b ws ne = by (v == 0) (ne_eqb v 0 ne)
    where
      by : (z : Bool) → z ≡ false
          → cond (z && (b == 2)) (begin_by (begin_row rows.begin) ws)
          (passed_by (row_along s.net.arcs rows.passes v b) ws)
          ≡ cond z (begin_by (begin_row rows.begin) ws) (passed_by (row_along s.net.arcs rows.passes v b) ws)
      by false e = refl
      by true e = absurd (let never : true ≡ false = e in cc)

  rest_does : IsNet s.net → (v : ℕ) (rest : List ℕ) (ws : Words) → v ≢ 0
      → All (λ m. has_arc s.net.arcs m.0 m.1 ≡ true) (moves_from v rest)
      → fold (marked_by (table_seen rows)) ws (along_from (covered_marks s) v rest)
      ≡ fold (moved_by s.net.arcs rows) ws (moves_from v rest)
  rest_does net v [] ws ne h = refl
  rest_does net v (b ∷ rest) ws ne h =
      let arc = All-head (λ m. has_arc s.net.arcs m.0 m.1 ≡ true) (v, b) (moves_from b rest) h in
      let later = All-tail (λ m. has_arc s.net.arcs m.0 m.1 ≡ true) (v, b) (moves_from b rest) h in
      fold-append (marked_by (table_seen rows)) ws (covered_marks s v b) (along_from (covered_marks s) b rest)
      ∙ ap (λ (w : Words). fold (marked_by (table_seen rows)) w (along_from (covered_marks s) b rest))
      (marks_do v b ws ∙ inside_moves v b ws ne)
      ∙ rest_does net b rest (moved_by s.net.arcs rows ws (v, b)) (not_entry net v b arc) later

  -- what the marks of a whole walk make of the words is what the rows of its moves make of them
  walk_does : IsNet s.net → (walk : List ℕ) (ws : Words) → IsWalk s.net walk
      → fold (marked_by (table_seen rows)) ws (along (covered_marks s) walk) ≡ walked_by s.net.arcs rows ws walk
  walk_does net walk ws is =
      subst (λ (w : List ℕ). fold (marked_by (table_seen rows)) ws (along (covered_marks s) w)
      ≡ walked_by s.net.arcs rows ws w) (sym is.first)
      (by is.rest (subst (λ (w : List ℕ). GoesAlong s.net.arcs w) is.first is.along))
    where
      by : (rest : List ℕ) → GoesAlong s.net.arcs (0 ∷ (2 ∷ rest))
          → fold (marked_by (table_seen rows)) ws (along (covered_marks s) (0 ∷ (2 ∷ rest)))
          ≡ walked_by s.net.arcs rows ws (0 ∷ (2 ∷ rest))
      by rest along =
          let later = All-tail (λ m. has_arc s.net.arcs m.0 m.1 ≡ true) (0, 2) (moves_from 2 rest) along in
          fold-append (marked_by (table_seen rows)) ws (covered_marks s 0 2) (along_from (covered_marks s) 2 rest)
          ∙ ap (λ (w : Words). fold (marked_by (table_seen rows)) w (along_from (covered_marks s) 2 rest)) (marks_do 0 2 ws)
          ∙ rest_does net 2 rest (begin_by (begin_row rows.begin) ws) (λ e. (let two : 2 ≡ 0 = e in omega (arith, two))) later

  -- ---- bits keep their number

  begun_long : (row : List BeginEntry) (ws : Words) → length ((fold begun ws row).bits) ≡ length ws.bits
  begun_long [] ws = refl
  begun_long (e ∷ row) ws = begun_long row (begun ws e) ∙ length-set ws.bits e.word e.begin

  passed_long : (row : List PassEntry) (ws : Words) → length ((fold passed ws row).bits) ≡ length ws.bits
  passed_long [] ws = refl
  passed_long (e ∷ row) ws = passed_long row (passed ws e) ∙ length-set ws.bits e.word _

  moved_long : (ws : Words) (m : ℕ × ℕ) → length ((moved_by s.net.arcs rows ws m).bits) ≡ length ws.bits
  moved_long ws m = by (m.0 == 0)
    where
      row : (o : Option (List ℕ)) → length ((passed_by o ws).bits) ≡ length ws.bits
      row None = refl
      row (Some r) = passed_long (pass_row r) ws

      by : (z : Bool)
          → length ((cond z (begin_by (begin_row rows.begin) ws)
          (passed_by (row_along s.net.arcs rows.passes m.0 m.1) ws)).bits) ≡ length ws.bits
      by true = begun_long (begin_row rows.begin) (words_of (replicate (length ws.bits) 0) ws.seen)
          ∙ length-replicate (length ws.bits) 0
      by false = row (row_along s.net.arcs rows.passes m.0 m.1)

  moves_long : (ms : List (ℕ × ℕ)) (ws : Words)
      → length ((fold (moved_by s.net.arcs rows) ws ms).bits) ≡ length ws.bits
  moves_long [] ws = refl
  moves_long (m ∷ ms) ws = moves_long ms (moved_by s.net.arcs rows ws m) ∙ moved_long ws m

  -- a walk begins with new bits
  walk_anew : (walk : List ℕ) (bits other seen : List ℕ) → IsWalk s.net walk → length bits ≡ length other
      → walked_by s.net.arcs rows (words_of bits seen) walk ≡ walked_by s.net.arcs rows (words_of other seen) walk
  walk_anew walk bits other seen is same =
      subst (λ (w : List ℕ). walked_by s.net.arcs rows (words_of bits seen) w
      ≡ walked_by s.net.arcs rows (words_of other seen) w) (sym is.first)
      (ap (λ (n : ℕ). fold (moved_by s.net.arcs rows)
      (fold begun (words_of (replicate n 0) seen) (begin_row rows.begin)) (moves_from 2 is.rest)) same)

  -- ---- along walks

  -- what calls that mark the arcs of walks make of the words
  pub calls_do : (m : ℕ → ℕ → ℕ → List Op) (i : ℕ) (f : FunctionValue) → m i ≡ covered_marks s → f.table ≡ table_seen rows
      → IsNet s.net → (walks : List Walk) (bits seen : List ℕ) → length bits ≡ length (no_words f)
      → All (λ w. w.function ≡ i → IsWalk s.net w.blocks) walks
      → after_calls f i seen (map (marks_of m) walks)
      ≡ (fold (walked_by s.net.arcs rows) (words_of bits seen) (walks_of i walks)).seen
  calls_do m i f marked table net [] bits seen long h = refl
  calls_do m i f marked table net (w ∷ walks) bits seen long h =
      by (w.function == i) refl (λ bits seen long. calls_do m i f marked table net walks bits seen long
      (All-tail (λ (w : Walk). w.function ≡ i → IsWalk s.net w.blocks) w walks h))
    where
      here : w.function ≡ i → IsWalk s.net w.blocks
      here = All-head (λ (w : Walk). w.function ≡ i → IsWalk s.net w.blocks) w walks h

      call : w.function ≡ i
          → after_call f seen (along (m w.function) w.blocks)
          ≡ (walked_by s.net.arcs rows (words_of bits seen) w.blocks).seen
      call is =
          ap (λ (ops : List Op). after_call f seen ops)
          (ap (λ (k : ℕ). along (m k) w.blocks) is ∙ ap (λ (g : ℕ → ℕ → List Op). along g w.blocks) marked)
          ∙ ap (λ (t : List ℕ). (fold (marked_by t) (words_of (no_words f) seen) (along (covered_marks s) w.blocks)).seen)
          table
          ∙ ap (λ (ws : Words). ws.seen) (walk_does net w.blocks (words_of (no_words f) seen) (here is)
          ∙ walk_anew w.blocks (no_words f) bits seen (here is) (sym long))

      by : (z : Bool) → (w.function == i) ≡ z
          → ((bits seen : List ℕ) → length bits ≡ length (no_words f)
          → after_calls f i seen (map (marks_of m) walks)
          ≡ (fold (walked_by s.net.arcs rows) (words_of bits seen) (walks_of i walks)).seen)
          → after_calls f i (cond z (after_call f seen (along (m w.function) w.blocks)) seen) (map (marks_of m) walks)
          ≡ (fold (walked_by s.net.arcs rows) (words_of bits seen)
          (map (λ (v : Walk). v.blocks) (cond z (w ∷ filter (λ (v : Walk). v.function == i) walks)
          (filter (λ (v : Walk). v.function == i) walks)))).seen
      by false e go = go bits seen long
      by true e go =
          let is : w.function ≡ i = eqb-true w.function i e in
          ap (λ (t : List ℕ). after_calls f i t (map (marks_of m) walks)) (call is)
          ∙ go ((walked_by s.net.arcs rows (words_of bits seen) w.blocks).bits)
          ((walked_by s.net.arcs rows (words_of bits seen) w.blocks).seen)
          (moves_long (moves w.blocks) (words_of bits seen) ∙ long)
