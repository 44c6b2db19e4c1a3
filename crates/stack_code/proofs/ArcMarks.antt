-- Marks of both modes.
use Rattle.std.proofs.Common.{◌≡◌, refl, sym, ap, subst, ◌∙◌, ℕ, zero, suc, ◌+◌, ◌<◌, ◌≤◌, ◌==◌, ◌&&◌, Bool, true, false}
use Rattle.std.proofs.Common.{cond, List, [], ◌∷◌, ◌++◌, length, take, Option, Some, None, arith, eqb-true}
use Rattle.std.proofs.Common.{length-append}
use Rattle.std.specs.Prelude.{get_or, option_map, nat_lt, nat_le}
use Rattle.std.specs.List.{position}
use Rattle.std.proofs.lemmas.Bool.{lt-ltb, and_from, and_parts}
use Rattle.std.proofs.lemmas.List.{get_or-map}
use Rattle.std.proofs.lemmas.List.Quantifiers.{position-Some}
use Rattle.std.proofs.lemmas.Option.{same_Some, none-some, slice_get-get_or}
use Rattle.cov_base.specs.Falls.{is_real}
use Rattle.cov_base.specs.Net.{NetValue, IsNet, joins}
use Rattle.cov_base.specs.declared.net.ArcKind.TheVariants as arc_kind
use Rattle.cov_base.specs.declared.net.FlowArc.{FlowArc}
use Rattle.span_tree.specs.declared.arrival.Arrival.{Arrival}
use Rattle.span_tree.specs.Tree.{arrivals, is_linked, off_from, off}
use Rattle.span_tree.proofs.Counts.{exit_on_tree}
use Rattle.arc_counters.specs.Plan.{counter_from}
use Rattle.path_masks.specs.Masks.{has_row}
use Rattle.path_masks.specs.Tables.{RowsValue, rows_in, number_at}
use Rattle.path_masks.specs.Tables.{row_of as row_in}
use Rattle.path_masks.proofs.NumberLaws.{number_low}
use Rattle.path_masks.proofs.TableLaws.{row_none}
use Rattle.stack_ops.specs.Code.{FunctionValue}
use Rattle.stack_ops.specs.declared.operation.Op.{Op}
use Rattle.stack_ops.specs.declared.operation.Op.TheVariants as op
use Rattle.stack_code.specs.Checked.{Marks}
use Rattle.stack_code.specs.Emits.{IsMark, AreMarks}
use Rattle.stack_code.specs.Emits as emits
use Rattle.stack_code.specs.Laws.{ModesOnlyMark, MarksAreThere}
use Rattle.stack_code.specs.Modes.{ShapeValue, AreRowsOf, HasRows, IsShape, counter_of, counting, row_of, passing}
use Rattle.stack_code.specs.Modes.{tracing, covered_marks, shape_of, shape_marks}
use Rattle.stack_code.specs.UnitCode.{passes_in}

counting_marks : (o : Option ℕ) → AreMarks (counting o)
counting_marks None = tt
counting_marks (Some n) = (emits.count n, tt)

counting_short : (o : Option ℕ) → length (counting o) ≤ 1
counting_short None = omega arith
counting_short (Some n) = omega arith

passing_marks : (o : Option ℕ) → AreMarks (passing o)
passing_marks None = tt
passing_marks (Some n) = (emits.pass n, tt)

passing_short : (o : Option ℕ) → length (passing o) ≤ 1
passing_short None = omega arith
passing_short (Some n) = omega arith

tracing_marks : (rows : Option RowsValue) (arc : Option ℕ) (a b : ℕ) → AreMarks (tracing rows arc a b)
tracing_marks None arc a b = tt
tracing_marks (Some rows) arc a b = by ((a == 0) && (b == 2))
  where
    by : (z : Bool) → AreMarks (cond z (op.PathBegin ∷ []) (passing (row_of rows.passes arc)))
    by true = (emits.begin, tt)
    by false = passing_marks (row_of rows.passes arc)

tracing_short : (rows : Option RowsValue) (arc : Option ℕ) (a b : ℕ) → length (tracing rows arc a b) ≤ 1
tracing_short None arc a b = omega arith
tracing_short (Some rows) arc a b = by ((a == 0) && (b == 2))
  where
    by : (z : Bool) → length (cond z (op.PathBegin ∷ []) (passing (row_of rows.passes arc))) ≤ 1
    by true = omega arith
    by false = passing_short (row_of rows.passes arc)

joined_marks : (xs ys : List Op) → AreMarks xs → AreMarks ys → AreMarks (xs ++ ys)
joined_marks [] ys h k = k
joined_marks (x ∷ xs) ys h k = (h.0, joined_marks xs ys h.1 k)

covered_are : (s : ShapeValue) (a b : ℕ) → AreMarks (covered_marks s a b)
covered_are s a b =
    let arc : Option ℕ = position (joins a b) s.net.arcs in
    joined_marks (counting (counter_of s.plan arc)) (tracing s.rows arc a b) (counting_marks (counter_of s.plan arc))
    (tracing_marks s.rows arc a b)

-- at most two marks stand on an arc
pub covered_short : (s : ShapeValue) (a b : ℕ) → length (covered_marks s a b) ≤ 2
covered_short s a b =
    let arc : Option ℕ = position (joins a b) s.net.arcs in
    let n = length-append (counting (counter_of s.plan arc)) (tracing s.rows arc a b) in
    let one = counting_short (counter_of s.plan arc) in
    let other = tracing_short s.rows arc a b in
    omega (arith, n, one, other)

pub shape_short : (o : Option ShapeValue) (a b : ℕ) → length (shape_marks o a b) ≤ 2
shape_short None a b = omega arith
shape_short (Some s) a b = covered_short s a b

-- an arc on the tree has no counter
on_tree_none : (came : List Arrival) (i n k arc : ℕ) → is_linked came arc ≡ true
    → counter_from k (off_from came i n) arc ≡ None
on_tree_none came i zero k arc on = refl
on_tree_none came i (suc n) k arc on =
    by (is_linked came i) refl (λ k. on_tree_none came (suc i) n k arc on)
  where
    go : (y : Bool) → (i == arc) ≡ y → is_linked came i ≡ false
        → counter_from (suc k) (off_from came (suc i) n) arc ≡ None
        → cond y (Some k) (counter_from (suc k) (off_from came (suc i) n) arc) ≡ None
    go true same is later = let e : i ≡ arc = eqb-true i arc same in
        let no : is_linked came arc ≡ false = ap (is_linked came) (sym e) ∙ is in absurd (cc)
    go false same is later = later

    by : (z : Bool) → is_linked came i ≡ z → ((k : ℕ) → counter_from k (off_from came (suc i) n) arc ≡ None)
        → counter_from k (cond z (off_from came (suc i) n) (i ∷ off_from came (suc i) n)) arc ≡ None
    by true is later = later k
    by false is later = go (i == arc) refl is (later (suc k))

no_arc : FlowArc
no_arc = record { from = 0; to = 0; kind = arc_kind.Real }

counter_bare : (net : NetValue) (plan : List ℕ) → IsNet net → plan ≡ off net → (a : ℕ) (arc : Option ℕ)
    → position (joins a 1) net.arcs ≡ arc → counting (counter_of plan arc) ≡ []
counter_bare net plan is same a None at = refl
counter_bare net plan is same a (Some i) at =
    let h = position-Some (joins a 1) net.arcs i no_arc at in
    let arc : FlowArc = get_or net.arcs i no_arc in
    let parts = and_parts (arc.from == a) (arc.to == 1) h.1 in
    let on : is_linked (arrivals net) i ≡ true =
    exit_on_tree net is i arc (slice_get-get_or net.arcs i no_arc h.0) (eqb-true arc.to 1 parts.1) in
    ap counting (ap (λ (p : List ℕ). counter_from 0 p i) same
    ∙ on_tree_none (arrivals net) 0 (length net.arcs) 0 i on)

exit_no_row : (arc : FlowArc) → arc.to ≡ 1 → has_row arc ≡ false
exit_no_row arc e = by (is_real arc.kind) (nat_le 2 arc.from) (nat_le 2 arc.to) (ap (nat_le 2) e)
  where
    by : (x y z : Bool) → z ≡ false → (x && (y && z)) ≡ false
    by true true z h = h
    by true false z h = refl
    by false y z h = refl

row_bare : (net : NetValue) (count : ℕ) (rows : RowsValue) → AreRowsOf net count rows → (a : ℕ) (arc : Option ℕ)
    → position (joins a 1) net.arcs ≡ arc → passing (row_of rows.passes arc) ≡ []
row_bare net count rows are a None at = refl
row_bare net count rows are a (Some i) at =
    let h = position-Some (joins a 1) net.arcs i no_arc at in
    let arc : FlowArc = get_or net.arcs i no_arc in
    let parts = and_parts (arc.from == a) (arc.to == 1) h.1 in
    let none : has_row arc ≡ false = exit_no_row arc (eqb-true arc.to 1 parts.1) in
    let e : get_or rows.passes i None ≡ None =
    ap (λ (l : List (Option (List ℕ))). get_or l i None) are.rows_are.passes
    ∙ (get_or-map (row_in are.paths) net.arcs i no_arc None h.0 ∙ row_none are.paths arc false (sym none) refl) in
    ap passing (ap (option_map (λ (row : List ℕ). rows_in (take i rows.passes))) e)

tracing_bare : (net : NetValue) (count : ℕ) (rows : Option RowsValue) → HasRows net count rows → (a : ℕ)
    → tracing rows (position (joins a 1) net.arcs) a 1 ≡ []
tracing_bare net count None has a = refl
tracing_bare net count (Some rows) has a = by (a == 0)
  where
    by : (z : Bool) → cond (z && false) (op.PathBegin ∷ []) (passing (row_of rows.passes (position (joins a 1) net.arcs)))
        ≡ []
    by true = row_bare net count rows has a (position (joins a 1) net.arcs) refl
    by false = row_bare net count rows has a (position (joins a 1) net.arcs) refl

exit_bare : (s : ShapeValue) → IsShape s → (a : ℕ) → covered_marks s a 1 ≡ []
exit_bare s is a =
    let arc : Option ℕ = position (joins a 1) s.net.arcs in
    ap (λ (l : List Op). l ++ tracing s.rows arc a 1) (counter_bare s.net s.plan is.net is.plan a arc refl)
    ∙ tracing_bare s.net s.paths s.rows is.rows a

pub modes_mark : ModesOnlyMark
modes_mark covered shapes shaped = record {
  are_marks = λ i a b. are (shape_of covered shapes i) a b;
  exit = λ i a. bare (shape_of covered shapes i) (λ s at. shaped i s at) a;
  short = λ i a b. (let few = shape_short (shape_of covered shapes i) a b in omega (arith, few));
}
  where
    are : (o : Option ShapeValue) (a b : ℕ) → AreMarks (shape_marks o a b)
    are None a b = tt
    are (Some s) a b = covered_are s a b

    bare : (o : Option ShapeValue) → ((s : ShapeValue) → o ≡ Some s → IsShape s) → (a : ℕ) → shape_marks o a 1 ≡ []
    bare None is a = refl
    bare (Some s) is a = exit_bare s (is s refl) a

-- counters are below their number
counter_low : (k : ℕ) (plan : List ℕ) (arc n : ℕ) → counter_from k plan arc ≡ Some n → n < k + length plan
counter_low k [] arc n at = absurd (none-some n at)
counter_low k (other ∷ plan) arc n at = by (other == arc) at
    (λ h. (let lt : n < suc k + length plan = counter_low (suc k) plan arc n h in omega (arith, lt)))
  where
    by : (z : Bool) → cond z (Some k) (counter_from (suc k) plan arc) ≡ Some n
        → (counter_from (suc k) plan arc ≡ Some n → n < k + suc (length plan)) → n < k + suc (length plan)
    by true at later = let e : k ≡ n = same_Some k n at in omega (arith, e)
    by false at later = later at

joined_there : (f : FunctionValue) (xs ys : List Op) → Marks f xs → Marks f ys → Marks f (xs ++ ys)
joined_there f [] ys h k = k
joined_there f (x ∷ xs) ys h k = (h.0, joined_there f xs ys h.1 k)

counters_there : (f : FunctionValue) (plan : List ℕ) → f.counters ≡ length plan → (arc : Option ℕ)
    → Marks f (counting (counter_of plan arc))
counters_there f plan many None = tt
counters_there f plan many (Some arc) = one (counter_from 0 plan arc) (λ n at.
    (let lt : n < 0 + length plan = counter_low 0 plan arc n at in omega (arith, lt, many)))
  where
    one : (o : Option ℕ) → ((n : ℕ) → o ≡ Some n → n < f.counters) → Marks f (counting o)
    one None h = tt
    one (Some n) h = (record { mark = emits.count n; counter = lt-ltb n f.counters (h n refl); row = refl }, tt)

rows_there : (f : FunctionValue) (rows : RowsValue) → 0 < f.paths → f.passes ≡ passes_in (Some rows)
    → (arc : Option ℕ) → Marks f (passing (row_of rows.passes arc))
rows_there f rows some many None = tt
rows_there f rows some many (Some arc) = one (number_at rows.passes arc) (λ n at.
    (let lt = number_low rows.passes arc n at in omega (arith, lt, many)))
  where
    one : (o : Option ℕ) → ((n : ℕ) → o ≡ Some n → n < f.passes) → Marks f (passing o)
    one None h = tt
    one (Some n) h = (
      record {
        mark = emits.pass n;
        counter = refl;
        row = and_from (nat_lt 0 f.paths) (nat_lt n f.passes) (lt-ltb 0 f.paths some) (lt-ltb n f.passes (h n refl));
      },
      tt,
    )

traces_there : (f : FunctionValue) (net : NetValue) (rows : Option RowsValue) → HasRows net f.paths rows
    → f.passes ≡ passes_in rows → (arc : Option ℕ) (a b : ℕ) → Marks f (tracing rows arc a b)
traces_there f net None has many arc a b = tt
traces_there f net (Some rows) has many arc a b = by ((a == 0) && (b == 2))
  where
    by : (z : Bool) → Marks f (cond z (op.PathBegin ∷ []) (passing (row_of rows.passes arc)))
    by true = (record { mark = emits.begin; counter = refl; row = lt-ltb 0 f.paths has.some }, tt)
    by false = rows_there f rows has.some many arc

pub marks_there : MarksAreThere
marks_there shape f is counts a b =
    let arc : Option ℕ = position (joins a b) shape.net.arcs in
    joined_there f (counting (counter_of shape.plan arc)) (tracing shape.rows arc a b)
    (counters_there f shape.plan counts.counters arc)
    (traces_there f shape.net shape.rows (subst (λ n. HasRows shape.net n shape.rows) (sym counts.paths) is.rows)
    counts.passes arc a b)
