-- Tables within their limit leave counters and path words within theirs: each path word has an entry in some row.
use Rattle.std.proofs.Common.{◌≡◌, refl, sym, ap, ap₂, ◌∙◌, ℕ, zero, suc, ◌+◌, ◌*◌, ◌/◌, ◌<◌, ◌≤◌, ◌⊎◌, ◌==◌, inl, inr}
use Rattle.std.proofs.Common.{Bool, true, false, cond, List, [], ◌∷◌, ◌++◌, length, map, take, drop, flat_map}
use Rattle.std.proofs.Common.{Option, Some, None, arith, length-append, leb, eqb-true, eq-eqb}
use Rattle.std.specs.Prelude.{slice_get}
use Rattle.std.specs.List.{list_any}
use Rattle.std.proofs.Math.Nat.{mul-div-le}
use Rattle.std.proofs.lemmas.Bool.{and_parts, and_from, or_left}
use Rattle.std.proofs.lemmas.Option.{same_Some, none-some}
use Rattle.cov_base.specs.Falls.{is_real}
use Rattle.cov_base.specs.Net.{NetValue, IsNet, joins}
use Rattle.cov_base.specs.declared.net.FlowArc.{FlowArc}
use Rattle.cov_base.proofs.NetLaws.{HasShape-from_IsNet}
use Rattle.span_tree.specs.Tree.{off}
use Rattle.span_tree.proofs.Counts.{off_length}
use Rattle.prime_paths.specs.Lister.{numbers}
use Rattle.prime_paths.specs.Paths.{Among, is_inner, is_way, leads, is_path, IsPrime, ArePrimes}
use Rattle.prime_paths.proofs.WaysLaws.{any_among, among_any}
use Rattle.path_masks.specs.Masks.{chunk, width, begin_entry, pass_entry, row_of_start, row_of_move, touches, has_row}
use Rattle.path_masks.specs.Tables.{RowsValue, AreRows, row_of, row_or, table_seen}
use Rattle.path_masks.specs.UnderWay.{begins_at}
use Rattle.path_masks.proofs.FitLaws.{fit_primes}
use Rattle.path_masks.proofs.MaskLaws.{among_chunk}
use Rattle.word_rules.specs.WordRules.{BeginEntry, PassEntry, begin_spelled, pass_spelled}
use Rattle.code_runs.specs.CodeChecks.{numbers_in}
use Rattle.code_runs.specs.Tables.{words_in}
use Rattle.flow_graph.specs.Graph.{Graph}
use Rattle.flow_graph.specs.Nets.{net_of, graphs_size}
use Rattle.stack_code.specs.Modes.{ShapeValue, IsShape, HasRows}
use Rattle.stack_code.specs.UnitCode.{table_in, function_code, functions_from, total, tables_size}
use Rattle.covered_runs.specs.CoveredWalks.{ListsPrimes}
use Rattle.covered_runs.specs.Laws.{NumbersAreFew}

-- ---- how many entries

-- how many of so many numbers pass a test
abbrev count : (ℕ → Bool) → ℕ → ℕ → ℕ
count t a zero = 0
count t a (suc k) = cond (t a) 1 0 + count t (suc a) k

entries_are : {E : Type 0} (t : ℕ → Bool) (e : ℕ → E) (a k : ℕ)
    → length (flat_map (λ i. cond (t i) (e i ∷ []) []) (numbers a k)) ≡ count t a k
entries_are t e a zero = refl
entries_are t e a (suc k) = by (t a) (entries_are t e (suc a) k)
  where
    by : (z : Bool) → length (flat_map (λ i. cond (t i) (e i ∷ []) []) (numbers (suc a) k)) ≡ count t (suc a) k
        → length (cond z (e a ∷ []) [] ++ flat_map (λ i. cond (t i) (e i ∷ []) []) (numbers (suc a) k))
        ≡ cond z 1 0 + count t (suc a) k
    by true h = omega (arith, h)
    by false h = omega (arith, h)

-- the test of an arc's row for a word
abbrev touched : List (List ℕ) → FlowArc → ℕ → Bool
touched ps arc i = list_any (touches arc.from arc.to) (chunk ps i)

-- how many entries the rows of arcs have for so many words
abbrev row_count : List (List ℕ) → FlowArc → ℕ → ℕ → ℕ
row_count ps arc a k = cond (has_row arc) (count (touched ps arc) a k) 0

abbrev arcs_count : List (List ℕ) → List FlowArc → ℕ → ℕ → ℕ
arcs_count ps [] a k = 0
arcs_count ps (arc ∷ arcs) a k = row_count ps arc a k + arcs_count ps arcs a k

-- how many of the rows have an entry for a word
abbrev here_count : List (List ℕ) → List FlowArc → ℕ → ℕ
here_count ps [] a = 0
here_count ps (arc ∷ arcs) a = cond (has_row arc) (cond (touched ps arc a) 1 0) 0 + here_count ps arcs a

arcs_step : (ps : List (List ℕ)) (arcs : List FlowArc) (a k : ℕ)
    → arcs_count ps arcs a (suc k) ≡ here_count ps arcs a + arcs_count ps arcs (suc a) k
arcs_step ps [] a k = refl
arcs_step ps (arc ∷ arcs) a k = by (has_row arc) (arcs_step ps arcs a k)
  where
    by : (z : Bool) → arcs_count ps arcs a (suc k) ≡ here_count ps arcs a + arcs_count ps arcs (suc a) k
        → cond z (cond (touched ps arc a) 1 0 + count (touched ps arc) (suc a) k) 0 + arcs_count ps arcs a (suc k)
        ≡ (cond z (cond (touched ps arc a) 1 0) 0 + here_count ps arcs a)
        + (cond z (count (touched ps arc) (suc a) k) 0 + arcs_count ps arcs (suc a) k)
    by true h = omega (arith, h)
    by false h = omega (arith, h)

here_some : (ps : List (List ℕ)) (arcs : List FlowArc) (a : ℕ) (arc : FlowArc) → Among arc arcs → has_row arc ≡ true
    → touched ps arc a ≡ true → 1 ≤ here_count ps arcs a
here_some ps [] a arc m row t = absurd m
here_some ps (x ∷ arcs) a arc (inl e) row t =
    let r : has_row x ≡ true = ap (λ (y : FlowArc). has_row y) (sym e) ∙ row in
    let u : touched ps x a ≡ true = ap (λ (y : FlowArc). touched ps y a) (sym e) ∙ t in
    let one : ◌≡◌ {A = ℕ} (cond (has_row x) (cond (touched ps x a) 1 0) 0) 1 =
    ap (λ c. cond {A = ℕ} c (cond (touched ps x a) 1 0) 0) r ∙ ap (λ c. cond {A = ℕ} c 1 0) u in
    omega (arith, one)
here_some ps (x ∷ arcs) a arc (inr m) row t = let h = here_some ps arcs a arc m row t in omega (arith, h)

-- a word has an entry in the begin row or in the row of an arc
abbrev HasEntry : List (List ℕ) → List FlowArc → ℕ → Type 0
HasEntry ps arcs i = (list_any (begins_at 2) (chunk ps i) ≡ true)
    ⊎ ((arc : FlowArc) × Among arc arcs × (has_row arc ≡ true) × (touched ps arc i ≡ true))

all_have : (ps : List (List ℕ)) (arcs : List FlowArc) (a k : ℕ) → ((i : ℕ) → i < a + k → HasEntry ps arcs i)
    → k ≤ count (λ i. list_any (begins_at 2) (chunk ps i)) a k + arcs_count ps arcs a k
all_have ps arcs a zero h = omega arith
all_have ps arcs a (suc k) h =
    let rest = all_have ps arcs (suc a) k (λ i l. h i (omega (arith, l))) in
    let step = arcs_step ps arcs a k in
    let one : 1 ≤ cond (list_any (begins_at 2) (chunk ps a)) 1 0 + here_count ps arcs a = by (h a (omega arith)) in
    omega (arith, rest, step, one)
  where
    by : HasEntry ps arcs a → 1 ≤ cond (list_any (begins_at 2) (chunk ps a)) 1 0 + here_count ps arcs a
    by (inl e) = let s : ◌≡◌ {A = ℕ} (cond (list_any (begins_at 2) (chunk ps a)) 1 0) 1 = ap (λ c. cond {A = ℕ} c 1 0) e in
        omega (arith, s)
    by (inr e) = let s = here_some ps arcs a e.0 e.1 e.2 e.3 in omega (arith, s)

-- ---- the table is longer

spelled_long : {E : Type 0} (spell : E → List ℕ) → ((e : E) → 1 ≤ length (spell e)) → (row : List E)
    → length row ≤ length (flat_map spell row)
spelled_long spell some [] = omega arith
spelled_long spell some (e ∷ row) =
    let l = length-append (spell e) (flat_map spell row) in
    let rest = spelled_long spell some row in
    let one = some e in omega (arith, l, rest, one)

rows_long : (ps : List (List ℕ)) (arcs : List FlowArc)
    → arcs_count ps arcs 0 (width ps) ≤ length (flat_map row_or (map (row_of ps) arcs))
rows_long ps [] = omega arith
rows_long ps (arc ∷ arcs) = by (has_row arc) (rows_long ps arcs)
  where
    by : (z : Bool) → arcs_count ps arcs 0 (width ps) ≤ length (flat_map row_or (map (row_of ps) arcs))
        → cond z (count (touched ps arc) 0 (width ps)) 0 + arcs_count ps arcs 0 (width ps)
        ≤ length (row_or (cond z (Some (pass_spelled (row_of_move arc.from arc.to ps))) None)
        ++ flat_map row_or (map (row_of ps) arcs))
    by true h =
        let row : List PassEntry = row_of_move arc.from arc.to ps in
        let rest : List ℕ = flat_map row_or (map (row_of ps) arcs) in
        let n = entries_are (touched ps arc) (pass_entry arc.from arc.to ps) 0 (width ps) in
        let s = spelled_long (λ (e : PassEntry). e.word ∷ e.keep ∷ e.finish ∷ e.start ∷ []) (λ e. omega arith) row in
        let l = length-append (pass_spelled row) rest in
        omega (arith, h, n, s, l)
    by false h = omega (arith, h)

-- a table has a number for each word at least
words_few : (arcs : List FlowArc) (ps : List (List ℕ)) (rows : RowsValue) → AreRows arcs ps rows
    → ((i : ℕ) → i < width ps → HasEntry ps arcs i) → width ps ≤ length (table_seen rows)
words_few arcs ps rows are h =
    let row : List BeginEntry = row_of_start 2 ps in
    let all = all_have ps arcs 0 (width ps) (λ i l. h i (omega (arith, l))) in
    let n = entries_are (λ i. list_any (begins_at 2) (chunk ps i)) (begin_entry 2 ps) 0 (width ps) in
    let s = spelled_long (λ (e : BeginEntry). e.word ∷ e.begin ∷ e.done ∷ []) (λ e. omega arith) row in
    let l = length-append (begin_spelled row) (flat_map row_or (map (row_of ps) arcs)) in
    let rest = rows_long ps arcs in
    let same : length (table_seen rows) ≡ length (begin_spelled row ++ flat_map row_or (map (row_of ps) arcs)) =
    ap₂ (λ (b : List ℕ) (p : List (Option (List ℕ))). length (b ++ flat_map row_or p)) are.begin are.passes in
    omega (arith, all, n, s, l, rest, same)

-- ---- prime paths

drop_some : (ps : List (List ℕ)) (n : ℕ) → n < length ps → (p : List ℕ) × Among p (take 64 (drop n ps))
drop_some [] n lt = absurd (omega (arith, lt))
drop_some (p ∷ ps) zero lt = (p, inl refl)
drop_some (p ∷ ps) (suc n) lt = drop_some ps n (omega (arith, lt))

-- a word has a path
chunk_some : (ps : List (List ℕ)) (i : ℕ) → i < width ps → (p : List ℕ) × Among p (chunk ps i)
chunk_some ps i lt = drop_some ps (64 * i) (let low : 64 * ((length ps + 63) / 64) ≤ length ps + 63 =
    mul-div-le (length ps + 63) 64 in omega (arith, low, lt))

-- the first arc of a path
first_arc : (net : NetValue) (x y : ℕ) (p : List ℕ) → is_path net (x ∷ (y ∷ p)) ≡ true
    → (arc : FlowArc) × Among arc net.arcs × (has_row arc ≡ true) × (arc.from ≡ x)
first_arc net x y p e =
    let a = and_parts (is_inner net x) _ e in
    let b = and_parts (leads net x y) _ a.1 in
    let c = and_parts (is_inner net y) _ b.1 in
    let low = (and_parts _ _ a.0).0 in
    let high = (and_parts _ _ c.0).0 in
    let found = any_among (is_way x y) net.arcs b.0 in
    let arc : FlowArc = found.0 in
    let way = and_parts (joins x y arc) (is_real arc.kind) found.2 in
    let ends = and_parts (arc.from == x) (arc.to == y) way.0 in
    let from : arc.from ≡ x = eqb-true arc.from x ends.0 in
    let to : arc.to ≡ y = eqb-true arc.to y ends.1 in (
      arc,
      found.1,
      and_from (is_real arc.kind) _ way.1
          (and_from (leb 2 arc.from) (leb 2 arc.to) (ap (λ (n : ℕ). leb 2 n) from ∙ low) (ap (λ (n : ℕ). leb 2 n) to ∙ high)),
      from,
    )

prime_entry : (net : NetValue) (ps : List (List ℕ)) → IsNet net → ArePrimes net ps → (i : ℕ) → i < width ps
    → HasEntry ps net.arcs i
prime_entry net ps is are i lt = by (chunk_some ps i lt)
  where
    by : (p : List ℕ) × Among p (chunk ps i) → HasEntry ps net.arcs i
    by (p, m) = go p m (are.sound p (among_chunk p ps i m)) ((fit_primes net ps is are).size p (among_chunk p ps i m))
      where
        go : (p : List ℕ) → Among p (chunk ps i) → IsPrime net p → (2 ≤ length p) ⊎ (p ≡ 2 ∷ []) → HasEntry ps net.arcs i
        go p m h (inr e) = inl (among_any (begins_at 2) p (chunk ps i) m (ap (λ (q : List ℕ). begins_at 2 q) e))
        go [] m h (inl l) = absurd (omega (arith, l))
        go (x ∷ []) m h (inl l) = absurd (omega (arith, l))
        go (x ∷ (y ∷ p)) m h (inl l) =
            let a = first_arc net x y p (and_parts _ _ h.simple).0 in
            inr (
              a.0,
              a.1,
              a.2,
              among_any (touches a.0.from a.0.to) (x ∷ (y ∷ p)) (chunk ps i) m
                  (or_left _ _ (or_left _ _ (eq-eqb a.0.from x a.3))),
            )

-- ---- functions

-- the counters of a function are no more than its arcs, and its words no more than the numbers of its table
shape_few : (s : ShapeValue) (o : Option RowsValue) → s.rows ≡ o → IsShape s → HasRows s.net s.paths o → ListsPrimes s o
    → length s.plan + words_in s.paths ≤ length s.net.arcs + length (table_in o)
shape_few s o is_o shape has lists =
    let least = (HasShape-from_IsNet s.net shape.net).least in
    let n = off_length s.net shape.net in
    let p : length s.plan ≡ length (off s.net) = ap (λ (l : List ℕ). length l) shape.plan in
    let w = by o has lists in
    omega (arith, least, n, p, w)
  where
    by : (o : Option RowsValue) → HasRows s.net s.paths o → ListsPrimes s o → words_in s.paths ≤ length (table_in o)
    by None none lists = let e : words_in s.paths ≡ 0 = ap words_in none in omega (arith, e)
    by (Some rows) own lists =
        let wide : words_in s.paths ≡ rows.width = ap words_in own.count_is ∙ sym own.rows_are.width in
        let few = words_few s.net.arcs lists.0 rows lists.2
        (λ i lt. prime_entry s.net lists.0 shape.net lists.1 i lt) in
        let same : rows.width ≡ width lists.0 = lists.2.width in
        omega (arith, wide, few, same)

drop_at : (shapes : List ShapeValue) (n : ℕ) (s : ShapeValue) → slice_get shapes n ≡ Some s
    → drop n shapes ≡ s ∷ drop (suc n) shapes
drop_at [] n s at = absurd (none-some s at)
drop_at (x ∷ shapes) zero s at = ap (λ (y : ShapeValue). y ∷ shapes) (same_Some x s at)
drop_at (x ∷ shapes) (suc n) s at = drop_at shapes n s at

-- the arcs of graphs
abbrev arcs_in : List Graph → ℕ
arcs_in [] = 0
arcs_in (g ∷ gs) = length ((net_of g).arcs) + arcs_in gs

arcs_few : (gs : List Graph) → 8 * arcs_in gs ≤ graphs_size gs
arcs_few [] = omega arith
arcs_few (g ∷ gs) = let h = arcs_few gs in omega (arith, h)

functions_few : (graphs : List Graph) (shapes : List ShapeValue) (n : ℕ) (gs : List Graph)
    → ((i : ℕ) (g : Graph) → slice_get gs i ≡ Some g → (s : ShapeValue) × (slice_get shapes (n + i) ≡ Some s)
    × (s.net ≡ net_of g) × IsShape s × ListsPrimes s s.rows)
    → total (functions_from true graphs shapes n gs) ≤ arcs_in gs + tables_size (drop n shapes)
functions_few graphs shapes n [] h = omega arith
functions_few graphs shapes n (g ∷ gs) h =
    let own = h 0 g refl in
    let s : ShapeValue = own.0 in
    let zero_ : n + 0 ≡ n = omega arith in
    let at : slice_get shapes n ≡ Some s = ap (λ (k : ℕ). slice_get shapes k) (sym zero_) ∙ own.1 in
    let rest = functions_few graphs shapes (suc n) gs (λ i x there.
    (let e : n + suc i ≡ suc n + i = omega arith in
    let o = h (suc i) x there in
    (o.0, ap (λ (k : ℕ). slice_get shapes k) (sym e) ∙ o.1, o.2, o.3, o.4))) in
    let few = shape_few s s.rows refl own.3 own.3.rows own.4 in
    let arcs : length s.net.arcs ≡ length ((net_of g).arcs) = ap (λ (net : NetValue). length net.arcs) own.2 in
    let same : numbers_in (function_code graphs g (slice_get shapes n)) ≡ length s.plan + words_in s.paths =
    ap (λ (o : Option ShapeValue). numbers_in (function_code graphs g o)) at in
    let tables : tables_size (drop n shapes) ≡ length (table_in s.rows) + tables_size (drop (suc n) shapes) =
    ap (λ (l : List ShapeValue). tables_size l) (drop_at shapes n s at) in
    omega (arith, rest, few, arcs, same, tables)

-- The counters and path words of a covered code are within their limit.
pub numbers_few : NumbersAreFew
numbers_few u shapes stamp has lists size tables =
    let few = functions_few u.graphs shapes 0 u.graphs (λ i g at.
    (let n = has.nets i g at in
    let e : 0 + i ≡ i = omega arith in
    (n.0, ap (λ (k : ℕ). slice_get shapes k) e ∙ n.1, n.2, has.are i n.0 n.1, lists i n.0 n.1))) in
    let arcs = arcs_few u.graphs in
    omega (arith, few, arcs, size, tables)
