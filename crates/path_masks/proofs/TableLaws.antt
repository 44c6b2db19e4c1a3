-- The rows of a table, word by word and arc by arc.
use Rattle.std.proofs.Common.{subst, zero, suc, ◌≡◌, refl, sym, ap, ap₂, ◌∙◌, ℕ, suc, ◌+◌, ◌-◌, ◌*◌, ◌/◌, ◌≤◌, ◌<◌}
use Rattle.std.proofs.Common.{List}
use Rattle.std.proofs.Common.{[], ◌∷◌, ◌++◌, length, map, get_or, take, drop, flat_map, Option, Some, None}
use Rattle.std.proofs.Common.{Bool, true, false, arith, append_assoc, append-nil, length-append, take_all}
use Rattle.std.proofs.Common.{slice_range, mul-suc, add_comm}
use Rattle.std.proofs.Math.Seq.{drop-append_seam}
use Rattle.std.proofs.lemmas.Bool.{cond-true, cond-false}
use Rattle.std.proofs.lemmas.List.{get_or-map, length-map, drop_more, take-append-le}
use Rattle.cov_base.proofs.NetLaws.{HasShape-from_IsNet}
use Rattle.cov_base.specs.Net.{NetValue, IsNet}
use Rattle.cov_base.specs.declared.net.FlowArc.{FlowArc}
use Rattle.word_rules.specs.WordRules.{BeginEntry, PassEntry, begin_spelled, pass_spelled}
use Rattle.prime_paths.specs.Lister.{numbers}
use Rattle.prime_paths.proofs.Growing.{numbers_more, numbers_none}
use Rattle.path_masks.specs.Masks.{width, row_of_start, row_of_move, has_row}
use Rattle.path_masks.specs.declared.rows.RowSpan.{RowSpan}
use Rattle.path_masks.specs.Tables.{begin_longs, pass_longs, row_of, AreRows}
use Rattle.path_masks.specs.Tables.{row_or, row_at, rows_view, span_of, laid, IsTable}

longs_join : {E : Type 0} (f : E → List ℕ) (xs ys : List E) → flat_map f (xs ++ ys) ≡ flat_map f xs ++ flat_map f ys
longs_join f [] ys = refl
longs_join {E} f (x ∷ xs) ys = ap (λ (l : List ℕ). f x ++ l) (longs_join f xs ys)
    ∙ sym (append_assoc (f x) (flat_map f xs) (flat_map f ys))

-- one word more
pub longs_step : {E : Type 0} (f : E → List ℕ) (g : ℕ → List E) (n word : ℕ) (old new whole : List ℕ) → word < n
    → new ≡ old ++ flat_map f (g word)
    → old ++ flat_map f (flat_map g (numbers word (n - word))) ≡ whole
    → new ++ flat_map f (flat_map g (numbers (word + 1) (n - (word + 1)))) ≡ whole
longs_step {E} f g n word old new whole l e h =
    ap (λ (x : List ℕ). x ++ flat_map f (flat_map g (numbers (word + 1) (n - (word + 1))))) e
    ∙ append_assoc old (flat_map f (g word)) (flat_map f (flat_map g (numbers (word + 1) (n - (word + 1)))))
    ∙ ap (λ (x : List ℕ). old ++ x) (sym (longs_join f (g word) (flat_map g (numbers (word + 1) (n - (word + 1))))))
    ∙ ap (λ (ns : List ℕ). old ++ flat_map f (flat_map g ns)) (sym (numbers_more word n l)) ∙ h

pub longs_end : {E : Type 0} (f : E → List ℕ) (g : ℕ → List E) (n word : ℕ) (last whole : List ℕ) → n ≤ word
    → last ++ flat_map f (flat_map g (numbers word (n - word))) ≡ whole → last ≡ whole
longs_end f g n word last whole l h =
    sym (append-nil last) ∙ ap (λ (ns : List ℕ). last ++ flat_map f (flat_map g ns)) (sym (numbers_none word n l)) ∙ h

-- how many entries numbers spell
longs_length : {E : Type 0} (f : E → List ℕ) (k : ℕ) → ((e : E) → length (f e) ≡ k) → (row : List E)
    → length (flat_map f row) ≡ k * length row
longs_length f k h [] = sym (none k)
  where
    none : (k : ℕ) → k * 0 ≡ 0
    none k = omega arith
longs_length f k h (e ∷ row) =
    length-append (f e) (flat_map f row) ∙ ap₂ (λ a b. a + b) (h e) (longs_length f k h row) ∙ more k (length row)
  where
    more : (k n : ℕ) → k + k * n ≡ k * suc n
    more k n = sym (mul-suc k n ∙ add_comm (k * n) k)

pub begin_count : (row : List BeginEntry) (longs : List ℕ) → longs ≡ begin_longs row → length longs / 3 ≡ length row
begin_count row longs e = (let h = ap (λ (l : List ℕ). length l) e
    ∙ longs_length (λ (e : BeginEntry). e.word ∷ e.begin ∷ e.done ∷ []) 3 (λ e. refl) row in omega (arith, h))

pub pass_count : (row : List PassEntry) (longs : List ℕ) → longs ≡ pass_longs row → length longs / 4 ≡ length row
pass_count row longs e = (let h = ap (λ (l : List ℕ). length l) e
    ∙ longs_length (λ (e : PassEntry). e.word ∷ e.keep ∷ e.finish ∷ e.start ∷ []) 4 (λ e. refl) row in omega (arith, h))

-- ---- arc by arc

-- what is left to lay
pub laid_step : (ps : List (List ℕ)) (arcs : List FlowArc) (k : ℕ) (d : FlowArc) (table new : List ℕ)
    (spans more whole : List (Option RowSpan)) → k < length arcs
    → new ≡ table ++ row_or (row_of ps (get_or arcs k d))
    → more ≡ spans ++ span_of (length table) (row_of ps (get_or arcs k d)) ∷ []
    → spans ++ laid (length table) (map (row_of ps) (drop k arcs)) ≡ whole
    → more ++ laid (length new) (map (row_of ps) (drop (k + 1) arcs)) ≡ whole
laid_step ps arcs k d table new spans more whole l t s h =
    ap₂ (λ (x : List (Option RowSpan)) (n : ℕ). x ++ laid n (map (row_of ps) (drop (k + 1) arcs))) s
    (ap (λ (x : List ℕ). length x) t ∙ length-append table (row_or (row_of ps (get_or arcs k d))))
    ∙ append_assoc spans (span_of (length table) (row_of ps (get_or arcs k d)) ∷ [])
    (laid (length table + length (row_or (row_of ps (get_or arcs k d)))) (map (row_of ps) (drop (k + 1) arcs)))
    ∙ ap (λ (rest : List FlowArc). spans ++ laid (length table) (map (row_of ps) rest)) (sym (drop_more arcs k d l)) ∙ h

pub table_step : (ps : List (List ℕ)) (arcs : List FlowArc) (k : ℕ) (d : FlowArc) (table new whole : List ℕ)
    → k < length arcs
    → new ≡ table ++ row_or (row_of ps (get_or arcs k d))
    → table ++ flat_map row_or (map (row_of ps) (drop k arcs)) ≡ whole
    → new ++ flat_map row_or (map (row_of ps) (drop (k + 1) arcs)) ≡ whole
table_step ps arcs k d table new whole l t h =
    ap (λ (x : List ℕ). x ++ flat_map row_or (map (row_of ps) (drop (k + 1) arcs))) t
    ∙ append_assoc table (row_or (row_of ps (get_or arcs k d))) (flat_map row_or (map (row_of ps) (drop (k + 1) arcs)))
    ∙ ap (λ (rest : List FlowArc). table ++ flat_map row_or (map (row_of ps) rest)) (sym (drop_more arcs k d l)) ∙ h

-- ---- the rows that a table holds

row_here : (front row rest : List ℕ) → slice_range (front ++ (row ++ rest)) (length front)
    (length front + length row) ≡ row
row_here front row rest =
    ap (λ (x : List ℕ). take (length front + length row - length front) x) (drop-append_seam front (row ++ rest))
    ∙ ap (λ n. take n (row ++ rest)) back ∙ take-append-le (length row) row rest (omega arith)
    ∙ take_all (length row) row (omega arith)
  where
    back : length front + length row - length front ≡ length row
    back = omega arith

pub laid_rows : (front : List ℕ) (rows : List (Option (List ℕ)))
    → map (row_at (front ++ flat_map row_or rows)) (laid (length front) rows) ≡ rows
laid_rows front [] = refl
laid_rows front (None ∷ rows) = ap (λ (l : List (Option (List ℕ))). None ∷ l)
    (ap (λ n. map (row_at (front ++ flat_map row_or rows)) (laid n rows)) none ∙ laid_rows front rows)
  where
    none : length front + 0 ≡ length front
    none = omega arith
laid_rows front (Some row ∷ rows) = ap₂ (λ (r : Option (List ℕ)) (l : List (Option (List ℕ))). r ∷ l)
    (ap (λ (r : List ℕ). Some r) (row_here front row (flat_map row_or rows)))
    (ap₂ (λ (t : List ℕ) (n : ℕ). map (row_at t) (laid n rows)) (sym (append_assoc front row (flat_map row_or rows)))
    (sym (length-append front row))
    ∙ laid_rows (front ++ row) rows)

pub first_part : (front rest : List ℕ) → take (length front) (front ++ rest) ≡ front
first_part front rest = take-append-le (length front) front rest (omega arith)
    ∙ take_all (length front) front (omega arith)

-- the rows as the table holds them
pub view_begin : (table : List ℕ) (begin : ℕ) (spans : List (Option RowSpan)) (h : IsTable table begin spans)
    → take begin table ≡ h.first
view_begin table begin spans h = ap₂ (λ (n : ℕ) (t : List ℕ). take n t) h.begin_is h.table_is
    ∙ first_part h.first (flat_map row_or h.rows)

pub view_passes : (table : List ℕ) (begin : ℕ) (spans : List (Option RowSpan)) (h : IsTable table begin spans)
    → map (row_at table) spans ≡ h.rows
view_passes table begin spans h = ap₂ (λ (t : List ℕ) (s : List (Option RowSpan)). map (row_at t) s) h.table_is
    h.spans_are ∙ laid_rows h.first h.rows

pub view_table : (table : List ℕ) (begin : ℕ) (spans : List (Option RowSpan)) → IsTable table begin spans
    → table ≡ take begin table ++ flat_map row_or (map (row_at table) spans)
view_table table begin spans h = h.table_is
    ∙ sym (ap₂ (λ (b : List ℕ) (r : List (Option (List ℕ))). b ++ flat_map row_or r) (view_begin table begin spans h)
    (view_passes table begin spans h))

-- the rows of a net's arcs as they were laid
abbrev pub laid_table : (first table : List ℕ) (begin : ℕ) (spans : List (Option RowSpan))
    (rows : List (Option (List ℕ)))
    → table ≡ first ++ flat_map row_or rows → begin ≡ length first → spans ≡ laid begin rows → IsTable table begin spans
laid_table first table begin spans rows t b s = record {
  first = first;
  rows = rows;
  table_is = t;
  begin_is = b;
  spans_are = s ∙ ap (λ n. laid n rows) b;
}

pub laid_are : (ps : List (List ℕ)) (arcs : List FlowArc) (n : ℕ) (table : List ℕ) (begin : ℕ)
    (spans : List (Option RowSpan))
    → n ≡ width ps → table ≡ begin_spelled (row_of_start 2 ps) ++ flat_map row_or (map (row_of ps) arcs)
    → begin ≡ length (begin_spelled (row_of_start 2 ps)) → spans ≡ laid begin (map (row_of ps) arcs)
    → AreRows arcs ps (rows_view n table begin spans)
laid_are ps arcs n table begin spans w t b s =
    let h = laid_table (begin_spelled (row_of_start 2 ps)) table begin spans (map (row_of ps) arcs) t b s in
    record { width = w; begin = view_begin table begin spans h; passes = view_passes table begin spans h }

-- the parts of a loop over arcs at its ends
pub row_end : (ps : List (List ℕ)) (arcs rest : List FlowArc) (table whole : List ℕ) → rest ≡ []
    → table ++ flat_map row_or (map (row_of ps) rest) ≡ whole → table ≡ whole
row_end ps arcs rest table whole e h = sym (append-nil table)
    ∙ ap (λ (r : List FlowArc). table ++ flat_map row_or (map (row_of ps) r)) (sym e) ∙ h

pub span_end : (ps : List (List ℕ)) (rest : List FlowArc) (n : ℕ) (spans whole : List (Option RowSpan)) → rest ≡ []
    → spans ++ laid n (map (row_of ps) rest) ≡ whole → spans ≡ whole
span_end ps rest n spans whole e h = sym (append-nil spans)
    ∙ ap (λ (r : List FlowArc). spans ++ laid n (map (row_of ps) r)) (sym e) ∙ h

-- one row more
pub spelled_pass : (old new longs pushed : List ℕ) (count : ℕ) (row : List PassEntry) → longs ≡ pass_longs row
    → count ≡ length longs / 4
    → pushed ≡ old ++ count ∷ [] → new ≡ pushed ++ longs → new ≡ old ++ pass_spelled row
spelled_pass old new longs pushed count row l c p n =
    n ∙ ap₂ (λ (a b : List ℕ). a ++ b) p l ∙ append_assoc old (count ∷ []) (pass_longs row)
    ∙ ap (λ (k : ℕ). old ++ (k ∷ pass_longs row)) (c ∙ pass_count row longs l)

pub spelled_begin : (old new longs pushed : List ℕ) (count : ℕ) (row : List BeginEntry) → longs ≡ begin_longs row
    → count ≡ length longs / 3
    → pushed ≡ old ++ count ∷ [] → new ≡ pushed ++ longs → new ≡ old ++ begin_spelled row
spelled_begin old new longs pushed count row l c p n =
    n ∙ ap₂ (λ (a b : List ℕ). a ++ b) p l ∙ append_assoc old (count ∷ []) (begin_longs row)
    ∙ ap (λ (k : ℕ). old ++ (k ∷ begin_longs row)) (c ∙ begin_count row longs l)

pub row_some : (ps : List (List ℕ)) (arc : FlowArc) (c : Bool) → c ≡ has_row arc → c ≡ true
    → row_of ps arc ≡ Some (pass_spelled (row_of_move arc.from arc.to ps))
row_some ps arc c e t = cond-true (has_row arc) _ _ (sym e ∙ t)

pub row_none : (ps : List (List ℕ)) (arc : FlowArc) (c : Bool) → c ≡ has_row arc → c ≡ false → row_of ps arc ≡ None
row_none ps arc c e f = cond-false (has_row arc) _ _ (sym e ∙ f)

pub table_none : (ps : List (List ℕ)) (arc : FlowArc) (table : List ℕ) → row_of ps arc ≡ None
    → table ≡ table ++ row_or (row_of ps arc)
table_none ps arc table e = sym (ap (λ r. table ++ row_or r) e ∙ append-nil table)

pub table_some : (ps : List (List ℕ)) (arc : FlowArc) (table new : List ℕ)
    → row_of ps arc ≡ Some (pass_spelled (row_of_move arc.from arc.to ps))
    → new ≡ table ++ pass_spelled (row_of_move arc.from arc.to ps) → new ≡ table ++ row_or (row_of ps arc)
table_some ps arc table new e h = h ∙ ap (λ r. table ++ row_or r) (sym e)

pub span_some : (ps : List (List ℕ)) (arc : FlowArc) (table new : List ℕ) (spans more : List (Option RowSpan))
    (from to : ℕ)
    → row_of ps arc ≡ Some (pass_spelled (row_of_move arc.from arc.to ps))
    → new ≡ table ++ pass_spelled (row_of_move arc.from arc.to ps)
    → from ≡ length table → to ≡ length new → more ≡ spans ++ Some (record { from = from; to = to }) ∷ []
    → more ≡ spans ++ span_of (length table) (row_of ps arc) ∷ []
span_some ps arc table new spans more from to e h f t m =
    m ∙ ap₂ (λ (a b : ℕ). spans ++ Some (record { from = a; to = b }) ∷ []) f
    (t ∙ ap (λ (x : List ℕ). length x) h ∙ length-append table (pass_spelled (row_of_move arc.from arc.to ps)))
    ∙ ap (λ r. spans ++ span_of (length table) r ∷ []) (sym e)

-- ---- the row of an arc

placed_at : (front : List ℕ) (rows : List (Option (List ℕ))) (k : ℕ) (s : RowSpan)
    → get_or (laid (length front) rows) k None ≡ Some s
    → (s.from ≤ s.to) × (s.to ≤ length (front ++ flat_map row_or rows))
placed_at front [] k s e = absurd (let never : None ≡ Some s = e in cc)
placed_at front (None ∷ rows) zero s e = absurd (let never : None ≡ Some s = e in cc)
placed_at front (None ∷ rows) (suc k) s e = placed_at front rows k s (ap (λ n. get_or (laid n rows) k None) none ∙ e)
  where
    none : length front ≡ length front + 0
    none = omega arith
placed_at front (Some row ∷ rows) zero s e =
    let from : length front ≡ s.from = ap from_of e in
    let to : length front + length row ≡ s.to = ap to_of e in
    let a = length-append front (row ++ flat_map row_or rows) in
    let b = length-append row (flat_map row_or rows) in
    (omega (arith, from, to), omega (arith, to, a, b))
  where
    from_of : Option RowSpan → ℕ
    from_of None = 0
    from_of (Some s) = s.from

    to_of : Option RowSpan → ℕ
    to_of None = 0
    to_of (Some s) = s.to
placed_at front (Some row ∷ rows) (suc k) s e =
    let h = placed_at (front ++ row) rows k s (ap (λ n. get_or (laid n rows) k None) (length-append front row) ∙ e) in
    (h.0, subst (λ (l : List ℕ). s.to ≤ length l) (append_assoc front row (flat_map row_or rows)) h.1)

-- a row that is there stands within the table
pub row_placed : (table : List ℕ) (begin : ℕ) (spans : List (Option RowSpan)) (h : IsTable table begin spans) (k : ℕ)
    (s : RowSpan) → get_or spans k None ≡ Some s
    → (s.from ≤ s.to) × (s.to ≤ length table)
row_placed table begin spans h k s e =
    let p = placed_at h.first h.rows k s (ap (λ (l : List (Option RowSpan)). get_or l k None) (sym h.spans_are) ∙ e) in
    (p.0, subst (λ (l : List ℕ). s.to ≤ length l) (sym h.table_is) p.1)

pub row_found : (table : List ℕ) (spans : List (Option RowSpan)) (k : ℕ) (s : RowSpan) → k < length spans
    → get_or spans k None ≡ Some s
    → Some (slice_range table s.from s.to) ≡ get_or (map (row_at table) spans) k None
row_found table spans k s l e = sym (get_or-map (row_at table) spans k None None l ∙ ap (row_at table) e)

-- what stands at a place of a list, whatever is said of other places
pub get_or_any : {A : Type 0} (xs : List A) (k : ℕ) (d e : A) → k < length xs → get_or xs k d ≡ get_or xs k e
get_or_any [] k d e l = absurd (omega (arith, l))
get_or_any (x ∷ xs) zero d e l = refl
get_or_any (x ∷ xs) (suc k) d e l = get_or_any xs k d e (omega (arith, l))

-- the span that the code finds
pub span_there : (table : List ℕ) (spans : List (Option RowSpan)) (passes : List (Option (List ℕ))) (k : ℕ)
    (o : Option RowSpan) (s : RowSpan)
    → map (row_at table) spans ≡ passes → k < length passes → o ≡ get_or spans k o → o ≡ Some s
    → (k < length spans) × (get_or spans k None ≡ Some s)
span_there table spans passes k o s v l i e =
    let long = ap (λ (r : List (Option (List ℕ))). length r) v in
    let many = length-map spans (row_at table) in
    let within : k < length spans = omega (arith, l, long, many) in
    (within, get_or_any spans k None o within ∙ sym i ∙ e)

laid_many : (at : ℕ) (rows : List (Option (List ℕ))) → length (laid at rows) ≡ length rows
laid_many at [] = refl
laid_many at (row ∷ rows) = ap suc (laid_many (at + length (row_or row)) rows)

-- there are no more rows than a net has arcs
pub spans_few : (net : NetValue) (ps : List (List ℕ)) (begin : ℕ) (spans : List (Option RowSpan)) → IsNet net
    → spans ≡ laid begin (map (row_of ps) net.arcs) → length spans < 4294967296
spans_few net ps begin spans is e =
    let few = (HasShape-from_IsNet net is).few in
    let many = ap (λ (l : List (Option RowSpan)). length l) e ∙ laid_many begin (map (row_of ps) net.arcs)
    ∙ length-map net.arcs (row_of ps) in
    omega (arith, few, many)
