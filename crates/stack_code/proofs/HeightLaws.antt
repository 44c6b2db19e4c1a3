-- The operands that stand at once, counted operation by operation.
use Rattle.std.proofs.Common.{◌≡◌, refl, sym, ap, ap₂, subst, ◌∙◌, ℕ, zero, suc, ◌+◌, ◌-◌, ◌*◌, ◌<◌, ◌≤◌, List, [], ◌∷◌}
use Rattle.std.proofs.Common.{◌++◌, length, map, drop, get_or, arith}
use Rattle.std.proofs.Common.{Bool, true, false, Option, Some, None}
use Rattle.std.specs.Prelude.{ℤ, max, slice_get, slice_set}
use Rattle.std.proofs.lemmas.List.{drop_more}
use Rattle.stack_ops.specs.declared.operation.Op.{Op}
use Rattle.stack_ops.specs.Shapes.{takes, gives}
use Rattle.flow_graph.specs.Graph.{Ending, Block, Graph}
use Rattle.flow_graph.specs.Nets.{ending_size, blocks_size}
use Rattle.lower_agrees.specs.Agreement.{is_back}
use Rattle.operand_depths.specs.Depths.{given}
use Rattle.fake_arcs.specs.Marking.{goals_of}
use Rattle.stack_code.specs.Deepest.{most_in, left, called_far, far, led_on, with_depths, deepest}
use Rattle.stack_code.proofs.GoalLaws.{same_cases}

pub most_above : (d : ℕ) (os : List Op) → d ≤ most_in d os
most_above d [] = omega arith
most_above d (o ∷ os) = omega arith

pub most_first : (d : ℕ) (os : List Op) → max d (most_in d os) ≡ most_in d os
most_first d os = let above = most_above d os in omega (arith, above)

-- one operation more
pub most_step : (os : List Op) (x : Op) (k d e most more whole : ℕ) → k < length os
    → e ≡ d - takes (get_or os k x) + gives (get_or os k x) → more ≡ max most e → d ≤ most
    → max most (most_in d (drop k os)) ≡ whole → max more (most_in e (drop (k + 1) os)) ≡ whole
most_step os x k d e most more whole l is m low h =
    let n : ℕ = d - takes (get_or os k x) + gives (get_or os k x) in
    let rest : ℕ = most_in n (drop (k + 1) os) in
    let above : n ≤ rest = most_above n (drop (k + 1) os) in
    let before : max most (max d rest) ≡ whole =
    ap (λ (r : List Op). max most (most_in d r)) (sym (drop_more os k x l)) ∙ h in
    let after : max (max most n) rest ≡ whole = omega (arith, above, low, before) in
    ap₂ (λ (a b : ℕ). max a (most_in b (drop (k + 1) os))) (m ∙ ap (max most) is) is ∙ after

pub left_step : (os : List Op) (x : Op) (k d e whole : ℕ) → k < length os
    → e ≡ d - takes (get_or os k x) + gives (get_or os k x) → left d (drop k os) ≡ whole
    → left e (drop (k + 1) os) ≡ whole
left_step os x k d e whole l is h =
    ap (λ (n : ℕ). left n (drop (k + 1) os)) is
    ∙ ap (λ (r : List Op). left d r) (sym (drop_more os k x l)) ∙ h

-- a block more has so many operands
with_last : (ts : List ℕ) (t d : ℕ) (table : List ℕ)
    → slice_set (with_depths ts d table) t d ≡ with_depths (ts ++ t ∷ []) d table
with_last [] t d table = refl
with_last (x ∷ ts) t d table = with_last ts t d (slice_set table x d)

-- the blocks of cases and then the default
pub cases_depths : (cases : List (ℤ × ℕ)) (default d : ℕ) (table mid new : List ℕ)
    → mid ≡ with_depths (map (λ (c : ℤ × ℕ). c.1) cases) d table → new ≡ slice_set mid default d
    → new ≡ with_depths (goals_of (Ending.Switch (map (λ (c : ℤ × ℕ). (c.0, c.1)) cases) default)) d table
cases_depths cases default d table mid new e h =
    h ∙ ap (λ (x : List ℕ). slice_set x default d) e
    ∙ with_last (map (λ (c : ℤ × ℕ). c.1) cases) default d table
    ∙ ap (λ (x : List (ℤ × ℕ)). with_depths (map (λ (c : ℤ × ℕ). c.1) x ++ default ∷ []) d table)
    (sym (same_cases cases))

-- no number of a table passes the bound with so much more
abbrev pub AreLow : ℕ → ℕ → List ℕ → Type 0
AreLow more bound table = (k : ℕ) → get_or table k 0 + more ≤ bound

low_set : (more bound : ℕ) (table : List ℕ) (t d : ℕ) → d + more ≤ bound → AreLow more bound table
    → AreLow more bound (slice_set table t d)
low_set more bound [] t d le h k = h k
low_set more bound (x ∷ table) zero d le h zero = le
low_set more bound (x ∷ table) zero d le h (suc k) = h (suc k)
low_set more bound (x ∷ table) (suc t) d le h zero = h zero
low_set more bound (x ∷ table) (suc t) d le h (suc k) = low_set more bound table t d le (λ j. h (suc j)) k

low_with : (more bound : ℕ) (ts : List ℕ) (d : ℕ) (table : List ℕ) → d + more ≤ bound → AreLow more bound table
    → AreLow more bound (with_depths ts d table)
low_with more bound [] d table le h = h
low_with more bound (t ∷ ts) d table le h =
    low_with more bound ts d (slice_set table t d) le (low_set more bound table t d le h)

-- an ending leaves one operand more at most
far_low : (graphs : List Graph) (end : Ending) (d : ℕ) → far graphs end d ≤ suc d
far_low graphs (Ending.Jump t) d = omega arith
far_low graphs (Ending.Back t) d = omega arith
far_low graphs (Ending.Branch t f) d = omega arith
far_low graphs (Ending.Switch cases default) d = omega arith
far_low graphs (Ending.Call f line next) d = by (slice_get graphs f)
  where
    by : (o : Option Graph) → called_far o d ≤ suc d
    by None = omega arith
    by (Some g) = go g.gives
      where
        go : (z : Bool) → d - g.params + given z ≤ suc d
        go true = omega arith
        go false = omega arith
far_low graphs Ending.Return d = omega arith
far_low graphs Ending.Exit d = omega arith

end_some : (end : Ending) → 1 ≤ ending_size end
end_some (Ending.Jump t) = omega arith
end_some (Ending.Back t) = omega arith
end_some (Ending.Branch t f) = omega arith
end_some (Ending.Switch cases default) = omega arith
end_some (Ending.Call f line next) = omega arith
end_some Ending.Return = omega arith
end_some Ending.Exit = omega arith

-- the table as a block leaves it
pub low_step : (graphs : List Graph) (bs : List Block) (x : Block) (k d left e : ℕ) (table new : List ℕ)
    → k < length bs → left ≤ d + 3 * length ((get_or bs k x).ops) → get_or table e 0 ≡ d
    → new ≡ with_depths (led_on (is_back ((get_or bs k x).end)) ((get_or bs k x).end))
    (far graphs ((get_or bs k x).end) left) table
    → AreLow (3 * blocks_size (drop k bs)) (3 * blocks_size bs) table
    → AreLow (3 * blocks_size (drop (k + 1) bs)) (3 * blocks_size bs) new
low_step graphs bs x k d left e table new l low at is h =
    let b : Block = get_or bs k x in
    let size : blocks_size (drop k bs) ≡ length b.ops + ending_size b.end + blocks_size (drop (k + 1) bs) =
    ap blocks_size (drop_more bs k x l) in
    let own = h e in
    let one = far_low graphs b.end left in
    let some = end_some b.end in
    subst (AreLow (3 * blocks_size (drop (k + 1) bs)) (3 * blocks_size bs)) (sym is)
    (low_with (3 * blocks_size (drop (k + 1) bs)) (3 * blocks_size bs) (led_on (is_back b.end) b.end)
    (far graphs b.end left) table (omega (arith, size, own, one, some, low, at))
    (λ j. (let each = h j in omega (arith, each, size))))

pub low_room : (bs : List Block) (x : Block) (k e : ℕ) (table : List ℕ) → k < length bs
    → AreLow (3 * blocks_size (drop k bs)) (3 * blocks_size bs) table
    → get_or table e 0 + 3 * length ((get_or bs k x).ops) + 1 ≤ 3 * blocks_size bs
low_room bs x k e table l h =
    let b : Block = get_or bs k x in
    let size : blocks_size (drop k bs) ≡ length b.ops + ending_size b.end + blocks_size (drop (k + 1) bs) =
    ap blocks_size (drop_more bs k x l) in
    let own = h e in let some = end_some b.end in omega (arith, size, own, some)

pub deepest_step : (graphs : List Graph) (bs : List Block) (x : Block) (k a n most more whole : ℕ) (table new : List ℕ)
    → k < length bs → n ≡ suc a → more ≡ max most (most_in (get_or table a 0) ((get_or bs k x).ops))
    → new ≡ with_depths (led_on (is_back ((get_or bs k x).end)) ((get_or bs k x).end))
    (far graphs ((get_or bs k x).end) (left (get_or table a 0) ((get_or bs k x).ops))) table
    → max most (deepest graphs a table (drop k bs)) ≡ whole
    → max more (deepest graphs n new (drop (k + 1) bs)) ≡ whole
deepest_step graphs bs x k a n most more whole table new l e m is h =
    let b : Block = get_or bs k x in
    let t : List ℕ = with_depths (led_on (is_back b.end) b.end)
    (far graphs b.end (left (get_or table a 0) b.ops)) table in
    let here : ℕ = most_in (get_or table a 0) b.ops in
    let rest : ℕ = deepest graphs (suc a) t (drop (k + 1) bs) in
    let before : max most (max here rest) ≡ whole =
    ap (λ (r : List Block). max most (deepest graphs a table r)) (sym (drop_more bs k x l)) ∙ h in
    let after : max (max most here) rest ≡ whole = omega (arith, before) in
    ap₂ (λ (i : ℕ) (y : List ℕ). max more (deepest graphs i y (drop (k + 1) bs))) e is
    ∙ ap (λ (i : ℕ). max i rest) m ∙ after
