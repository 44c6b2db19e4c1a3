-- The table as the code holds it.
use Rattle.std.proofs.Common.{◌≡◌, refl, sym, ap, ◌∙◌, ℕ, zero, suc, ◌+◌, ◌<◌, ◌≤◌, ◌==◌, List, ◌∷◌, length, map}
use Rattle.std.proofs.Common.{take, replicate, get_or, Option, Some, None, arith, length-take}
use Rattle.std.specs.Prelude.{slice_get}
use Rattle.std.proofs.Math.ListN.{set, get_or-map, length-map}
use Rattle.std.proofs.Math.Seq.{map-set}
use Rattle.std.proofs.lemmas.List.{get_or-take}
use Rattle.std.proofs.lemmas.Option.{slice_get-get_or}
use Rattle.stack_ops.specs.declared.operation.Op.{Op}
use Rattle.stack_ops.specs.Code.{FunctionValue, CodeValue}
use Rattle.code_runs.specs.Checks.{Led, later, left_by, led_too, depth_of, is_at, broken_at, before_next}
use Rattle.code_checks.specs.declared.depth_table.Arrival.{Arrival}
use Rattle.code_checks.specs.declared.depth_table.Arrival.TheVariants as arrival
use Rattle.code_checks.specs.DepthTable.{led_of, leds, depths_to, with_before, noted, led_here, with_here, rule_by, Goes}

read : (table : List Arrival) (w : ℕ) → get_or (leds table) w Led.Nothing ≡ led_of (get_or table w arrival.Nothing)
read table w = get_or-map led_of table w arrival.Nothing

pub note_some : (table : List Arrival) (w d : ℕ) (a : Arrival)
    → led_of a ≡ led_too d (led_of (get_or table w arrival.Nothing))
    → leds (set table w a) ≡ noted (Some w) d (leds table)
note_some table w d a e =
    map-set led_of table w a ∙ ap (λ (l : Led). set (leds table) w l) (e ∙ ap (led_too d) (sym (read table w)))

pub depth_at : (table : List Arrival) (at w d : ℕ) → w ≤ at → at < length table
    → is_at d (slice_get (depths_to (at + 1) (leds table)) w)
    ≡ (d == depth_of (led_of (get_or table w arrival.Nothing)))
depth_at table at w d le lt =
    let t : List Led = take (at + 1) (leds table) in
    let long : length (map depth_of t) ≡ at + 1 =
    length-map t depth_of ∙ (let a = length-take (at + 1) (leds table) in let b = length-map table led_of in
    omega (arith, a, b, lt)) in
    let there : slice_get (map depth_of t) w ≡ Some (get_or (map depth_of t) w 0) =
    slice_get-get_or (map depth_of t) w 0 (omega (arith, long, le)) in
    let value : get_or (map depth_of t) w 0 ≡ depth_of (led_of (get_or table w arrival.Nothing)) =
    get_or-map depth_of t w Led.Nothing
    ∙ ap depth_of (get_or-take (at + 1) (leds table) w Led.Nothing (omega (arith, le)) ∙ read table w) in
    ap (is_at d) there ∙ ap (λ n. d == n) value

here_is : (i : ℕ) (before : Option ℕ) (table : List Arrival) (a : Arrival)
    → led_of a ≡ with_before before (led_of (get_or table i arrival.Nothing)) → led_here i before (leds table) ≡ led_of a
here_is i before table a e = ap (with_before before) (read table i) ∙ sym e

table_is : (i : ℕ) (before : Option ℕ) (table : List Arrival) (a : Arrival)
    → led_of a ≡ with_before before (led_of (get_or table i arrival.Nothing))
    → with_here i before (leds table) ≡ leds (set table i a)
table_is i before table a e =
    ap (λ (l : Led). set (leds table) i l) (here_is i before table a e) ∙ sym (map-set led_of table i a)

pub rule_table : (c : CodeValue) (f : FunctionValue) (i : ℕ) (o : Op) (before : Option ℕ) (table : List Arrival)
    (a : Arrival) → led_of a ≡ with_before before (led_of (get_or table i arrival.Nothing))
    → rule_by c f i o before (leds table)
    ≡ broken_at c f i o (depths_to (i + 1) (leds (set table i a))) (led_of a)
rule_table c f i o before table a e =
    ap (λ (t : List Led). broken_at c f i o (depths_to (i + 1) t) (led_here i before (leds table)))
    (table_is i before table a e)
    ∙ ap (λ (l : Led). broken_at c f i o (depths_to (i + 1) (leds (set table i a))) l) (here_is i before table a e)

pub goes_table : (c : CodeValue) (f : FunctionValue) (i : ℕ) (o : Op) (before : Option ℕ) (table : List Arrival)
    (a : Arrival) (new : List Led) (next to : Option ℕ) (depth left : ℕ)
    → led_of a ≡ with_before before (led_of (get_or table i arrival.Nothing))
    → None ≡ broken_at c f i o (depths_to (i + 1) (leds (set table i a))) (led_of a)
    → depth ≡ depth_of (led_of a) → next ≡ before_next c.functions f o depth → to ≡ later o → left ≡ left_by o depth
    → new ≡ noted to left (leds (set table i a)) → Goes c f i o before (leds table) new next
goes_table c f i o before table a new next to depth left e kept d n t l put =
    let same : depth ≡ depth_of (led_here i before (leds table)) = d ∙ ap depth_of (sym (here_is i before table a e)) in
    record {
      kept = rule_table c f i o before table a e ∙ sym kept;
      on = n ∙ ap (before_next c.functions f o) same;
      table = put ∙ (ap (λ (m : List Led). noted to left m) (sym (table_is i before table a e))
          ∙ (ap (λ w. noted w left (with_here i before (leds table))) t
          ∙ ap (λ k. noted (later o) k (with_here i before (leds table))) (l ∙ ap (left_by o) same)));
    }

pub none_yet : (n : ℕ) → leds (replicate n arrival.Nothing) ≡ replicate n Led.Nothing
none_yet zero = refl
none_yet (suc n) = ap (λ (l : List Led). Led.Nothing ∷ l) (none_yet n)
