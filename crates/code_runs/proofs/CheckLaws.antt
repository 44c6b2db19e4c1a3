-- A function that breaks no rule has depths at which each of its instructions keeps the rules.
use Rattle.std.proofs.Common.{◌≡◌, refl, sym, ap, subst, ◌∙◌, ℕ, zero, suc, ◌+◌, ◌-◌, ◌<◌, ◌≤◌, ◌==◌, ◌&&◌, ◌⊎◌, inl}
use Rattle.std.proofs.Common.{inr, Bool, true, false, cond, List, [], ◌∷◌, ◌++◌, length, Option, Some, None, arith}
use Rattle.std.proofs.Common.{append_assoc, length-append, eqb-true, eq-eqb}
use Rattle.std.specs.Prelude.{nat_lt, slice_get}
use Rattle.std.specs.Option.{option_or}
use Rattle.std.proofs.lemmas.Option.{same_Some, none-some}
use Rattle.std.proofs.lemmas.Bool.{ltb-true, leb-true}
use Rattle.stack_ops.specs.declared.operation.Op.{Op}
use Rattle.stack_ops.specs.Code.{FunctionValue, CodeValue}
use Rattle.stack_ops.specs.Shapes.{takes_in}
use Rattle.code_runs.specs.Checks.{Rule, Led, later, earlier, falls, left_by, behind, cells_there, counter_there}
use Rattle.code_runs.specs.Checks.{row_there, goes_later, ends_well, goes_earlier, same_depth, returns_well, led_too}
use Rattle.code_runs.specs.Checks.{led, add_jump, is_at, jumps_on, before_next, unless, depth_kept, by_depth, broken_at}
use Rattle.code_runs.specs.Checks.{depth_of, or_later, broken_from, broken}
use Rattle.code_runs.specs.Sound.{Suits, Typed}

pub or-none : {A : Type 0} (a b : Option A) → option_or a b ≡ None → (a ≡ None) × (b ≡ None)
or-none None b h = (refl, h)
or-none (Some x) b h = absurd (cc)

unless-none : (b : Bool) (r : Rule) → unless b r ≡ None → b ≡ true
unless-none true r h = refl
unless-none false r h = absurd (cc)

pub and-both : (a b : Bool) → (a && b) ≡ true → (a ≡ true) × (b ≡ true)
and-both true b h = (refl, h)
and-both false b h = absurd (cc)

later-none : (i : ℕ) (a : Option Rule) (rest : Option (ℕ × Rule)) → or_later i a rest ≡ None
    → (a ≡ None) × (rest ≡ None)
later-none i None rest h = (refl, h)
later-none i (Some r) rest h = absurd (cc)

-- what leads to an instruction, where it agrees
abbrev Among : ℕ × ℕ → List (ℕ × ℕ) → Type 0
Among j [] = ⊥
Among j (k ∷ ks) = (j ≡ k) ⊎ Among j ks

-- a way that leaves x leads there
abbrev Has : ℕ → Led → Type 0
Has x Led.Nothing = ⊥
Has x (Led.By e) = e ≡ x
Has x Led.Clash = Unit {0}

has-too : (d x : ℕ) (l : Led) → Has x l → Has x (led_too d l)
has-too d x Led.Nothing h = absurd h
has-too d x (Led.By e) h = go (d == e) refl
  where
    go : (z : Bool) → (d == e) ≡ z → Has x (cond z (Led.By d) Led.Clash)
    go true is = let same : d ≡ e = eqb-true d e is in omega (arith, same, h)
    go false is = tt
has-too d x Led.Clash h = tt

has-own : (x : ℕ) (l : Led) → Has x (led_too x l)
has-own x Led.Nothing = refl
has-own x (Led.By e) = go (x == e)
  where
    go : (z : Bool) → Has x (cond z (Led.By x) Led.Clash)
    go true = refl
    go false = tt
has-own x Led.Clash = tt

has-cond : (z : Bool) (d x : ℕ) (l : Led) → Has x l → Has x (cond z (led_too d l) l)
has-cond true d x l h = has-too d x l h
has-cond false d x l h = h

led-before : (i b : ℕ) (jumps : List (ℕ × ℕ)) → Has b (led i (Some b) jumps)
led-before i b [] = refl
led-before i b (j ∷ jumps) = has-cond (j.0 == i) j.1 b (led i (Some b) jumps) (led-before i b jumps)

led-jump : (i x : ℕ) (before : Option ℕ) (jumps : List (ℕ × ℕ)) → Among (i, x) jumps → Has x (led i before jumps)
led-jump i x before [] at = absurd at
led-jump i x before (j ∷ jumps) (inl e) =
    subst (λ (k : ℕ × ℕ). Has x (cond (k.0 == i) (led_too k.1 (led i before jumps)) (led i before jumps))) e
    (rw (eq-eqb i i refl) (has-own x (led i before jumps)))
led-jump i x before (j ∷ jumps) (inr at) = has-cond (j.0 == i) j.1 x (led i before jumps) (led-jump i x before jumps at)

has-by : (x d : ℕ) (l : Led) → Has x l → l ≡ Led.By d → d ≡ x
has-by x d l h e = rw e at h

-- ---- the rules at one instruction

record Fine (c : CodeValue) (f : FunctionValue) (i : ℕ) (o : Op) (depths : List ℕ) (l : Led) (d : ℕ) : Type 0 where
  by : l ≡ Led.By d
  to : goes_later i (length f.ops) (later o) ≡ true
  well : ends_well i (length f.ops) o ≡ true
  back : goes_earlier i (earlier o) ≡ true
  taken : takes_in c.functions f o ≤ d
  within : d ≤ f.depth
  room : behind c.functions f o d ≤ f.depth
  returned : returns_well f o d ≡ true
  same : same_depth depths d (earlier o) ≡ true
  cell : cells_there c f o ≡ true
  counter : counter_there f o ≡ true
  row : row_there f o ≡ true

fine : (c : CodeValue) (f : FunctionValue) (i : ℕ) (o : Op) (depths : List ℕ) (l : Led)
    → broken_at c f i o depths l ≡ None → Fine c f i o depths l (depth_of l)
fine c f i o depths Led.Nothing h =
    absurd (none-some _ (sym (or-none (unless (goes_earlier i (earlier o)) Rule.BackJump) _
    (or-none (unless (goes_later i (length f.ops) (later o) && ends_well i (length f.ops) o) Rule.Jump) _ h).1).1))
fine c f i o depths Led.Clash h =
    absurd (none-some _ (sym (or-none (unless (goes_earlier i (earlier o)) Rule.BackJump) _
    (or-none (unless (goes_later i (length f.ops) (later o) && ends_well i (length f.ops) o) Rule.Jump) _ h).1).1))
fine c f i o depths (Led.By d) h =
    let a = or-none (unless (goes_later i (length f.ops) (later o) && ends_well i (length f.ops) o) Rule.Jump) _ h in
    let b = or-none (unless (goes_earlier i (earlier o)) Rule.BackJump) _ a.1 in
    let e = or-none (by_depth c f depths o (Led.By d)) _ b.1 in
    let g = or-none (unless (cells_there c f o) Rule.Cell) _ e.1 in
    let k = or-none (unless (counter_there f o) Rule.Counter) _ g.1 in
    let jumps = and-both _ _ (unless-none _ _ a.0) in
    let deep = and-both _ _ (unless-none (depth_kept c f depths o d) _ e.0) in
    let deep1 = and-both _ _ deep.1 in
    let deep2 = and-both _ _ deep1.1 in
    let deep3 = and-both _ _ deep2.1 in
    record {
      by = refl;
      to = jumps.0;
      well = jumps.1;
      back = unless-none _ _ b.0;
      taken = leb-true (takes_in c.functions f o) d deep.0;
      within = leb-true d f.depth deep1.0;
      room = leb-true (behind c.functions f o d) f.depth deep2.0;
      returned = deep3.0;
      same = deep3.1;
      cell = unless-none _ _ g.0;
      counter = unless-none _ _ k.0;
      row = unless-none _ _ k.1;
    }

-- ---- a whole function

-- the depths of these instructions
abbrev depths_from : CodeValue → FunctionValue → ℕ → Option ℕ → List (ℕ × ℕ) → List Op → List ℕ
depths_from c f i before jumps [] = []
depths_from c f i before jumps (o ∷ os) = let d : ℕ = depth_of (led i before jumps) in
    d ∷ depths_from c f (suc i) (before_next c.functions f o d) (jumps_on o d jumps) os

at-join : (xs ys : List ℕ) (k : ℕ) → slice_get (xs ++ ys) (length xs + k) ≡ slice_get ys k
at-join [] ys k = ap (λ n. slice_get ys n) (omega arith)
at-join (x ∷ xs) ys k = let e : suc (length xs) + k ≡ suc (length xs + k) = omega arith in rw e (at-join xs ys k)

at-front : (xs ys : List ℕ) (k d : ℕ) → slice_get xs k ≡ Some d → slice_get (xs ++ ys) k ≡ Some d
at-front [] ys k d h = absurd (none-some d h)
at-front (x ∷ xs) ys zero d h = h
at-front (x ∷ xs) ys (suc k) d h = at-front xs ys k d h

jump-there : (o : Op) (d w : ℕ) (jumps : List (ℕ × ℕ)) → later o ≡ Some w → Among (w, left_by o d) (jumps_on o d jumps)
jump-there o d w jumps h = rw h (inl refl)

jump-stays : (t : Option ℕ) (d : ℕ) (j : ℕ × ℕ) (jumps : List (ℕ × ℕ)) → Among j jumps → Among j (add_jump t d jumps)
jump-stays None d j jumps h = h
jump-stays (Some w) d j jumps h = inr h

-- what was found of the instructions from one on, whose depths are r
record Found (c : CodeValue) (f : FunctionValue) (i : ℕ) (depths r : List ℕ) (before : Option ℕ) (jumps : List (ℕ × ℕ))
    (os : List Op) : Type 0 where
  size : length r ≡ length os
  each : (k : ℕ) (o : Op) (d : ℕ) → slice_get os k ≡ Some o → slice_get r k ≡ Some d
      → Suits c f (depths ++ r) (i + k) o d
  within : (k d : ℕ) → slice_get r k ≡ Some d → d ≤ f.depth
  first : (b : ℕ) → before ≡ Some b → 0 < length os → slice_get r 0 ≡ Some b
  asked : (w x : ℕ) → Among (w, x) jumps → i ≤ w → w < i + length os → slice_get r (w - i) ≡ Some x

goes-later : (i size : ℕ) (t : Option ℕ) (w : ℕ) → goes_later i size t ≡ true → t ≡ Some w → (i < w) × (w < size)
goes-later i size t w h e = let k = and-both (nat_lt i w) (nat_lt w size) (rw e at h) in
    (ltb-true i w k.0, ltb-true w size k.1)

goes-earlier : (i : ℕ) (t : Option ℕ) (w : ℕ) → goes_earlier i t ≡ true → t ≡ Some w → w ≤ i
goes-earlier i t w h e = leb-true w i (rw e at h)

ends-well : (i size : ℕ) (o : Op) → ends_well i size o ≡ true → falls o ≡ true → suc i < size
ends-well i size o h e = ltb-true (suc i) size (rw e at h)

is-at : (d : ℕ) (t : Option ℕ) → is_at d t ≡ true → t ≡ Some d
is-at d None h = absurd (cc)
is-at d (Some e) h = ap Some (sym (eqb-true d e h))

same-at : (depths : List ℕ) (d : ℕ) (t : Option ℕ) (w : ℕ) → same_depth depths d t ≡ true → t ≡ Some w
    → slice_get depths w ≡ Some d
same-at depths d t w h e = is-at d (slice_get depths w) (rw e at h)

found : (c : CodeValue) (f : FunctionValue) (i : ℕ) (depths : List ℕ) (before : Option ℕ) (jumps : List (ℕ × ℕ))
    (os : List Op)
    → length depths ≡ i → length f.ops ≡ i + length os → broken_from c f i depths before jumps os ≡ None
    → Found c f i depths (depths_from c f i before jumps os) before jumps os
found c f i depths before jumps [] at size h = record {
  size = refl;
  each = λ k o d is. absurd (none-some o is);
  within = λ k d is. absurd (none-some d is);
  first = λ b is lt. absurd (omega (arith, lt));
  asked = λ w x j le lt. absurd (omega (arith, le, lt));
}
found c f i depths before jumps (o ∷ os) at size h =
    let l : Led = led i before jumps in
    let d : ℕ = depth_of l in
    let both = later-none i (broken_at c f i o (depths ++ d ∷ []) l) _ h in
    let k : Fine c f i o (depths ++ d ∷ []) l d = fine c f i o (depths ++ d ∷ []) l both.0 in
    let at' : length (depths ++ d ∷ []) ≡ suc i = rw (length-append depths (d ∷ []), at) (omega arith) in
    let size' : length f.ops ≡ suc i + length os = omega (arith, size) in
    let r : List ℕ = depths_from c f (suc i) (before_next c.functions f o d) (jumps_on o d jumps) os in
    let rest : Found c f (suc i) (depths ++ d ∷ []) r (before_next c.functions f o d) (jumps_on o d jumps) os =
    found c f (suc i) (depths ++ d ∷ []) (before_next c.functions f o d) (jumps_on o d jumps) os at' size' both.1 in
    let whole : (depths ++ d ∷ []) ++ r ≡ depths ++ (d ∷ r) = append_assoc depths (d ∷ []) r in
    record {
      size = ap suc rest.size;
      each = each k at rest whole;
      within = within k rest;
      first = λ b is lt. ap Some (has-by b d l
          (subst (λ t. Has b (led i t jumps)) (sym is) (led-before i b jumps)) k.by);
      asked = asked k rest;
    }
  where
    d : ℕ
    d = depth_of (led i before jumps)

    r : List ℕ
    r = depths_from c f (suc i) (before_next c.functions f o d) (jumps_on o d jumps) os

    within : Fine c f i o (depths ++ d ∷ []) (led i before jumps) d
        → Found c f (suc i) (depths ++ d ∷ []) r (before_next c.functions f o d) (jumps_on o d jumps) os
        → (n e : ℕ) → slice_get (d ∷ r) n ≡ Some e → e ≤ f.depth
    within k rest zero e is = let same : d ≡ e = same_Some d e is in let w = k.within in omega (arith, same, w)
    within k rest (suc n) e is = rest.within n e is

    asked : Fine c f i o (depths ++ d ∷ []) (led i before jumps) d
        → Found c f (suc i) (depths ++ d ∷ []) r (before_next c.functions f o d) (jumps_on o d jumps) os
        → (w x : ℕ) → Among (w, x) jumps → i ≤ w → w < i + length (o ∷ os) → slice_get (d ∷ r) (w - i) ≡ Some x
    asked k rest w x j le lt = go (w - i) refl
      where
        go : (n : ℕ) → w - i ≡ n → slice_get (d ∷ r) n ≡ Some x
        go zero e = let same : w ≡ i = omega (arith, e, le) in
            ap Some (has-by x d (led i before jumps)
            (led-jump i x before jumps (subst (λ n. Among (n, x) jumps) same j)) k.by)
        go (suc n) e = let h = rest.asked w x (jump-stays (later o) (left_by o d) (w, x) jumps j) (omega (arith, e))
            (omega (arith, lt)) in
            subst (λ m. slice_get r m ≡ Some x) (omega (arith, e)) h

    each : Fine c f i o (depths ++ d ∷ []) (led i before jumps) d → length depths ≡ i
        → Found c f (suc i) (depths ++ d ∷ []) r (before_next c.functions f o d) (jumps_on o d jumps) os
        → (depths ++ d ∷ []) ++ r ≡ depths ++ (d ∷ r)
        → (n : ℕ) (p : Op) (e : ℕ) → slice_get (o ∷ os) n ≡ Some p → slice_get (d ∷ r) n ≡ Some e
        → Suits c f (depths ++ (d ∷ r)) (i + n) p e
    each k at rest whole (suc n) p e is here =
        let h = rest.each n p e is here in
        let same : suc i + n ≡ i + suc n = omega arith in
        subst (λ m. Suits c f (depths ++ (d ∷ r)) m p e) same (subst (λ ds. Suits c f ds (suc i + n) p e) whole h)
    each k at rest whole zero p e is here =
        let there : (n v : ℕ) → slice_get (d ∷ r) n ≡ Some v → slice_get (depths ++ (d ∷ r)) (i + n) ≡ Some v =
        λ n v h. subst (λ m. slice_get (depths ++ (d ∷ r)) (m + n) ≡ Some v) at (at-join depths (d ∷ r) n ∙ h) in
        let own : Suits c f (depths ++ (d ∷ r)) i o d = record {
          taken = k.taken;
          room = k.room;
          on = λ e. (let lt : suc i < length f.ops = ends-well i (length f.ops) o k.well e in
              subst (λ m. slice_get (depths ++ (d ∷ r)) m ≡ Some (behind c.functions f o d)) (omega arith)
              (there 1 (behind c.functions f o d)
              (rest.first (behind c.functions f o d) (rw e refl) (omega (arith, lt, size)))));
          to = λ w e. (let go = goes-later i (length f.ops) (later o) w k.to e in (
            go.0,
            (let lo : i < w = go.0 in let hi : w < length f.ops = go.1 in
                let n : w - i ≡ suc (w - suc i) = omega (arith, lo) in
                subst (λ m. slice_get (depths ++ (d ∷ r)) m ≡ Some (left_by o d)) (omega (arith, lo))
                (there (suc (w - suc i)) (left_by o d)
                (rest.asked w (left_by o d) (jump-there o d w jumps e) lo (omega (arith, hi, size))))),
          ));
          back = λ w e. (
            goes-earlier i (earlier o) w k.back e,
            subst (λ (l : List ℕ). slice_get l w ≡ Some d) whole
                (at-front (depths ++ d ∷ []) r w d (same-at (depths ++ d ∷ []) d (earlier o) w k.same e)),
          );
          returned = k.returned;
          cell = k.cell;
          counter = k.counter;
          row = k.row;
        } in
        let same : i ≡ i + 0 = omega arith in
        subst (λ m. Suits c f (depths ++ (d ∷ r)) m p e) same
        (subst (λ (q : Op). Suits c f (depths ++ (d ∷ r)) i q e) (same_Some o p is)
        (subst (λ m. Suits c f (depths ++ (d ∷ r)) i o m) (same_Some d e here) own))

-- a function with an instruction that breaks no rule is typed
pub typed : (c : CodeValue) (f : FunctionValue) → 0 < length f.ops → broken c f ≡ None
    → (depths : List ℕ) × Typed c f depths
typed c f some h =
    let k : Found c f 0 [] (depths_from c f 0 (Some 0) [] f.ops) (Some 0) [] f.ops =
    found c f 0 [] (Some 0) [] f.ops refl (omega arith) h in (
      depths_from c f 0 (Some 0) [] f.ops,
      record {
        start = k.first 0 refl some;
        size = k.size;
        within = k.within;
        each = λ i o d is at. subst (λ m. Suits c f (depths_from c f 0 (Some 0) [] f.ops) m o d) (omega arith)
            (k.each i o d is at);
      },
    )
