-- Something leads to each instruction of a graph's code.
use Rattle.std.proofs.Common.{◌≡◌, refl, sym, ap, subst, ◌∙◌, ℕ, zero, suc, ◌+◌, ◌-◌, ◌<◌, ◌≤◌, ◌==◌, inl, inr}
use Rattle.std.proofs.Common.{Bool, true, false, cond, List, [], ◌∷◌, ◌++◌, length, Some}
use Rattle.std.proofs.Common.{arith, length-append, eqb-true, eq-eqb}
use Rattle.std.specs.Prelude.{ℤ, slice_get}
use Rattle.std.proofs.lemmas.Option.{slice_get_within}
use Rattle.stack_ops.specs.declared.operation.Op.{Op}
use Rattle.stack_ops.specs.declared.operation.Op.TheVariants as op
use Rattle.stack_ops.specs.Shapes.{takes, gives}
use Rattle.c_tree.specs.Sound.{Each}
use Rattle.code_runs.specs.Checks.{later, falls}
use Rattle.code_runs.proofs.PlainSteps.{plain}
use Rattle.flow_graph.specs.Ascending.{Ascends}
use Rattle.flow_graph.specs.Graph.{Ending, Block, Graph, GraphUnit}
use Rattle.flow_graph.proofs.LineLaws.{ascends-with, each_with}
use Rattle.lower_agrees.specs.Agreement.{is_back}
use Rattle.operand_depths.specs.Depths.{Runs, Leaves}
use Rattle.stack_code.specs.Emits.{Has, IsMark, AreMarks}
use Rattle.stack_code.specs.Emits as emits
use Rattle.stack_code.specs.Laying.{is_bare, tail, stub, land, goals, stubs, stub_at, tests, branch, end_code}
use Rattle.stack_code.specs.Laying.{block_code, starts, graph_code}
use Rattle.stack_code.specs.Orderly.{IsOrderly, IsEntered}
use Rattle.stack_code.proofs.Aims.{Aims, aims_in, each_among}
use Rattle.stack_code.proofs.Every.{Every, every_join, every_at, every_graph}
use Rattle.stack_code.proofs.Keeping.{goals_have, default_has}
use Rattle.stack_code.proofs.LaidLaws.{AllIn, goals_all, code_stands, next_stands, size_block, stub_size, size_tests}
use Rattle.stack_code.proofs.LaidLaws.{switch_size, start_end}
use Rattle.stack_code.proofs.Levels.{there_is}
use Rattle.stack_code.proofs.Places.{has_join, has_within}
use Rattle.stack_code.proofs.Unbroken.{LedTo}

abbrev AllFall : List Op → Type 0
AllFall [] = Unit {0}
AllFall (o ∷ os) = (falls o ≡ true) × AllFall os

marks_fall : (os : List Op) → AreMarks os → AllFall os
marks_fall [] h = tt
marks_fall (o ∷ os) h = (by o h.0, marks_fall os h.1)
  where
    by : (o : Op) → IsMark o → falls o ≡ true
    by _ (emits.count n) = refl
    by _ emits.begin = refl
    by _ (emits.pass w) = refl

steps_fall : (globals cells d : ℕ) (os : List Op) (after : ℕ) → Leaves globals cells d os after → AllFall os
steps_fall globals cells d [] after h = tt
steps_fall globals cells d (o ∷ os) after h =
    ((plain o h.0.step).on, steps_fall globals cells (d - takes o + gives o) os after h.1)

pub goals_ascend : (cases : List (ℤ × ℕ)) → Ascends (goals cases)
goals_ascend [] = tt
goals_ascend (c ∷ cases) = ascends-with c.1 (goals cases) (goals_ascend cases)

pub each_zip : (P Q R : ℕ → Type 0) → ((t : ℕ) → P t → Q t → R t) → (ts : List ℕ) → Each P ts → Each Q ts → Each R ts
each_zip P Q R k [] p q = tt
each_zip P Q R k (t ∷ ts) p q = (k t p.0 q.0, each_zip P Q R k ts p.1 q.1)

stub_behind : (m : ℕ → List Op) (q : ℕ) (ts : List ℕ) (t : ℕ) → q ≤ stub_at m q ts t
stub_behind m q [] t = omega arith
stub_behind m q (x ∷ ts) t = by (t == x) (stub_behind m (q + length (stub (m x) 0)) ts t)
  where
    by : (z : Bool) → q + length (stub (m x) 0) ≤ stub_at m (q + length (stub (m x) 0)) ts t
        → q ≤ cond z q (stub_at m (q + length (stub (m x) 0)) ts t)
    by true h = omega arith
    by false h = omega (arith, h)

land_behind : (ms : List Op) (place q end at : ℕ) → end ≤ place → at < end → at < q → at < land ms place q
land_behind [] place q end at e a b = omega (arith, e, a)
land_behind (o ∷ os) place q end at e a b = b

module _ (L : List Op) where
  abbrev Led : ℕ → Op → Type 0
  Led i o = LedTo L i

  fell_to : (i : ℕ) (o : Op) → slice_get L i ≡ Some o → falls o ≡ true → LedTo L (suc i)
  fell_to i o at f = inr (inl (record { before = i; is = refl; o = o; there = at; falls_on = f }))

  jumped_to : (i w : ℕ) (o : Op) → slice_get L i ≡ Some o → later o ≡ Some w → i < w → LedTo L w
  jumped_to i w o at to lt = inr (inr (record { from = i; lower = lt; o = o; there = at; to = to }))

  fall_led : (os : List Op) (at : ℕ) → Has L at os → AllFall os → LedTo L at
      → Every (λ i o. LedTo L i) at os × LedTo L (at + length os)
  fall_led [] at has f led = let e : at ≡ at + 0 = omega arith in (tt, subst (LedTo L) e led)
  fall_led (o ∷ os) at has f led =
      let k = fall_led os (suc at) has.1 f.1 (fell_to at o has.0 f.0) in
      let e : suc at + length os ≡ at + suc (length os) = omega arith in
      ((led, k.0), subst (LedTo L) e k.1)

  module _ (m : ℕ → List Op) (s : ℕ → ℕ) (next : ℕ) (marked : (t : ℕ) → AllFall (m t)) where
    away_led : (t at : ℕ) → Has L at (m t ++ op.Jump (s t) ∷ []) → at + length (m t) < s t → LedTo L at
        → Every (λ i o. LedTo L i) at (m t ++ op.Jump (s t) ∷ []) × LedTo L (s t)
    away_led t at has lt led =
        let j = has_join L at (m t) (op.Jump (s t) ∷ []) has in
        let k = fall_led (m t) at j.0 (marked t) led in (
          every_join (λ i o. LedTo L i) at (m t) (op.Jump (s t) ∷ []) k.0 (k.1, tt),
          jumped_to (at + length (m t)) (s t) (op.Jump (s t)) j.1.0 refl lt,
        )

    tail_led : (t at : ℕ) → Has L at (tail next (m t) t (s t)) → at + length (tail next (m t) t (s t)) ≤ s t
        → (t ≡ next → at + length (tail next (m t) t (s t)) ≡ s t) → LedTo L at
        → Every (λ i o. LedTo L i) at (tail next (m t) t (s t)) × LedTo L (s t)
    tail_led t at has le falls led = by (t == next) refl has le falls
      where
        by : (z : Bool) → (t == next) ≡ z → Has L at (m t ++ cond z [] (op.Jump (s t) ∷ []))
            → at + length (m t ++ cond z [] (op.Jump (s t) ∷ [])) ≤ s t
            → (t ≡ next → at + length (m t ++ cond z [] (op.Jump (s t) ∷ [])) ≡ s t)
            → Every (λ i o. LedTo L i) at (m t ++ cond z [] (op.Jump (s t) ∷ [])) × LedTo L (s t)
        by true is has le falls =
            let j = has_join L at (m t) [] has in
            let k = fall_led (m t) at j.0 (marked t) led in
            let n : length (m t ++ []) ≡ length (m t) + 0 = length-append (m t) [] in
            let e : at + length (m t ++ []) ≡ s t = falls (eqb-true t next is) in
            let place : at + length (m t) ≡ s t = omega (arith, n, e) in
            (every_join (λ i o. LedTo L i) at (m t) [] k.0 tt, subst (LedTo L) place k.1)
        by false is has le falls =
            let n : length (m t ++ op.Jump (s t) ∷ []) ≡ length (m t) + 1 = length-append (m t) (op.Jump (s t) ∷ []) in
            away_led t at has (omega (arith, n, le)) led

    tail_next : (t at end : ℕ) → end ≡ s next → at + length (tail next (m t) t (s t)) ≡ end → t ≡ next
        → at + length (tail next (m t) t (s t)) ≡ s t
    tail_next t at end e n is = n ∙ (e ∙ ap s (sym is))

    record Both (at : ℕ) (os : List Op) (t x : ℕ) : Type 0 where
      every : Every (λ i o. LedTo L i) at os
      first : LedTo L (s t)
      second : LedTo L (s x)

    branch_led : (z : Bool) (t x at : ℕ) → is_bare (m x) ≡ z → Has L at (branch z m next s at t x)
        → at + length (branch z m next s at t x) ≡ s next → s next ≤ s t → s next ≤ s x → LedTo L at
        → Both at (branch z m next s at t x) t x
    branch_led true t x at bare has size a b led =
        let k = tail_led t (suc at) has.1 (omega (arith, size, a))
        (λ is. tail_next t (suc at) (s next) refl (omega (arith, size)) is) (fell_to at (op.IfZero (s x)) has.0 refl) in
        record {
          every = (led, k.0);
          first = k.1;
          second = jumped_to at (s x) (op.IfZero (s x)) has.0 refl (omega (arith, size, b));
        }
    branch_led false t x at bare has size a b led =
        let first : List Op = m t ++ op.Jump (s t) ∷ [] in
        let second : List Op = tail next (m x) x (s x) in
        let way : ℕ = suc at + (length (m t) + 1) in
        let n : length first ≡ length (m t) + 1 = length-append (m t) (op.Jump (s t) ∷ []) in
        let all : length (first ++ second) ≡ length first + length second = length-append first second in
        let place : way ≡ suc at + length first = omega (arith, n) in
        let j = has_join L (suc at) first second has.1 in
        let k = away_led t (suc at) j.0 (omega (arith, size, a, n, all)) (fell_to at (op.IfZero way) has.0 refl) in
        let l = tail_led x way (subst (λ y. Has L y second) (sym place) j.1) (omega (arith, size, b, n, all))
        (λ is. tail_next x way (s next) refl (omega (arith, size, n, all)) is)
        (jumped_to at way (op.IfZero way) has.0 refl (omega arith)) in
        record {
          every = (
            led,
            every_join (λ i o. LedTo L i) (suc at) first second k.0
                (subst (λ y. Every (λ i o. LedTo L i) y second) place l.0),
          );
          first = k.1;
          second = l.1;
        }

    -- where the cases of a switch lead
    abbrev Ways : ℕ → List ℕ → ℕ → Type 0
    Ways q ts t = LedTo L (land (m t) (s t) (stub_at m q ts t))

    abbrev All_ways : ℕ → List ℕ → List (ℤ × ℕ) → Type 0
    All_ways q ts [] = Unit {0}
    All_ways q ts (c ∷ cases) = Ways q ts c.1 × All_ways q ts cases

    tests_led : (ts : List ℕ) (q end : ℕ) → q ≤ end → Each (λ t. end ≤ s t) ts → (cases : List (ℤ × ℕ)) (at : ℕ)
        → AllIn ts cases → Has L at (tests m s q ts cases) → at + length cases < q → LedTo L at
        → Every (λ i o. LedTo L i) at (tests m s q ts cases) × LedTo L (at + length cases) × All_ways q ts cases
    tests_led ts q end le all [] at is has lt led =
        let e : at ≡ at + 0 = omega arith in (tt, subst (LedTo L) e led, tt)
    tests_led ts q end le all (x ∷ cases) at is has lt led =
        let way : ℕ = land (m x.1) (s x.1) (stub_at m q ts x.1) in
        let k = tests_led ts q end le all cases (suc at) is.1 has.1 (omega (arith, lt))
        (fell_to at (op.CaseJump x.0 way) has.0 refl) in
        let far : end ≤ s x.1 = each_among (λ t. end ≤ s t) ts x.1 all is.0 in
        let low : q ≤ stub_at m q ts x.1 = stub_behind m q ts x.1 in
        let e : suc at + length cases ≡ at + suc (length cases) = omega arith in (
          (led, k.0),
          subst (LedTo L) e k.1,
          (
            jumped_to at way (op.CaseJump x.0 way) has.0 refl
                (land_behind (m x.1) (s x.1) (stub_at m q ts x.1) end at far (omega (arith, lt, le))
                (omega (arith, lt, low))),
            k.2,
          ),
        )

    goals_ways : (T : ℕ → Type 0) (q : ℕ) (ts : List ℕ) → ((t : ℕ) → Ways q ts t → T t) → (cases : List (ℤ × ℕ))
        → All_ways q ts cases → Each T (goals cases)
    goals_ways T q ts k [] h = tt
    goals_ways T q ts k (c ∷ cases) h =
        each_with T c.1 (goals cases) (k c.1 h.0) (goals_ways T q ts k cases h.1)

    stub_led : (t at : ℕ) (ms : List Op) → m t ≡ ms → Has L at (stub ms (s t)) → at + length (stub ms (s t)) ≤ s t
        → LedTo L (land ms (s t) at) → Every (λ i o. LedTo L i) at (stub ms (s t)) × LedTo L (s t)
    stub_led t at [] is has le led = (tt, led)
    stub_led t at (o ∷ os) is has le led =
        let n : length ((o ∷ os) ++ op.Jump (s t) ∷ []) ≡ length (o ∷ os) + 1 =
        length-append (o ∷ os) (op.Jump (s t) ∷ []) in
        let same : length (m t) ≡ length (o ∷ os) = ap length is in
        let k = away_led t at (subst (λ l. Has L at (l ++ op.Jump (s t) ∷ [])) (sym is) has)
        (omega (arith, n, le, same)) led in
        (subst (λ l. Every (λ i o. LedTo L i) at (l ++ op.Jump (s t) ∷ [])) is k.0, k.1)

    stubs_led : (ts : List ℕ) (q : ℕ) → Ascends ts → Has L q (stubs m s ts)
        → Each (λ t. q + length (stubs m s ts) ≤ s t) ts → Each (Ways q ts) ts
        → Every (λ i o. LedTo L i) q (stubs m s ts) × Each (λ t. LedTo L (s t)) ts
    stubs_led [] q up has far ways = (tt, tt)
    stubs_led (x ∷ ts) q up has far ways =
        let one : List Op = stub (m x) (s x) in
        let size : ℕ = length (stub (m x) 0) in
        let same : size ≡ length one = stub_size (m x) 0 (s x) in
        let n : length (one ++ stubs m s ts) ≡ length one + length (stubs m s ts) = length-append one (stubs m s ts) in
        let j = has_join L q one (stubs m s ts) has in
        let over : q + length (one ++ stubs m s ts) ≤ s x = far.0 in
        let here : LedTo L (land (m x) (s x) q) =
        subst (λ (z : Bool). LedTo L (land (m x) (s x) (cond z q (stub_at m (q + size) ts x))))
        (eq-eqb x x refl) ways.0 in
        let k = stub_led x q (m x) refl j.0 (omega (arith, over, n)) here in
        let place : q + length one ≡ q + size = omega (arith, same) in
        let rest : Has L (q + size) (stubs m s ts) = subst (λ y. Has L y (stubs m s ts)) place j.1 in
        let l = stubs_led ts (q + size) up.1 rest
        (each_zip (λ t. q + length (one ++ stubs m s ts) ≤ s t) (λ t. q + length (one ++ stubs m s ts) ≤ s t)
        (λ t. q + size + length (stubs m s ts) ≤ s t) (λ t a b. omega (arith, a, n, same)) ts far.1 far.1)
        (each_zip (λ t. x < t) (Ways q (x ∷ ts)) (Ways (q + size) ts)
        (λ t lt w. skip t lt (t == x) refl w) ts up.0 ways.1) in (
          every_join (λ i o. LedTo L i) q one (stubs m s ts) k.0
              (subst (λ y. Every (λ i o. LedTo L i) y (stubs m s ts)) (sym place) l.0),
          (k.1, l.1),
        )
      where
        skip : (t : ℕ) → x < t → (z : Bool) → (t == x) ≡ z
            → LedTo L (land (m t) (s t) (cond z q (stub_at m (q + length (stub (m x) 0)) ts t)))
            → Ways (q + length (stub (m x) 0)) ts t
        skip t lt true is w = let e : t ≡ x = eqb-true t x is in absurd (omega (arith, e, lt))
        skip t lt false is w = w

    cases_aims : (T : ℕ → Type 0) (cases : List (ℤ × ℕ)) (d : ℕ) (ts : List ℕ) → Each T ts → AllIn ts cases → T d
        → Aims T (Ending.Switch cases d)
    cases_aims T [] d ts all is h = h
    cases_aims T (c ∷ cases) d ts all is h = (each_among T ts c.1 all is.0, cases_aims T cases d ts all is.1 h)

    switch_led : (cases : List (ℤ × ℕ)) (d at end : ℕ)
        → Has L at (tests m s (at + length cases + 1 + (length (m d) + 1)) (goals cases) cases
        ++ ((op.Drop ∷ (m d ++ op.Jump (s d) ∷ [])) ++ stubs m s (goals cases)))
        → at + (length cases + suc (length (m d) + 1 + length (stubs m s (goals cases)))) ≡ end
        → Each (λ t. end ≤ s t) (goals cases) → end ≤ s d → LedTo L at
        → Every (λ i o. LedTo L i) at (tests m s (at + length cases + 1 + (length (m d) + 1)) (goals cases) cases
        ++ ((op.Drop ∷ (m d ++ op.Jump (s d) ∷ [])) ++ stubs m s (goals cases)))
        × Aims (λ t. LedTo L (s t)) (Ending.Switch cases d)
    switch_led cases d at end has size all far led =
        let ts : List ℕ = goals cases in
        let q : ℕ = at + length cases + 1 + (length (m d) + 1) in
        let first : List Op = tests m s q ts cases in
        let default : List Op = op.Drop ∷ (m d ++ op.Jump (s d) ∷ []) in
        let len : length first ≡ length cases = size_tests m s q ts cases in
        let n : length (m d ++ op.Jump (s d) ∷ []) ≡ length (m d) + 1 = length-append (m d) (op.Jump (s d) ∷ []) in
        let j = has_join L at first (default ++ stubs m s ts) has in
        let a : at + length first ≡ at + length cases = omega (arith, len) in
        let i = has_join L (at + length cases) default (stubs m s ts)
        (subst (λ y. Has L y (default ++ stubs m s ts)) a j.1) in
        let place : at + length cases + length default ≡ q = omega (arith, n) in
        let k = tests_led ts q end (omega (arith, size)) all cases at (goals_all cases) j.0 (omega arith) led in
        let l = away_led d (suc (at + length cases)) i.0.1 (omega (arith, size, far))
        (fell_to (at + length cases) op.Drop i.0.0 refl) in
        let e = stubs_led ts q (goals_ascend cases) (subst (λ y. Has L y (stubs m s ts)) place i.1)
        (each_zip (λ t. end ≤ s t) (λ t. end ≤ s t) (λ t. q + length (stubs m s ts) ≤ s t)
        (λ t x y. omega (arith, size, x)) ts all all)
        (goals_ways (Ways q ts) q ts (λ t w. w) cases k.2) in (
          every_join (λ i o. LedTo L i) at first (default ++ stubs m s ts) k.0
              (subst (λ y. Every (λ i o. LedTo L i) y (default ++ stubs m s ts)) (sym a)
              (every_join (λ i o. LedTo L i) (at + length cases) default (stubs m s ts) (k.1, l.0)
              (subst (λ y. Every (λ i o. LedTo L i) y (stubs m s ts)) (sym place) e.0))),
          cases_aims (λ t. LedTo L (s t)) cases d ts e.1 (goals_all cases) l.1,
        )

    -- an ending to which something leads, and where it goes on from there
    pub end_led : (end : Ending) (at : ℕ) → Has L at (end_code m next s at end)
        → at + length (end_code m next s at end) ≡ s next → (is_back end ≡ false → Aims (λ t. s next ≤ s t) end)
        → LedTo L at
        → Every (λ i o. LedTo L i) at (end_code m next s at end)
        × (is_back end ≡ false → Aims (λ t. LedTo L (s t)) end)
    end_led (Ending.Jump t) at has size ahead led =
        let a : s next ≤ s t = ahead refl in
        let k = tail_led t at has (omega (arith, size, a)) (λ is. tail_next t at (s next) refl size is) led in
        (k.0, λ e. k.1)
    end_led (Ending.Back t) at has size ahead led =
        let j = has_join L at (m t) (op.Back (s t) ∷ []) has in
        let k = fall_led (m t) at j.0 (marked t) led in
        (every_join (λ i o. LedTo L i) at (m t) (op.Back (s t) ∷ []) k.0 (k.1, tt), λ e. absurd (cc))
    end_led (Ending.Branch t x) at has size ahead led =
        let a = ahead refl in
        let k = branch_led (is_bare (m x)) t x at refl has size a.0 a.1 led in
        (k.every, λ e. (k.first, k.second))
    end_led (Ending.Switch cases d) at has size ahead led =
        let n = switch_size m s (at + length cases + 1 + (length (m d) + 1)) cases d in
        let k = switch_led cases d at (s next) has (omega (arith, size, n))
        (goals_have (λ t. s next ≤ s t) cases d (ahead refl))
        (default_has (λ t. s next ≤ s t) cases d (ahead refl)) led in
        (k.0, λ e. k.1)
    end_led (Ending.Call f line t) at has size ahead led =
        let a : s next ≤ s t = ahead refl in
        let k = tail_led t (suc at) has.1 (omega (arith, size, a))
        (λ is. tail_next t (suc at) (s next) refl (omega (arith, size)) is)
        (fell_to at (op.Call f line) has.0 refl) in
        ((led, k.0), λ e. k.1)
    end_led Ending.Return at has size ahead led = ((led, tt), λ e. tt)
    end_led Ending.Exit at has size ahead led = ((led, tt), λ e. tt)

module _ (u : GraphUnit) (g : Graph) (m : ℕ → ℕ → List Op) (o : IsOrderly u g)
    (marked : (a b : ℕ) → AreMarks (m a b))
    (ahead : (k : ℕ) (b : Block) → slice_get g.blocks k ≡ Some b → is_back b.end ≡ false
    → Aims (λ t. starts m g (suc (2 + k)) ≤ starts m g t) b.end) where
  abbrev s : ℕ → ℕ
  s = starts m g

  block_led : (k : ℕ) (b : Block) → slice_get g.blocks k ≡ Some b → LedTo (graph_code m g) (s (2 + k))
      → Every (λ i o. LedTo (graph_code m g) i) (s (2 + k)) (block_code (m (2 + k)) (suc (2 + k)) s (s (2 + k)) b)
      × (is_back b.end ≡ false → Aims (λ t. LedTo (graph_code m g) (s t)) b.end)
  block_led k b at led =
      let L : List Op = graph_code m g in
      let runs : Runs u g o.steady.depths (o.steady.depths (2 + k)) b = o.steady.blocks k b at in
      let end : List Op = end_code (m (2 + k)) (suc (2 + k)) s (s (2 + k) + length b.ops) b.end in
      let j = has_join L (s (2 + k)) b.ops end (code_stands m g k b at) in
      let i = fall_led L b.ops (s (2 + k)) j.0
      (steps_fall (length u.globals) g.cells (o.steady.depths (2 + k)) b.ops runs.after runs.operations) led in
      let next = next_stands m g k b at in
      let len : length (b.ops ++ end) ≡ length b.ops + length end = length-append b.ops end in
      let same = size_block (m (2 + k)) (suc (2 + k)) s (s (2 + k)) b in
      let r = end_led L (m (2 + k)) s (suc (2 + k)) (λ t. marks_fall (m (2 + k) t) (marked (2 + k) t)) b.end
      (s (2 + k) + length b.ops) j.1 (omega (arith, next, len, same)) (ahead k b at) i.1 in
      (every_join (λ i o. LedTo L i) (s (2 + k)) b.ops end i.0 r.0, r.1)

  starts_led : (n k : ℕ) → k < n → k < length g.blocks → LedTo (graph_code m g) (s (2 + k))
  starts_led zero k lt inside = absurd (omega (arith, lt))
  starts_led (suc n) zero lt inside =
      let first = fall_led (graph_code m g) (m 0 2) 0 (has_within [] (m 0 2) _) (marks_fall (m 0 2) (marked 0 2))
      (inl refl) in
      let place : 0 + length (m 0 2) ≡ s (2 + 0) = omega (arith, (start_end m 2 (length (m 0 2)) g.blocks)) in
      subst (LedTo (graph_code m g)) place first.1
  starts_led (suc n) (suc k) lt inside =
      let e : IsEntered g.blocks (suc k) = o.entered (suc k) (omega arith) inside in
      let low : e.from < suc k = e.lower in
      let before = starts_led n e.from (omega (arith, low, lt)) (slice_get_within g.blocks e.from e.block e.there) in
      aims_in (λ t. LedTo (graph_code m g) (s t)) e.block.end (2 + suc k)
      ((block_led e.from e.block e.there before).1 e.ahead) e.leads

  -- Something leads to each instruction.
  pub all_led : (i : ℕ) → i < length (graph_code m g) → LedTo (graph_code m g) i
  all_led i lt =
      let x = there_is (graph_code m g) i lt in
      let e : 0 + i ≡ i = omega arith in
      let every : Every (λ i o. LedTo (graph_code m g) i) 0 (graph_code m g) =
      every_graph (λ i o. LedTo (graph_code m g) i) m g
      (fall_led (graph_code m g) (m 0 2) 0 (has_within [] (m 0 2) _) (marks_fall (m 0 2) (marked 0 2)) (inl refl)).0
      (λ k b at. (block_led k b at (starts_led (suc k) k (omega arith) (slice_get_within g.blocks k b at))).0) in
      subst (LedTo (graph_code m g)) e (every_at (λ i o. LedTo (graph_code m g) i) 0 (graph_code m g) i x.0 every x.1)
