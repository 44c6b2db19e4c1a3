-- Instructions that have depths with which each keeps the rules, and to each of which something leads, break no rule.
use Rattle.std.proofs.Common.{◌≡◌, refl, sym, ap, subst, ◌∙◌, ℕ, zero, suc, ◌<◌, ◌≤◌, ◌==◌, ◌&&◌, ◌||◌}
use Rattle.std.proofs.Common.{not, ◌⊎◌, inl, inr, Bool, true, false, cond, List, [], ◌∷◌, ◌++◌, length}
use Rattle.std.proofs.Common.{Option, Some, None, arith, append_assoc, length-append, eqb-true, eq-eqb}
use Rattle.std.specs.Prelude.{nat_lt, nat_le, get_or, slice_get}
use Rattle.std.specs.Option.{option_or}
use Rattle.std.proofs.lemmas.Option.{same_Some, none-some, slice_get_within, slice_get-get_or}
use Rattle.std.proofs.lemmas.Bool.{lt-ltb, le-leb, cases_lt}
use Rattle.stack_ops.specs.declared.operation.Op.{Op}
use Rattle.stack_ops.specs.Code.{FunctionValue, CodeValue}
use Rattle.stack_ops.specs.Shapes.{takes_in}
use Rattle.code_runs.specs.Checks.{Rule, Led, later, earlier, falls, left_by, behind, cells_there, counter_there}
use Rattle.code_runs.specs.Checks.{row_there, goes_later, ends_well, goes_earlier, same_depth, returns_well, led_too}
use Rattle.code_runs.specs.Checks.{led, add_jump, is_at, jumps_on, before_next, unless, depth_kept}
use Rattle.code_runs.specs.Checks.{broken_at, depth_of, or_later, broken_from, broken}
use Rattle.code_runs.specs.Sound.{Suits, Typed}
use Rattle.stack_code.proofs.Places.{at_seam}

-- the instruction before leads to an instruction
pub record Fell (ops : List Op) (i : ℕ) : Type 0 where
  pub before : ℕ
  pub is : suc before ≡ i
  pub o : Op
  pub there : slice_get ops before ≡ Some o
  pub falls_on : falls o ≡ true

-- an earlier jump leads to an instruction
pub record Jumped (ops : List Op) (i : ℕ) : Type 0 where
  pub from : ℕ
  pub lower : from < i
  pub o : Op
  pub there : slice_get ops from ≡ Some o
  pub to : later o ≡ Some i

-- an instruction is the first, or something leads to it
abbrev pub LedTo : List Op → ℕ → Type 0
LedTo ops i = (i ≡ 0) ⊎ (Fell ops i ⊎ Jumped ops i)

-- what leads to an instruction agrees with a depth
abbrev Tells : ℕ → Led → Type 0
Tells x Led.Nothing = Unit {0}
Tells x (Led.By d) = d ≡ x
Tells x Led.Clash = ⊥

-- something leads to an instruction
abbrev Some_led : Led → Type 0
Some_led Led.Nothing = ⊥
Some_led (Led.By d) = Unit {0}
Some_led Led.Clash = Unit {0}

told_by : (x : ℕ) (l : Led) → Tells x l → Some_led l → l ≡ Led.By x
told_by x Led.Nothing t s = absurd s
told_by x (Led.By d) t s = ap Led.By t
told_by x Led.Clash t s = absurd t

too_tells : (d x : ℕ) (l : Led) → d ≡ x → Tells x l → Tells x (led_too d l)
too_tells d x Led.Nothing e t = e
too_tells d x (Led.By y) e t = by (d == y) (eq-eqb d y (omega (arith, e, t)))
  where
    by : (z : Bool) → z ≡ true → Tells x (cond z (Led.By d) Led.Clash)
    by true is = e
    by false is = absurd (cc)
too_tells d x Led.Clash e t = absurd t

too_some : (d : ℕ) (l : Led) → Some_led (led_too d l)
too_some d Led.Nothing = tt
too_some d (Led.By y) = by (d == y)
  where
    by : (z : Bool) → Some_led (cond z (Led.By d) Led.Clash)
    by true = tt
    by false = tt
too_some d Led.Clash = tt

-- jumps leave what their targets have
abbrev Asked : List ℕ → List (ℕ × ℕ) → Type 0
Asked ds [] = Unit {0}
Asked ds (j ∷ js) = (slice_get ds j.0 ≡ Some j.1) × Asked ds js

-- one of these jumps goes to an instruction
abbrev Goes_to : ℕ → List (ℕ × ℕ) → Type 0
Goes_to w [] = ⊥
Goes_to w (j ∷ js) = (j.0 ≡ w) ⊎ Goes_to w js

-- the instruction before leaves what the next has
abbrev Leaves_on : List ℕ → ℕ → Option ℕ → Type 0
Leaves_on ds i None = Unit {0}
Leaves_on ds i (Some d) = slice_get ds i ≡ Some d

abbrev Is_some : Option ℕ → Type 0
Is_some None = ⊥
Is_some (Some d) = Unit {0}

led_tells : (ds : List ℕ) (i x : ℕ) (before : Option ℕ) (jumps : List (ℕ × ℕ)) → slice_get ds i ≡ Some x
    → Leaves_on ds i before → Asked ds jumps → Tells x (led i before jumps)
led_tells ds i x None [] at on asked = tt
led_tells ds i x (Some d) [] at on asked = same_Some d x (sym on ∙ at)
led_tells ds i x before (j ∷ js) at on asked =
    by (j.0 == i) refl (led_tells ds i x before js at on asked.1)
  where
    by : (z : Bool) → (j.0 == i) ≡ z → Tells x (led i before js)
        → Tells x (cond z (led_too j.1 (led i before js)) (led i before js))
    by true is t = let same : j.0 ≡ i = eqb-true j.0 i is in
        too_tells j.1 x (led i before js)
        (same_Some j.1 x (sym asked.0 ∙ (ap (slice_get ds) same ∙ at))) t
    by false is t = t

led_some : (i : ℕ) (before : Option ℕ) (jumps : List (ℕ × ℕ)) → Is_some before ⊎ Goes_to i jumps
    → Some_led (led i before jumps)
led_some i None [] (inl s) = absurd s
led_some i (Some d) [] (inl s) = tt
led_some i before [] (inr s) = absurd s
led_some i before (j ∷ js) (inl s) = by (j.0 == i) (led_some i before js (inl s))
  where
    by : (z : Bool) → Some_led (led i before js)
        → Some_led (cond z (led_too j.1 (led i before js)) (led i before js))
    by true h = too_some j.1 (led i before js)
    by false h = h
led_some i before (j ∷ js) (inr (inl s)) = by (j.0 == i) (eq-eqb j.0 i s)
  where
    by : (z : Bool) → z ≡ true → Some_led (cond z (led_too j.1 (led i before js)) (led i before js))
    by true is = too_some j.1 (led i before js)
    by false is = absurd (cc)
led_some i before (j ∷ js) (inr (inr s)) = by (j.0 == i) (led_some i before js (inr s))
  where
    by : (z : Bool) → Some_led (led i before js)
        → Some_led (cond z (led_too j.1 (led i before js)) (led i before js))
    by true h = too_some j.1 (led i before js)
    by false h = h

both_true : (a b : Bool) → a ≡ true → b ≡ true → (a && b) ≡ true
both_true true b e h = h
both_true false b e h = absurd (cc)

kept : (b : Bool) (r : Rule) → b ≡ true → unless b r ≡ None
kept true r e = refl
kept false r e = absurd (cc)

neither : {A : Type 0} (a b : Option A) → a ≡ None → b ≡ None → option_or a b ≡ None
neither a b e h = rw (e, h) refl

go_later : (ds : List ℕ) (i size x : ℕ) (l : Option ℕ) → length ds ≡ size
    → ((w : ℕ) → l ≡ Some w → (i < w) × (slice_get ds w ≡ Some x)) → goes_later i size l ≡ true
go_later ds i size x None len h = refl
go_later ds i size x (Some w) len h = let k = h w refl in
    let inside : w < length ds = slice_get_within ds w x k.1 in
    both_true (nat_lt i w) (nat_lt w size) (lt-ltb i w k.0) (lt-ltb w size (omega (arith, inside, len)))

end_well : (ds : List ℕ) (i size x : ℕ) (o : Op) → length ds ≡ size
    → (falls o ≡ true → slice_get ds (suc i) ≡ Some x) → ends_well i size o ≡ true
end_well ds i size x o len h = by (falls o) h
  where
    by : (z : Bool) → (z ≡ true → slice_get ds (suc i) ≡ Some x) → (not z || nat_lt (suc i) size) ≡ true
    by true h = let inside : suc i < length ds = slice_get_within ds (suc i) x (h refl) in
        lt-ltb (suc i) size (omega (arith, inside, len))
    by false h = refl

go_earlier : (ds : List ℕ) (i d : ℕ) (l : Option ℕ)
    → ((w : ℕ) → l ≡ Some w → (w ≤ i) × (slice_get ds w ≡ Some d)) → goes_earlier i l ≡ true
go_earlier ds i d None h = refl
go_earlier ds i d (Some w) h = le-leb w i (h w refl).0

-- the depths that were found so far are those of the first instructions
record Past (ds dd : List ℕ) (i : ℕ) : Type 0 where
  size : length dd ≡ i
  each : (j : ℕ) → j < i → slice_get dd j ≡ slice_get ds j

pushed_before : (dd : List ℕ) (x j : ℕ) → j < length dd → slice_get (dd ++ x ∷ []) j ≡ slice_get dd j
pushed_before [] x j lt = absurd (omega (arith, lt))
pushed_before (d ∷ dd) x zero lt = refl
pushed_before (d ∷ dd) x (suc j) lt = pushed_before dd x j (omega (arith, lt))

past_on : (ds dd : List ℕ) (i x : ℕ) → slice_get ds i ≡ Some x → Past ds dd i → Past ds (dd ++ x ∷ []) (suc i)
past_on ds dd i x at past = record {
  size = let s : length dd ≡ i = past.size in length-append dd (x ∷ []) ∙ omega (arith, s);
  each = λ j lt. by j lt (cases_lt j i);
}
  where
    by : (j : ℕ) → j < suc i → (j < i) ⊎ (i ≤ j) → slice_get (dd ++ x ∷ []) j ≡ slice_get ds j
    by j most (inl lt) = let s : length dd ≡ i = past.size in
        pushed_before dd x j (omega (arith, lt, s)) ∙ past.each j lt
    by j most (inr le) = let s : length dd ≡ i = past.size in let is : j ≡ i = omega (arith, le, most) in
        let same : j ≡ length dd = omega (arith, is, s) in
        ap (slice_get (dd ++ x ∷ [])) same ∙ (at_seam dd x [] ∙ (sym at ∙ ap (slice_get ds) (sym is)))

same_depths : (ds dd : List ℕ) (i d : ℕ) (l : Option ℕ) → Past ds dd (suc i)
    → ((w : ℕ) → l ≡ Some w → (w ≤ i) × (slice_get ds w ≡ Some d)) → same_depth dd d l ≡ true
same_depths ds dd i d None past h = refl
same_depths ds dd i d (Some w) past h =
    let k = h w refl in let le : w ≤ i = k.0 in
    ap (is_at d) (past.each w (omega (arith, le)) ∙ k.1) ∙ eq-eqb d d refl

module _ (c : CodeValue) (f : FunctionValue) (ds : List ℕ) (typed : Typed c f ds)
    (leds : (i : ℕ) → i < length f.ops → LedTo f.ops i) where
  -- an instruction with its depth breaks no rule
  keeps : (i : ℕ) (o : Op) (x : ℕ) (dd : List ℕ) → slice_get f.ops i ≡ Some o → slice_get ds i ≡ Some x
      → Past ds dd (suc i) → broken_at c f i o dd (Led.By x) ≡ None
  keeps i o x dd there at past =
      let s : Suits c f ds i o x = typed.each i o x there at in
      neither _ _ (kept _ Rule.Jump (both_true (goes_later i (length f.ops) (later o)) (ends_well i (length f.ops) o)
      (go_later ds i (length f.ops) (left_by o x) (later o) typed.size s.to)
      (end_well ds i (length f.ops) (behind c.functions f o x) o typed.size s.on)))
      (neither _ _ (kept _ Rule.BackJump (go_earlier ds i x (earlier o) s.back))
      (neither _ _ (kept (depth_kept c f dd o x) Rule.Depth
      (both_true (nat_le (takes_in c.functions f o) x) _ (le-leb (takes_in c.functions f o) x s.taken)
      (both_true (nat_le x f.depth) _ (le-leb x f.depth (typed.within i x at))
      (both_true (nat_le (behind c.functions f o x) f.depth) _ (le-leb (behind c.functions f o x) f.depth s.room)
      (both_true (returns_well f o x) _ s.returned (same_depths ds dd i x (earlier o) past s.back))))))
      (neither _ _ (kept (cells_there c f o) Rule.Cell s.cell)
      (neither _ _ (kept (counter_there f o) Rule.Counter s.counter) (kept (row_there f o) Rule.Row s.row)))))

  -- what is known where i instructions were gone through
  record Through (i : ℕ) (dd : List ℕ) (before : Option ℕ) (jumps : List (ℕ × ℕ)) : Type 0 where
    past : Past ds dd i
    on : Leaves_on ds i before
    asked : Asked ds jumps
    fell : (i ≡ 0) ⊎ Fell f.ops i → Is_some before
    jumped : (j w : ℕ) (o : Op) → j < i → slice_get f.ops j ≡ Some o → later o ≡ Some w → Goes_to w jumps

  through_on : (i : ℕ) (o : Op) (x : ℕ) (dd : List ℕ) (before : Option ℕ) (jumps : List (ℕ × ℕ))
      → slice_get f.ops i ≡ Some o → slice_get ds i ≡ Some x → Through i dd before jumps
      → Through (suc i) (dd ++ x ∷ []) (before_next c.functions f o x) (jumps_on o x jumps)
  through_on i o x dd before jumps there at t =
      let s : Suits c f ds i o x = typed.each i o x there at in record {
        past = past_on ds dd i x at t.past;
        on = on (falls o) s.on;
        asked = asked (later o) s.to;
        fell = fell;
        jumped = λ j w p lt is to. jumped j w p lt is to (cases_lt j i);
      }
    where
      on : (z : Bool) → (z ≡ true → slice_get ds (suc i) ≡ Some (behind c.functions f o x))
          → Leaves_on ds (suc i) (cond z (Some (behind c.functions f o x)) None)
      on true h = h refl
      on false h = tt

      asked : (l : Option ℕ) → ((w : ℕ) → l ≡ Some w → (i < w) × (slice_get ds w ≡ Some (left_by o x)))
          → Asked ds (add_jump l (left_by o x) jumps)
      asked None h = t.asked
      asked (Some w) h = ((h w refl).1, t.asked)

      fell : (suc i ≡ 0) ⊎ Fell f.ops (suc i) → Is_some (before_next c.functions f o x)
      fell (inl e) = absurd (omega (arith, e))
      fell (inr e) =
          let b : ℕ = e.before in let n : suc b ≡ suc i = e.is in let same : b ≡ i = omega (arith, n) in
          let op_is : e.o ≡ o = same_Some e.o o (sym e.there ∙ (ap (slice_get f.ops) same ∙ there)) in
          let h : falls o ≡ true = ap falls (sym op_is) ∙ e.falls_on in
          subst (λ z. Is_some (cond z (Some (behind c.functions f o x)) None)) (sym h) tt

      more : (l : Option ℕ) (w : ℕ) → Goes_to w jumps → Goes_to w (add_jump l (left_by o x) jumps)
      more None w h = h
      more (Some v) w h = inr h

      last : (l : Option ℕ) (w : ℕ) → later o ≡ l → later o ≡ Some w → Goes_to w (add_jump l (left_by o x) jumps)
      last None w e to = absurd (none-some w (sym e ∙ to))
      last (Some v) w e to = inl (same_Some v w (sym e ∙ to))

      jumped : (j w : ℕ) (p : Op) → j < suc i → slice_get f.ops j ≡ Some p → later p ≡ Some w → (j < i) ⊎ (i ≤ j)
          → Goes_to w (jumps_on o x jumps)
      jumped j w p most is to (inl lt) = more (later o) w (t.jumped j w p lt is to)
      jumped j w p most is to (inr le) =
          let same : j ≡ i = omega (arith, le, most) in
          let op_is : p ≡ o = same_Some p o (sym is ∙ (ap (slice_get f.ops) same ∙ there)) in
          last (later o) w refl (ap later (sym op_is) ∙ to)

  goes : (os pre : List Op) (i : ℕ) (dd : List ℕ) (before : Option ℕ) (jumps : List (ℕ × ℕ))
      → f.ops ≡ pre ++ os → length pre ≡ i → Through i dd before jumps → broken_from c f i dd before jumps os ≡ None
  goes [] pre i dd before jumps is size t = refl
  goes (o ∷ os) pre i dd before jumps is size t =
      let there : slice_get f.ops i ≡ Some o =
      ap (slice_get f.ops) (sym size) ∙ (ap (λ (l : List Op). slice_get l (length pre)) is ∙ at_seam pre o os) in
      let within : i < length f.ops = slice_get_within f.ops i o there in
      let len : length ds ≡ length f.ops = typed.size in
      let x : ℕ = get_or ds i 0 in
      let at : slice_get ds i ≡ Some x = slice_get-get_or ds i 0 (omega (arith, within, len)) in
      let l : led i before jumps ≡ Led.By x =
      told_by x (led i before jumps) (led_tells ds i x before jumps at t.on t.asked)
      (led_some i before jumps (ways (leds i within))) in
      let rest : broken_from c f (suc i) (dd ++ x ∷ []) (before_next c.functions f o x) (jumps_on o x jumps) os ≡ None =
      goes os (pre ++ o ∷ []) (suc i) (dd ++ x ∷ []) (before_next c.functions f o x) (jumps_on o x jumps)
      (is ∙ sym (append_assoc pre (o ∷ []) os)) (length-append pre (o ∷ []) ∙ omega (arith, size))
      (through_on i o x dd before jumps there at t) in
      subst (λ (k : Led). or_later i (broken_at c f i o (dd ++ depth_of k ∷ []) k)
      (broken_from c f (suc i) (dd ++ depth_of k ∷ []) (before_next c.functions f o (depth_of k))
      (jumps_on o (depth_of k) jumps) os) ≡ None) (sym l)
      (ap (λ (r : Option Rule). or_later i r (broken_from c f (suc i) (dd ++ x ∷ [])
      (before_next c.functions f o x) (jumps_on o x jumps) os))
      (keeps i o x (dd ++ x ∷ []) there at (past_on ds dd i x at t.past)) ∙ rest)
    where
      ways : LedTo f.ops i → Is_some before ⊎ Goes_to i jumps
      ways (inl e) = inl (t.fell (inl e))
      ways (inr (inl e)) = inl (t.fell (inr e))
      ways (inr (inr e)) = inr (t.jumped e.from i e.o e.lower e.there e.to)

  pub unbroken : broken c f ≡ None
  unbroken = goes f.ops [] 0 [] (Some 0) [] refl refl (record {
    past = record { size = refl; each = λ j lt. absurd (omega (arith, lt)) };
    on = typed.start;
    asked = tt;
    fell = λ e. tt;
    jumped = λ j w o lt there to. absurd (omega (arith, lt));
  })
