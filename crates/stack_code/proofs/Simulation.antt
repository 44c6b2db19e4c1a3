-- The code of a unit runs as the unit does.
use Rattle.std.proofs.Common.{◌≡◌, refl, sym, ap, subst, ◌∙◌, ℕ, zero, suc, ◌+◌, ◌-◌, ◌<◌, ◌≤◌, ◌⊎◌, inl, inr}
use Rattle.std.proofs.Common.{Bool, true, false, cond, List, [], ◌∷◌, ◌++◌, length, map, reverse, take, drop}
use Rattle.std.proofs.Common.{replicate, Option, Some, None, arith}
use Rattle.std.specs.Prelude.{ℤ, pos, nat_lt, slice_get}
use Rattle.std.specs.Ordering.{int_eq}
use Rattle.std.proofs.lemmas.Option.{same_Some, none-some}
use Rattle.std.proofs.lemmas.List.{length-map}
use Rattle.cov_base.specs.Walks.{Walk}
use Rattle.stack_ops.specs.declared.endings.Outcome.{Outcome}
use Rattle.stack_ops.specs.declared.endings.Outcome.TheVariants as outcome
use Rattle.stack_ops.specs.declared.endings.Trap.TheVariants as trap
use Rattle.stack_ops.specs.declared.operation.Op.{Op}
use Rattle.stack_ops.specs.declared.operation.Op.TheVariants as op
use Rattle.stack_ops.specs.Code.{FunctionValue, CodeValue}
use Rattle.stack_ops.specs.Effect.{State, Step, effect, byte_of}
use Rattle.stack_ops.specs.Shapes.{is_step}
use Rattle.code_runs.specs.CodeRun.{Waiting, Marked, Tally, Ran, CodeRun, at_index, marked, counted, path_words}
use Rattle.code_runs.specs.CodeRun.{with_words}
use Rattle.code_runs.specs.Tables.{words_in, begin_of, pass_of}
use Rattle.code_runs.specs.CodeRun as code
use Rattle.word_rules.specs.WordRules.{begin_row, pass_row, begin_by, pass_by}
use Rattle.code_runs.proofs.PlainSteps.{Plain, plain, stuck_else}
use Rattle.flow_graph.specs.Graph.{Ending, Block, Graph, GraphUnit}
use Rattle.flow_graph.specs.WalkRun.{Caller, Walked, WalkRun, IsClosed, walk_on, all_left}
use Rattle.flow_graph.specs.WalkRun as walk
use Rattle.stack_code.specs.Emits.{Has, Lands, Splits, Closes, Stands, LaidOut, Carries, IsMark, AreMarks, Emits}
use Rattle.stack_code.specs.Agreement.{marks_of, Agrees}
use Rattle.stack_code.specs.Emits as emits
use Rattle.stack_code.proofs.Aims.{Aims}
use Rattle.stack_code.proofs.WalkMarks.{adds, marked_so, Open, Open_on, Open_within, other_stays, added_stays}
use Rattle.stack_code.proofs.WalkMarks.{added_there, marks_on, marks_exit, marks_added, at_index_nothing}
use Rattle.stack_code.proofs.WalkMarks.{at_index_twice}

-- what an operation that marks does
record Marks (c : CodeValue) (f : FunctionValue) (o : Op) (q : code.Point) : Type 0 where
  bits : List ℕ
  tally : Tally
  step : code.does c f o q ≡ code.Goes_on (record q { at = suc q.at; bits = bits; tally = tally })
  told : tally.marks ≡ at_index (adds (o ∷ [])) q.call q.tally.marks

mark_step : (c : CodeValue) (f : FunctionValue) (o : Op) (q : code.Point) → IsMark o → Marks c f o q
mark_step c f _ q (emits.count n) = record {
  bits = q.bits;
  tally = counted n q (marked (op.Count n) q q.tally);
  step =
      refl;
  told = refl;
}
mark_step c f _ q emits.begin =
    let r : code.Point = code.marks op.PathBegin
    (with_words (begin_by (begin_row (begin_of f.table)) (path_words q)) q) in
    record { bits = r.bits; tally = r.tally; step = refl; told = refl }
mark_step c f _ q (emits.pass w) =
    let r : code.Point = code.marks (op.PathPass w)
    (with_words (pass_by (pass_row (pass_of w f.table)) (path_words q)) q) in
    record { bits = r.bits; tally = r.tally; step = refl; told = refl }

at_last : (f : Marked → Marked) (xs : List Marked) (y : Marked) → at_index f (length xs) (xs ++ y ∷ []) ≡ xs ++ f y ∷ []
at_last f [] y = refl
at_last f (x ∷ xs) y = ap (λ l. x ∷ l) (at_last f xs y)

append_nil : {A : Type 0} (xs : List A) → xs ++ [] ≡ xs
append_nil [] = refl
append_nil (x ∷ xs) = ap (λ l. x ∷ l) (append_nil xs)

-- the endings of a unit lead to blocks from 2 on
abbrev pub AllAim : GraphUnit → Type 0
AllAim u = (i k : ℕ) (g : Graph) (b : Block) → slice_get u.graphs i ≡ Some g → slice_get g.blocks k ≡ Some b
    → Aims (λ t. 2 ≤ t) b.end

module _ (m : ℕ → ℕ → ℕ → List Op) (u : GraphUnit) (c : CodeValue) (e : Emits m u c) (aim : AllAim u)
    (walked : Walked) where
  -- the run of the code from a point on comes to what the walk run comes to
  record Comes (q : code.Point) : Type 0 where
    steps : ℕ
    ran : Ran
    comes : code.goes steps c q ≡ Some ran
    agrees : Agrees m walked ran

  one : (q r : code.Point) → code.move c q ≡ code.Goes_on r → Comes r → Comes q
  one q r is h = record { steps = suc h.steps; ran = h.ran; comes = rw is h.comes; agrees = h.agrees }

  ended : (q : code.Point) (ran : Ran) → code.move c q ≡ code.Over ran → Agrees m walked ran → Comes q
  ended q ran is h = record { steps = 1; ran = ran; comes = rw is refl; agrees = h }

  at_op : (f : FunctionValue) (o : Op) (q : code.Point) → slice_get c.functions q.function ≡ Some f
      → slice_get f.ops q.at ≡ Some o → code.move c q ≡ code.does c f o q
  at_op f o q a b = rw (a, b) refl

  topped : (q : code.Point) (F : ℤ → code.Point → code.Move) (v : ℤ) (rest : List ℤ)
      → code.move c q ≡ code.with_top q.operands q F → q.operands ≡ v ∷ rest
      → code.move c q ≡ F v (record q { operands = rest })
  topped q F v rest step is = step ∙ ap (λ os. code.with_top os q F) is

  over_agrees : (output : List ℕ) (ending : Outcome) (walks : List Walk) (t : Tally)
      → Some (record { output = output; ending = ending; walks = walks }) ≡ Some walked
      → (IsClosed ending → t.marks ≡ map (marks_of m) walks)
      → Agrees m walked (record { output = output; ending = ending; tally = t })
  over_agrees output ending walks t is told =
      subst (λ (w : Walked). Agrees m w (record { output = output; ending = ending; tally = t })) (same_Some _ _ is)
      (record { output = refl; ending = refl; told = told })

  -- calls that wait, with the places and bits that the walk run knows nothing of
  abbrev waiting : List Caller → List (ℕ × List ℕ) → List Waiting
  waiting (k ∷ cs) (x ∷ xs) = record {
    function = k.function;
    at = x.0;
    operands = k.operands;
    cells = k.cells;
    bits =
        x.1;
    call = k.walk;
  } ∷ waiting cs xs
  waiting ks xs = []

  abbrev beside : walk.Point → ℕ → List ℕ → List (ℕ × List ℕ) → Tally → code.Point
  beside p at bits xs t = record {
    function = p.function;
    at = at;
    operands = p.operands;
    cells = p.cells;
    bits = bits;
    call = p.walk;
    callers = waiting p.callers xs;
    globals = p.globals;
    input = p.input;
    output = p.output;
    turns = p.turns;
    tally = t;
  }

  record Wait (k : Caller) (at : ℕ) (n : ℕ) (walks : List Walk) : Type 0 where
    block : ℕ
    function : FunctionValue
    there : slice_get c.functions k.function ≡ Some function
    lands : Lands function.ops at (m k.function block k.next) (e.start k.function k.next)
    below : k.walk < n
    inner : 2 ≤ block
    ahead : 2 ≤ k.next
    open_ : Open walks k.walk k.function block

  abbrev Waits : List Caller → List (ℕ × List ℕ) → ℕ → List Walk → Type 0
  Waits [] [] n walks = Unit {0}
  Waits (k ∷ cs) (x ∷ xs) n walks = Wait k x.0 n walks × Waits cs xs k.walk walks
  Waits _ _ n walks = ⊥

  abbrev Rel : walk.Point → List (ℕ × List ℕ) → Tally → Type 0
  Rel p xs t = Open p.walks p.walk p.function p.block × Waits p.callers xs p.walk p.walks
      × (t.marks ≡ map (marks_of m) p.walks) × (2 ≤ p.block)

  -- calls wait as before where their walks are as before
  waits_same : (cs : List Caller) (xs : List (ℕ × List ℕ)) (n : ℕ) (walks now : List Walk)
      → ((i : ℕ) → i < n → slice_get now i ≡ slice_get walks i)
      → Waits cs xs n walks → Waits cs xs n now
  waits_same [] [] n walks now same h = tt
  waits_same [] (x ∷ xs) n walks now same h = absurd h
  waits_same (k ∷ cs) [] n walks now same h = absurd h
  waits_same (k ∷ cs) (x ∷ xs) n walks now same h = let w = h.0 in (
    record {
      block = w.block;
      function = w.function;
      there = w.there;
      lands = w.lands;
      below = w.below;
      inner = w.inner;
      ahead = w.ahead;
      open_ = record { front = w.open_.front; there = same k.walk w.below ∙ w.open_.there };
    },
    waits_same cs xs k.walk walks now (λ i lt. same i (omega (arith, lt, w.below))) h.1,
  )

  length-waiting : (cs : List Caller) (xs : List (ℕ × List ℕ)) (n : ℕ) (walks : List Walk) → Waits cs xs n walks
      → length (waiting cs xs) ≡ length cs
  length-waiting [] [] n walks h = refl
  length-waiting [] (x ∷ xs) n walks h = absurd h
  length-waiting (k ∷ cs) [] n walks h = absurd h
  length-waiting (k ∷ cs) (x ∷ xs) n walks h = ap suc (length-waiting cs xs k.walk walks h.1)

  -- ---- marks

  marks_go : (f : FunctionValue) (ms : List Op) → AreMarks ms
      → (p : walk.Point) (at end : ℕ) (bits : List ℕ) (xs : List (ℕ × List ℕ)) (t : Tally)
      → slice_get c.functions p.function ≡ Some f → Has f.ops at ms → end ≡ at + length ms
      → ((bits : List ℕ) (now : Tally) → now.marks ≡ at_index (adds ms) p.walk t.marks
      → Comes (beside p end bits xs now)) → Comes (beside p at bits xs t)
  marks_go f [] are p at end bits xs t there has is go =
      let same : end ≡ at = omega (arith, is) in
      subst (λ i. Comes (beside p i bits xs t)) same (go bits t (sym (at_index_nothing p.walk t.marks)))
  marks_go f (o ∷ ms) are p at end bits xs t there has is go =
      let h : Marks c f o (beside p at bits xs t) = mark_step c f o (beside p at bits xs t) are.0 in
      one (beside p at bits xs t) (beside p (suc at) h.bits xs h.tally)
      (at_op f o (beside p at bits xs t) there has.0 ∙ h.step)
      (marks_go f ms are.1 p (suc at) end h.bits xs h.tally there has.1 (omega (arith, is))
      (λ bits now told. go bits now (told ∙ (ap (λ l. at_index (adds ms) p.walk l) h.told
      ∙ at_index_twice p.walk (o ∷ []) ms t.marks))))

  lands_go : (f : FunctionValue) (ms : List Op) → AreMarks ms
      → (p : walk.Point) (at to : ℕ) (bits : List ℕ) (xs : List (ℕ × List ℕ)) (t : Tally)
      → slice_get c.functions p.function ≡ Some f → Lands f.ops at ms to
      → ((bits : List ℕ) (now : Tally) → now.marks ≡ at_index (adds ms) p.walk t.marks
      → Comes (beside p to bits xs now)) → Comes (beside p at bits xs t)
  lands_go f ms are p at to bits xs t there lands go =
      marks_go f ms are p at (at + length ms) bits xs t there lands.marked refl
      (λ bits now told. on lands.goes bits now (go bits now told))
    where
      on : (at + length ms ≡ to) ⊎ (slice_get f.ops (at + length ms) ≡ Some (op.Jump to))
          → (bits : List ℕ) (now : Tally) → Comes (beside p to bits xs now)
          → Comes (beside p (at + length ms) bits xs now)
      on (inl is) bits now h = subst (λ i. Comes (beside p i bits xs now)) (sym is) h
      on (inr is) bits now h = one (beside p (at + length ms) bits xs now) (beside p to bits xs now)
          (at_op f (op.Jump to) (beside p (at + length ms) bits xs now) there is) h

  -- ---- what comes behind one block

  abbrev Follow : ℕ → Type 0
  Follow k = (p : walk.Point) (bits : List ℕ) (xs : List (ℕ × List ℕ)) (t : Tally) → Rel p xs t
      → walk.goes k u p ≡ Some walked
      → Comes (beside p (e.start p.function p.block) bits xs t)

  module _ (k : ℕ) (follow : Follow k) where
    -- the walk goes along an arc
    arrive : (f : FunctionValue) (p : walk.Point) (at b : ℕ) (bits : List ℕ) (xs : List (ℕ × List ℕ)) (t : Tally)
        → 2 ≤ b → slice_get c.functions p.function ≡ Some f → Rel p xs t
        → Lands f.ops at (m p.function p.block b) (e.start p.function b) → walk.goes k u (walk.enters b p) ≡ Some walked
        → Comes (beside p at bits xs t)
    arrive f p at b bits xs t aim there rel lands run =
        lands_go f (m p.function p.block b) (e.are_marks p.function p.block b) p at
        (e.start p.function b) bits xs t there lands
        (λ bits now told. follow (walk.enters b p) bits xs now (
          Open_on p.walks p.walk p.function p.block b rel.0,
          waits_same p.callers xs p.walk p.walks (walk_on p.walk b p.walks)
              (λ i lt. other_stays p.walks p.walk i b lt) rel.1,
          told ∙ (ap (λ l. at_index (adds (m p.function p.block b)) p.walk l) rel.2
              ∙ marks_on m p.walks p.walk p.function p.block b rel.0),
          aim,
        ) run)

    abbrev Runs : walk.Move → Type 0
    Runs move = walk.then_goes move (λ next. walk.goes k u next) ≡ Some walked

    -- with the operand at the top
    on_top : (p : walk.Point) (os : List ℤ) (then : ℤ → walk.Point → walk.Move) (A : Type 0)
        → ((v : ℤ) (rest : List ℤ) → os ≡ v ∷ rest → Runs (then v (record p { operands = rest })) → A)
        → Runs (walk.with_top os p then) → A
    on_top p [] then A go run = absurd (none-some walked run)
    on_top p (v ∷ rest) then A go run = go v rest refl run

    -- with one turn less, on both sides
    turns_go : (p : walk.Point) (at : ℕ) (bits : List ℕ) (xs : List (ℕ × List ℕ)) (t : Tally)
        (then : walk.Point → walk.Move) (then' : code.Point → code.Move) (n : ℕ)
        → p.turns ≡ n → code.move c (beside p at bits xs t) ≡ code.with_turn (beside p at bits xs t).turns
        (beside p at bits xs t) then'
        → ((n : ℕ) → Runs (then (record p { turns = n }))
        → code.move c (beside p at bits xs t) ≡ then' (beside (record p { turns = n }) at bits xs t)
        → Comes (beside p at bits xs t))
        → Runs (walk.with_turn n p then) → Comes (beside p at bits xs t)
    turns_go p at bits xs t then then' zero is step go run =
        ended (beside p at bits xs t) (record { output = p.output; ending = outcome.OutOfTurns; tally = t })
        (step ∙ ap (λ n. code.with_turn n (beside p at bits xs t) then') is)
        (over_agrees p.output outcome.OutOfTurns p.walks t run (λ closed. absurd closed))
    turns_go p at bits xs t then then' (suc n) is step go run =
        go n run (step ∙ ap (λ n. code.with_turn n (beside p at bits xs t) then') is)

    module _ (f : FunctionValue) where
      -- the cases of a switch, one after another, and then its default
      cases_go : (p : walk.Point) (bits : List ℕ) (xs : List (ℕ × List ℕ)) (t : Tally)
          → slice_get c.functions p.function ≡ Some f → Rel p xs t
          → (v : ℤ) (rest : List ℤ) → p.operands ≡ v ∷ rest → (cases : List (ℤ × ℕ)) (default at : ℕ)
          → Aims (λ t. 2 ≤ t) (Ending.Switch cases default)
          → Closes f.ops (e.start p.function) (m p.function p.block) at (Ending.Switch cases default)
          → walk.goes k u (walk.enters (walk.chosen v cases default) (record p { operands = rest })) ≡ Some walked
          → Comes (beside p at bits xs t)
      cases_go p bits xs t there rel v rest is [] default at aims closes run =
          one (beside p at bits xs t) (beside (record p { operands = rest }) (suc at) bits xs t)
          (at_op f op.Drop (beside p at bits xs t) there closes.0 ∙ dropped p.operands is)
          (arrive f (record p { operands = rest }) (suc at) default bits xs t aims there rel closes.1 run)
        where
          dropped : (os : List ℤ) → os ≡ v ∷ rest
              → code.does c f op.Drop (beside (record p { operands = os }) at bits xs t) ≡ code.Goes_on
              (beside (record p { operands = rest }) (suc at) bits xs t)
          dropped os is = rw is refl
      cases_go p bits xs t there rel v rest is (x ∷ cases) default at aims closes run =
          by (int_eq x.0 v) (topped (beside p at bits xs t) _ v rest
          (at_op f (op.CaseJump x.0 closes.way) (beside p at bits xs t) there closes.test) is)
          (cases_go p bits xs t there rel v rest is cases default (suc at) aims.1 closes.on) run
        where
          by : (z : Bool) → code.move c (beside p at bits xs t) ≡ code.Goes_on
              (cond z (beside (record p { operands = rest }) closes.way bits xs t) (beside p (suc at) bits xs t))
              → (walk.goes k u (walk.enters (walk.chosen v cases default) (record p { operands = rest })) ≡ Some walked
              → Comes (beside p (suc at) bits xs t))
              → walk.goes k u (walk.enters (cond z x.1 (walk.chosen v cases default)) (record p { operands = rest }))
              ≡ Some walked → Comes (beside p at bits xs t)
          by true step behind run = one (beside p at bits xs t)
              (beside (record p { operands = rest }) closes.way bits xs t) step
              (arrive f (record p { operands = rest }) closes.way x.1 bits xs t aims.0 there rel closes.goes run)
          by false step behind run = one (beside p at bits xs t) (beside p (suc at) bits xs t) step (behind run)

      -- the two ways of a test
      zero_go : (p : walk.Point) (at : ℕ) (bits : List ℕ) (xs : List (ℕ × List ℕ)) (t : Tally)
          → slice_get c.functions p.function ≡ Some f → Rel p xs t
          → (yes_ no_ : ℕ) → 2 ≤ yes_ → 2 ≤ no_
          → Splits f.ops at op.IfZero (λ i. Lands f.ops i (m p.function p.block yes_) (e.start p.function yes_))
          (λ i. Lands f.ops i (m p.function p.block no_) (e.start p.function no_))
          → (v : ℤ) (rest : List ℤ) → p.operands ≡ v ∷ rest
          → walk.goes k u (walk.enters (cond (int_eq v (pos 0)) no_ yes_) (record p { operands = rest })) ≡ Some walked
          → Comes (beside p at bits xs t)
      zero_go p at bits xs t there rel yes_ no_ ay an splits v rest is run =
          by (int_eq v (pos 0)) (topped (beside p at bits xs t) _ v rest
          (at_op f (op.IfZero splits.way) (beside p at bits xs t) there splits.test) is) run
        where
          by : (z : Bool) → code.move c (beside p at bits xs t) ≡ code.Goes_on
              (beside (record p { operands = rest }) (cond z splits.way (suc at)) bits xs t)
              → walk.goes k u (walk.enters (cond z no_ yes_) (record p { operands = rest })) ≡ Some walked
              → Comes (beside p at bits xs t)
          by true step run = one (beside p at bits xs t)
              (beside (record p { operands = rest }) splits.way bits xs t) step
              (arrive f (record p { operands = rest }) splits.way no_ bits xs t an there rel splits.goes run)
          by false step run = one (beside p at bits xs t)
              (beside (record p { operands = rest }) (suc at) bits xs t) step
              (arrive f (record p { operands = rest }) (suc at) yes_ bits xs t ay there rel splits.on run)

      not_go : (p : walk.Point) (at : ℕ) (bits : List ℕ) (xs : List (ℕ × List ℕ)) (t : Tally)
          → slice_get c.functions p.function ≡ Some f → Rel p xs t
          → (yes_ no_ : ℕ) → 2 ≤ yes_ → 2 ≤ no_
          → Splits f.ops at op.IfNot (λ i. Lands f.ops i (m p.function p.block no_) (e.start p.function no_))
          (λ i. Lands f.ops i (m p.function p.block yes_) (e.start p.function yes_))
          → (v : ℤ) (rest : List ℤ) → p.operands ≡ v ∷ rest
          → walk.goes k u (walk.enters (cond (int_eq v (pos 0)) no_ yes_) (record p { operands = rest })) ≡ Some walked
          → Comes (beside p at bits xs t)
      not_go p at bits xs t there rel yes_ no_ ay an splits v rest is run =
          by (int_eq v (pos 0)) (topped (beside p at bits xs t) _ v rest
          (at_op f (op.IfNot splits.way) (beside p at bits xs t) there splits.test) is) run
        where
          by : (z : Bool) → code.move c (beside p at bits xs t) ≡ code.Goes_on
              (beside (record p { operands = rest }) (cond z (suc at) splits.way) bits xs t)
              → walk.goes k u (walk.enters (cond z no_ yes_) (record p { operands = rest })) ≡ Some walked
              → Comes (beside p at bits xs t)
          by true step run = one (beside p at bits xs t) (beside (record p { operands = rest }) (suc at) bits xs t) step
              (arrive f (record p { operands = rest }) (suc at) no_ bits xs t an there rel splits.on run)
          by false step run = one (beside p at bits xs t)
              (beside (record p { operands = rest }) splits.way bits xs t) step
              (arrive f (record p { operands = rest }) splits.way yes_ bits xs t ay there rel splits.goes run)

      -- a call begins
      begins_go : (s : code.Point) (p : walk.Point) (at : ℕ) (bits : List ℕ) (xs : List (ℕ × List ℕ)) (t : Tally)
          → slice_get c.functions p.function ≡ Some f → Rel p xs t
          → (g : ℕ) (graph : Graph) (h : FunctionValue) → slice_get c.functions g ≡ Some h
          → Carries (e.start g) (m g) graph h → (next : ℕ) → 2 ≤ next
          → Lands f.ops (suc at) (m p.function p.block next) (e.start p.function next)
          → code.move c s ≡ code.begins h g (beside p at bits xs t) → Runs (walk.begins graph g next p) → Comes s
      begins_go s p at bits xs t there rel g graph h hthere carries next ahead lands step run =
          let size : length t.marks ≡ length p.walks = ap length rel.2 ∙ length-map p.walks (marks_of m) in
          one s (beside q 0 zeros ((suc at, bits) ∷ xs) now)
          (step ∙ (rw (carries.params, carries.cells, size) refl))
          (lands_go h (m g 0 2) (e.are_marks g 0 2) q 0 (e.start g 2) zeros
          ((suc at, bits) ∷ xs) now hthere carries.laid.first
          (λ bits' tally told. follow q bits' ((suc at, bits) ∷ xs) tally (
            record { front = 0 ∷ []; there = added_there p.walks new },
            (
              record {
                block = p.block;
                function = f;
                there = there;
                lands = lands;
                below = Open_within p.walks p.walk p.function p.block rel.0;
                inner = rel.3;
                ahead = ahead;
                open_ = record {
                  front = rel.0.front;
                  there =
                      added_stays p.walks new p.walk (Open_within p.walks p.walk p.function p.block rel.0)
                      ∙ rel.0.there;
                };
              },
              waits_same p.callers xs p.walk p.walks (p.walks ++ new ∷ [])
                  (λ i lt. let w = Open_within p.walks p.walk p.function p.block rel.0 in
                  added_stays p.walks new i (omega (arith, lt, w))) rel.1,
            ),
            told ∙ (ap (λ n. at_index (adds (m g 0 2)) n (t.marks ++ blank ∷ [])) (sym size)
                ∙ (at_last (adds (m g 0 2)) t.marks blank
                ∙ (rw rel.2 (sym (marks_added m p.walks new
                ∙ ap (λ (l : List Op). map (marks_of m) p.walks ++ marked_so g l ∷ []) (append_nil (m g 0 2))))))),
            omega arith,
          ) run))
        where
          new : Walk
          new = record { function = g; blocks = 0 ∷ 2 ∷ [] }

          zeros : List ℕ
          zeros = replicate (words_in h.paths) 0

          blank : Marked
          blank = marked_so g []

          now : Tally
          now = record t { marks = t.marks ++ blank ∷ [] }

          q : walk.Point
          q = record p {
            function = g;
            block = 2;
            operands = [];
            cells = reverse (take graph.params p.operands) ++ replicate (graph.cells - graph.params) (pos 0);
            walk = length p.walks;
            callers = record {
              function = p.function;
              operands = drop graph.params p.operands;
              cells = p.cells;
              walk =
                  p.walk;
              next = next;
            } ∷ p.callers;
            walks = p.walks ++ record { function = g; blocks = 0 ∷ 2 ∷ [] } ∷ [];
          }

      -- a call ends, with these numbers for its caller
      back_go : (s : code.Point) (p : walk.Point) (at : ℕ) (bits : List ℕ) (xs : List (ℕ × List ℕ)) (t : Tally)
          (given : List ℤ) (status : ℤ) (cs : List Caller)
          → Open p.walks p.walk p.function p.block → Waits cs xs p.walk p.walks → t.marks ≡ map (marks_of m) p.walks
          → p.callers ≡ cs
          → code.move c s ≡ code.goes_back (waiting cs xs) given status (beside p at bits xs t)
          → Runs (walk.goes_back cs given status (walk.enters 1 p)) → Comes s
      back_go s p at bits [] t given status [] open_ waits marks is step run =
          ended s _ step (over_agrees p.output (outcome.Returned (byte_of status)) (walk_on p.walk 1 p.walks) t run
          (λ closed. marks ∙ marks_exit m p.walks p.walk p.function p.block (e.exit p.function p.block) open_))
      back_go s p at bits (x ∷ xs) t given status [] open_ waits marks is step run = absurd waits
      back_go s p at bits [] t given status (k' ∷ cs) open_ waits marks is step run = absurd waits
      back_go s p at bits (x ∷ xs) t given status (k' ∷ cs) open_ waits marks is step run =
          let w = waits.0 in
          one s (beside q x.0 x.1 xs t) step
          (arrive w.function q x.0 k'.next x.1 xs t w.ahead w.there (
            record { front = w.open_.front; there = other_stays p.walks p.walk k'.walk 1 w.below ∙ w.open_.there },
            waits_same cs xs k'.walk p.walks (walk_on p.walk 1 p.walks)
                (λ i lt. other_stays p.walks p.walk i 1 (omega (arith, lt, w.below))) waits.1,
            marks ∙ marks_exit m p.walks p.walk p.function p.block (e.exit p.function p.block) open_,
            w.inner,
          )
          w.lands run)
        where
          q : walk.Point
          q = record p {
            function = k'.function;
            block = waits.0.block;
            operands = given ++ k'.operands;
            cells = k'.cells;
            walk = k'.walk;
            callers = cs;
            walks = walk_on p.walk 1 p.walks;
          }

      leaves_go : (b : Bool) (p : walk.Point) (at : ℕ) (bits : List ℕ) (xs : List (ℕ × List ℕ)) (t : Tally) → Rel p xs t
          → code.move c (beside p at bits xs t) ≡ code.leaves b (beside p at bits xs t) → Runs (walk.leaves b p)
          → Comes (beside p at bits xs t)
      leaves_go true p at bits xs t rel step run = on_top p p.operands _ (Comes (beside p at bits xs t))
          (λ v rest is run. back_go (beside p at bits xs t) (record p { operands = rest }) at bits xs t
          (v ∷ []) v p.callers rel.0 rel.1 rel.2 refl
          (topped (beside p at bits xs t) _ v rest step is) run) run
      leaves_go false p at bits xs t rel step run =
          back_go (beside p at bits xs t) p at bits xs t [] (pos 0) p.callers rel.0 rel.1 rel.2 refl step run

      exit_marks : (cs : List Caller) (xs : List (ℕ × List ℕ)) (n : ℕ) (walks : List Walk) → Waits cs xs n walks
          → map (marks_of m) walks ≡ map (marks_of m) (all_left cs walks)
      exit_marks [] xs n walks waits = refl
      exit_marks (k' ∷ cs) [] n walks waits = absurd waits
      exit_marks (k' ∷ cs) (x ∷ xs) n walks waits =
          let w = waits.0 in
          marks_exit m walks k'.walk k'.function w.block (e.exit k'.function w.block) w.open_
          ∙ exit_marks cs xs k'.walk (walk_on k'.walk 1 walks)
          (waits_same cs xs k'.walk walks (walk_on k'.walk 1 walks)
          (λ i lt. other_stays walks k'.walk i 1 lt) waits.1)

      -- the ending of a block
      ends_go : (end : Ending) (p : walk.Point) (at : ℕ) (bits : List ℕ) (xs : List (ℕ × List ℕ)) (t : Tally)
          → slice_get c.functions p.function ≡ Some f → Rel p xs t
          → Aims (λ t. 2 ≤ t) end → Closes f.ops (e.start p.function) (m p.function p.block) at end
          → Runs (walk.ends_so u f.gives end p) → Comes (beside p at bits xs t)
      ends_go (Ending.Jump b) p at bits xs t there rel aims closes run =
          arrive f p at b bits xs t aims there rel closes run
      ends_go (Ending.Back b) p at bits xs t there rel aims closes run =
          marks_go f (m p.function p.block b) (e.are_marks p.function p.block b) p at
          (at + length (m p.function p.block b)) bits xs t there closes.0 refl
          (λ bits now told. turns_go p (at + length (m p.function p.block b)) bits xs now _ _ p.turns refl
          (at_op f (op.Back (e.start p.function b))
          (beside p (at + length (m p.function p.block b)) bits xs now) there closes.1)
          (λ n run step. one (beside p (at + length (m p.function p.block b)) bits xs now)
          (beside (record p { turns = n }) (e.start p.function b) bits xs now) step
          (follow (walk.enters b (record p { turns = n })) bits xs now (
            Open_on p.walks p.walk p.function p.block b rel.0,
            waits_same p.callers xs p.walk p.walks (walk_on p.walk b p.walks)
                (λ i lt. other_stays p.walks p.walk i b lt) rel.1,
            told ∙ (ap (λ l. at_index (adds (m p.function p.block b)) p.walk l) rel.2
                ∙ marks_on m p.walks p.walk p.function p.block b rel.0),
            aims,
          ) run)) run)
      ends_go (Ending.Branch b d) p at bits xs t there rel aims (inl splits) run =
          on_top p p.operands _ (Comes (beside p at bits xs t))
          (λ v rest is run. zero_go p at bits xs t there rel b d aims.0 aims.1 splits v rest is run) run
      ends_go (Ending.Branch b d) p at bits xs t there rel aims (inr splits) run =
          on_top p p.operands _ (Comes (beside p at bits xs t))
          (λ v rest is run. not_go p at bits xs t there rel b d aims.0 aims.1 splits v rest is run) run
      ends_go (Ending.Switch cases default) p at bits xs t there rel aims closes run =
          on_top p p.operands _ (Comes (beside p at bits xs t))
          (λ v rest is run. cases_go p bits xs t there rel v rest is cases default at aims closes run) run
      ends_go (Ending.Call g line next) p at bits xs t there rel aims closes run = by (slice_get u.graphs g) refl run
        where
          by : (o : Option Graph) → slice_get u.graphs g ≡ o → Runs (walk.calls o g line next p)
              → Comes (beside p at bits xs t)
          by None is run = absurd (none-some walked run)
          by (Some graph) is run =
              let h = e.functions g graph is in
              turns_go p at bits xs t _ _ p.turns refl
              (at_op f (op.Call g line) (beside p at bits xs t) there closes.0
              ∙ ap (λ o. code.calls o g line (beside p at bits xs t)) h.1)
              (λ n run step. deep n h.0 h.1 h.2 (nat_lt (suc (length p.callers)) 2000)
              (step ∙ (rw (length-waiting p.callers xs p.walk p.walks rel.1) refl)) run) run
            where
              deep : (n : ℕ) (h : FunctionValue) → slice_get c.functions g ≡ Some h → Carries (e.start g) (m g) graph h
                  → (z : Bool)
                  → code.move c (beside p at bits xs t) ≡ cond z
                  (code.begins h g (beside (record p { turns = n }) at bits xs t))
                  (code.over (outcome.Trapped trap.CallDepth line)
                  (beside (record p { turns = n }) at bits xs t))
                  → Runs (cond z (walk.begins graph g next (record p { turns = n }))
                  (walk.over (outcome.Trapped trap.CallDepth line) (record p { turns = n })))
                  → Comes (beside p at bits xs t)
              deep n h hthere carries true step run =
                  begins_go (beside p at bits xs t) (record p { turns = n }) at bits xs t there rel g graph h hthere
                  carries next aims closes.1 step run
              deep n h hthere carries false step run =
                  ended (beside p at bits xs t) _ step
                  (over_agrees p.output (outcome.Trapped trap.CallDepth line) p.walks t run
                  (λ closed. absurd closed))
      ends_go Ending.Return p at bits xs t there rel aims closes run =
          leaves_go f.gives p at bits xs t rel (at_op f op.Return (beside p at bits xs t) there closes) run
      ends_go Ending.Exit p at bits xs t there rel aims closes run =
          on_top p p.operands _ (Comes (beside p at bits xs t))
          (λ v rest is run. ended (beside p at bits xs t) _
          (topped (beside p at bits xs t) _ v rest (at_op f op.Exit (beside p at bits xs t) there closes) is)
          (over_agrees p.output (outcome.Exited (byte_of v)) (all_left p.callers (walk_on p.walk 1 p.walks)) t run
          (λ closed. rel.2 ∙ (marks_exit m p.walks p.walk p.function p.block (e.exit p.function p.block) rel.0
          ∙ exit_marks p.callers xs p.walk (walk_on p.walk 1 p.walks)
          (waits_same p.callers xs p.walk p.walks (walk_on p.walk 1 p.walks)
          (λ i lt. other_stays p.walks p.walk i 1 lt) rel.1))))) run

      -- the operations of a block, and what comes behind them
      ops_go : (os : List Op) (p : walk.Point) (at end : ℕ) (bits : List ℕ) (xs : List (ℕ × List ℕ)) (t : Tally)
          (then : walk.Point → walk.Move) → slice_get c.functions p.function ≡ Some f
          → Has f.ops at os → end ≡ at + length os
          → ((s : State) → Runs (then (walk.with_state s p)) → Comes (beside (walk.with_state s p) end bits xs t))
          → Runs (walk.does os p then) → Comes (beside p at bits xs t)
      ops_go [] p at end bits xs t then there has is go run =
          let same : end ≡ at = omega (arith, is) in
          subst (λ i. Comes (beside p i bits xs t)) same (go (walk.state_of p) run)
      ops_go (o ∷ os) p at end bits xs t then there has is go run =
          by (is_step o) refl (λ q run. ops_go os (walk.with_state q p) (suc at) end bits xs t then there has.1
          (omega (arith, is)) go run) run
        where
          step : (s : Step) → code.move c (beside p at bits xs t) ≡ code.stepped s (beside p at bits xs t)
              → ((q : State) → Runs (walk.does os (walk.with_state q p) then)
              → Comes (beside (walk.with_state q p) (suc at) bits xs t))
              → Runs (walk.stepped s p (λ q. walk.does os q then)) → Comes (beside p at bits xs t)
          step (Step.Goes q) is behind run = one (beside p at bits xs t)
              (beside (walk.with_state q p) (suc at) bits xs t) is (behind q run)
          step (Step.Traps trap line) is behind run =
              ended (beside p at bits xs t) _ is (over_agrees p.output (outcome.Trapped trap line) p.walks t run
              (λ closed. absurd closed))
          step Step.Stuck is behind run = absurd (none-some walked run)

          by : (b : Bool) → is_step o ≡ b → ((q : State) → Runs (walk.does os (walk.with_state q p) then)
              → Comes (beside (walk.with_state q p) (suc at) bits xs t))
              → Runs (walk.does (o ∷ os) p then) → Comes (beside p at bits xs t)
          by true is behind run = let q : Plain o = plain o is in
              step (effect o (walk.state_of p)) (at_op f o (beside p at bits xs t) there has.0
              ∙ q.step c f (beside p at bits xs t)) behind run
          by false is behind run = absurd (none-some walked
              (subst (λ s. Runs (walk.stepped s p (λ q. walk.does os q then))) (stuck_else o (walk.state_of p) is) run))

  -- one block
  block_go : (k : ℕ) → Follow k → (p : walk.Point) (bits : List ℕ) (xs : List (ℕ × List ℕ)) (t : Tally) → Rel p xs t
      → (o : Option Graph) → slice_get u.graphs p.function ≡ o
      → walk.then_goes (walk.in_block u (walk.gives_at o) (walk.block_at o p.block) p)
      (λ next. walk.goes k u next) ≡ Some walked → Comes (beside p (e.start p.function p.block) bits xs t)
  block_go k follow p bits xs t rel None is run = absurd (none-some walked run)
  block_go k follow p bits xs t rel (Some g) is run = by (walk.block_at (Some g) p.block) refl run
    where
      by : (b : Option Block) → walk.block_at (Some g) p.block ≡ b
          → walk.then_goes (walk.in_block u g.gives b p) (λ next. walk.goes k u next) ≡ Some walked
          → Comes (beside p (e.start p.function p.block) bits xs t)
      by None at run = absurd (none-some walked run)
      by (Some b) at run =
          let h = e.functions p.function g is in
          let inside : 2 ≤ p.block = rel.3 in
          let same : 2 + (p.block - 2) ≡ p.block = omega (arith, inside) in
          let stands : Stands h.0.ops (e.start p.function) (m p.function p.block) (e.start p.function p.block) b =
          subst (λ n. Stands h.0.ops (e.start p.function) (m p.function n) (e.start p.function n) b) same
          (h.2.laid.each (p.block - 2) b at) in
          ops_go k follow h.0 b.ops p (e.start p.function p.block) (e.start p.function p.block + length b.ops) bits xs t
          (λ q. walk.ends_so u h.0.gives b.end q) h.1 stands.does refl
          (λ s run. ends_go k follow h.0 b.end (walk.with_state s p)
          (e.start p.function p.block + length b.ops) bits xs t h.1 rel
          (aim p.function (p.block - 2) g b is at) stands.ends run)
          (subst (λ z. walk.then_goes (walk.does b.ops p (λ q. walk.ends_so u z b.end q))
          (λ next. walk.goes k u next) ≡ Some walked) (sym h.2.gives) run)

  -- a run of blocks from a point on
  follows : (k : ℕ) → Follow k
  follows zero p bits xs t rel run = absurd (none-some walked run)
  follows (suc k) p bits xs t rel run = block_go k (follows k) p bits xs t rel (slice_get u.graphs p.function) refl run

  -- a run from the start
  begins : (input : List ℕ) (n : ℕ) → WalkRun u input n walked → Comes (code.first c input n)
  begins input n run = by run.0 (slice_get u.graphs u.main) refl run.1
    where
      tally : Tally
      tally = record {
        counters = map (λ (f : FunctionValue). replicate f.counters 0) c.functions;
        words =
            map (λ (f : FunctionValue). replicate (words_in f.paths) 0) c.functions;
        marks = marked_so u.main [] ∷ [];
      }

      from : (k : ℕ) (g : Graph) → slice_get u.graphs u.main ≡ Some g
          → walk.goes k u (walk.first u input n) ≡ Some walked → Comes (code.first c input n)
      from k g is run =
          let h = e.functions u.main g is in
          let there : slice_get c.functions c.main ≡ Some h.0 = rw e.main h.1 in
          let bits : List ℕ = replicate (words_in h.0.paths) 0 in
          let same : code.first c input n ≡ beside (walk.first u input n) 0 bits [] tally =
          rw (there, is, e.globals, h.2.cells, e.main) refl in
          subst Comes (sym same)
          (lands_go h.0 (m u.main 0 2) (e.are_marks u.main 0 2) (walk.first u input n) 0
          (e.start u.main 2) bits [] tally h.1 h.2.laid.first
          (λ bits now told. follows k (walk.first u input n) bits [] now (
            record { front = 0 ∷ []; there = refl },
            tt,
            told
                ∙ ap (λ (l : List Op). marked_so u.main l ∷ []) (sym (append_nil (m u.main 0 2))),
            omega arith,
          ) run))

      by : (k : ℕ) (o : Option Graph) → slice_get u.graphs u.main ≡ o
          → walk.goes k u (walk.first u input n) ≡ Some walked → Comes (code.first c input n)
      by k (Some g) is run = from k g is run
      by zero None is run = absurd (none-some walked run)
      by (suc k) None is run = absurd (none-some walked
          (subst (λ o. walk.then_goes (walk.in_block u (walk.gives_at o) (walk.block_at o 2) (walk.first u input n))
          (λ next. walk.goes k u next) ≡ Some walked) is run))

-- The run of the code has the output and the ending of the walk run, and where it is closed each call has marked just
-- what stands on its walk.
pub emission : (m : ℕ → ℕ → ℕ → List Op) (u : GraphUnit) (c : CodeValue) → Emits m u c → AllAim u
    → (input : List ℕ) (n : ℕ) (walked : Walked) → WalkRun u input n walked
    → (ran : Ran) × CodeRun c input n ran × Agrees m walked ran
emission m u c e aim input n walked run = let h = begins m u c e aim walked input n run in
    (h.ran, (h.steps, h.comes), h.agrees)
