-- The most operands that are counted in a graph are enough, and within the limit.
use Rattle.std.proofs.Common.{◌≡◌, ◌≢◌, refl, sym, ap, subst, ◌∙◌, ℕ, zero, suc, ◌+◌, ◌-◌, ◌<◌, ◌≤◌, ◌==◌, ◌⊎◌}
use Rattle.std.proofs.Common.{inl, inr, Bool, true, false, List, [], ◌∷◌, length, replicate, Some, arith}
use Rattle.std.proofs.Common.{eqb-true, eq-eqb}
use Rattle.std.specs.Prelude.{max, get_or, slice_get, slice_set}
use Rattle.std.proofs.Math.Nat.{le-max_left, le-max_right, max-le}
use Rattle.std.proofs.lemmas.Bool.{cases_lt}
use Rattle.std.proofs.lemmas.Grind.{get_or-set_at}
use Rattle.std.proofs.lemmas.List.{get_or-replicate, get_or-set_other, length-set, length-replicate}
use Rattle.std.proofs.lemmas.Option.{same_Some, none-some, slice_get_within}
use Rattle.stack_ops.specs.declared.operation.Op.{Op}
use Rattle.stack_ops.specs.Shapes.{takes, gives}
use Rattle.flow_graph.specs.Graph.{Block, Graph, GraphUnit}
use Rattle.flow_graph.specs.Nets.{targets, among}
use Rattle.fake_arcs.specs.Marking.{goals_of}
use Rattle.fake_arcs.proofs.Worklist.{goals_target, target_goals}
use Rattle.lower_agrees.specs.Agreement.{is_back}
use Rattle.operand_depths.specs.Depths.{Runs, Leaves, depth_limit}
use Rattle.stack_code.specs.Deepest.{most_in, left, far, led_on, with_depths, deepest, graph_depth}
use Rattle.stack_code.specs.Laws.{CountedDepthIsEnough}
use Rattle.stack_code.specs.Orderly.{IsOrderly, IsEntered, FitWithin}
use Rattle.stack_code.proofs.Aims.{aims_in}
use Rattle.stack_code.proofs.Levels.{leads_aims, left_after}

fits_more : (n m d : ℕ) (os : List Op) → n ≤ m → FitWithin n d os → FitWithin m d os
fits_more n m d [] le h = omega (arith, le, h)
fits_more n m d (o ∷ os) le h = (omega (arith, le, h.0), fits_more n m (d - takes o + gives o) os le h.1)

fits_most : (d : ℕ) (os : List Op) → FitWithin (most_in d os) d os
fits_most d [] = omega arith
fits_most d (o ∷ os) =
    let rest : ℕ = most_in (d - takes o + gives o) os in (
      le-max_left d rest,
      fits_more rest (max d rest) (d - takes o + gives o) os (le-max_right d rest)
          (fits_most (d - takes o + gives o) os),
    )

most_low : (globals cells d : ℕ) (os : List Op) (after : ℕ) → d ≤ depth_limit → Leaves globals cells d os after
    → most_in d os ≤ depth_limit
most_low globals cells d [] after low h = low
most_low globals cells d (o ∷ os) after low h =
    max-le low (most_low globals cells (d - takes o + gives o) os after h.0.room h.1)

-- what a table has at a block once some blocks got a depth
record Given (ts : List ℕ) (d : ℕ) (table : List ℕ) (x : ℕ) : Type 0 where
  among_them : among x ts ≡ true
  is : get_or (with_depths ts d table) x 0 ≡ d

record Left (ts : List ℕ) (d : ℕ) (table : List ℕ) (x : ℕ) : Type 0 where
  apart : among x ts ≡ false
  is : get_or (with_depths ts d table) x 0 ≡ get_or table x 0

table_at : (ts : List ℕ) (d : ℕ) (table : List ℕ) (x : ℕ) → x < length table
    → Given ts d table x ⊎ Left ts d table x
table_at [] d table x lt = inr (record { apart = refl; is = refl })
table_at (t ∷ ts) d table x lt =
    by (x == t) refl (table_at ts d (slice_set table t d) x (let n = length-set table t d in omega (arith, n, lt)))
  where
    by : (z : Bool) → (x == t) ≡ z → Given ts d (slice_set table t d) x ⊎ Left ts d (slice_set table t d) x
        → Given (t ∷ ts) d table x ⊎ Left (t ∷ ts) d table x
    by true is (inl g) = inl (record { among_them = rw is refl; is = g.is })
    by true is (inr l) =
        let e : x ≡ t = eqb-true x t is in
        inl (record { among_them = rw is refl; is = l.is ∙ get_or-set_at table t x d 0 e (omega (arith, e, lt)) })
    by false is (inl g) = inl (record { among_them = rw is g.among_them; is = g.is })
    by false is (inr l) =
        let apart : x ≢ t = (λ e. (let h : (x == t) ≡ true = eq-eqb x t e in
        let no : true ≡ false = sym h ∙ is in absurd (cc))) in
        inr (record { apart = rw is l.apart; is = l.is ∙ get_or-set_other table t x d 0 apart })

long_table : (ts : List ℕ) (d : ℕ) (table : List ℕ) → length (with_depths ts d table) ≡ length table
long_table [] d table = refl
long_table (t ∷ ts) d table = long_table ts d (slice_set table t d) ∙ length-set table t d

module _ (u : GraphUnit) (g : Graph) (o : IsOrderly u g) where
  abbrev dep : ℕ → ℕ
  dep = o.steady.depths

  -- the table has the operands of the blocks from the one at k on that were led to
  record Knows (k : ℕ) (table : List ℕ) : Type 0 where
    long : length table ≡ 2 + length g.blocks
    first : k ≡ 0 → get_or table 2 0 ≡ dep 2
    each : (j : ℕ) → j < length g.blocks → (e : IsEntered g.blocks j) → e.from < k
        → get_or table (2 + j) 0 ≡ dep (2 + j)

  here : (k : ℕ) (table : List ℕ) → Knows k table → k < length g.blocks → get_or table (2 + k) 0 ≡ dep (2 + k)
  here zero table knows lt = knows.first refl
  here (suc k) table knows lt =
      let e : IsEntered g.blocks (suc k) = o.entered (suc k) (omega arith) lt in
      knows.each (suc k) lt e e.lower

  knows_on : (k : ℕ) (table : List ℕ) (b : Block) → slice_get g.blocks k ≡ Some b → Knows k table
      → Knows (suc k) (with_depths (led_on (is_back b.end) b.end)
      (far u.graphs b.end (left (get_or table (2 + k) 0) b.ops)) table)
  knows_on k table b at knows =
      let ts : List ℕ = led_on (is_back b.end) b.end in
      let e : ℕ = left (get_or table (2 + k) 0) b.ops in
      let d : ℕ = far u.graphs b.end e in record {
        long = long_table ts d table ∙ knows.long;
        first = λ z. absurd (omega (arith, z));
        each = λ j lt entered low. by (is_back b.end) refl j lt entered low;
      }
    where
      runs : Runs u g dep (dep (2 + k)) b
      runs = o.steady.blocks k b at

      known : get_or table (2 + k) 0 ≡ dep (2 + k)
      known = here k table knows (slice_get_within g.blocks k b at)

      after : left (get_or table (2 + k) 0) b.ops ≡ runs.after
      after = ap (λ n. left n b.ops) known
          ∙ left_after (length u.globals) g.cells (dep (2 + k)) b.ops runs.after runs.operations

      aimed : (t : ℕ) → among t (targets b.end) ≡ true
          → dep t ≡ far u.graphs b.end (left (get_or table (2 + k) 0) b.ops)
      aimed t a = aims_in (λ t. dep t ≡ far u.graphs b.end runs.after) b.end t
          (leads_aims u.graphs g.gives dep runs.after b.end runs.ending) a ∙ ap (far u.graphs b.end) (sym after)

      entered_here : (j : ℕ) (e : IsEntered g.blocks j) → e.from ≡ k
          → (is_back b.end ≡ false) × (among (2 + j) (targets b.end) ≡ true)
      entered_here j e same =
          let there : Some e.block ≡ Some b = sym e.there ∙ (ap (slice_get g.blocks) same ∙ at) in
          let is : e.block ≡ b = same_Some e.block b there in (
            subst (λ (x : Block). is_back x.end ≡ false) is e.ahead,
            subst (λ (x : Block). among (2 + j) (targets x.end) ≡ true) is e.leads,
          )

      by : (z : Bool) → is_back b.end ≡ z → (j : ℕ) → j < length g.blocks → (e : IsEntered g.blocks j) → e.from < suc k
          → get_or (with_depths (led_on z b.end) (far u.graphs b.end (left (get_or table (2 + k) 0) b.ops)) table)
          (2 + j) 0
          ≡ dep (2 + j)
      by true back j lt e low = on (cases_lt e.from k)
        where
          on : (e.from < k) ⊎ (k ≤ e.from) → get_or table (2 + j) 0 ≡ dep (2 + j)
          on (inl less) = knows.each j lt e less
          on (inr le) = let h = entered_here j e (omega (arith, le, low)) in
              let no : true ≡ false = sym back ∙ h.0 in absurd (cc)
      by false ahead j lt e low =
          let n = knows.long in
          on (table_at (goals_of b.end) (far u.graphs b.end (left (get_or table (2 + k) 0) b.ops)) table (2 + j)
          (omega (arith, n, lt))) (cases_lt e.from k)
        where
          on : Given (goals_of b.end) (far u.graphs b.end (left (get_or table (2 + k) 0) b.ops)) table (2 + j)
              ⊎ Left (goals_of b.end) (far u.graphs b.end (left (get_or table (2 + k) 0) b.ops)) table (2 + j)
              → (e.from < k) ⊎ (k ≤ e.from)
              → get_or (with_depths (goals_of b.end) (far u.graphs b.end (left (get_or table (2 + k) 0) b.ops)) table)
              (2 + j) 0
              ≡ dep (2 + j)
          on (inl given) way = given.is ∙ sym (aimed (2 + j) (goals_target b.end (2 + j) given.among_them))
          on (inr kept) (inl less) = kept.is ∙ knows.each j lt e less
          on (inr kept) (inr le) =
              let h = entered_here j e (omega (arith, le, low)) in
              let a : among (2 + j) (goals_of b.end) ≡ true = target_goals b.end (2 + j) h.1 in
              let no : true ≡ false = sym a ∙ kept.apart in absurd (cc)

  record Enough (k : ℕ) (table : List ℕ) (bs : List Block) : Type 0 where
    fits : (i : ℕ) (b : Block) → slice_get bs i ≡ Some b
        → FitWithin (deepest u.graphs (2 + k) table bs) (dep (2 + (k + i))) b.ops
    low : deepest u.graphs (2 + k) table bs ≤ depth_limit

  enough : (k : ℕ) (table : List ℕ) (bs : List Block)
      → ((i : ℕ) (b : Block) → slice_get bs i ≡ Some b → slice_get g.blocks (k + i) ≡ Some b) → Knows k table
      → Enough k table bs
  enough k table [] part knows = record { fits = λ i b at. absurd (none-some b at); low = omega arith }
  enough k table (b ∷ bs) part knows =
      let z : k + 0 ≡ k = omega arith in
      let at : slice_get g.blocks k ≡ Some b = subst (λ n. slice_get g.blocks n ≡ Some b) z (part 0 b refl) in
      let known : get_or table (2 + k) 0 ≡ dep (2 + k) = here k table knows (slice_get_within g.blocks k b at) in
      let runs : Runs u g dep (dep (2 + k)) b = o.steady.blocks k b at in
      let next : List ℕ = with_depths (led_on (is_back b.end) b.end)
      (far u.graphs b.end (left (get_or table (2 + k) 0) b.ops)) table in
      let most : ℕ = most_in (get_or table (2 + k) 0) b.ops in
      let n : 2 + suc k ≡ suc (2 + k) = omega arith in
      let rest : Enough (suc k) next bs = enough (suc k) next bs
      (λ i c there. (let e : k + suc i ≡ suc k + i = omega arith in
      subst (λ x. slice_get g.blocks x ≡ Some c) e (part (suc i) c there)))
      (knows_on k table b at knows) in
      let same : deepest u.graphs (2 + suc k) next bs ≡ deepest u.graphs (suc (2 + k)) next bs =
      ap (λ a. deepest u.graphs a next bs) n in
      let others : ℕ = deepest u.graphs (suc (2 + k)) next bs in
      let low : most ≤ depth_limit = subst (λ d. most_in d b.ops ≤ depth_limit) (sym known)
      (most_low (length u.globals) g.cells (dep (2 + k)) b.ops runs.after runs.room runs.operations) in
      let rest_low : others ≤ depth_limit = subst (λ x. x ≤ depth_limit) same rest.low in record {
        fits = fits known (λ i c there. subst (λ x. FitWithin x (dep (2 + (suc k + i))) c.ops) same (rest.fits i c there));
        low = max-le low rest_low;
      }
    where
      fits : get_or table (2 + k) 0 ≡ dep (2 + k)
          → ((i : ℕ) (c : Block) → slice_get bs i ≡ Some c
          → FitWithin (deepest u.graphs (suc (2 + k)) (with_depths (led_on (is_back b.end) b.end)
          (far u.graphs b.end (left (get_or table (2 + k) 0) b.ops)) table) bs) (dep (2 + (suc k + i))) c.ops)
          → (i : ℕ) (c : Block) → slice_get (b ∷ bs) i ≡ Some c
          → FitWithin (deepest u.graphs (2 + k) table (b ∷ bs)) (dep (2 + (k + i))) c.ops
      fits known more zero c there =
          let is : b ≡ c = same_Some b c there in
          let e : 2 + k ≡ 2 + (k + 0) = omega arith in
          let most : ℕ = most_in (get_or table (2 + k) 0) b.ops in
          let d : get_or table (2 + k) 0 ≡ dep (2 + (k + 0)) = known ∙ ap dep e in
          subst (λ (x : Block). FitWithin (deepest u.graphs (2 + k) table (b ∷ bs)) (dep (2 + (k + 0))) x.ops) is
          (fits_more most (deepest u.graphs (2 + k) table (b ∷ bs)) (dep (2 + (k + 0))) b.ops (le-max_left most _)
          (subst (λ n. FitWithin most n b.ops) d (fits_most (get_or table (2 + k) 0) b.ops)))
      fits known more (suc i) c there =
          let e : suc k + i ≡ k + suc i = omega arith in
          subst (λ x. FitWithin (deepest u.graphs (2 + k) table (b ∷ bs)) (dep (2 + x)) c.ops) e
          (fits_more _ (deepest u.graphs (2 + k) table (b ∷ bs)) (dep (2 + (suc k + i))) c.ops
          (le-max_right (most_in (get_or table (2 + k) 0) b.ops) _) (more i c there))

pub counted_enough : CountedDepthIsEnough
counted_enough u g orderly =
    let n : ℕ = 2 + length g.blocks in
    let table : List ℕ = replicate n 0 in
    let e : Enough u g orderly 0 table g.blocks = enough u g orderly 0 table g.blocks
    (λ i b at. (let z : i ≡ 0 + i = omega arith in subst (λ x. slice_get g.blocks x ≡ Some b) z at))
    (record {
      long = length-replicate n 0;
      first = λ z. (let some = orderly.made.some in
          get_or-replicate n 2 0 0 (omega (arith, some)) ∙ sym orderly.steady.first);
      each = λ j lt entered low. absurd (omega (arith, low));
    }) in
    record {
      enough = λ k b at. (let z : 0 + k ≡ k = omega arith in
          subst (λ x. FitWithin (graph_depth u.graphs g) (orderly.steady.depths (2 + x)) b.ops) z (e.fits k b at));
      low = e.low;
    }
