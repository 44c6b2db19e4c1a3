-- The code of a graph keeps the rules of depths.
use Rattle.std.proofs.Common.{◌≡◌, refl, sym, ap, subst, ◌∙◌, ℕ, zero, suc, ◌+◌, ◌-◌, ◌<◌, ◌≤◌, ◌⊎◌, inl, inr}
use Rattle.std.proofs.Common.{Bool, true, false, cond, List, [], ◌∷◌, ◌++◌, length, replicate, Option, Some}
use Rattle.std.proofs.Common.{arith, length-append}
use Rattle.std.specs.Prelude.{ℤ, pos, slice_get}
use Rattle.std.proofs.lemmas.Option.{same_Some, slice_get_within}
use Rattle.std.proofs.lemmas.Bool.{cases_lt}
use Rattle.std.proofs.lemmas.List.{length-replicate}
use Rattle.stack_ops.specs.declared.operation.Op.{Op}
use Rattle.stack_ops.specs.declared.operation.Op.TheVariants as op
use Rattle.stack_ops.specs.Code.{FunctionValue, CodeValue}
use Rattle.stack_ops.specs.Shapes.{takes, gives, given_by}
use Rattle.code_runs.specs.Sound.{Suits, Typed}
use Rattle.flow_graph.specs.Graph.{Ending, Block, Graph, GraphUnit}
use Rattle.lower_agrees.specs.Agreement.{is_back}
use Rattle.operand_depths.specs.Depths.{Runs, Leaves, Leads, Finds, given}
use Rattle.stack_code.specs.Deepest.{left, far, called_far}
use Rattle.stack_code.specs.Emits.{Has}
use Rattle.stack_code.specs.Laying.{is_bare, tail, goals, stubs, end_code, block_code, starts, graph_code}
use Rattle.stack_code.specs.Orderly.{IsOrderly, FitWithin, IsDeepEnough}
use Rattle.stack_code.specs.Checked.{IsCodeOf, IsUnitCode, Marks}
use Rattle.stack_code.proofs.Aims.{Aims, aims_of}
use Rattle.stack_code.proofs.Every.{Every, every_join, every_at, every_graph}
use Rattle.stack_code.proofs.Keeping.{Level, level_first, level_moved, Ahead, marks_kept, tail_kept}
use Rattle.stack_code.proofs.Keeping.{tail_entry, tail_falls, switch_kept, branch_kept}
use Rattle.stack_code.proofs.LaidLaws.{next_stands, size_end, switch_size, start_end}
use Rattle.stack_code.proofs.Levels.{depths_of, near, end_size, levels, levels_long, Levels}
use Rattle.stack_code.proofs.Levels.{levels_of, some_end, through_next, begun, there_is, leads_aims, left_after}
use Rattle.stack_code.proofs.Levels.{aims_both, level_has}
use Rattle.stack_code.proofs.LightSteps.{light}
use Rattle.stack_code.proofs.Places.{has_within}
use Rattle.stack_code.proofs.Suiting.{Kept_at, light_kept, back_kept, call_kept, return_kept, exit_kept}

fits_first : (most d : ℕ) (os : List Op) → FitWithin most d os → d ≤ most
fits_first most d [] h = h
fits_first most d (o ∷ os) h = h.0

fits_left : (most d : ℕ) (os : List Op) → FitWithin most d os → left d os ≤ most
fits_left most d [] h = h
fits_left most d (o ∷ os) h = fits_left most (d - takes o + gives o) os h.1

given_same : (f : FunctionValue) (own : Bool) → f.gives ≡ own → given own ≡ given_by f
given_same f own e = rw e (by own)
  where
    by : (z : Bool) → given z ≡ cond z 1 0
    by true = refl
    by false = refl

module _ (u : GraphUnit) (g : Graph) (m : ℕ → ℕ → List Op) (o : IsOrderly u g) (marks : ℕ → ℕ → ℕ → List Op)
    (c : CodeValue) (unit : IsUnitCode marks u c) (f : FunctionValue) (is : IsCodeOf m g f)
    (marked : (a b : ℕ) → Marks f (m a b)) (deep : IsDeepEnough u g o.steady f.depth) where
  abbrev ds : List ℕ
  ds = levels u g o.steady m

  abbrev s : ℕ → ℕ
  s = starts m g

  abbrev dep : ℕ → ℕ
  dep = o.steady.depths

  abbrev K : ℕ → Op → Type 0
  K = Kept_at c f ds

  -- blocks begin one behind another
  mono : (i n : ℕ) → i + n ≤ length g.blocks → s (2 + i) ≤ s (2 + (i + n))
  mono i zero le = let e : 2 + i ≡ 2 + (i + 0) = omega arith in subst (λ x. s (2 + i) ≤ s x) e (omega arith)
  mono i (suc n) le =
      let b = there_is g.blocks (i + n) (omega (arith, le)) in
      let next = next_stands m g (i + n) b.0 b.1 in
      let before : s (2 + i) ≤ s (2 + (i + n)) = mono i n (omega (arith, le)) in
      let e : suc (2 + (i + n)) ≡ 2 + (i + suc n) = omega arith in
      subst (λ x. s (2 + i) ≤ s x) e (omega (arith, next, before))

  begins_at : (t : ℕ) → 2 < t → t < 2 + length g.blocks → (slice_get ds (s t) ≡ Some (dep t)) × (dep t ≤ f.depth)
  begins_at t low high =
      let b = there_is g.blocks (t - 2) (omega (arith, low, high)) in
      let e : 2 + (t - 2) ≡ t = omega (arith, low) in (
        subst (λ x. slice_get ds (s x) ≡ Some (dep x)) e
            (begun u g m o (length g.blocks) (t - 2) b.0 b.1 (omega arith)),
        subst (λ x. dep x ≤ f.depth) e (fits_first f.depth (dep (2 + (t - 2))) b.0.ops (deep (t - 2) b.0 b.1)),
      )

  record Target (k t : ℕ) : Type 0 where
    at : slice_get ds (s t) ≡ Some (dep t)
    low : dep t ≤ f.depth

  record Reached (k t : ℕ) : Type 0 where
    at : slice_get ds (s t) ≡ Some (dep t)
    over : s (suc (2 + k)) ≤ s t

  targets_begin : (k : ℕ) (b : Block) → slice_get g.blocks k ≡ Some b → Aims (Target k) b.end
  targets_begin k b at = aims_of (Target k) b.end (λ t a.
      (let h = o.made.aims k t b at a in let j = begins_at t h.0 h.1 in record { at = j.0; low = j.1 }))

  pub targets_ahead : (k : ℕ) (b : Block) → slice_get g.blocks k ≡ Some b → is_back b.end ≡ false
      → Aims (λ t. s (suc (2 + k)) ≤ s t) b.end
  targets_ahead k b at ahead = aims_of (λ t. s (suc (2 + k)) ≤ s t) b.end (λ t a.
      (let h = o.made.aims k t b at a in
      let up : 2 + k < t = (o.on k b at).up ahead t a in
      let e : 2 + suc k ≡ suc (2 + k) = omega arith in
      let i : 2 + (suc k + (t - 2 - suc k)) ≡ t = omega (arith, up) in
      subst (λ x. s x ≤ s t) e (subst (λ x. s (2 + suc k) ≤ s x) i
      (mono (suc k) (t - 2 - suc k) (omega (arith, up, h.1))))))

  targets_back : (k : ℕ) (b : Block) → slice_get g.blocks k ≡ Some b → is_back b.end ≡ true
      → Aims (λ t. s t ≤ s (2 + k)) b.end
  targets_back k b at back = aims_of (λ t. s t ≤ s (2 + k)) b.end (λ t a.
      (let h = o.made.aims k t b at a in
      let down : t ≤ 2 + k = (o.on k b at).back back t a in
      let lt : k < length g.blocks = slice_get_within g.blocks k b at in
      let e : 2 + (t - 2) ≡ t = omega (arith, h.0) in
      let i : 2 + (t - 2 + (2 + k - t)) ≡ 2 + k = omega (arith, down, h.0) in
      subst (λ x. s x ≤ s (2 + k)) e (subst (λ x. s (2 + (t - 2)) ≤ s x) i
      (mono (t - 2) (2 + k - t) (omega (arith, down, lt, h.0))))))

  -- the operations of a block
  next_at : (p d : ℕ) (os : List Op) → Has ds p (depths_of d os) → slice_get ds (p + length os) ≡ Some (left d os)
      → slice_get ds p ≡ Some d
  next_at p d [] h end = let e : p + 0 ≡ p = omega arith in subst (λ x. slice_get ds x ≡ Some d) e end
  next_at p d (o ∷ os) h end = h.0

  ops_kept : (os : List Op) (p d after : ℕ) → Has ds p (depths_of d os)
      → slice_get ds (p + length os) ≡ Some (left d os) → Leaves (length u.globals) g.cells d os after
      → FitWithin f.depth d os → Every (Kept_at c f ds) p os
  ops_kept [] p d after h end leaves fit = tt
  ops_kept (x ∷ os) p d after h end leaves fit =
      let finds : Finds (length u.globals) g.cells d x = leaves.0 in
      let locals : List ℤ = replicate f.cells (pos 0) in
      let outer : List ℤ = replicate (length c.globals) (pos 0) in
      let ll : length locals ≡ f.cells = length-replicate f.cells (pos 0) in
      let lo : length outer ≡ length c.globals = length-replicate (length c.globals) (pos 0) in
      let e : p + length (x ∷ os) ≡ suc p + length os = omega arith in
      let after_it : slice_get ds (suc p + length os) ≡ Some (left (d - takes x + gives x) os) =
      subst (λ y. slice_get ds y ≡ Some (left (d - takes x + gives x) os)) e end in (
        light_kept c f ds p x d
            (light c f x finds.step locals outer ll lo
            (finds.cells_are locals outer (ll ∙ is.cells) (lo ∙ ap length unit.globals)))
            finds.operands fit.0 (fits_first f.depth (d - takes x + gives x) os fit.1) h.0
            (next_at (suc p) (d - takes x + gives x) os h.1 after_it),
        ops_kept os (suc p) (d - takes x + gives x) after h.1 after_it leaves.1 fit.1,
      )

  -- the ending of a block, whose first instruction stands at q
  end_kept : (k q e : ℕ) (end : Ending) → e ≤ f.depth → slice_get ds q ≡ Some e → Level ds q (near end) e
      → Level ds (q + near end) (length (end_code (m (2 + k)) (suc (2 + k)) s q end) - near end) (far u.graphs end e)
      → q + length (end_code (m (2 + k)) (suc (2 + k)) s q end) ≡ s (suc (2 + k))
      → Leads u.graphs g.gives dep e end → Aims (Target k) end
      → (is_back end ≡ false → Aims (Ahead ds s (s (suc (2 + k))) (far u.graphs end e)) end)
      → (is_back end ≡ true → Aims (λ t. s t ≤ q) end)
      → Every (Kept_at c f ds) q (end_code (m (2 + k)) (suc (2 + k)) s q end)
  end_kept k q e (Ending.Jump t) low at here there size leads aims ahead back =
      let next : ℕ = suc (2 + k) in
      let a : Ahead ds s (s next) e t = ahead refl in let over : s next ≤ s t = a.ahead in
      let n : ℕ = length (tail next (m (2 + k) t) t (s t)) in
      tail_kept c f ds (m (2 + k)) s next (marked (2 + k)) t q e low
      (level_moved ds (q + 0) q (n - 0) n e (omega arith) (omega arith) there) a.at
      (λ same. tail_falls c f ds (m (2 + k)) s next (marked (2 + k)) t q same size) (omega (arith, size, over))
  end_kept k q e (Ending.Back t) low at here there size leads aims ahead back =
      let ms : List Op = m (2 + k) t in
      let n : length (ms ++ op.Back (s t) ∷ []) ≡ length ms + 1 = length-append ms (op.Back (s t) ∷ []) in
      let level : Level ds q (suc (length ms)) e =
      level_moved ds (q + 0) q (length (ms ++ op.Back (s t) ∷ []) - 0) (suc (length ms)) e (omega arith)
      (omega (arith, n)) there in
      let down : s t ≤ q = back refl in let to : dep t ≡ e = leads in
      every_join (Kept_at c f ds) q ms (op.Back (s t) ∷ [])
      (marks_kept c f ds (m (2 + k)) s (suc (2 + k)) (marked (2 + k)) ms q e (marked (2 + k) t) low level) (
        back_kept c f ds (q + length ms) (s t) e (omega (arith, down)) low (level (length ms) (omega arith))
            (aims.at ∙ ap Some to),
        tt,
      )
  end_kept k q e (Ending.Branch t x) low at here there size leads aims ahead back =
      let z : Bool = is_bare (m (2 + k) x) in
      let a = ahead refl in
      let one : q + 1 ≡ suc q = omega arith in
      branch_kept c f ds (m (2 + k)) s (suc (2 + k)) (marked (2 + k)) z t x q e (s (suc (2 + k))) low leads.0 a.0 a.1
      refl at (level_moved ds (q + 1) (suc q) _ _ (e - 1) one refl there) size refl
  end_kept k q e (Ending.Switch cases t) low at here there size leads aims ahead back =
      let ms : ℕ → List Op = m (2 + k) in
      let n = switch_size ms s (q + length cases + 1 + (length (ms t) + 1)) cases t in
      switch_kept c f ds ms s (suc (2 + k)) (marked (2 + k)) cases t q e (s (suc (2 + k))) low leads.0 (ahead refl) here
      (level_moved ds (q + (length cases + 1)) (q + length cases + 1) _
      (length (ms t) + 1 + length (stubs ms s (goals cases)))
      (e - 1) (omega arith) (omega (arith, n)) there) (omega (arith, size, n))
  end_kept k q e (Ending.Call x line t) low at here there size leads aims ahead back =
      let ms : ℕ → List Op = m (2 + k) in let next : ℕ = suc (2 + k) in
      let h : Graph = leads.0 in
      let fn = unit.functions x h leads.1 in
      let r : FunctionValue = fn.0 in
      let pe : r.params ≡ h.params = fn.2.params in
      let ge : given h.gives ≡ given_by r = given_same r h.gives fn.2.gives in
      let d : ℕ = far u.graphs (Ending.Call x line t) e in
      let de : d ≡ e - h.params + given h.gives = ap (λ (y : Option Graph). called_far y e) leads.1 in
      let dt : dep t ≡ e - h.params + given h.gives = leads.3 in
      let a : Ahead ds s (s next) d t = ahead refl in let over : s next ≤ s t = a.ahead in
      let low_t : dep t ≤ f.depth = aims.low in
      let low_d : d ≤ f.depth = omega (arith, low_t, dt, de) in
      let n : ℕ = length (tail next (ms t) t (s t)) in
      let one : q + 1 ≡ suc q = omega arith in
      let level : Level ds (suc q) n d = level_moved ds (q + 1) (suc q) (suc n - 1) n d one (omega arith) there in
      let falls : t ≡ next → suc q + length (ms t) ≡ s t =
      (λ same. tail_falls c f ds ms s next (marked (2 + k)) t (suc q) same (omega (arith, size))) in
      let on : slice_get ds (suc q) ≡ Some d =
      tail_entry c f ds ms s next (marked (2 + k)) t (suc q) d level a.at falls in
      let same : d ≡ e - r.params + given_by r = omega (arith, de, pe, ge) in
      let enough : h.params ≤ e = leads.2 in (
        call_kept c f ds q x line e r fn.1 (omega (arith, pe, enough)) low (omega (arith, same, low_d))
            (slice_get_within c.functions x r fn.1) at (on ∙ ap Some same),
        tail_kept c f ds ms s next (marked (2 + k)) t (suc q) d low_d level a.at falls (omega (arith, size, over)),
      )
  end_kept k q e Ending.Return low at here there size leads aims ahead back =
      (return_kept c f ds q e (leads ∙ given_same f g.gives is.gives) low at, tt)
  end_kept k q e Ending.Exit low at here there size leads aims ahead back = (exit_kept c f ds q e leads low at, tt)

  block_kept : (k : ℕ) (b : Block) → slice_get g.blocks k ≡ Some b
      → Every (Kept_at c f ds) (s (2 + k)) (block_code (m (2 + k)) (suc (2 + k)) s (s (2 + k)) b)
  block_kept k b at =
      let l : Levels u g m o k b = levels_of u g m o k b at in
      let runs : Runs u g dep (dep (2 + k)) b = o.steady.blocks k b at in
      let p : ℕ = s (2 + k) in
      let q : ℕ = p + length b.ops in
      let e : ℕ = left (dep (2 + k)) b.ops in
      let fit : FitWithin f.depth (dep (2 + k)) b.ops = deep k b at in
      let after : e ≡ runs.after =
      left_after (length u.globals) g.cells (dep (2 + k)) b.ops runs.after runs.operations in
      let size : length (end_code (m (2 + k)) (suc (2 + k)) s q b.end) ≡ end_size m (2 + k) b =
      size_end (m (2 + k)) (suc (2 + k)) s (λ x. 0) q (0 + length b.ops) b.end in
      let first : slice_get ds q ≡ Some e = end_at k b at l in
      let next = l.next in
      let leads : Leads u.graphs g.gives dep e b.end =
      subst (λ n. Leads u.graphs g.gives dep n b.end) (sym after) runs.ending in
      let begin : Aims (Target k) b.end = targets_begin k b at in
      every_join (Kept_at c f ds) p b.ops (end_code (m (2 + k)) (suc (2 + k)) s q b.end)
      (ops_kept b.ops p (dep (2 + k)) runs.after l.ops first runs.operations fit)
      (end_kept k q e b.end (fits_left f.depth (dep (2 + k)) b.ops fit) first l.here
      (level_moved ds (q + near b.end) (q + near b.end) (end_size m (2 + k) b - near b.end)
      (length (end_code (m (2 + k)) (suc (2 + k)) s q b.end) - near b.end) (far u.graphs b.end e) refl
      (omega (arith, size)) l.there)
      (omega (arith, next, size)) leads begin
      (λ ahead. aims_both (λ t. dep t ≡ far u.graphs b.end e) (Reached k)
      (Ahead ds s (s (suc (2 + k))) (far u.graphs b.end e))
      (λ t x y. record { at = y.at ∙ ap Some x; ahead = y.over }) b.end (leads_aims u.graphs g.gives dep e b.end leads)
      (aims_both (Target k) (λ t. s (suc (2 + k)) ≤ s t) (Reached k) (λ t x y. record { at = x.at; over = y }) b.end
      begin (targets_ahead k b at ahead)))
      (λ back. aims_both (λ t. s t ≤ s (2 + k)) (λ t. s t ≤ s (2 + k)) (λ t. s t ≤ q)
      (λ t x y. omega (arith, x)) b.end (targets_back k b at back) (targets_back k b at back)))
    where
      end_at : (k : ℕ) (b : Block) → slice_get g.blocks k ≡ Some b → Levels u g m o k b
          → slice_get ds (s (2 + k) + length b.ops) ≡ Some (left (dep (2 + k)) b.ops)
      end_at k b at l = by (end_size m (2 + k) b) refl
        where
          by : (n : ℕ) → end_size m (2 + k) b ≡ n
              → slice_get ds (s (2 + k) + length b.ops) ≡ Some (left (dep (2 + k)) b.ops)
          by (suc n) is = some_end u g m o k b l (omega (arith, is))
          by zero is =
              let next = l.next in
              let place : s (suc (2 + k)) ≡ s (2 + k) + length b.ops = omega (arith, next, is) in
              subst (λ x. slice_get ds x ≡ Some (left (dep (2 + k)) b.ops)) place
              (through_next u g m o k b at is (λ c there. (let e : 2 + suc k ≡ suc (2 + k) = omega arith in
              subst (λ y. slice_get ds (s y) ≡ Some (dep y)) e
              (begun u g m o (length g.blocks) (suc k) c there (omega arith)))))

  first_level : Level ds 0 (suc (length (m 0 2))) 0
  first_level =
      let n : ℕ = length (m 0 2) in
      let rest : Level ds 0 n 0 = level_has ds 0 n 0 (has_within [] (replicate n 0) _) in
      let b = there_is g.blocks 0 o.made.some in
      let two : slice_get ds (s 2) ≡ Some 0 =
      begun u g m o (length g.blocks) 0 b.0 b.1 (omega arith) ∙ ap Some o.steady.first in
      let place : s 2 ≡ 0 + n = start_end m 2 n g.blocks ∙ omega arith in
      by n rest (subst (λ x. slice_get ds x ≡ Some 0) place two)
    where
      by : (n : ℕ) → Level ds 0 n 0 → slice_get ds (0 + n) ≡ Some 0 → Level ds 0 (suc n) 0
      by n h end i lt = go (cases_lt i n)
        where
          go : (i < n) ⊎ (n ≤ i) → slice_get ds (0 + i) ≡ Some 0
          go (inl less) = h i less
          go (inr le) = let e : n ≡ i = omega (arith, le, lt) in subst (λ x. slice_get ds (0 + x) ≡ Some 0) e end

  all_kept : Every (Kept_at c f ds) 0 (graph_code m g)
  all_kept = every_graph (Kept_at c f ds) m g
      (marks_kept c f ds (m 0) s 2 (marked 0) (m 0 2) 0 0 (marked 0 2) (omega arith) first_level) block_kept

  kept_op : (i : ℕ) (x : Op) → slice_get f.ops i ≡ Some x → Kept_at c f ds i x
  kept_op i x at =
      let e : 0 + i ≡ i = omega arith in
      subst (λ n. Kept_at c f ds n x) e (every_at (Kept_at c f ds) 0 (graph_code m g) i x all_kept
      (ap (λ (l : List Op). slice_get l i) (sym is.ops) ∙ at))

  -- Each instruction has one number of operands, with which it keeps the rules.
  pub typed : Typed c f (levels u g o.steady m)
  typed = record {
    start = level_first ds 0 (suc (length (m 0 2))) 0 (omega arith) first_level;
    size = long;
    within = λ i d at. (let lt : i < length ds = slice_get_within ds i d at in
        let x = there_is f.ops i (omega (arith, lt, long)) in
        let k : Kept_at c f ds i x.0 = kept_op i x.0 x.1 in
        let low : k.depth ≤ f.depth = k.within in
        let same : k.depth ≡ d = same_Some k.depth d (sym k.at ∙ at) in omega (arith, low, same));
    each = λ i x d there at. (let k : Kept_at c f ds i x = kept_op i x there in
        subst (λ n. Suits c f ds i x n) (same_Some k.depth d (sym k.at ∙ at)) k.suits);
  }
    where
      long : length ds ≡ length f.ops
      long = levels_long u g m o ∙ ap length (sym is.ops)
