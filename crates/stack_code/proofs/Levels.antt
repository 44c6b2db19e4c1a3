-- The operands at each instruction of a graph's code.
use Rattle.std.proofs.Common.{◌≡◌, refl, sym, ap, subst, ◌∙◌, ℕ, zero, suc, ◌+◌, ◌-◌, ◌<◌, ◌≤◌, ◌==◌}
use Rattle.std.proofs.Common.{Bool, true, false, cond, List, [], ◌∷◌, ◌++◌, length, replicate, Option, Some}
use Rattle.std.proofs.Common.{arith, length-append, eqb-true}
use Rattle.std.specs.Prelude.{ℤ, slice_get}
use Rattle.std.proofs.lemmas.Option.{slice_get_within}
use Rattle.std.proofs.lemmas.List.{length-replicate}
use Rattle.stack_ops.specs.declared.operation.Op.{Op}
use Rattle.stack_ops.specs.declared.operation.Op.TheVariants as op
use Rattle.stack_ops.specs.Shapes.{takes, gives}
use Rattle.c_tree.specs.Sound.{Each}
use Rattle.flow_graph.specs.Graph.{Ending, Block, Graph, GraphUnit}
use Rattle.flow_graph.specs.Nets.{targets, among}
use Rattle.fake_arcs.proofs.Lockstep.{itself}
use Rattle.operand_depths.specs.Depths.{Steady, Runs, Leaves, Leads}
use Rattle.stack_code.specs.Deepest.{left, far, called_far}
use Rattle.stack_code.specs.Emits.{Has}
use Rattle.stack_code.specs.Laying.{is_bare, branch, end_code, block_size, starts}
use Rattle.stack_code.specs.Laying.{graph_code}
use Rattle.stack_code.specs.Orderly.{IsOrderly}
use Rattle.stack_code.proofs.Aims.{Aims}
use Rattle.stack_code.proofs.Keeping.{Level, level_first}
use Rattle.stack_code.proofs.LaidLaws.{joined, AreLong, pieces_stand, next_stands, size_block, switch_size}
use Rattle.stack_code.proofs.LaidLaws.{code_piece, codes_joined}
use Rattle.stack_code.proofs.Places.{has_join}

-- the operands at each of some operations
abbrev pub depths_of : ℕ → List Op → List ℕ
depths_of d [] = []
depths_of d (o ∷ os) = d ∷ depths_of (d - takes o + gives o) os

-- how many instructions of an ending have as many operands as the first
abbrev pub near : Ending → ℕ
near (Ending.Jump t) = 0
near (Ending.Back t) = 0
near (Ending.Branch t f) = 1
near (Ending.Switch cases t) = length cases + 1
near (Ending.Call f line t) = 1
near Ending.Return = 1
near Ending.Exit = 1

-- how long the code of an ending is
abbrev pub end_size : (ℕ → ℕ → List Op) → ℕ → Block → ℕ
end_size m a b = length (end_code (m a) (suc a) (λ x. 0) (0 + length b.ops) b.end)

abbrev pub depth_piece : List Graph → (ℕ → ℕ) → (ℕ → ℕ → List Op) → ℕ → ℕ → Block → List ℕ
depth_piece gs dep m a p b = depths_of (dep a) b.ops
    ++ (replicate (near b.end) (left (dep a) b.ops)
    ++ replicate (end_size m a b - near b.end) (far gs b.end (left (dep a) b.ops)))

long_depths : (d : ℕ) (os : List Op) → length (depths_of d os) ≡ length os
long_depths d [] = refl
long_depths d (o ∷ os) = ap suc (long_depths (d - takes o + gives o) os)

branch_some : (z : Bool) (m : ℕ → List Op) (next : ℕ) (s : ℕ → ℕ) (at t f : ℕ)
    → 1 ≤ length (branch z m next s at t f)
branch_some true m next s at t f = omega arith
branch_some false m next s at t f = omega arith

pub near_fits : (m : ℕ → List Op) (next : ℕ) (s : ℕ → ℕ) (at : ℕ) (end : Ending)
    → near end ≤ length (end_code m next s at end)
near_fits m next s at (Ending.Jump t) = omega arith
near_fits m next s at (Ending.Back t) = omega arith
near_fits m next s at (Ending.Branch t f) = branch_some (is_bare (m f)) m next s at t f
near_fits m next s at (Ending.Switch cases t) =
    let n = switch_size m s (at + length cases + 1 + (length (m t) + 1)) cases t in omega (arith, n)
near_fits m next s at (Ending.Call f line t) = omega arith
near_fits m next s at Ending.Return = omega arith
near_fits m next s at Ending.Exit = omega arith

long_piece : (gs : List Graph) (dep : ℕ → ℕ) (m : ℕ → ℕ → List Op) → AreLong (depth_piece gs dep m) m
long_piece gs dep m a p b =
    let e : ℕ = left (dep a) b.ops in
    let x : List ℕ = replicate (near b.end) e in
    let y : List ℕ = replicate (end_size m a b - near b.end) (far gs b.end e) in
    let one : length (depths_of (dep a) b.ops ++ (x ++ y)) ≡ length (depths_of (dep a) b.ops) + length (x ++ y) =
    length-append (depths_of (dep a) b.ops) (x ++ y) in
    let two : length (x ++ y) ≡ length x + length y = length-append x y in
    let lx : length x ≡ near b.end = length-replicate (near b.end) e in
    let ly : length y ≡ end_size m a b - near b.end = length-replicate (end_size m a b - near b.end) (far gs b.end e) in
    let lo : length (depths_of (dep a) b.ops) ≡ length b.ops = long_depths (dep a) b.ops in
    let all : block_size (m a) (suc a) b ≡ length b.ops + end_size m a b =
    length-append b.ops (end_code (m a) (suc a) (λ x. 0) (0 + length b.ops) b.end) in
    let fits : near b.end ≤ end_size m a b = near_fits (m a) (suc a) (λ x. 0) (0 + length b.ops) b.end in
    omega (arith, one, two, lx, ly, lo, all, fits)

same_long : {A B : Type 0} (p : ℕ → ℕ → Block → List A) (q : ℕ → ℕ → Block → List B) (m : ℕ → ℕ → List Op)
    → AreLong p m → AreLong q m → (a n : ℕ) (bs : List Block)
    → length (joined p m a n bs) ≡ length (joined q m a n bs)
same_long p q m lp lq a n [] = refl
same_long p q m lp lq a n (b ∷ bs) =
    let r : ℕ = n + block_size (m a) (suc a) b in
    let x = length-append (p a n b) (joined p m (suc a) r bs) in
    let y = length-append (q a n b) (joined q m (suc a) r bs) in
    let i = lp a n b in let j = lq a n b in let k = same_long p q m lp lq (suc a) r bs in
    omega (arith, x, y, i, j, k)

pub level_has : (ds : List ℕ) (at n d : ℕ) → Has ds at (replicate n d) → Level ds at n d
level_has ds at zero d h i lt = absurd (omega (arith, lt))
level_has ds at (suc n) d h zero lt = let e : at ≡ at + 0 = omega arith in subst (λ x. slice_get ds x ≡ Some d) e h.0
level_has ds at (suc n) d h (suc i) lt =
    let e : suc at + i ≡ at + suc i = omega arith in
    subst (λ x. slice_get ds x ≡ Some d) e (level_has ds (suc at) n d h.1 i (omega (arith, lt)))

pub left_after : (globals cells d : ℕ) (os : List Op) (after : ℕ) → Leaves globals cells d os after → left d os ≡ after
left_after globals cells d [] after h = h
left_after globals cells d (o ∷ os) after h = left_after globals cells (d - takes o + gives o) os after h.1

pub there_is : {A : Type 0} (xs : List A) (k : ℕ) → k < length xs → (x : A) × (slice_get xs k ≡ Some x)
there_is [] k lt = absurd (omega (arith, lt))
there_is (x ∷ xs) zero lt = (x, refl)
there_is (x ∷ xs) (suc k) lt = there_is xs k (omega (arith, lt))

-- each target has what an ending leaves
pub leads_aims : (gs : List Graph) (own : Bool) (dep : ℕ → ℕ) (e : ℕ) (end : Ending) → Leads gs own dep e end
    → Aims (λ t. dep t ≡ far gs end e) end
leads_aims gs own dep e (Ending.Jump t) h = h
leads_aims gs own dep e (Ending.Back t) h = h
leads_aims gs own dep e (Ending.Branch t f) h = (h.1, h.2)
leads_aims gs own dep e (Ending.Switch cases t) h = by cases h.1
  where
    by : (cases : List (ℤ × ℕ)) → Each (λ c. dep c.1 ≡ e - 1) cases → Aims (λ t. dep t ≡ e - 1) (Ending.Switch cases t)
    by [] all = h.2
    by (c ∷ cases) all = (all.0, by cases all.1)
leads_aims gs own dep e (Ending.Call f line t) h =
    h.3 ∙ ap (λ (o : Option Graph). called_far o e) (sym h.1)
leads_aims gs own dep e Ending.Return h = tt
leads_aims gs own dep e Ending.Exit h = tt

pub aims_both : (P Q R : ℕ → Type 0) → ((t : ℕ) → P t → Q t → R t) → (end : Ending) → Aims P end → Aims Q end
    → Aims R end
aims_both P Q R k (Ending.Jump t) p q = k t p q
aims_both P Q R k (Ending.Back t) p q = k t p q
aims_both P Q R k (Ending.Branch t f) p q = (k t p.0 q.0, k f p.1 q.1)
aims_both P Q R k (Ending.Switch [] t) p q = k t p q
aims_both P Q R k (Ending.Switch (c ∷ cases) t) p q = (k c.1 p.0 q.0, aims_both P Q R k (Ending.Switch cases t) p.1 q.1)
aims_both P Q R k (Ending.Call f line t) p q = k t p q
aims_both P Q R k Ending.Return p q = tt
aims_both P Q R k Ending.Exit p q = tt

-- the operands of a graph's code
abbrev pub levels : (u : GraphUnit) (g : Graph) → Steady u g → (ℕ → ℕ → List Op) → List ℕ
levels u g s m = replicate (length (m 0 2)) 0
    ++ joined (depth_piece u.graphs s.depths m) m 2 (length (m 0 2)) g.blocks

module _ (u : GraphUnit) (g : Graph) (m : ℕ → ℕ → List Op) (o : IsOrderly u g) where
  abbrev ds : List ℕ
  ds = levels u g o.steady m

  pub levels_long : length (levels u g o.steady m) ≡ length (graph_code m g)
  levels_long =
      let s : ℕ → ℕ = starts m g in
      let p : ℕ → ℕ → Block → List ℕ = depth_piece u.graphs o.steady.depths m in
      let x = length-append (replicate (length (m 0 2)) 0) (joined p m 2 (length (m 0 2)) g.blocks) in
      let y : length (graph_code m g) ≡ length (m 0 2) + length
      (joined (code_piece m s) m 2 (length (m 0 2)) g.blocks) =
      ap (λ (l : List Op). length (m 0 2 ++ l)) (codes_joined m s 2 (length (m 0 2)) g.blocks)
      ∙ length-append (m 0 2) (joined (code_piece m s) m 2 (length (m 0 2)) g.blocks) in
      let z = length-replicate {A = ℕ} (length (m 0 2)) 0 in
      let k = same_long p (code_piece m s) m (long_piece u.graphs o.steady.depths m)
      (λ a p b. size_block (m a) (suc a) s p b) 2 (length (m 0 2)) g.blocks in
      omega (arith, x, y, z, k)

  -- the operands of a block
  pub record Levels (k : ℕ) (b : Block) : Type 0 where
    pub ops : Has (levels u g o.steady m) (starts m g (2 + k)) (depths_of (o.steady.depths (2 + k)) b.ops)
    pub here : Level (levels u g o.steady m) (starts m g (2 + k) + length b.ops) (near b.end)
        (left (o.steady.depths (2 + k)) b.ops)
    pub there : Level (levels u g o.steady m) (starts m g (2 + k) + length b.ops + near b.end)
        (end_size m (2 + k) b - near b.end) (far u.graphs b.end (left (o.steady.depths (2 + k)) b.ops))
    pub next : starts m g (2 + k) + length b.ops + end_size m (2 + k) b ≡ starts m g (suc (2 + k))

  pub levels_of : (k : ℕ) (b : Block) → slice_get g.blocks k ≡ Some b → Levels k b
  levels_of k b at =
      let dep : ℕ → ℕ = o.steady.depths in
      let e : ℕ = left (dep (2 + k)) b.ops in
      let p : ℕ = starts m g (2 + k) in
      let x : List ℕ = replicate (near b.end) e in
      let y : List ℕ = replicate (end_size m (2 + k) b - near b.end) (far u.graphs b.end e) in
      let first : Has ds p (depth_piece u.graphs dep m (2 + k) p b) =
      pieces_stand (depth_piece u.graphs dep m) m (long_piece u.graphs dep m) (starts m g) 2 (length (m 0 2)) g.blocks
      ds (replicate (length (m 0 2)) 0) refl (length-replicate (length (m 0 2)) 0) (λ x le. refl) k b at in
      let one = has_join ds p (depths_of (dep (2 + k)) b.ops) (x ++ y) first in
      let lo : length (depths_of (dep (2 + k)) b.ops) ≡ length b.ops = long_depths (dep (2 + k)) b.ops in
      let two = has_join ds (p + length b.ops) x y (subst (λ n. Has ds (p + n) (x ++ y)) lo one.1) in
      let lx : length x ≡ near b.end = length-replicate (near b.end) e in
      let all : block_size (m (2 + k)) (suc (2 + k)) b ≡ length b.ops + end_size m (2 + k) b =
      length-append b.ops (end_code (m (2 + k)) (suc (2 + k)) (λ x. 0) (0 + length b.ops) b.end) in
      let after = next_stands m g k b at in record {
        ops = one.0;
        here = level_has ds (p + length b.ops) (near b.end) e two.0;
        there = level_has ds (p + length b.ops + near b.end) (end_size m (2 + k) b - near b.end) (far u.graphs b.end e)
            (subst (λ n. Has ds (p + length b.ops + n) y) lx two.1);
        next = omega (arith, after, all);
      }

  -- where an ending has instructions, the first has what the operations leave
  pub some_end : (k : ℕ) (b : Block) → Levels k b → 0 < end_size m (2 + k) b
      → slice_get ds (starts m g (2 + k) + length b.ops) ≡ Some (left (o.steady.depths (2 + k)) b.ops)
  some_end k b l some = by b.end l.here l.there some
    where
      e : ℕ
      e = left (o.steady.depths (2 + k)) b.ops

      q : ℕ
      q = starts m g (2 + k) + length b.ops

      place : q ≡ q + 0
      place = omega arith

      by : (end : Ending) → Level ds q (near end) e
          → Level ds (q + near end) (length (end_code (m (2 + k)) (suc (2 + k)) (λ x. 0) (0 + length b.ops) end) - near
          end)
          (far u.graphs end e)
          → 0 < length (end_code (m (2 + k)) (suc (2 + k)) (λ x. 0) (0 + length b.ops) end) → slice_get ds q ≡ Some e
      by (Ending.Jump t) h r lt = subst (λ x. slice_get ds x ≡ Some e) (sym place)
          (level_first ds (q + 0) _ e (omega (arith, lt)) r)
      by (Ending.Back t) h r lt = subst (λ x. slice_get ds x ≡ Some e) (sym place)
          (level_first ds (q + 0) _ e (omega (arith, lt)) r)
      by (Ending.Branch t f) h r lt = level_first ds q 1 e (omega arith) h
      by (Ending.Switch cases t) h r lt = level_first ds q (length cases + 1) e (omega arith) h
      by (Ending.Call f line t) h r lt = level_first ds q 1 e (omega arith) h
      by Ending.Return h r lt = level_first ds q 1 e (omega arith) h
      by Ending.Exit h r lt = level_first ds q 1 e (omega arith) h

  -- where an ending has none, it goes on to the next block
  record Through (k : ℕ) (end : Ending) : Type 0 where
    same : end ≡ Ending.Jump (suc (2 + k))

  none_end : (k : ℕ) (n : ℕ) (end : Ending)
      → length (end_code (m (2 + k)) (suc (2 + k)) (λ x. 0) n end) ≡ 0 → Through k end
  none_end k n (Ending.Jump t) z = by (t == suc (2 + k)) refl z
    where
      by : (y : Bool) → (t == suc (2 + k)) ≡ y → length (m (2 + k) t ++ cond y [] (op.Jump 0 ∷ [])) ≡ 0
          → Through k (Ending.Jump t)
      by true is z = record { same = ap Ending.Jump (eqb-true t (suc (2 + k)) is) }
      by false is z = let j = length-append (m (2 + k) t) (op.Jump 0 ∷ []) in absurd (omega (arith, z, j))
  none_end k n (Ending.Back t) z =
      let j = length-append (m (2 + k) t) (op.Back 0 ∷ []) in absurd (omega (arith, z, j))
  none_end k n (Ending.Branch t f) z =
      let j = near_fits (m (2 + k)) (suc (2 + k)) (λ x. 0) n (Ending.Branch t f) in absurd (omega (arith, z, j))
  none_end k n (Ending.Switch cases t) z =
      let j = near_fits (m (2 + k)) (suc (2 + k)) (λ x. 0) n (Ending.Switch cases t) in absurd (omega (arith, z, j))
  none_end k n (Ending.Call f line t) z = absurd (omega (arith, z))
  none_end k n Ending.Return z = absurd (omega (arith, z))
  none_end k n Ending.Exit z = absurd (omega (arith, z))

  -- what the block behind has, where an ending has none
  pub through_next : (k : ℕ) (b : Block) → slice_get g.blocks k ≡ Some b → end_size m (2 + k) b ≡ 0
      → ((c : Block) → slice_get g.blocks (suc k) ≡ Some c
      → slice_get (levels u g o.steady m) (starts m g (suc (2 + k))) ≡ Some (o.steady.depths (suc (2 + k))))
      → slice_get (levels u g o.steady m) (starts m g (suc (2 + k))) ≡ Some (left (o.steady.depths (2 + k)) b.ops)
  through_next k b at is later =
      let dep : ℕ → ℕ = o.steady.depths in
      let runs : Runs u g dep (dep (2 + k)) b = o.steady.blocks k b at in
      let t : Through k b.end = none_end k (0 + length b.ops) b.end is in
      let aim : dep (suc (2 + k)) ≡ left (dep (2 + k)) b.ops =
      subst (λ end. Aims (λ t. dep t ≡ far u.graphs end runs.after) end) t.same
      (leads_aims u.graphs g.gives dep runs.after b.end runs.ending)
      ∙ sym (left_after (length u.globals) g.cells (dep (2 + k)) b.ops runs.after runs.operations) in
      let there = o.made.aims k (suc (2 + k)) b at
      (subst (λ end. among (suc (2 + k)) (targets end) ≡ true) (sym t.same) (itself (suc (2 + k)) [])) in
      let lt : suc k < length g.blocks = omega (arith, there.1) in
      let next = there_is g.blocks (suc k) lt in
      later next.0 next.1 ∙ ap Some aim

  -- each block begins with its operands
  pub begun : (n k : ℕ) (b : Block) → slice_get g.blocks k ≡ Some b → length g.blocks ≤ k + n
      → slice_get (levels u g o.steady m) (starts m g (2 + k)) ≡ Some (o.steady.depths (2 + k))
  begun zero k b at le = let lt : k < length g.blocks = slice_get_within g.blocks k b at in
      absurd (omega (arith, lt, le))
  begun (suc n) k b at le =
      by b.ops refl (λ c is. (let x : 2 + suc k ≡ suc (2 + k) = omega arith in
      subst (λ y. slice_get (levels u g o.steady m) (starts m g y) ≡ Some (o.steady.depths y)) x
      (begun n (suc k) c is (omega (arith, le)))))
    where
      Later : Type 0
      Later = (c : Block) → slice_get g.blocks (suc k) ≡ Some c
          → slice_get ds (starts m g (suc (2 + k))) ≡ Some (o.steady.depths (suc (2 + k)))

      dep : ℕ → ℕ
      dep = o.steady.depths

      l : Levels k b
      l = levels_of k b at

      e : ℕ
      e = left (dep (2 + k)) b.ops

      p : ℕ
      p = starts m g (2 + k)

      on : (size : ℕ) → end_size m (2 + k) b ≡ size → b.ops ≡ [] → Later → slice_get ds p ≡ Some (dep (2 + k))
      on (suc size) is bare later =
          let some : 0 < end_size m (2 + k) b = omega (arith, is) in
          let len : length b.ops ≡ 0 = ap length bare in
          let place : p + length b.ops ≡ p = omega (arith, len) in
          subst (λ x. slice_get ds x ≡ Some (dep (2 + k))) place
          (some_end k b l some ∙ ap (λ os. Some (left (dep (2 + k)) os)) bare)
      on zero is bare later =
          let len : length b.ops ≡ 0 = ap length bare in
          let next = l.next in
          let place : starts m g (suc (2 + k)) ≡ p = omega (arith, next, len, is) in
          subst (λ x. slice_get ds x ≡ Some (dep (2 + k))) place
          (through_next k b at is later ∙ ap (λ os. Some (left (dep (2 + k)) os)) bare)

      by : (os : List Op) → b.ops ≡ os → Later → slice_get ds p ≡ Some (dep (2 + k))
      by [] is later = on (end_size m (2 + k) b) refl is later
      by (x ∷ os) is later = (subst (λ os. Has ds p (depths_of (dep (2 + k)) os)) is l.ops).0
