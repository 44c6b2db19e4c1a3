-- The code of a graph is no longer than the graph's size.
use Rattle.std.proofs.Common.{◌≡◌, refl, sym, ap, subst, ℕ, suc, ◌+◌, ◌*◌, ◌<◌, ◌≤◌, ◌==◌, Bool, true, false}
use Rattle.std.proofs.Common.{cond, List, [], ◌∷◌, ◌++◌, length, map, arith, length-append, eqb-true}
use Rattle.std.specs.Prelude.{ℤ, ◌||◌, nat_lt, Some, slice_get}
use Rattle.std.proofs.lemmas.Option.{same_Some}
use Rattle.std.proofs.lemmas.List.{length-map}
use Rattle.stack_ops.specs.declared.operation.Op.{Op}
use Rattle.stack_ops.specs.declared.operation.Op.TheVariants as op
use Rattle.c_tree.specs.Sound.{Each}
use Rattle.flow_graph.proofs.LineLaws.{ascends-with}
use Rattle.flow_graph.specs.Ascending.{inserted, Ascends}
use Rattle.flow_graph.specs.Graph.{Ending, Block, Graph}
use Rattle.flow_graph.specs.Nets.{targets, among, real, arcs_out, arcs_from, net_of, ending_size, blocks_size}
use Rattle.flow_graph.specs.Nets.{graphs_size}
use Rattle.stack_ops.specs.Code.{FunctionValue}
use Rattle.code_runs.specs.Counts.{sizes}
use Rattle.stack_code.specs.Checked.{IsCodeOf}
use Rattle.stack_code.specs.Laws.{AreShort, LaidCodeIsShort}
use Rattle.stack_code.specs.Laying.{is_bare, tail, stub, goals, stubs, branch, end_code}
use Rattle.stack_code.specs.Laying.{block_size, codes, starts, graph_code}
use Rattle.stack_code.proofs.Aims.{aims_of}
use Rattle.stack_code.proofs.Keeping.{goals_have}
use Rattle.stack_code.proofs.LaidLaws.{switch_size}
use Rattle.stack_code.proofs.LedBlocks.{goals_ascend, each_zip}

targets_ascend : (cases : List (ℤ × ℕ)) (d : ℕ) → Ascends (targets (Ending.Switch cases d))
targets_ascend [] d = (tt, tt)
targets_ascend (c ∷ cases) d = ascends-with c.1 (targets (Ending.Switch cases d)) (targets_ascend cases d)

behind_first : (y t : ℕ) (ys : List ℕ) → y < t → among t (y ∷ ys) ≡ true → among t ys ≡ true
behind_first y t ys lt h = by (t == y) refl h
  where
    by : (z : Bool) → (t == y) ≡ z → (z || among t ys) ≡ true → among t ys ≡ true
    by true is h = let e : t ≡ y = eqb-true t y is in absurd (omega (arith, e, lt))
    by false is h = h

-- numbers that ascend and are all among others that ascend are no more than these
pub no_more : (xs ys : List ℕ) → Ascends xs → Ascends ys → Each (λ x. among x ys ≡ true) xs → length xs ≤ length ys
no_more [] ys a b all = omega arith
no_more (x ∷ xs) [] a b all = absurd (cc)
no_more (x ∷ xs) (y ∷ ys) a b all = by (x == y) refl all.0
    (λ e. no_more xs ys a.1 b.1 (each_zip (λ t. x < t) (λ t. among t (y ∷ ys) ≡ true) (λ t. among t ys ≡ true)
    (λ t lt h. behind_first y t ys (omega (arith, lt, e)) h) xs a.0 all.1))
    (λ lt here. no_more (x ∷ xs) ys a b.1 (
      here,
      each_zip (λ t. x < t) (λ t. among t (y ∷ ys) ≡ true)
          (λ t. among t ys ≡ true) (λ t more h. behind_first y t ys (omega (arith, lt, more)) h) xs a.0 all.1,
    ))
  where
    above : (ys : List ℕ) → Each (λ t. y < t) ys → among x ys ≡ true → y < x
    above [] all h = absurd (cc)
    above (z ∷ zs) all h = go (x == z) refl h (above zs all.1)
      where
        go : (v : Bool) → (x == z) ≡ v → (v || among x zs) ≡ true → (among x zs ≡ true → y < x) → y < x
        go true is h later = let e : x ≡ z = eqb-true x z is in let lt : y < z = all.0 in omega (arith, e, lt)
        go false is h later = later h

    by : (v : Bool) → (x == y) ≡ v → (v || among x ys) ≡ true → (x ≡ y → length xs ≤ length ys)
        → (y < x → among x ys ≡ true → suc (length xs) ≤ length ys) → suc (length xs) ≤ suc (length ys)
    by true is h same more = let le : length xs ≤ length ys = same (eqb-true x y is) in omega (arith, le)
    by false is h same more =
        let le : suc (length xs) ≤ length ys = more (above ys b.0 h) h in omega (arith, le)

some_inserted : (n : ℕ) (ls : List ℕ) → 1 ≤ length (inserted n ls)
some_inserted n [] = omega arith
some_inserted n (l ∷ ls) = by (nat_lt n l) (n == l)
  where
    by : (x y : Bool) → 1 ≤ length (cond x (n ∷ l ∷ ls) (cond y (l ∷ ls) (l ∷ inserted n ls)))
    by true y = omega arith
    by false true = omega arith
    by false false = omega arith

some_targets : (cases : List (ℤ × ℕ)) (d : ℕ) → 1 ≤ length (targets (Ending.Switch cases d))
some_targets [] d = omega arith
some_targets (c ∷ cases) d = some_inserted c.1 (targets (Ending.Switch cases d))

few_goals : (cases : List (ℤ × ℕ)) (d : ℕ) → length (goals cases) ≤ length (targets (Ending.Switch cases d))
few_goals cases d =
    let ts : List ℕ = targets (Ending.Switch cases d) in
    no_more (goals cases) ts (goals_ascend cases) (targets_ascend cases d)
    (goals_have (λ t. among t ts ≡ true) cases d (aims_of (λ t. among t ts ≡ true) (Ending.Switch cases d) (λ t a. a)))

module _ (m : ℕ → ℕ → List Op) (short : AreShort m) where
  tail_short : (a next t place : ℕ) → length (tail next (m a t) t place) ≤ 4
  tail_short a next t place = by (t == next)
    where
      few : length (m a t) ≤ 3
      few = short a t

      by : (z : Bool) → length (m a t ++ cond z [] (op.Jump place ∷ [])) ≤ 4
      by true = let n = length-append (m a t) [] in omega (arith, n, few)
      by false = let n = length-append (m a t) (op.Jump place ∷ []) in omega (arith, n, few)

  stub_short : (ms : List Op) (place : ℕ) → length ms ≤ 3 → length (stub ms place) ≤ 4
  stub_short [] place few = omega arith
  stub_short (o ∷ os) place few = let n = length-append (o ∷ os) (op.Jump place ∷ []) in omega (arith, n, few)

  stubs_short : (a : ℕ) (s : ℕ → ℕ) (ts : List ℕ) → length (stubs (m a) s ts) ≤ 4 * length ts
  stubs_short a s [] = omega arith
  stubs_short a s (t ∷ ts) =
      let n = length-append (stub (m a t) (s t)) (stubs (m a) s ts) in
      let one : length (stub (m a t) (s t)) ≤ 4 = stub_short (m a t) (s t) (short a t) in
      let rest : length (stubs (m a) s ts) ≤ 4 * length ts = stubs_short a s ts in
      omega (arith, n, one, rest)

  branch_short : (z : Bool) (a next : ℕ) (s : ℕ → ℕ) (at t f : ℕ) → length (branch z (m a) next s at t f) ≤ 9
  branch_short true a next s at t f =
      let n : length (tail next (m a t) t (s t)) ≤ 4 = tail_short a next t (s t) in omega (arith, n)
  branch_short false a next s at t f =
      let first : List Op = m a t ++ op.Jump (s t) ∷ [] in
      let n = length-append first (tail next (m a f) f (s f)) in
      let i = length-append (m a t) (op.Jump (s t) ∷ []) in
      let few : length (m a t) ≤ 3 = short a t in
      let k : length (tail next (m a f) f (s f)) ≤ 4 = tail_short a next f (s f) in omega (arith, n, i, few, k)

  end_short : (a next : ℕ) (s : ℕ → ℕ) (at : ℕ) (end : Ending)
      → length (end_code (m a) next s at end) ≤ ending_size end + 8 * length (arcs_out a end)
  end_short a next s at (Ending.Jump t) =
      let n : length (tail next (m a t) t (s t)) ≤ 4 = tail_short a next t (s t) in omega (arith, n)
  end_short a next s at (Ending.Back t) =
      let n = length-append (m a t) (op.Back (s t) ∷ []) in let few : length (m a t) ≤ 3 = short a t in
      omega (arith, n, few)
  end_short a next s at (Ending.Branch t f) =
      let n : length (branch (is_bare (m a f)) (m a) next s at t f) ≤ 9 =
      branch_short (is_bare (m a f)) a next s at t f in
      let some : 1 ≤ length (inserted t (f ∷ [])) = some_inserted t (f ∷ []) in
      let k : length (map (real a) (inserted t (f ∷ []))) ≡ length (inserted t (f ∷ [])) =
      length-map (inserted t (f ∷ [])) (real a) in
      omega (arith, n, some, k)
  end_short a next s at (Ending.Switch cases d) =
      let n = switch_size (m a) s (at + length cases + 1 + (length (m a d) + 1)) cases d in
      let few : length (m a d) ≤ 3 = short a d in
      let stubs_few : length (stubs (m a) s (goals cases)) ≤ 4 * length (goals cases) = stubs_short a s (goals cases) in
      let some : 1 ≤ length (targets (Ending.Switch cases d)) = some_targets cases d in
      let less : length (goals cases) ≤ length (targets (Ending.Switch cases d)) = few_goals cases d in
      let k : length (map (real a) (targets (Ending.Switch cases d))) ≡ length (targets (Ending.Switch cases d)) =
      length-map (targets (Ending.Switch cases d)) (real a) in
      omega (arith, n, few, stubs_few, some, less, k)
  end_short a next s at (Ending.Call f line t) =
      let n : length (tail next (m a t) t (s t)) ≤ 4 = tail_short a next t (s t) in omega (arith, n)
  end_short a next s at Ending.Return = omega arith
  end_short a next s at Ending.Exit = omega arith

  codes_short : (s : ℕ → ℕ) (a p : ℕ) (bs : List Block)
      → length (codes m s a p bs) ≤ blocks_size bs + 8 * length (arcs_from a bs)
  codes_short s a p [] = omega arith
  codes_short s a p (b ∷ bs) =
      let end : List Op = end_code (m a) (suc a) s (p + length b.ops) b.end in
      let rest : List Op = codes m s (suc a) (p + block_size (m a) (suc a) b) bs in
      let i = length-append (b.ops ++ end) rest in
      let j = length-append b.ops end in
      let n : length end ≤ ending_size b.end + 8 * length (arcs_out a b.end) =
      end_short a (suc a) s (p + length b.ops) b.end in
      let k : length rest ≤ blocks_size bs + 8 * length (arcs_from (suc a) bs) =
      codes_short s (suc a) (p + block_size (m a) (suc a) b) bs in
      let l = length-append (arcs_out a b.end) (arcs_from (suc a) bs) in
      omega (arith, i, j, n, k, l)

  pub graph_short : (g : Graph) → length (graph_code m g) ≤ blocks_size g.blocks + 8 * length ((net_of g).arcs)
  graph_short g =
      let rest : List Op = codes m (starts m g) 2 (length (m 0 2)) g.blocks in
      let n = length-append (m 0 2) rest in
      let few : length (m 0 2) ≤ 3 = short 0 2 in
      let k : length rest ≤ blocks_size g.blocks + 8 * length (arcs_from 2 g.blocks) =
      codes_short (starts m g) 2 (length (m 0 2)) g.blocks in
      omega (arith, n, few, k)

-- the code of all functions is no longer than the unit's size
functions_short : (marks : ℕ → ℕ → ℕ → List Op) → ((i : ℕ) → AreShort (marks i)) → (n : ℕ) (gs : List Graph)
    (fs : List FunctionValue) → length fs ≡ length gs
    → ((i : ℕ) (g : Graph) → slice_get gs i ≡ Some g
    → (f : FunctionValue) × (slice_get fs i ≡ Some f) × IsCodeOf (marks (n + i)) g f)
    → sizes fs ≤ graphs_size gs
functions_short marks short n [] [] len are = omega arith
functions_short marks short n [] (f ∷ fs) len are = absurd (omega (arith, len))
functions_short marks short n (g ∷ gs) [] len are = absurd (omega (arith, len))
functions_short marks short n (g ∷ gs) (f ∷ fs) len are =
    let h = are 0 g refl in
    let same : h.0 ≡ f = sym (same_Some f h.0 h.1) in
    let is : IsCodeOf (marks (n + 0)) g f = subst (λ k. IsCodeOf (marks (n + 0)) g k) same h.2 in
    let size : length f.ops ≡ length (graph_code (marks (n + 0)) g) = ap length is.ops in
    let one : length (graph_code (marks (n + 0)) g) ≤ blocks_size g.blocks + 8 * length ((net_of g).arcs) =
    graph_short (marks (n + 0)) (short (n + 0)) g in
    let rest : sizes fs ≤ graphs_size gs =
    functions_short marks short (suc n) gs fs (omega (arith, len))
    (λ i k at. (let e : n + suc i ≡ suc n + i = omega arith in
    let m = are (suc i) k at in (m.0, m.1, subst (λ y. IsCodeOf (marks y) k m.0) e m.2))) in
    omega (arith, size, one, rest)

pub laid_short : LaidCodeIsShort
laid_short marks u c unit are =
    functions_short marks are.short 0 u.graphs c.functions unit.count
    (λ i g at. (let e : i ≡ 0 + i = omega arith in
    let m = unit.functions i g at in (m.0, m.1, subst (λ y. IsCodeOf (marks y) g m.0) e m.2)))
