-- A pruned graph within the limits is tidy.
use Rattle.std.proofs.Common.{◌≡◌, refl, sym, ap, subst, ◌∙◌, ℕ, zero, suc, ◌+◌, ◌-◌, ◌≤◌, ◌<◌, ◌||◌, ◌==◌, List}
use Rattle.std.proofs.Common.{[], ◌∷◌, length, Bool, true, false, cond, ◌⊎◌, inl, inr, arith, eq-eqb, eqb-true}
use Rattle.std.specs.Prelude.{map, Option, Some, None, slice_get, nat_lt}
use Rattle.std.specs.Option.{option_map}
use Rattle.std.specs.List.{All}
use Rattle.std.proofs.lemmas.Bool.{or_cases, or_left, or_right, cond-true, cond-false}
use Rattle.std.proofs.lemmas.Bool.{cases_lt, lt-ltb, ne_eqb}
use Rattle.std.proofs.lemmas.List.Elements.{All-nil, All-cons, All-head, All-tail}
use Rattle.cov_base.specs.Net.{ascends, IsNet}
use Rattle.cov_base.proofs.NetLaws.{option_or-None}
use Rattle.flow_graph.specs.Graph.{Ending, Block, Graph}
use Rattle.flow_graph.specs.Ascending.{inserted}
use Rattle.flow_graph.specs.Nets.{targets, among, reached, rank_from, new_number, renamed, kept_blocks, pruned_graph}
use Rattle.flow_graph.specs.Nets.{net_of}
use Rattle.fake_arcs.specs.declared.pruning.SizeFault.{SizeFault}
use Rattle.fake_arcs.specs.declared.pruning.SizeFault.TheVariants as fault
use Rattle.fake_arcs.specs.Size.{counted, above, graph_fault, graphs_fault}
use Rattle.fake_arcs.specs.Tidy.{Way, AimsBehind, IsWellMade, IsTidy}
use Rattle.fake_arcs.proofs.Reaching.{reached_two, reached_closed, reached_way, way_reached}
use Rattle.fake_arcs.proofs.Ranks.{with_numbers, kept_of, rank_low, rank_high, pruned_at, pruned_length, kept_same}
use Rattle.fake_arcs.proofs.Lockstep.{among_line, itself, number_two, number_inside}
use Rattle.fake_arcs.proofs.NetOf.{net_of_tidy}

slice_get_none : {X : Type 0} (xs : List X) (k : ℕ) → slice_get xs k ≡ None → length xs ≤ k
slice_get_none [] k e = omega arith
slice_get_none (x ∷ xs) zero e = absurd (let never : Some x ≡ None = e in cc)
slice_get_none (x ∷ xs) (suc k) e = (let h = slice_get_none xs k e in omega (arith, h))

-- ---- targets in new numbers

pub among_cases : (n b : ℕ) (ls : List ℕ) → among b (inserted n ls) ≡ true → ((b == n) ≡ true) ⊎ (among b ls ≡ true)
among_cases n b [] m = elim (or_cases (b == n) false m) [ inl e ↦ inl e | inr never ↦ absurd (cc) ]
among_cases n b (l ∷ ls) m = go (nat_lt n l) (n == l) (λ m. among_cases n b ls m) m
  where
    go : (x y : Bool) → (among b (inserted n ls) ≡ true → ((b == n) ≡ true) ⊎ (among b ls ≡ true))
        → among b (cond x (n ∷ l ∷ ls) (cond y (l ∷ ls) (l ∷ inserted n ls))) ≡ true → ((b == n) ≡ true)
        ⊎ ((b == l || among b ls) ≡ true)
    go true y rec m = or_cases (b == n) (b == l || among b ls) m
    go false true rec m = inr m
    go false false rec m = elim (or_cases (b == l) (among b (inserted n ls)) m) [
      | inl e ↦ inr (or_left _ _ e)
      | inr later ↦ elim (rec later) [ inl e ↦ inl e | inr l ↦ inr (or_right _ _ l) ]
    ]

-- a target in the new numbers is that of a target
abbrev From : (ℕ → ℕ) → Ending → ℕ → Type 0
From f e t = (s : ℕ) × (among s (targets e) ≡ true) × (t ≡ f s)

one_from : (f : ℕ → ℕ) (s t : ℕ) → among t (f s ∷ []) ≡ true → (r : ℕ) × (among r (s ∷ []) ≡ true) × (t ≡ f r)
one_from f s t m = elim (or_cases (t == f s) false m) [
  | inl e ↦ (s, itself s [], eqb-true t (f s) e)
  | inr never ↦
      absurd (cc)
]

target_from : (f : ℕ → ℕ) (e : Ending) (t : ℕ) → among t (targets (renamed f e)) ≡ true → From f e t
target_from f (Ending.Jump s) t m = one_from f s t m
target_from f (Ending.Back s) t m = one_from f s t m
target_from f (Ending.Branch a b) t m =
    elim (among_cases (f a) t (f b ∷ []) m) [
      | inl e ↦ (a, among_line a a (b ∷ []) (itself a (b ∷ [])), eqb-true t (f a) e)
      | inr l ↦ (let h = one_from f b t l in (h.0, among_line a h.0 (b ∷ []) (or_right _ _ h.1), h.2))
    ]
target_from f (Ending.Switch [] default) t m = one_from f default t m
target_from f (Ending.Switch (c ∷ cases) default) t m =
    elim (among_cases (f c.1) t (targets (Ending.Switch (map (λ c. (c.0, f c.1)) cases) (f default))) m) [
      | inl e ↦ (
        c.1,
        among_line c.1 c.1 (targets (Ending.Switch cases default))
            (itself c.1 (targets (Ending.Switch cases default))),
        eqb-true t (f c.1) e,
      )
      | inr l ↦ (let h = target_from f (Ending.Switch cases default) t l in
          (h.0, among_line c.1 h.0 (targets (Ending.Switch cases default)) (or_right _ _ h.1), h.2))
    ]
target_from f (Ending.Call g line next) t m = one_from f next t m
target_from f Ending.Return t m = absurd (cc)
target_from f Ending.Exit t m = absurd (cc)

one_to : (f : ℕ → ℕ) (s t : ℕ) → among t (s ∷ []) ≡ true → among (f t) (f s ∷ []) ≡ true
one_to f s t m = elim (or_cases (t == s) false m)
    [ inl e ↦ or_left _ _ (eq-eqb (f t) (f s) (ap f (eqb-true t s e))) | inr never ↦ absurd (cc) ]

target_to : (f : ℕ → ℕ) (e : Ending) (t : ℕ) → among t (targets e) ≡ true → among (f t) (targets (renamed f e)) ≡ true
target_to f (Ending.Jump s) t m = one_to f s t m
target_to f (Ending.Back s) t m = one_to f s t m
target_to f (Ending.Branch a b) t m =
    among_line (f a) (f t) (f b ∷ []) (elim (among_cases a t (b ∷ []) m) [
      | inl e ↦ or_left _ _ (eq-eqb (f t) (f a) (ap f (eqb-true t a e)))
      | inr l ↦ or_right _ _ (one_to f b t l)
    ])
target_to f (Ending.Switch [] default) t m = one_to f default t m
target_to f (Ending.Switch (c ∷ cases) default) t m =
    among_line (f c.1) (f t) (targets (Ending.Switch (map (λ c. (c.0, f c.1)) cases) (f default)))
    (elim (among_cases c.1 t (targets (Ending.Switch cases default)) m) [
      | inl e ↦ or_left _ _ (eq-eqb (f t) (f c.1) (ap f (eqb-true t c.1 e)))
      | inr l ↦ or_right _ _ (target_to f (Ending.Switch cases default) t l)
    ])
target_to f (Ending.Call g line next) t m = one_to f next t m
target_to f Ending.Return t m = absurd (cc)
target_to f Ending.Exit t m = absurd (cc)

-- ---- where a block of a pruned graph comes from

pub record Origin (kept : List ℕ) (r n : ℕ) (bs : List Block) (k : ℕ) (b : Block) : Type 0 where
  pub at : ℕ
  pub old : Block
  pub there : slice_get bs at ≡ Some old
  pub kept_there : among (n + at) kept ≡ true
  pub same : b ≡ with_numbers kept old
  pub rank : rank_from r (kept_of kept n bs) (n + at) ≡ r + k

pub origin : (kept : List ℕ) (r n : ℕ) (bs : List Block) (k : ℕ) (b : Block) → slice_get (kept_blocks kept n bs) k ≡ Some b
    → Origin kept r n bs k b
origin kept r n [] k b at = absurd (let never : None ≡ Some b = at in cc)
origin kept r n (x ∷ bs) k b at = go (among n kept) refl k at (λ s k. origin kept s (suc n) bs k b)
  where
    go : (c : Bool) → among n kept ≡ c → (k : ℕ)
        → slice_get (cond c (with_numbers kept x ∷ kept_blocks kept (suc n) bs) (kept_blocks kept (suc n) bs)) k
        ≡ Some b
        → ((s k : ℕ) → slice_get (kept_blocks kept (suc n) bs) k ≡ Some b → Origin kept s (suc n) bs k b)
        → Origin kept r n (x ∷ bs) k b
    go true e zero at rec = record {
      at = zero;
      old = x;
      there = refl;
      kept_there = subst (λ i. among i kept ≡ true) (omega arith) e;
      same = (let h : Some (with_numbers kept x) ≡ Some b = at in sym (cc));
      rank = ap (λ (c : Bool). rank_from r (cond c (n ∷ kept_of kept (suc n) bs) (kept_of kept (suc n) bs)) (n + 0)) e
          ∙ cond-true (n == n + 0) r (rank_from (suc r) (kept_of kept (suc n) bs) (n + 0))
          (eq-eqb n (n + 0) (omega arith)) ∙ omega arith;
    }
    go true e (suc k) at rec =
        let o = rec (suc r) k at in record {
          at = suc o.at;
          old = o.old;
          there = o.there;
          kept_there = subst (λ i. among i kept ≡ true) (omega arith) o.kept_there;
          same = o.same;
          rank = ap (λ (c : Bool). rank_from r (cond c (n ∷ kept_of kept (suc n) bs) (kept_of kept (suc n) bs))
              (n + suc o.at)) e
              ∙ cond-false (n == n + suc o.at) r (rank_from (suc r) (kept_of kept (suc n) bs) (n + suc o.at))
              (ne_eqb n (n + suc o.at) (λ h. omega (arith, h)))
              ∙ ap (rank_from (suc r) (kept_of kept (suc n) bs)) (omega arith) ∙ o.rank ∙ omega arith;
        }
    go false e k at rec =
        let o = rec r k at in record {
          at = suc o.at;
          old = o.old;
          there = o.there;
          kept_there = subst (λ i. among i kept ≡ true) (omega arith) o.kept_there;
          same = o.same;
          rank = ap (λ (c : Bool). rank_from r (cond c (n ∷ kept_of kept (suc n) bs) (kept_of kept (suc n) bs))
              (n + suc o.at)) e
              ∙ ap (rank_from r (kept_of kept (suc n) bs)) (omega arith) ∙ o.rank;
        }

-- ---- ways in new numbers

two_ranked : (blocks : List Block) → rank_from 2 (reached blocks) 2 ≡ 2
two_ranked blocks = number_two
    (Some (record { name = []; line = 0; params = 0; cells = 0; gives = true; blocks = blocks }))

way_pruned : (blocks : List Block) → AimsBehind blocks → (n b : ℕ) → Way blocks n b
    → Way (kept_blocks (reached blocks) 2 blocks) n (rank_from 2 (reached blocks) b)
way_pruned blocks aims zero b way = ap (rank_from 2 (reached blocks)) way ∙ two_ranked blocks
way_pruned blocks aims (suc n) b (a, k, block, way, same, at, t) =
    let kept = way_reached blocks (λ k t b at m. (let h = aims k t b at m in (omega (arith, h.0), h.1))) n a way in
    let low : 2 ≤ a = omega (arith, same) in
    let low_rank = rank_low 2 (reached blocks) a in (
      rank_from 2 (reached blocks) a,
      rank_from 2 (reached blocks) a - 2,
      with_numbers (reached blocks) block,
      way_pruned blocks aims n a way,
      omega (arith, low_rank),
      pruned_at blocks a low kept ∙ ap (option_map (with_numbers (reached blocks)))
          (ap (slice_get blocks) (omega (arith, same)) ∙ at),
      subst (λ i. among i (targets (renamed (new_number (reached blocks)) block.end)) ≡ true)
          (number_inside (reached blocks) b (let h = aims k b block at t in omega (arith, h.0)))
          (target_to (new_number (reached blocks)) block.end b t),
    )

-- ---- the whole

lines_kept : (kept : List ℕ) (n : ℕ) (bs : List Block) → All (λ b. ascends 0 b.lines ≡ true) bs
    → All (λ b. ascends 0 b.lines ≡ true) (kept_blocks kept n bs)
lines_kept kept n [] h = All-nil (λ b. ascends 0 b.lines ≡ true)
lines_kept kept n (x ∷ bs) h =
    go (among n kept) (lines_kept kept (suc n) bs (All-tail (λ b. ascends 0 b.lines ≡ true) x bs h))
  where
    go : (c : Bool) → All (λ b. ascends 0 b.lines ≡ true) (kept_blocks kept (suc n) bs)
        → All (λ b. ascends 0 b.lines ≡ true)
        (cond c (with_numbers kept x ∷ kept_blocks kept (suc n) bs) (kept_blocks kept (suc n) bs))
    go true r = All-cons (λ b. ascends 0 b.lines ≡ true) (with_numbers kept x) (kept_blocks kept (suc n) bs)
        (All-head (λ b. ascends 0 b.lines ≡ true) x bs h) r
    go false r = r

-- a rank of a kept block that isn't the first is above 2
rank_above : (blocks : List Block) → 0 < length blocks → (b : ℕ) → 2 < b → 2 < rank_from 2 (reached blocks) b
rank_above [] some b l = absurd (omega (arith, some))
rank_above (x ∷ bs) some b l =
    subst (λ l. 2 < rank_from 2 l b) (kept_same (x ∷ bs) some)
    (subst
    (λ (c : Bool). 2 < rank_from 2 (cond c (2 ∷ kept_of (reached (x ∷ bs)) 3 bs) (kept_of (reached (x ∷ bs)) 3 bs))
    b) (sym (reached_two (x ∷ bs)))
    (let e = cond-false (2 == b) 2 (rank_from 3 (kept_of (reached (x ∷ bs)) 3 bs) b)
    (ne_eqb 2 b (λ h. omega (arith, l, h))) in
    let low = rank_low 3 (kept_of (reached (x ∷ bs)) 3 bs) b in
    omega (arith, e, low)))

some_kept : (l : List ℕ) → among 2 l ≡ true → 0 < length l
some_kept [] m = absurd (cc)
some_kept (x ∷ l) m = omega arith

pub pruned_made : (g : Graph) → IsWellMade g → IsWellMade (pruned_graph g)
pruned_made g h = record {
  some = (let many = pruned_length g.blocks h.some in let some = some_kept (reached g.blocks) (reached_two g.blocks) in
      omega (arith, many, some));
  aims = λ k t b at m. aims t (origin (reached g.blocks) 2 2 g.blocks k b at) m;
  lines = lines_kept (reached g.blocks) 2 g.blocks h.lines;
}
  where
    aims : (t : ℕ) {k : ℕ} {b : Block} → Origin (reached g.blocks) 2 2 g.blocks k b → among t (targets b.end) ≡ true
        → (2 < t) × (t < 2 + length (kept_blocks (reached g.blocks) 2 g.blocks))
    aims t o m =
        let from = target_from (new_number (reached g.blocks)) o.old.end t
        (subst (λ (x : Block). among t (targets x.end) ≡ true) o.same m) in
        let inside = h.aims o.at from.0 o.old o.there from.1 in
        let kept = reached_closed g.blocks o.at from.0 o.old o.there o.kept_there from.1 (omega (arith, inside.0))
        inside.1 in
        let many = pruned_length g.blocks h.some in
        let high = rank_high 2 (reached g.blocks) from.0 kept in
        let above = rank_above g.blocks h.some from.0 inside.0 in
        let same = from.2 ∙ number_inside (reached g.blocks) from.0 (omega (arith, inside.0)) in
        (omega (arith, same, above), omega (arith, same, high, many))

-- A pruned graph within the limits is tidy.
pub pruned_tidy : (g : Graph) → IsWellMade g → 2 + length (pruned_graph g).blocks ≤ 512
    → length ((net_of (pruned_graph g)).arcs) ≤ 4096 → IsTidy (pruned_graph g)
pruned_tidy g h few arcs = record {
  made = pruned_made g h;
  few = few;
  arcs = arcs;
  ways = λ k l. way k (slice_get (kept_blocks (reached g.blocks) 2 g.blocks) k) refl l;
}
  where
    way : (k : ℕ) (o : Option Block) → slice_get (kept_blocks (reached g.blocks) 2 g.blocks) k ≡ o
        → k < length (kept_blocks (reached g.blocks) 2 g.blocks)
        → (n : ℕ) × Way (kept_blocks (reached g.blocks) 2 g.blocks) n (2 + k)
    way k None at l = absurd (omega (arith, l, slice_get_none (kept_blocks (reached g.blocks) 2 g.blocks) k at))
    way k (Some b) at l =
        let o = origin (reached g.blocks) 2 2 g.blocks k b at in
        let w = reached_way g.blocks (2 + o.at) o.kept_there in
        let rank : rank_from 2 (reached g.blocks) (2 + o.at) ≡ 2 + k =
        ap (λ l. rank_from 2 l (2 + o.at)) (sym (kept_same g.blocks h.some)) ∙ o.rank in (
          w.0,
          subst (Way (kept_blocks (reached g.blocks) 2 g.blocks) w.0) rank
              (way_pruned g.blocks h.aims w.0 (2 + o.at) w.1),
        )

-- The net of a pruned graph within the limits is a net.
pub net_of_pruned : (g : Graph) → IsWellMade g → 2 + length (pruned_graph g).blocks ≤ 512
    → length ((net_of (pruned_graph g)).arcs) ≤ 4096 → IsNet (net_of (pruned_graph g))
net_of_pruned g h few arcs = net_of_tidy (pruned_graph g) (pruned_tidy g h few arcs)

-- ---- pruned units

above_none : (limit n : ℕ) (told : ℕ → SizeFault) → above limit n told ≡ None → n ≤ limit
above_none limit n told e = elim (cases_lt limit n) [
  | inl over ↦ absurd (let never : Some (told (counted n)) ≡ None = sym (cond-true _ _ _ (lt-ltb limit n over))
      ∙ e in cc)
  | inr within ↦ within
]

-- The graphs of a pruned unit without a fault are tidy, where those of the unit are well made.
pub graphs_tidy : (f : ℕ) (gs : List Graph) → graphs_fault f gs ≡ None → All IsWellMade gs
    → All IsTidy (map pruned_graph gs)
graphs_tidy f [] none made = All-nil IsTidy
graphs_tidy f (g ∷ gs) none made =
    let each = option_or-None (graph_fault f g) (graphs_fault (suc f) gs) none in
    let both = option_or-None (above 512 (2 + length (pruned_graph g).blocks) (fault.TooManyBlocks f))
    (above 4096 (length ((net_of (pruned_graph g)).arcs)) (fault.TooManyArcs f)) each.0 in
    All-cons IsTidy (pruned_graph g) (map pruned_graph gs)
    (pruned_tidy g (All-head IsWellMade g gs made)
    (above_none 512 (2 + length (pruned_graph g).blocks) (fault.TooManyBlocks f) both.0)
    (above_none 4096 (length ((net_of (pruned_graph g)).arcs)) (fault.TooManyArcs f) both.1))
    (graphs_tidy (suc f) gs each.1 (All-tail IsWellMade g gs made))
