-- Counts of the kept blocks.
use Rattle.std.proofs.Common.{◌≡◌, refl, sym, ap, ◌∙◌, ℕ, zero, suc, ◌+◌, ◌*◌, ◌≤◌, ◌<◌, List, [], ◌∷◌}
use Rattle.std.proofs.Common.{◌++◌, length, get_or, Bool, true, false, cond, min, arith, length-append}
use Rattle.std.proofs.Common.{drop_of_length-le}
use Rattle.std.specs.Prelude.{nat_lt, drop, slice_get, Option, Some, None}
use Rattle.std.specs.Option.{option_or}
use Rattle.std.proofs.lemmas.Bool.{cond-true, cond-false, le-ltb, lt-ltb}
use Rattle.std.proofs.lemmas.List.{length-map}
use Rattle.flow_graph.specs.Graph.{Ending, Block, Graph}
use Rattle.flow_graph.specs.Nets.{targets, real, arcs_out, arcs_from, blocks_size, reached, kept_blocks}
use Rattle.flow_graph.specs.Nets.{pruned_graph, net_of}
use Rattle.fake_arcs.specs.declared.pruning.SizeFault.{SizeFault}
use Rattle.fake_arcs.specs.declared.pruning.SizeFault.TheVariants as fault
use Rattle.fake_arcs.specs.Size.{counted, graph_fault}
use Rattle.fake_arcs.specs.Counts.{arcs_count, arcs_in}
use Rattle.fake_arcs.specs.Numbers.{number_behind, number_by, kept_by, kept_here}
use Rattle.fake_arcs.specs.Marking.{AreReached}
use Rattle.fake_arcs.proofs.NewNumbers.{kept_by_marks, behind_pruned}

kept_more : (f : ℕ → ℕ) (k : ℕ) (marks : List Bool) (blocks : List Block) → k < length marks
    → length marks ≡ length blocks
    → kept_by f (drop k marks) (drop k blocks) ≡ kept_here f (get_or marks k false) (slice_get blocks k) ++ kept_by f
    (drop (suc k) marks) (drop (suc k) blocks)
kept_more f k [] bs l long = absurd (omega (arith, l))
kept_more f k (m ∷ marks) [] l long = absurd (omega (arith, long))
kept_more f zero (true ∷ marks) (b ∷ bs) l long = refl
kept_more f zero (false ∷ marks) (b ∷ bs) l long = refl
kept_more f (suc k) (m ∷ marks) (b ∷ bs) l long = kept_more f k marks bs (omega (arith, l)) (omega (arith, long))

pub arcs_append : (xs ys : List Block) → arcs_in (xs ++ ys) ≡ arcs_in xs + arcs_in ys
arcs_append [] ys = omega arith
arcs_append (x ∷ xs) ys = (let h = arcs_append xs ys in omega (arith, h))

pub size_append : (xs ys : List Block) → blocks_size (xs ++ ys) ≡ blocks_size xs + blocks_size ys
size_append [] ys = omega arith
size_append (x ∷ xs) ys = (let h = size_append xs ys in omega (arith, h))

pub sum_step : (F : List Block → ℕ) → ((xs ys : List Block) → F (xs ++ ys) ≡ F xs + F ys)
    → (f : ℕ → ℕ) (marks : List Bool) (blocks : List Block) (k a h r all : ℕ) → k < length blocks
    → length marks ≡ length blocks
    → h ≡ counted (F (kept_here f (get_or marks k false) (slice_get blocks k))) → r ≡ min (a + h) 18446744073709551615
    → counted (a + F (kept_by f (drop k marks) (drop k blocks))) ≡ all
    → counted (r + F (kept_by f (drop (k + 1) marks) (drop (k + 1) blocks))) ≡ all
sum_step F append f marks blocks k a h r all l long eh er e =
    let next : k + 1 ≡ suc k = omega arith in
    let here = F (kept_here f (get_or marks k false) (slice_get blocks k)) in
    let rest = F (kept_by f (drop (k + 1) marks) (drop (k + 1) blocks)) in
    let split : F (kept_by f (drop k marks) (drop k blocks))
    ≡ F (kept_here f (get_or marks k false) (slice_get blocks k)) + F
    (kept_by f (drop (k + 1) marks) (drop (k + 1) blocks)) =
    ap F (kept_more f k marks blocks (omega (arith, l, long)) long) ∙ append _ _
    ∙ ap (λ i. F (kept_here f (get_or marks k false) (slice_get blocks k)) + F
    (kept_by f (drop i marks) (drop i blocks))) (sym next) in
    let sums = saturates a h r (F (kept_here f (get_or marks k false) (slice_get blocks k)))
    (F (kept_by f (drop (k + 1) marks) (drop (k + 1) blocks))) eh er in
    sums ∙ ap (λ n. counted (a + n)) (sym split) ∙ e
  where
    saturates : (a h r here rest : ℕ) → h ≡ counted here → r ≡ min (a + h) 18446744073709551615
        → counted (r + rest) ≡ counted (a + (here + rest))
    saturates a h r here rest eh er = omega (arith, eh, er)

pub sum_end : (F : List Block → ℕ) → F [] ≡ 0 → (f : ℕ → ℕ) (marks : List Bool) (blocks : List Block) (k a all : ℕ)
    → length blocks ≤ k → length marks ≡ length blocks → a ≤ 18446744073709551615
    → counted (a + F (kept_by f (drop k marks) (drop k blocks))) ≡ all → a ≡ all
sum_end F none f marks blocks k a all l long small e =
    let gone : drop k marks ≡ [] = drop_of_length-le marks {i = k} (omega (arith, l, long)) in
    let zero_left : F (kept_by f (drop k marks) (drop k blocks)) ≡ 0 =
    ap (λ (m : List Bool). F (kept_by f m (drop k blocks))) gone ∙ none in
    omega (arith, small, zero_left, e)

-- ---- one graph

out_count : (n : ℕ) (e : Ending) → length (arcs_out n e) ≡ arcs_count e
out_count n (Ending.Jump t) = refl
out_count n (Ending.Back t) = refl
out_count n (Ending.Branch t f) = length-map (targets (Ending.Branch t f)) (real n)
    ∙ sym (length-map (targets (Ending.Branch t f)) (real 0))
out_count n (Ending.Switch cases d) = length-map (targets (Ending.Switch cases d)) (real n)
    ∙ sym (length-map (targets (Ending.Switch cases d)) (real 0))
out_count n (Ending.Call f line next) = refl
out_count n Ending.Return = refl
out_count n Ending.Exit = refl

from_count : (n : ℕ) (bs : List Block) → length (arcs_from n bs) ≡ arcs_in bs
from_count n [] = refl
from_count n (b ∷ bs) = (let a = length-append (arcs_out n b.end) (arcs_from (suc n) bs) in let o =
    out_count n b.end in let r = from_count (suc n) bs in omega (arith, a, o, r))

pub too_many_blocks : (f : ℕ) (g : Graph) (marks : List Bool) (count n : ℕ) → AreReached g.blocks marks
    → 2 + count ≡ number_behind 2 marks → n ≡ min (count + 2) 18446744073709551615 → 512 < n
    → graph_fault f g ≡ Some (fault.TooManyBlocks f n)
too_many_blocks f g marks count n h c e l =
    let many = behind_pruned g.blocks marks h in
    let same : n ≡ counted (2 + length (pruned_graph g).blocks) = omega (arith, many, c, e) in
    let above : 512 < 2 + length (pruned_graph g).blocks = omega (arith, many, c, e, l) in
    ap
    (λ (o : Option SizeFault). option_or o
    (cond (nat_lt 4096 (length ((net_of (pruned_graph g)).arcs)))
    (Some (fault.TooManyArcs f (counted (length ((net_of (pruned_graph g)).arcs))))) None))
    (cond-true _ _ _ (lt-ltb 512 (2 + length (pruned_graph g).blocks) above))
    ∙ ap (λ k. Some (fault.TooManyBlocks f k)) (sym same)

kept_arcs : (g : Graph) (marks : List Bool) → AreReached g.blocks marks → length ((net_of (pruned_graph g)).arcs)
    ≡ suc (arcs_in (kept_by (number_by marks) marks g.blocks))
kept_arcs g marks h = ap suc (from_count 2 (kept_blocks (reached g.blocks) 2 g.blocks)
    ∙ ap arcs_in (sym (kept_by_marks g.blocks marks h)))

few_blocks : (f : ℕ) (g : Graph) → 2 + length (pruned_graph g).blocks ≤ 512
    → graph_fault f g ≡ cond (nat_lt 4096 (length ((net_of (pruned_graph g)).arcs)))
    (Some (fault.TooManyArcs f (counted (length ((net_of (pruned_graph g)).arcs))))) None
few_blocks f g l =
    ap
    (λ (o : Option SizeFault). option_or o
    (cond (nat_lt 4096 (length ((net_of (pruned_graph g)).arcs)))
    (Some (fault.TooManyArcs f (counted (length ((net_of (pruned_graph g)).arcs))))) None))
    (cond-false _ _ _ (le-ltb 512 (2 + length (pruned_graph g).blocks) l))

pub too_many_arcs : (f : ℕ) (g : Graph) (marks : List Bool) (count arcs n : ℕ) → AreReached g.blocks marks
    → 2 + count ≡ number_behind 2 marks → min (count + 2) 18446744073709551615 ≤ 512
    → arcs ≡ counted (arcs_in (kept_by (number_by marks) marks g.blocks)) → n ≡ min (arcs + 1) 18446744073709551615
    → 4096 < n → graph_fault f g ≡ Some (fault.TooManyArcs f n)
too_many_arcs f g marks count arcs n h c few a e l =
    let many = behind_pruned g.blocks marks h in
    let all = kept_arcs g marks h in
    let same : n ≡ counted (length ((net_of (pruned_graph g)).arcs)) = omega (arith, all, a, e) in
    few_blocks f g (omega (arith, many, c, few))
    ∙ cond-true _ _ _ (lt-ltb 4096 (length ((net_of (pruned_graph g)).arcs)) (omega (arith, all, a, e, l)))
    ∙ ap (λ k. Some (fault.TooManyArcs f k)) (sym same)

pub measured : (f : ℕ) (g : Graph) (marks : List Bool) (count arcs n size all : ℕ) → AreReached g.blocks marks
    → 2 + count ≡ number_behind 2 marks → min (count + 2) 18446744073709551615 ≤ 512
    → arcs ≡ counted (arcs_in (kept_by (number_by marks) marks g.blocks)) → n ≡ min (arcs + 1) 18446744073709551615
    → n ≤ 4096
    → size ≡ counted (blocks_size (kept_by (number_by marks) marks g.blocks))
    → all ≡ min (size + 8 * n) 18446744073709551615
    → (graph_fault f g ≡ None)
    × (all ≡ counted (blocks_size (pruned_graph g).blocks + 8 * length ((net_of (pruned_graph g)).arcs)))
measured f g marks count arcs n size all h c few a e l s t =
    let many = behind_pruned g.blocks marks h in
    let every = kept_arcs g marks h in
    let kept : blocks_size (pruned_graph g).blocks ≡ blocks_size (kept_by (number_by marks) marks g.blocks) =
    ap blocks_size (sym (kept_by_marks g.blocks marks h)) in (
      few_blocks f g (omega (arith, many, c, few))
          ∙ cond-false _ _ _ (le-ltb 4096 (length ((net_of (pruned_graph g)).arcs)) (omega (arith, every, a, e, l))),
      omega (arith, every, kept, a, e, l, s, t),
    )
