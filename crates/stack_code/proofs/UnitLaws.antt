-- The functions of a unit's code, one behind another.
use Rattle.std.proofs.Common.{◌≡◌, sym, ap, ap₂, ◌∙◌, ℕ, zero, suc, ◌+◌, ◌*◌, ◌<◌, ◌≤◌, Bool, List, [], ◌∷◌, ◌++◌}
use Rattle.std.proofs.Common.{length, drop, get_or, arith, append_assoc, append-nil}
use Rattle.std.proofs.lemmas.List.{drop_more, drop_all}
use Rattle.stack_ops.specs.Code.{FunctionValue}
use Rattle.std.proofs.lemmas.Bool.{ltb-false}
use Rattle.std.specs.Prelude.{nat_lt, None}
use Rattle.cov_base.proofs.NetLaws.{option_or-None, cond-None}
use Rattle.fake_arcs.specs.Size.{size_fault, graphs_fault, above}
use Rattle.fake_arcs.specs.declared.pruning.SizeFault.TheVariants as fault
use Rattle.flow_graph.specs.Graph.{Ending, Block, Graph, GraphUnit}
use Rattle.flow_graph.specs.Nets.{ending_size, blocks_size, graphs_size, net_of, size_of, pruned}
use Rattle.stack_code.specs.Modes.{ShapeValue, shape_of}
use Rattle.stack_code.specs.UnitCode.{function_code, functions_from}

-- each graph is no larger than all
pub graph_fits : (gs : List Graph) (d : Graph) (k : ℕ) → k < length gs
    → blocks_size ((get_or gs k d).blocks) + 8 * length ((net_of (get_or gs k d)).arcs) ≤ graphs_size gs
graph_fits [] d k lt = absurd (omega (arith, lt))
graph_fits (g ∷ gs) d zero lt = omega arith
graph_fits (g ∷ gs) d (suc k) lt = let rest = graph_fits gs d k (omega (arith, lt)) in omega (arith, rest)

-- a graph has no more blocks than its size, and no more operations
pub few_blocks : (bs : List Block) → length bs ≤ blocks_size bs
few_blocks [] = omega arith
few_blocks (b ∷ bs) = let rest = few_blocks bs in one b.end rest
  where
    one : (end : Ending) → length bs ≤ blocks_size bs → suc (length bs) ≤ length b.ops + ending_size end + blocks_size bs
    one (Ending.Jump t) h = omega (arith, h)
    one (Ending.Back t) h = omega (arith, h)
    one (Ending.Branch t f) h = omega (arith, h)
    one (Ending.Switch cases d) h = omega (arith, h)
    one (Ending.Call f line n) h = omega (arith, h)
    one Ending.Return h = omega (arith, h)
    one Ending.Exit h = omega (arith, h)

pub functions_step : (covered : Bool) (graphs : List Graph) (shapes : List ShapeValue) (gs : List Graph) (d : Graph)
    (k n : ℕ) (old new whole : List FunctionValue) → k < length gs → n ≡ suc k
    → new ≡ old ++ function_code graphs (get_or gs k d) (shape_of covered shapes k) ∷ []
    → old ++ functions_from covered graphs shapes k (drop k gs) ≡ whole
    → new ++ functions_from covered graphs shapes n (drop (k + 1) gs) ≡ whole
functions_step covered graphs shapes gs d k n old new whole l e h w =
    let f : FunctionValue = function_code graphs (get_or gs k d) (shape_of covered shapes k) in
    ap₂ (λ (x : List FunctionValue) (i : ℕ). x ++ functions_from covered graphs shapes i (drop (k + 1) gs)) h e
    ∙ append_assoc old (f ∷ []) (functions_from covered graphs shapes (suc k) (drop (k + 1) gs))
    ∙ ap (λ (rest : List Graph). old ++ functions_from covered graphs shapes k rest) (sym (drop_more gs k d l)) ∙ w

pub functions_end : (covered : Bool) (graphs : List Graph) (shapes : List ShapeValue) (gs : List Graph) (k : ℕ)
    (old whole : List FunctionValue) → length gs ≤ k
    → old ++ functions_from covered graphs shapes k (drop k gs) ≡ whole → old ≡ whole
functions_end covered graphs shapes gs k old whole l h =
    sym (append-nil old)
    ∙ ap (λ (rest : List Graph). old ++ functions_from covered graphs shapes k rest) (sym (drop_all k gs l)) ∙ h

-- a unit that is pruned without fault is within its limit
pub pruned_small : (u : GraphUnit) → size_fault u ≡ None → size_of (pruned u) ≤ 1048576
pruned_small u h =
    let both = option_or-None (graphs_fault 0 u.graphs) (above 1048576 (size_of (pruned u)) fault.UnitTooLarge) h in
    ltb-false 1048576 (size_of (pruned u)) (cond-None (nat_lt 1048576 (size_of (pruned u))) _ both.1)
