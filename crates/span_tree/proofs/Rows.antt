-- Trees of small nets.
use Rattle.std.proofs.Common.{◌≡◌, refl, ℕ, [], ◌∷◌, map}
use Rattle.std.specs.Prelude.{true, false, Some, None}
use Rattle.cov_base.specs.Net.{NetValue}
use Rattle.cov_base.specs.declared.net.ArcKind.TheVariants.{Real, CallExit}
use Rattle.cov_base.specs.declared.net.FlowArc.{FlowArc}
use Rattle.span_tree.specs.Tree.{arrivals, order_of, link_of, on_tree, off}

abbrev real : ℕ → ℕ → FlowArc
real a b = record { from = a; to = b; kind = Real }

-- a loop
abbrev loop : NetValue
loop = record {
  blocks = 6;
  arcs = real 0 2 ∷ real 2 3 ∷ real 3 4 ∷ real 3 5 ∷ real 4 3 ∷ real 5 1 ∷ [];
  lines = [] ∷ [] ∷ (1 ∷ 2 ∷ []) ∷ (3 ∷ []) ∷ (4 ∷ []) ∷ (5 ∷ []) ∷ [];
}

loop_order : order_of (arrivals loop) ≡ 1 ∷ 0 ∷ 5 ∷ 2 ∷ 3 ∷ 4 ∷ []
loop_order = refl

loop_tree : map (on_tree loop) (0 ∷ 1 ∷ 2 ∷ 3 ∷ 4 ∷ 5 ∷ []) ≡ true ∷ false ∷ true ∷ true ∷ false ∷ true ∷ []
loop_tree = refl

loop_off : off loop ≡ 1 ∷ 4 ∷ []
loop_off = refl

loop_links : map (link_of (arrivals loop)) (0 ∷ 1 ∷ 2 ∷ 3 ∷ 4 ∷ 5 ∷ []) ≡ None ∷ None ∷ Some 0 ∷ Some 3 ∷ Some 2 ∷ Some
    5 ∷ []
loop_links = refl

-- a call, and a return
abbrev calling : NetValue
calling = record {
  blocks = 4;
  arcs = real 0 2 ∷ record { from = 2; to = 1; kind = CallExit } ∷ real 2 3 ∷ real 3 1 ∷ [];
  lines = [] ∷ [] ∷ (1 ∷ []) ∷ (1 ∷ []) ∷ [];
}

calling_off : off calling ≡ 0 ∷ 2 ∷ []
calling_off = refl

calling_links : map (link_of (arrivals calling)) (0 ∷ 1 ∷ 2 ∷ 3 ∷ []) ≡ None ∷ None ∷ Some 1 ∷ Some 3 ∷ []
calling_links = refl

-- no way leads to the exit
abbrev endless : NetValue
endless = record { blocks = 4; arcs = real 0 2 ∷ real 2 3 ∷ real 3 3 ∷ []; lines = [] ∷ [] ∷ (1 ∷ []) ∷ (1 ∷ []) ∷ [] }

endless_order : order_of (arrivals endless) ≡ 1 ∷ 0 ∷ 2 ∷ 3 ∷ []
endless_order = refl
