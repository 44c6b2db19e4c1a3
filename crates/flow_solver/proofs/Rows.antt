-- The numbers of small nets.
use Rattle.std.proofs.Common.{◌≡◌, refl, ℕ, [], ◌∷◌, pos, negsuc}
use Rattle.std.specs.Prelude.{Some, None}
use Rattle.std.specs.List.{position}
use Rattle.cov_base.specs.Net.{NetValue}
use Rattle.cov_base.specs.declared.net.ArcKind.TheVariants.{Real, CallExit}
use Rattle.cov_base.specs.declared.net.FlowArc.{FlowArc}
use Rattle.flow_solver.specs.Circulation.{is_negative}
use Rattle.flow_solver.proofs.Solutions.{found}

abbrev real : ℕ → ℕ → FlowArc
real a b = record { from = a; to = b; kind = Real }

-- a call that may exit: the arc from it to the exit is on the tree
abbrev calling : NetValue
calling = record {
  blocks = 4;
  arcs = real 0 2 ∷ record { from = 2; to = 1; kind = CallExit } ∷ real 2 3 ∷ real 3 1 ∷ [];
  lines = [] ∷ [] ∷ (1 ∷ []) ∷ (1 ∷ []) ∷ [];
}

one_call_exits : found calling (2 ∷ 1 ∷ []) (pos 0 ∷ pos 0 ∷ pos 0 ∷ pos 0 ∷ []) ≡ pos 2 ∷ pos 1 ∷ pos 1 ∷ pos 1 ∷ []
one_call_exits = refl

more_return_than_were_called : found calling (1 ∷ 2 ∷ []) (pos 0 ∷ pos 0 ∷ pos 0 ∷ pos 0 ∷ [])
    ≡ pos 1 ∷ negsuc 0 ∷ pos 2 ∷ pos 2 ∷ []
more_return_than_were_called = refl

the_call_exit_is_negative : position is_negative (pos 1 ∷ negsuc 0 ∷ pos 2 ∷ pos 2 ∷ []) ≡ Some 1
the_call_exit_is_negative = refl

-- a loop that two turns go through
abbrev loop : NetValue
loop = record {
  blocks = 6;
  arcs = real 0 2 ∷ real 2 3 ∷ real 3 4 ∷ real 3 5 ∷ real 4 3 ∷ real 5 1 ∷ [];
  lines = [] ∷ [] ∷ (1 ∷ 2 ∷ []) ∷ (3 ∷ []) ∷ (4 ∷ []) ∷ (5 ∷ []) ∷ [];
}

two_turns : found loop (1 ∷ 2 ∷ []) (pos 0 ∷ pos 0 ∷ pos 0 ∷ pos 0 ∷ pos 0 ∷ pos 0 ∷ [])
    ≡ pos 1 ∷ pos 1 ∷ pos 2 ∷ pos 1 ∷ pos 2 ∷ pos 1 ∷ []
two_turns = refl

-- a loop that nothing leaves: what goes in stays, and the unwritten arc has the number -1
abbrev endless : NetValue
endless = record { blocks = 4; arcs = real 0 2 ∷ real 2 3 ∷ real 3 3 ∷ []; lines = [] ∷ [] ∷ (1 ∷ []) ∷ (1 ∷ []) ∷ [] }
