-- What stands on an arc, as the program tells it, and the order in which arcs stand.
use Rattle.std.specs.Prelude.{ℕ, ◌++◌, ◌==◌, ◌&&◌, ◌||◌, nat_lt, Bool, List}
use Rattle.std.specs.Option.{option_to_list}
use Rattle.cov_base.specs.declared.net.FlowArc.{FlowArc}
use Rattle.stack_ops.specs.declared.operation.Op.{Op}
use Rattle.stack_code.specs.declared.on_arc.OnArc.{OnArc}

-- the operations in order
abbrev pub ops_on : OnArc → List Op
ops_on on = option_to_list on.counts ++ option_to_list on.traces

-- an arc stands before where one from this block to that one has its place
abbrev pub is_before : ℕ → ℕ → FlowArc → Bool
is_before from to arc = nat_lt arc.from from || ((arc.from == from) && nat_lt arc.to to)
