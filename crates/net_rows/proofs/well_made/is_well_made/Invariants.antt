use Rattle.std.proofs.Common.{◌≡◌, drop}
use Rattle.std.specs.List.{list_all}
use Rattle.net_rows.specs.WellMade.{graph_made}
use Rattle.net_rows.proofs.well_made.is_well_made.Given as goal

abbrev pub invariant-loop-graph : goal.invariant-loop-graph
invariant-loop-graph l =
    list_all graph_made (drop l.graph-index l.graph-items) ≡ list_all graph_made l.graph-items
