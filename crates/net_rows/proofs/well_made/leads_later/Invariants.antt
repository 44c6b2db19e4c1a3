use Rattle.std.proofs.Common.{◌≡◌, drop}
use Rattle.std.specs.List.{list_all}
use Rattle.net_rows.specs.WellMade.{is_later}
use Rattle.net_rows.proofs.well_made.leads_later.Given as goal

abbrev pub invariant-loop-target : goal.invariant-loop-target
invariant-loop-target l =
    list_all (is_later l.count) (drop l.target-index l.target-items) ≡ list_all (is_later l.count) l.target-items
