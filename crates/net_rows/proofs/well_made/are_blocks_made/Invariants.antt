use Rattle.std.proofs.Common.{◌≡◌, drop}
use Rattle.std.specs.List.{list_all}
use Rattle.net_rows.specs.WellMade.{block_made}
use Rattle.net_rows.proofs.well_made.are_blocks_made.Given as goal

abbrev pub invariant-loop-block : goal.invariant-loop-block
invariant-loop-block l =
    list_all (block_made l.count) (drop l.block-index l.blocks) ≡ list_all (block_made l.count) l.blocks
