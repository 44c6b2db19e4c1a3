use Rattle.std.proofs.Common.{◌≡◌, ◌-◌, ◌++◌}
use Rattle.std.specs.List.{flat_map}
use Rattle.prime_paths.specs.Lister.{numbers, inner_blocks}
use Rattle.report_parts.specs.Functions.{block_line}
use Rattle.report_parts.proofs.functions.push_blocks.Given as goal

abbrev pub invariant-loop-block : goal.invariant-loop-block
invariant-loop-block l =
    l.out.items ++ flat_map (block_line l.function) (numbers l.block (l.function.net.blocks - l.block))
    ≡ l.initial.out.items ++ flat_map (block_line l.function) (inner_blocks l.function.net)
