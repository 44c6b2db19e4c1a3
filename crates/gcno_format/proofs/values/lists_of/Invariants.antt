use Rattle.std.proofs.Common.{◌≡◌, ◌++◌, ◌-◌, map}
use Rattle.gcno_format.specs.Values.{lists_from}
use Rattle.gcno_format.proofs.values.lists_of.Given as goal

abbrev pub invariant-loop-block : goal.invariant-loop-block
invariant-loop-block l =
    map (λ w. w.items) l.lists.items ++ lists_from l.block (l.blocks - l.block) l.records
    ≡ lists_from 0 l.blocks l.records
