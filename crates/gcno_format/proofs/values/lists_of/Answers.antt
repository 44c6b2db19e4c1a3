use Rattle.std.proofs.Common.{ℕ, Vec, Global, map}
use Rattle.gcno_format.specs.Values.{lists_from}
use Rattle.gcno_format.proofs.FunctionLaws.{lists_more, map_more}
use Rattle.gcno_format.proofs.values.lists_of.Goals as goal

pub loop-block-preserved : goal.loop-block-preserved
loop-block-preserved c =
    rw c.in_ok-push.ensures.items
    (rw (map_more (λ (v : Vec ℕ Global). v.items) c.loop-block.lists.items c.in_ok-lines_of.field-0)
    (lists_more c.args.records.now c.loop-block.block c.args.blocks
    (map (λ (v : Vec ℕ Global). v.items) c.loop-block.lists.items) (lists_from 0 c.args.blocks c.args.records.now)
    c.in_ok-lines_of.field-0.items c.loop-block-test.true c.in_ok-lines_of.ensures c.loop-block.invariant))
