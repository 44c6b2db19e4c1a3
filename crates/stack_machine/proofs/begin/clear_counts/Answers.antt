use Rattle.std.proofs.Common.{◌<◌, List, length, add-one}
use Rattle.stack_machine.specs.Counts.{CountsValue}
use Rattle.stack_machine.proofs.BeginLaws.{cleared-more}
use Rattle.stack_machine.proofs.begin.clear_counts.Goals as goal

pub loop-i-preserved : goal.loop-i-preserved
loop-i-preserved c =
    let xs : List CountsValue = c.args.counts.now in
    let lt : c.loop-i.i < length xs = c.loop-i-test.true in
    rw (c.clear.ensures, c.loop-i.invariant, add-one) (cleared-more xs c.loop-i.i c.index-counts-i.result lt)
