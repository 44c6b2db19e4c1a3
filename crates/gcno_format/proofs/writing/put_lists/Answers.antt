use Rattle.std.proofs.Common.{◌++◌, arith}
use Rattle.gcov_records.specs.Records.{spelled_from}
use Rattle.gcno_format.specs.Spelling.{lines_bytes}
use Rattle.gcno_format.proofs.PutLaws.{lists_done}
use Rattle.gcno_format.proofs.writing.put_lists.Goals as goal

pub returns : goal.returns
returns c =
    let t = c.loop-block-test.false in
    let v = c.blocks-block-end.ensures.value in
    lists_done c.args.net.now c.loop-block.block c.loop-block.out.items
    (c.args.out.now.items ++ spelled_from 0 lines_bytes c.args.net.now.lines) c.blocks-block-end.ensures.net
    (omega (arith, t, v)) c.loop-block.invariant
