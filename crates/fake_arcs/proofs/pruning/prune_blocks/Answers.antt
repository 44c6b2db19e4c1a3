use Rattle.std.proofs.Common.{arith}
use Rattle.fake_arcs.proofs.NewNumbers.{kept_of_marks, behind_pruned}
use Rattle.fake_arcs.proofs.pruning.prune_blocks.Goals as goal

pub of-requires : goal.of-requires
of-requires c = let e = behind_pruned c.args.blocks.now c.in_ok-marks.marks.items c.in_ok-marks.ensures in let r =
    c.requires in omega (arith, e, r)

pub returns : goal.returns
returns c = kept_of_marks c.args.blocks.now c.in_ok-kept.kept.items c.in_ok-marks.marks.items c.in_ok-numbers.numbers
    c.in_ok-kept.ensures c.in_ok-numbers.ensures c.in_ok-marks.ensures
