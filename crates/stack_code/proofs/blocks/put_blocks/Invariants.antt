use Rattle.std.proofs.Common.{◌≡◌, ◌+◌, ◌++◌, drop, length}
use Rattle.stack_code.specs.Laying.{codes}
use Rattle.stack_code.specs.Modes.{shape_marks}
use Rattle.stack_code.specs.Places.{place_in}
use Rattle.stack_code.proofs.blocks.put_blocks.Given as goal

abbrev pub invariant-loop-block : goal.invariant-loop-block
invariant-loop-block l = record {
  number : l.number ≡ l.block-index + 2;
  ops : l.ops.items ++ codes (shape_marks l.marks) (place_in l.starts.places.items l.starts.end) l.number
      (length l.ops.items) (drop l.block-index l.blocks)
      ≡ l.fn.ops.items ++ codes (shape_marks l.marks) (place_in l.starts.places.items l.starts.end) 2
      (length l.fn.ops.items) l.blocks;
}
