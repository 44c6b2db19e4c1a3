use Rattle.std.proofs.Common.{◌≡◌, ◌+◌, ◌++◌, drop, length}
use Rattle.stack_code.specs.Modes.{shape_marks}
use Rattle.stack_code.proofs.StartLaws.{starts_list, end_of}
use Rattle.stack_code.proofs.starts.starts_of.Given as goal

abbrev pub invariant-loop-block : goal.invariant-loop-block
invariant-loop-block l = record {
  number : l.number ≡ l.block-index + 2;
  places : l.places.items ++ starts_list (shape_marks l.marks) l.number l.end (drop l.block-index l.blocks)
      ≡ starts_list (shape_marks l.marks) 2 (length (shape_marks l.marks 0 2)) l.blocks;
  ends : end_of (shape_marks l.marks) l.number l.end (drop l.block-index l.blocks)
      ≡ end_of (shape_marks l.marks) 2 (length (shape_marks l.marks 0 2)) l.blocks;
}
