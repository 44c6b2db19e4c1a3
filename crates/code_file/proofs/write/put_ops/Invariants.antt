use Rattle.std.proofs.Common.{◌≡◌, ◌++◌, take, drop}
use Rattle.std.specs.List.{All, flat_map}
use Rattle.code_file.specs.OpItems.{op_bytes}
use Rattle.stack_ops.specs.declared.operation.Op.{Op}
use Rattle.code_file.specs.OpItems.{fields_of}
use Rattle.code_file.specs.InWords.{FitWords, words_of}
use Rattle.code_file.proofs.write.put_ops.Given as goal

abbrev pub invariant-loop-op : goal.invariant-loop-op
invariant-loop-op l = record {
  bytes : l.out.items ++ flat_map op_bytes (drop l.op-index l.ops) ≡ l.fn.out.items ++ flat_map op_bytes l.ops;
  fit : All (λ (o : Op). FitWords (words_of (fields_of o))) (take l.op-index l.ops);
}
