use Rattle.std.proofs.Common.{◌≡◌, ◌++◌, drop}
use Rattle.std.specs.List.{flat_map}
use Rattle.gcov_items.specs.Items.{long_bytes}
use Rattle.code_file.proofs.write.put_table.Given as goal

abbrev pub invariant-loop-n : goal.invariant-loop-n
invariant-loop-n l = l.out.items ++ flat_map long_bytes (drop l.n-index l.table)
    ≡ l.fn.out.items ++ flat_map long_bytes l.table
