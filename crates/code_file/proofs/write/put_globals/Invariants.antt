use Rattle.std.proofs.Common.{◌≡◌, ◌++◌, drop}
use Rattle.std.specs.List.{flat_map}
use Rattle.code_file.specs.OpItems.{number_bytes}
use Rattle.code_file.proofs.write.put_globals.Given as goal

abbrev pub invariant-loop-n : goal.invariant-loop-n
invariant-loop-n l = l.out.items ++ flat_map number_bytes (drop l.n-index l.globals)
    ≡ l.fn.out.items ++ flat_map number_bytes l.globals
