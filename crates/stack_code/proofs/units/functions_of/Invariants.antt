use Rattle.std.proofs.Common.{◌≡◌, ◌++◌, drop}
use Rattle.stack_code.specs.UnitCode.{functions_from}
use Rattle.stack_code.proofs.units.functions_of.Given as goal

abbrev pub invariant-loop-number : goal.invariant-loop-number
invariant-loop-number l =
    l.functions.items ++ functions_from l.covered l.graphs l.shapes l.number (drop l.number l.graphs)
    ≡ functions_from l.covered l.graphs l.shapes 0 l.graphs
