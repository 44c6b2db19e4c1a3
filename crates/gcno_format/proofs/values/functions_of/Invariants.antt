use Rattle.std.proofs.Common.{◌≡◌, ◌++◌, drop, map}
use Rattle.gcov_records.specs.declared.fault.FileFault.{FileFault}
use Rattle.gcno_format.specs.Values.{AllHold, FirstFails, function_of}
use Rattle.gcno_format.proofs.values.functions_of.Given as goal

abbrev pub invariant-loop-layout : goal.invariant-loop-layout
invariant-loop-layout l = record {
  hold : AllHold (drop l.layout-index l.layouts) → AllHold l.layouts;
  fail : (found : FileFault) → FirstFails (drop l.layout-index l.layouts) found → FirstFails l.layouts found;
  functions : l.functions.items ++ map function_of (drop l.layout-index l.layouts) ≡ map function_of l.layouts;
}
