use Rattle.std.proofs.Common.{◌≡◌, ◌++◌, drop}
use Rattle.std.specs.List.{flat_map}
use Rattle.report_parts.specs.Functions.{function_text}
use Rattle.report_parts.proofs.functions.push_functions.Given as goal

abbrev pub invariant-loop-function : goal.invariant-loop-function
invariant-loop-function l =
    l.out.items ++ flat_map (function_text l.limit) (drop l.function-index l.functions)
    ≡ l.initial.out.items ++ flat_map (function_text l.limit) l.functions
