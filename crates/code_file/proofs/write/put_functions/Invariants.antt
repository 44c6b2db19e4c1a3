use Rattle.std.proofs.Common.{◌≡◌, ◌++◌, take, drop}
use Rattle.std.specs.List.{All, flat_map}
use Rattle.code_file.specs.Spelling.{function_bytes}
use Rattle.stack_ops.specs.Code.{FunctionValue}
use Rattle.code_file.specs.InWords.{IsFunctionInWords}
use Rattle.code_file.proofs.write.put_functions.Given as goal

abbrev pub invariant-loop-function : goal.invariant-loop-function
invariant-loop-function l = record {
  bytes : l.out.items ++ flat_map function_bytes (drop l.function-index l.functions)
      ≡ l.fn.out.items ++ flat_map function_bytes l.functions;
  fit : All (λ (f : FunctionValue). IsFunctionInWords f) (take l.function-index l.functions);
}
