use Rattle.std.proofs.Common.{◌∙◌, ap}
use Rattle.stack_ops.specs.Code.{FunctionValue}
use Rattle.code_file.proofs.PlaceLaws.{entry_room}
use Rattle.code_file.proofs.placed_checks.function_fault.Goals as goal

pub entry_place-requires : goal.entry_place-requires
entry_place-requires c =
    entry_room c.args.end c.args.function.now c.args.places.now c.in-Some-table_word.entry c.function.inside.paths
    c.function.inside.passes c.deref.result.now (ap (λ (v : FunctionValue). v.paths) c.function.view_is)
    (ap (λ (v : FunctionValue). v.passes) c.function.view_is)
    (c.deref.ensures.value ∙ ap (λ (v : FunctionValue). v.table) c.function.view_is) c.in-Some-table_word.ensures
    c.requires
