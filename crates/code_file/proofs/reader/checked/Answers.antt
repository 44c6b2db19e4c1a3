use Rattle.std.proofs.Common.{◌∙◌, ap, sym, length}
use Rattle.stack_ops.specs.Code.{CodeValue}
use Rattle.code_file.proofs.PlaceLaws.{as_many, code_known, values_none}
use Rattle.code_file.proofs.reader.checked.Goals as goal

pub values_fault-requires-clause-many : goal.values_fault-requires-clause-many
values_fault-requires-clause-many c =
    ap length c.deref-2.ensures.value
    ∙ (as_many c.args.end c.args.items.code.functions c.args.items.places.items c.requires.places
    ∙ sym (ap length (c.deref.ensures.value ∙ ap (λ (v : CodeValue). v.functions) c.code.view_is)))

pub kept-requires : goal.kept-requires
kept-requires c =
    code_known c.args.end c.args.items.code c.args.items.main_at c.args.items.places.items c.requires.places
    c.requires.items (sym c.main_kept.ensures ∙ c.if-not-main_kept.false)
    (values_none c.args.items.code c.deref.result.now c.args.items.code.functions c.deref-2.result.now
    c.args.items.places.items c.in-Ok-None.field-0
    (c.deref.ensures.value ∙ ap (λ (v : CodeValue). v.functions) c.code.view_is) c.deref-2.ensures.value
    c.in-Ok-None.ensures c.in-Ok-None.field-0-is)
