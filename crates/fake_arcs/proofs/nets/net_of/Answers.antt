use Rattle.std.proofs.Common.{◌∙◌, ap, rules}
use Rattle.std.specs.Prelude.{Err}
use Rattle.fake_arcs.proofs.NetOf.{no_refusal}
use Rattle.fake_arcs.proofs.nets.net_of.Goals as goal

pub unreachable-requires : goal.unreachable-requires
unreachable-requires c = no_refusal c.args.graph.now _ c.new.result c.in-Err-Refused.field-0-0 c.requires
    (search rules) (search rules) (search rules) c.new.ensures
    (c.in-Err-Refused.is ∙ ap Err c.in-Err-Refused.field-0-is)
