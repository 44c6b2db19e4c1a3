use Rattle.std.proofs.Common.{ap, ◌∙◌, length, arith}
use Rattle.std.specs.Prelude.{◌<◌}
use Rattle.std.proofs.lemmas.List.{length-map}
use Rattle.span_tree.specs.Touching.{with_index}
use Rattle.span_tree.proofs.Marks.{with_index_set}
use Rattle.span_tree.proofs.touching.Touching.put.Goals as goal

pub returns-clause-put : goal.returns-clause-put
returns-clause-put c =
    let long = length-map c.self.inside.rows.items (λ r. r.items) in
    let same = ap length c.self.view_is in
    let h = c.requires in
    let within : c.args.block < length c.self.inside.rows.items = omega (arith, long, same, h) in
    with_index_set (λ r. r.items) c.self.inside.rows.items c.args.block c.args.index c.index_mut.result.now
    c.push.new.self within c.index_mut.ensures.value c.in_ok-push.ensures.items
    ∙ ap (with_index c.args.block c.args.index) c.self.view_is
