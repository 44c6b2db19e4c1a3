use Rattle.std.proofs.Common.{ap, ◌∙◌, not}
use Rattle.std.specs.Int.{w128}
use Rattle.std.proofs.lemmas.Int.{to_z-of_z}
use Rattle.std.specs.HashSet.{contains}
use Rattle.std.specs.Ordering.{int_eq}
use Rattle.indexmap.specs.IndexSet.{insert_key}
use Rattle.c_typing.specs.StmtFaults.{Labels, is_among}
use Rattle.c_types.proofs.LabelLaws.{among, one_more}
use Rattle.c_types.proofs.labels.Labels.add.Goals as goal

pub returns-clause-is_new : goal.returns-clause-is_new
returns-clause-is_new c =
    let same = to_z-of_z w128 c.args.number (record { sfits = c.ranges.number.sfits }) in
    c.in_ok-insert.ensures.added
    ∙ (ap (λ k. not (contains int_eq c.self.inside.values k)) same
    ∙ ap not (among c.args.number c.self.inside.values.keys
    ∙ ap (λ (l : Labels). is_among c.args.number l.values) c.self.view_is))

pub returns-clause-added : goal.returns-clause-added
returns-clause-added c = λ new.
    let same = to_z-of_z w128 c.args.number (record { sfits = c.ranges.number.sfits }) in
    one_more c.args.number c.self.inside.values.keys c.insert.new.self.keys c.self.inside.default c.args.self.now
    c.self.view_is (c.in_ok-insert.ensures.keys ∙ ap (insert_key int_eq c.self.inside.values.keys) same) new
