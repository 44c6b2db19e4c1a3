use Rattle.std.proofs.Common.{sym, ap, ◌∙◌, map}
use Rattle.flow_graph.specs.GraphView.{ending_view}
use Rattle.flow_graph.specs.Nets.{renamed}
use Rattle.fake_arcs.specs.Numbers.{number_by}
use Rattle.fake_arcs.proofs.NewNumbers.{switch_renamed}
use Rattle.fake_arcs.proofs.numbers.Numbers.rename.Goals as goal

pub returns-in_ok-cases-in-Switch : goal.returns-in_ok-cases-in-Switch
returns-in_ok-cases-in-Switch c =
    switch_renamed (number_by c.args.self.now) c.in-Switch.cases.items c.in_ok-cases-in-Switch.cases.items
    c.in-Switch.default c.number-in-Switch.result
    (c.in_ok-cases-in-Switch.ensures ∙ ap (λ l. map (λ c'. (c'.0, number_by c.args.self.now c'.1)) l)
    c.deref.ensures.value) c.number-in-Switch.ensures
    ∙ ap (λ e. renamed (number_by c.args.self.now) (ending_view e)) (sym c.in-Switch.is)
