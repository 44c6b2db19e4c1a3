use Rattle.std.proofs.Common.{sym, ap, ◌∙◌, map}
use Rattle.flow_graph.specs.GraphView.{ending_view}
use Rattle.fake_arcs.specs.Marking.{goals_of, with_mark, with_marks}
use Rattle.fake_arcs.proofs.Worklist.{cases_marks}
use Rattle.fake_arcs.proofs.marking.Marking.mark_targets.Goals as goal

pub returns-in_ok-mark-in-Switch-clause-marked : goal.returns-in_ok-mark-in-Switch-clause-marked
returns-in_ok-mark-in-Switch-clause-marked c =
    c.in_ok-mark-in-Switch.ensures.marked
    ∙ ap (with_mark c.in-Switch.default)
    (c.in_ok-mark_cases-in-Switch.ensures.marked ∙ ap (λ l. with_marks (map (λ c. c.1) l) c.args.self.now)
    c.deref.ensures.value)
    ∙ cases_marks c.in-Switch.cases.items c.in-Switch.default c.args.self.now
    ∙ ap (λ e. with_marks (goals_of (ending_view e)) c.args.self.now) (sym c.in-Switch.is)
