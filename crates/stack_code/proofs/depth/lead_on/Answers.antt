use Rattle.std.proofs.Common.{◌-◌, sym, ap, ◌∙◌, rules}
use Rattle.flow_graph.specs.GraphView.{ending_view}
use Rattle.lower_agrees.specs.Agreement.{is_back}
use Rattle.stack_code.specs.Deepest.{far, led_on, with_depths}
use Rattle.stack_code.proofs.HeightLaws.{cases_depths}
use Rattle.stack_code.proofs.depth.lead_on.Goals as goal

pub returns-in-Switch : goal.returns-in-Switch
returns-in-Switch c =
    cases_depths c.in-Switch.cases.items c.in-Switch.default (c.args.depth - 1) c.args.table.now
    c.note_cases.new.table c.note-in-Switch.new.table (search rules) (search rules)
    ∙ ap (λ e. with_depths (led_on (is_back (ending_view e)) (ending_view e))
    (far c.args.graphs.now (ending_view e) c.args.depth) c.args.table.now) (sym c.in-Switch.is)
