use Rattle.std.proofs.Common.{rules, ap, ◌∙◌, get_or}
use Rattle.cov_base.specs.declared.net.ArcKind.TheVariants.{Real}
use Rattle.cov_base.specs.declared.net.FlowArc.{FlowArc}
use Rattle.prime_paths.specs.Ways.{with_end}
use Rattle.prime_paths.proofs.WaysLaws.{from_of, to_of, filled_step}
use Rattle.prime_paths.proofs.ways.prior_of.Goals as goal

abbrev none : FlowArc
none = record { from = 0; to = 0; kind = Real }

pub loop-arc-preserved : goal.loop-arc-preserved
loop-arc-preserved c = filled_step to_of from_of c.args.blocks c.args.arcs.now c.args.arcs.now c.loop-arc.arc-index none
    c.loop-arc.rows c.put.new.self c.loop-arc-test.true (search rules) c.loop-arc.invariant
    (c.in_ok-put.ensures.put ∙ ap (λ real. with_end real (get_or c.args.arcs.now c.loop-arc.arc-index none).to
    (get_or c.args.arcs.now c.loop-arc.arc-index none).from c.loop-arc.rows) c.is_real.ensures)
    c.put.ensures.len
