use Rattle.std.proofs.Common.{◌≡◌, sym, ap, subst, ◌∙◌, None}
use Rattle.std.specs.List.{All}
use Rattle.fake_arcs.specs.Runs.{KeepsRuns}
use Rattle.fake_arcs.specs.Size.{graphs_fault}
use Rattle.fake_arcs.specs.Tidy.{IsTidy}
use Rattle.fake_arcs.proofs.Lockstep.{keeps_runs}
use Rattle.fake_arcs.proofs.Tidied.{graphs_tidy}
use Rattle.fake_arcs.proofs.pruning.prune.Goals as goal

pub returns-clause-runs : goal.returns-clause-runs
returns-clause-runs c =
    subst (KeepsRuns c.args.unit.now) (sym c.in_ok-pruned.ensures) (keeps_runs c.args.unit.now)

pub returns-clause-tidy : goal.returns-clause-tidy
returns-clause-tidy c made =
    subst (λ u. All IsTidy u.graphs) (sym c.in_ok-pruned.ensures)
    (graphs_tidy 0 c.args.unit.now.graphs
    (subst (λ g. graphs_fault 0 g ≡ None) (c.deref.ensures.value ∙ ap (λ u. u.graphs) c.unit.view_is)
    c.in_ok-size.ensures.0) made)
