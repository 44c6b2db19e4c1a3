use Rattle.std.proofs.Common.{sym, ◌∙◌}
use Rattle.c_tree.specs.TreeView.{expr_view}
use Rattle.c_exprs.proofs.TailLaws.{assigned_read, assigned_ended}
use Rattle.c_exprs.proofs.nested.Reader.assigned.Goals as goal

pub returns-in-Some : goal.returns-in-Some
returns-in-Some g c =
    assigned_read _ (expr_view c.args.left.tree) c.args.left.levels _ c.args.left.rest.now _
    (sym c.assignment_at.ensures ∙ c.in-Some.is) c.target.result c.target.ensures

pub returns-in-None : goal.returns-in-None
returns-in-None g c = assigned_ended (sym c.assignment_at.ensures ∙ c.in-None.is) c.requires.fits
