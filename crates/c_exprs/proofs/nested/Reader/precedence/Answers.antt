use Rattle.std.proofs.Common.{refl}
use Rattle.c_tree.specs.TreeView.{expr_view}
use Rattle.c_grammar.proofs.Steps.{passed}
use Rattle.c_exprs.proofs.ChainLaws.{precedence_first, cast_refused, precedence_next, tighter_refused}
use Rattle.c_exprs.proofs.nested.Reader.precedence.Goals as goal

pub returns-in_err-whole : goal.returns-in_err-whole
returns-in_err-whole g c =
    passed expr_view c.from_residual.result c.from_residual.ensures.1
    (cast_refused _ c.args.precedence c.in_err-whole.ensures)

pub loop-tighter-init : goal.loop-tighter-init
loop-tighter-init g c = precedence_first c.in_ok-whole.ensures

pub returns-in_err-whole-2 : goal.returns-in_err-whole-2
returns-in_err-whole-2 g c =
    passed expr_view c.from_residual-in_err-whole-2.result c.from_residual-in_err-whole-2.ensures.1
    (tighter_refused _ c.loop-tighter.tighter c.args.precedence c.loop-tighter-test.true c.loop-tighter.invariant
    c.in_err-whole-2.ensures)

pub loop-tighter-preserved : goal.loop-tighter-preserved
loop-tighter-preserved g c = precedence_next _ refl c.loop-tighter.invariant c.in_ok-whole-2.ensures
