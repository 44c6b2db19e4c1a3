use Rattle.c_grammar.proofs.Steps.{passed}
use Rattle.c_exprs.specs.Nests.{Inner}
use Rattle.c_exprs.specs.Sides.{side_view}
use Rattle.c_exprs.proofs.SideLaws.{side_lacking, right_refused}
use Rattle.c_exprs.proofs.nested.Reader.side.Goals as goal

pub returns-in_err-first : goal.returns-in_err-first
returns-in_err-first g c =
    passed side_view c.from_residual.result c.from_residual.ensures.1
    (side_lacking (Inner c.args.self.now.text.now c.args.nest) c.in_err-first.ensures)

pub returns-in_err-right : goal.returns-in_err-right
returns-in_err-right g c =
    passed side_view c.from_residual-in_err-right.result c.from_residual-in_err-right.ensures.1
    (right_refused (Inner c.args.self.now.text.now c.args.nest) c.in_ok-first.ensures.front.0 c.in_err-right.ensures)
