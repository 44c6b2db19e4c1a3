use Rattle.c_grammar.proofs.Steps.{passed}
use Rattle.c_exprs.specs.Sides.{sides_view}
use Rattle.c_exprs.proofs.SideLaws.{sides_lacking, first_refused, last_refused}
use Rattle.c_exprs.proofs.nested.Reader.sides.Goals as goal

pub returns-in_err-question : goal.returns-in_err-question
returns-in_err-question g c =
    passed sides_view c.from_residual.result c.from_residual.ensures.1 (sides_lacking c.in_err-question.ensures)

pub returns-in_err-first : goal.returns-in_err-first
returns-in_err-first g c =
    passed sides_view c.from_residual-in_err-first.result c.from_residual-in_err-first.ensures.1
    (first_refused c.in_ok-question.ensures.front.0 c.in_err-first.ensures)

pub returns-in_err-second : goal.returns-in_err-second
returns-in_err-second g c =
    passed sides_view c.from_residual-in_err-second.result c.from_residual-in_err-second.ensures.1
    (last_refused c.in_ok-question.ensures.front.0 c.in_ok-first.ensures.front c.in_err-second.ensures)
