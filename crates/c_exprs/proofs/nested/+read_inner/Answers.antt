use Rattle.std.proofs.Common.{arith}
use Rattle.c_tree.specs.TreeView.{expr_view}
use Rattle.c_grammar.specs.Reads.{Refuses, Reads}
use Rattle.c_grammar.proofs.Moves.{moved1}
use Rattle.c_exprs.specs.Nests.{Inner}
use Rattle.c_exprs.proofs.InnerLaws.{has_room}
use Rattle.c_exprs.proofs.nested.+read_inner.Goals as goal

pub returns-then-room-eq0 : goal.returns-then-room-eq0
returns-then-room-eq0 t c =
    Refuses.too_deep (λ x n rest p. omega (
      arith,
      has_room c.args.text.now c.args.nest c.args.tokens.now x n rest p,
      c.if-room-eq0.true,
    ))

pub returns-in-Unary : goal.returns-in-Unary
returns-in-Unary t c =
    moved1 (λ kind. Reads expr_view (Inner c.args.text.now kind c.args.tokens.now) c.args.room c.unary.result)
    c.in-Unary.is
    c.unary.ensures

pub returns-in-Cast : goal.returns-in-Cast
returns-in-Cast t c =
    moved1 (λ kind. Reads expr_view (Inner c.args.text.now kind c.args.tokens.now) c.args.room c.cast.result)
    c.in-Cast.is
    c.cast.ensures

pub returns-in-Precedence : goal.returns-in-Precedence
returns-in-Precedence t c =
    moved1 (λ kind. Reads expr_view (Inner c.args.text.now kind c.args.tokens.now) c.args.room c.precedence.result)
    c.in-Precedence.is
    c.precedence.ensures

pub returns-in-Conditional : goal.returns-in-Conditional
returns-in-Conditional t c =
    moved1 (λ kind. Reads expr_view (Inner c.args.text.now kind c.args.tokens.now) c.args.room c.conditional.result)
    c.in-Conditional.is
    c.conditional.ensures

pub returns-in-Assignment : goal.returns-in-Assignment
returns-in-Assignment t c =
    moved1 (λ kind. Reads expr_view (Inner c.args.text.now kind c.args.tokens.now) c.args.room c.assignment.result)
    c.in-Assignment.is
    c.assignment.ensures

pub returns-in-Expression : goal.returns-in-Expression
returns-in-Expression t c =
    moved1 (λ kind. Reads expr_view (Inner c.args.text.now kind c.args.tokens.now) c.args.room c.expression.result)
    c.in-Expression.is
    c.expression.ensures
