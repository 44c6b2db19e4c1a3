use Rattle.std.proofs.Common.{arith}
use Rattle.c_tokens.specs.declared.token.Punct.TheVariants as mark
use Rattle.c_tree.specs.TreeView.{expr_view}
use Rattle.c_grammar.specs.Rules.{Rule}
use Rattle.c_grammar.proofs.Laws.{refused_behind, refused_lacking, refused_part}
use Rattle.c_grammar.proofs.Steps.{levels_read, part_read, passed, token_read, value_read}
use Rattle.c_exprs.proofs.nested.Reader.index.Goals as goal

pub returns-in_err-bracket : goal.returns-in_err-bracket
returns-in_err-bracket g c =
    passed expr_view c.from_residual-in_err-bracket.result c.from_residual-in_err-bracket.ensures.1
    (refused_behind Rule.operand Rule.any c.in_ok-array.ensures.1
    (refused_lacking Rule.operand Rule.any c.in_err-bracket.ensures))

pub returns-in_err-inner : goal.returns-in_err-inner
returns-in_err-inner g c =
    passed expr_view c.from_residual-in_err-inner.result c.from_residual-in_err-inner.ensures.1
    (refused_behind Rule.operand Rule.any c.in_ok-array.ensures.1
    (refused_behind Rule.operand Rule.any c.in_ok-bracket.ensures.1
    (refused_part Rule.operand (Rule.closed mark.CloseBracket) c.in_err-inner.ensures
    (omega (arith, c.requires.nests.some)))))

pub returns : goal.returns
returns g c =
    levels_read (omega (arith, c.requires.nests.some))
    (token_read Rule.operand Rule.any c.in_ok-array.ensures
    (token_read Rule.operand Rule.any c.in_ok-bracket.ensures
    (part_read Rule.operand (Rule.closed mark.CloseBracket) c.in_ok-inner.ensures (omega (arith, c.requires.nests.some))
    (value_read Rule.operand (c.in_ok-tree.ensures)))))
