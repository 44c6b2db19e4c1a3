use Rattle.std.proofs.Common.{arith}
use Rattle.c_tree.specs.TreeView.{expr_view}
use Rattle.c_grammar.specs.Rules.{Rule}
use Rattle.c_grammar.proofs.Laws.{refused_behind, refused_part}
use Rattle.c_grammar.proofs.Steps.{levels_read, part_read, passed, token_read, value_read}
use Rattle.c_exprs.proofs.nested.Reader.signed.Goals as goal

pub returns-in_err-inner : goal.returns-in_err-inner
returns-in_err-inner g c =
    passed expr_view c.from_residual-in_err-inner.result c.from_residual-in_err-inner.ensures.1
    (refused_behind Rule.unary Rule.any c.in_ok-first.ensures.1
    (refused_part Rule.unary Rule.cast c.in_err-inner.ensures (omega (arith, c.requires.nests.some))))

pub returns : goal.returns
returns g c =
    levels_read (omega (arith, c.requires.nests.some))
    (token_read Rule.unary Rule.any c.in_ok-first.ensures
    (part_read Rule.unary Rule.cast c.in_ok-inner.ensures (omega (arith, c.requires.nests.some))
    (value_read Rule.unary (c.in_ok-tree.ensures))))
