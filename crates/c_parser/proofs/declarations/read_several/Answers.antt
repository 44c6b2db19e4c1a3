use Rattle.std.proofs.Common.{arith}
use Rattle.c_grammar.proofs.Laws.{refused_behind, refused_lacking, refused_part}
use Rattle.c_grammar.proofs.Steps.{levels_read, part_read, passed, token_read}
use Rattle.c_grammar.specs.Rules.{Listed, Rule}
use Rattle.c_tree.specs.TreeView.{init_view}
use Rattle.c_parser.proofs.declarations.read_several.Goals as goal

pub returns-in_err-open : goal.returns-in_err-open
returns-in_err-open c =
    passed init_view c.from_residual.result c.from_residual.ensures.1
    (refused_lacking Rule.given Rule.any c.in_err-open.ensures)

pub returns-in_err-values : goal.returns-in_err-values
returns-in_err-values c =
    passed init_view c.from_residual-in_err-values.result c.from_residual-in_err-values.ensures.1
    (refused_behind Rule.given Rule.any c.in_ok-open.ensures.1
    (refused_part Rule.given (Rule.list Listed.values) c.in_err-values.ensures (omega arith)))

pub returns-in_err-close : goal.returns-in_err-close
returns-in_err-close c =
    passed init_view c.from_residual-in_err-close.result c.from_residual-in_err-close.ensures.1
    (refused_behind Rule.given Rule.any c.in_ok-open.ensures.1
    (refused_behind Rule.given (Rule.list Listed.values) c.in_ok-values.ensures.front
    ((c.in_err-close.ensures c.args.room))))

pub returns : goal.returns
returns c =
    levels_read (omega (arith, (c.in_ok-close.ensures 0).fits))
    (token_read Rule.given Rule.any c.in_ok-open.ensures
    (part_read Rule.given (Rule.list Listed.values) c.in_ok-values.ensures (omega arith)
    ((c.in_ok-close.ensures c.args.room))))
