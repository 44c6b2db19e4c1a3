use Rattle.std.proofs.Common.{arith}
use Rattle.c_grammar.proofs.Laws.{refused_behind, refused_lacking, refused_part}
use Rattle.c_grammar.proofs.Steps.{levels_read, part_read, passed, token_read, value_read}
use Rattle.c_grammar.specs.Reads.{Refuses}
use Rattle.c_grammar.specs.Rules.{Rule}
use Rattle.c_tree.specs.TreeView.{var_view}
use Rattle.c_tokens.specs.declared.token.TokenKind.TheVariants as kind
use Rattle.c_parser.proofs.declarations.read_variable.Goals as goal

pub returns-in_err-name : goal.returns-in_err-name
returns-in_err-name c =
    passed var_view c.from_residual.result c.from_residual.ensures.1
    (refused_lacking (Rule.variable c.args.base) (Rule.token kind.Name) c.in_err-name.ensures)

pub returns-in_err-size : goal.returns-in_err-size
returns-in_err-size c =
    passed var_view c.from_residual-in_err-size.result c.from_residual-in_err-size.ensures.1
    (refused_behind (Rule.variable c.args.base) (Rule.token kind.Name) c.in_ok-name.ensures.1
    (refused_part (Rule.variable c.args.base) Rule.size c.in_err-size.ensures (omega arith)))

pub returns-in_err-init : goal.returns-in_err-init
returns-in_err-init c =
    passed var_view c.from_residual-in_err-init.result c.from_residual-in_err-init.ensures.1
    (refused_behind (Rule.variable c.args.base) (Rule.token kind.Name) c.in_ok-name.ensures.1
    (refused_behind (Rule.variable c.args.base) Rule.size c.in_ok-size.ensures.front
    (refused_part (Rule.variable c.args.base) Rule.initialiser c.in_err-init.ensures (omega arith))))

pub returns-in_err-variable : goal.returns-in_err-variable
returns-in_err-variable c =
    passed var_view c.from_residual-in_err-variable.result c.from_residual-in_err-variable.ensures.1 Refuses.no_memory

pub returns : goal.returns
returns c =
    levels_read (omega (arith, c.max.ensures))
    (token_read (Rule.variable c.args.base) (Rule.token kind.Name) c.in_ok-name.ensures
    (part_read (Rule.variable c.args.base) Rule.size c.in_ok-size.ensures (omega arith)
    (part_read (Rule.variable c.args.base) Rule.initialiser c.in_ok-init.ensures (omega arith)
    (value_read (Rule.variable c.args.base) c.in_ok-variable.ensures))))
