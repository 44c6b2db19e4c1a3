use Rattle.std.proofs.Common.{arith}
use Rattle.c_grammar.proofs.Laws.{refused_behind, refused_lacking, refused_part}
use Rattle.c_grammar.proofs.Steps.{levels_read, part_read, passed, token_read, value_read}
use Rattle.c_grammar.specs.Reads.{Refuses}
use Rattle.c_grammar.specs.Rules.{Rule}
use Rattle.c_tree.specs.TreeView.{head_view}
use Rattle.c_tokens.specs.declared.token.Punct.TheVariants as mark
use Rattle.c_tokens.specs.declared.token.TokenKind.TheVariants as kind
use Rattle.c_parser.proofs.params.read_head.Goals as goal

pub returns-in_err-base : goal.returns-in_err-base
returns-in_err-base c =
    passed head_view c.from_residual.result c.from_residual.ensures.1
    (refused_lacking Rule.function_head Rule.type_name c.in_err-base.ensures)

pub returns-in_err-name : goal.returns-in_err-name
returns-in_err-name c =
    passed head_view c.from_residual-in_err-name.result c.from_residual-in_err-name.ensures.1
    (refused_behind Rule.function_head Rule.type_name c.in_ok-base.ensures.1
    (refused_lacking Rule.function_head (Rule.token kind.Name) c.in_err-name.ensures))

pub returns-in_err-open : goal.returns-in_err-open
returns-in_err-open c =
    passed head_view c.from_residual-in_err-open.result c.from_residual-in_err-open.ensures.1
    (refused_behind Rule.function_head Rule.type_name c.in_ok-base.ensures.1
    (refused_behind Rule.function_head (Rule.token kind.Name) c.in_ok-name.ensures.1
    (refused_lacking Rule.function_head (Rule.token (kind.Mark mark.OpenParen)) c.in_err-open.ensures)))

pub returns-in_err-params : goal.returns-in_err-params
returns-in_err-params c =
    passed head_view c.from_residual-in_err-params.result c.from_residual-in_err-params.ensures.1
    (refused_behind Rule.function_head Rule.type_name c.in_ok-base.ensures.1
    (refused_behind Rule.function_head (Rule.token kind.Name) c.in_ok-name.ensures.1
    (refused_behind Rule.function_head (Rule.token (kind.Mark mark.OpenParen)) c.in_ok-open.ensures.1
    (refused_part Rule.function_head Rule.parameters c.in_err-params.ensures (omega arith)))))

pub returns-in_err-close : goal.returns-in_err-close
returns-in_err-close c =
    passed head_view c.from_residual-in_err-close.result c.from_residual-in_err-close.ensures.1
    (refused_behind Rule.function_head Rule.type_name c.in_ok-base.ensures.1
    (refused_behind Rule.function_head (Rule.token kind.Name) c.in_ok-name.ensures.1
    (refused_behind Rule.function_head (Rule.token (kind.Mark mark.OpenParen)) c.in_ok-open.ensures.1
    (refused_behind Rule.function_head Rule.parameters c.in_ok-params.ensures.front
    (refused_lacking Rule.function_head (Rule.token (kind.Mark mark.CloseParen)) c.in_err-close.ensures)))))

pub returns-in_err-head : goal.returns-in_err-head
returns-in_err-head c =
    passed head_view c.from_residual-in_err-head.result c.from_residual-in_err-head.ensures.1 Refuses.no_memory

pub returns : goal.returns
returns c =
    levels_read (omega (arith, c.in_ok-params.ensures.fits))
    (token_read Rule.function_head Rule.type_name c.in_ok-base.ensures
    (token_read Rule.function_head (Rule.token kind.Name) c.in_ok-name.ensures
    (token_read Rule.function_head (Rule.token (kind.Mark mark.OpenParen)) c.in_ok-open.ensures
    (part_read Rule.function_head Rule.parameters c.in_ok-params.ensures (omega arith)
    (token_read Rule.function_head (Rule.token (kind.Mark mark.CloseParen)) c.in_ok-close.ensures
    (value_read Rule.function_head c.in_ok-head.ensures))))))
