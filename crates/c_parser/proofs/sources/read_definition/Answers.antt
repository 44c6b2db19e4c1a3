use Rattle.std.proofs.Common.{arith, refl}
use Rattle.c_grammar.proofs.Laws.{refused_behind, refused_lacking, refused_part}
use Rattle.c_grammar.proofs.Steps.{levels_read, part_read, passed, token_read, value_read}
use Rattle.c_grammar.specs.Rules.{Listed, Rule}
use Rattle.c_tree.specs.TreeView.{head_view, outer_view}
use Rattle.c_tokens.specs.declared.token.Punct.TheVariants as mark
use Rattle.c_tokens.specs.declared.token.TokenKind.TheVariants as kind
use Rattle.c_parser.proofs.sources.read_definition.Goals as goal

pub returns-in_err-open : goal.returns-in_err-open
returns-in_err-open c =
    passed outer_view c.from_residual.result c.from_residual.ensures.1
    (refused_lacking (Rule.body (head_view c.args.head)) (Rule.token
    (kind.Mark mark.OpenBrace)) c.in_err-open.ensures)

pub returns-in_err-items : goal.returns-in_err-items
returns-in_err-items c =
    passed outer_view c.from_residual-in_err-items.result c.from_residual-in_err-items.ensures.1
    (refused_behind (Rule.body (head_view c.args.head)) (Rule.token (kind.Mark mark.OpenBrace)) c.in_ok-open.ensures.1
    (refused_part (Rule.body (head_view c.args.head)) (Rule.more Listed.items) c.in_err-items.ensures (omega arith)))

pub returns-in_err-close : goal.returns-in_err-close
returns-in_err-close c =
    passed outer_view c.from_residual-in_err-close.result c.from_residual-in_err-close.ensures.1
    (refused_behind (Rule.body (head_view c.args.head)) (Rule.token (kind.Mark mark.OpenBrace)) c.in_ok-open.ensures.1
    (refused_behind (Rule.body (head_view c.args.head)) (Rule.more Listed.items) c.in_ok-items.ensures.front
    (refused_lacking (Rule.body (head_view c.args.head)) (Rule.token
    (kind.Mark mark.CloseBrace)) c.in_err-close.ensures)))

pub returns : goal.returns
returns c =
    levels_read (omega arith)
    (token_read (Rule.body (head_view c.args.head)) (Rule.token (kind.Mark mark.OpenBrace)) c.in_ok-open.ensures
    (part_read (Rule.body (head_view c.args.head)) (Rule.more Listed.items) c.in_ok-items.ensures (omega arith)
    (token_read (Rule.body (head_view c.args.head)) (Rule.token (kind.Mark mark.CloseBrace)) c.in_ok-close.ensures
    (value_read (Rule.body (head_view c.args.head)) refl))))
