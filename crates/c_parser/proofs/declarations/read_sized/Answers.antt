use Rattle.std.proofs.Common.{arith, refl}
use Rattle.c_grammar.proofs.Laws.{refused_behind, refused_lacking, refused_part}
use Rattle.c_grammar.proofs.Steps.{levels_read, part_read, passed, token_read, value_read}
use Rattle.c_grammar.specs.Rules.{Rule}
use Rattle.c_tree.specs.TreeView.{size_view}
use Rattle.c_tokens.specs.declared.token.Punct.TheVariants as mark
use Rattle.c_tokens.specs.declared.token.TokenKind.TheVariants as kind
use Rattle.c_parser.proofs.declarations.read_sized.Goals as goal

pub returns-in_err-length : goal.returns-in_err-length
returns-in_err-length c =
    passed size_view c.from_residual.result c.from_residual.ensures.1
    (refused_part Rule.length Rule.conditional c.in_err-length.ensures (omega arith))

pub returns-in_err-close : goal.returns-in_err-close
returns-in_err-close c =
    passed size_view c.from_residual-in_err-close.result c.from_residual-in_err-close.ensures.1
    (refused_behind Rule.length Rule.conditional c.in_ok-length.ensures.front
    (refused_lacking Rule.length (Rule.token (kind.Mark mark.CloseBracket)) c.in_err-close.ensures))

pub returns : goal.returns
returns c =
    levels_read (omega arith)
    (part_read Rule.length Rule.conditional c.in_ok-length.ensures (omega arith)
    (token_read Rule.length (Rule.token (kind.Mark mark.CloseBracket)) c.in_ok-close.ensures
    (value_read Rule.length refl)))
