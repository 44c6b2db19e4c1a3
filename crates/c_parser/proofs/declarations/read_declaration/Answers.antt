use Rattle.std.proofs.Common.{arith, map, refl}
use Rattle.c_grammar.proofs.Laws.{refused_behind, refused_lacking, refused_part}
use Rattle.c_grammar.proofs.Steps.{levels_read, part_read, passed, token_read, value_read}
use Rattle.c_grammar.specs.Rules.{Listed, Rule}
use Rattle.c_tree.specs.TreeView.{var_view}
use Rattle.c_tokens.specs.declared.token.Punct.TheVariants as mark
use Rattle.c_tokens.specs.declared.token.TokenKind.TheVariants as kind
use Rattle.c_parser.proofs.declarations.read_declaration.Goals as goal

pub returns-in_err-base : goal.returns-in_err-base
returns-in_err-base c =
    passed (map var_view) c.from_residual.result c.from_residual.ensures.1
    (refused_lacking Rule.declaration Rule.type_name c.in_err-base.ensures)

pub returns-in_err-variables : goal.returns-in_err-variables
returns-in_err-variables c =
    passed (map var_view) c.from_residual-in_err-variables.result c.from_residual-in_err-variables.ensures.1
    (refused_behind Rule.declaration Rule.type_name c.in_ok-base.ensures.1
    (refused_part Rule.declaration (Rule.list (Listed.variables c.in_ok-base.base.tree)) c.in_err-variables.ensures
    (omega arith)))

pub returns-in_err-close : goal.returns-in_err-close
returns-in_err-close c =
    passed (map var_view) c.from_residual-in_err-close.result c.from_residual-in_err-close.ensures.1
    (refused_behind Rule.declaration Rule.type_name c.in_ok-base.ensures.1
    (refused_behind Rule.declaration (Rule.list
    (Listed.variables c.in_ok-base.base.tree)) c.in_ok-variables.ensures.front
    (refused_lacking Rule.declaration (Rule.token (kind.Mark mark.Semicolon)) c.in_err-close.ensures)))

pub returns : goal.returns
returns c =
    levels_read (omega arith)
    (token_read Rule.declaration Rule.type_name c.in_ok-base.ensures
    (part_read Rule.declaration (Rule.list (Listed.variables c.in_ok-base.base.tree)) c.in_ok-variables.ensures
    (omega arith)
    (token_read Rule.declaration (Rule.token (kind.Mark mark.Semicolon)) c.in_ok-close.ensures
    (value_read Rule.declaration refl))))
