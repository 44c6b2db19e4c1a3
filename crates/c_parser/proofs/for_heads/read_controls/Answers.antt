use Rattle.std.proofs.Common.{arith, option_map, refl}
use Rattle.c_grammar.proofs.Laws.{refused_behind, refused_part}
use Rattle.c_grammar.proofs.Steps.{levels_read, part_read, passed, value_read}
use Rattle.c_grammar.specs.Rules.{Rule}
use Rattle.c_tree.specs.TreeView.{expr_view}
use Rattle.c_tokens.specs.declared.token.Punct.TheVariants as mark
use Rattle.c_parser.proofs.for_heads.read_controls.Goals as goal

pub returns-in_err-test : goal.returns-in_err-test
returns-in_err-test c =
    passed (λ c.
    (option_map expr_view c.test, option_map expr_view c.step)) c.from_residual.result c.from_residual.ensures.1
    (refused_part Rule.controls (Rule.ended mark.Semicolon) c.in_err-test.ensures (omega arith))

pub returns-in_err-step : goal.returns-in_err-step
returns-in_err-step c =
    passed (λ c.
    (option_map expr_view c.test, option_map expr_view c.step)) c.from_residual-in_err-step.result
    c.from_residual-in_err-step.ensures.1
    (refused_behind Rule.controls (Rule.ended mark.Semicolon) c.in_ok-test.ensures.front
    (refused_part Rule.controls (Rule.ended mark.CloseParen) c.in_err-step.ensures (omega arith)))

pub returns : goal.returns
returns c =
    levels_read (omega (arith, c.max.ensures))
    (part_read Rule.controls (Rule.ended mark.Semicolon) c.in_ok-test.ensures (omega arith)
    (part_read Rule.controls (Rule.ended mark.CloseParen) c.in_ok-step.ensures (omega arith)
    (value_read Rule.controls refl)))
