use Rattle.std.proofs.Common.{arith, refl}
use Rattle.c_grammar.proofs.Laws.{refused_behind, refused_part}
use Rattle.c_grammar.proofs.Steps.{levels_read, part_read, passed, value_read}
use Rattle.c_grammar.specs.Rules.{Rule}
use Rattle.c_parser.proofs.Exits.{refused_level_free}
use Rattle.c_tree.specs.TreeView.{head_view, outer_view}
use Rattle.c_parser.proofs.sources.read_function.Goals as goal

pub returns-in_err-head : goal.returns-in_err-head
returns-in_err-head c =
    passed outer_view c.from_residual.result c.from_residual.ensures.1
    (refused_part Rule.outer Rule.function_head {small = c.args.room} (refused_level_free Rule.function_head tt
    (λ h. refl) c.in_err-head.ensures) (omega arith))

pub returns-in_err-body : goal.returns-in_err-body
returns-in_err-body c =
    passed outer_view c.from_residual-in_err-body.result c.from_residual-in_err-body.ensures.1
    (refused_behind Rule.outer Rule.function_head c.in_ok-head.ensures.front
    (refused_part Rule.outer (Rule.body (head_view c.in_ok-head.head.tree)) c.in_err-body.ensures (omega arith)))

pub returns : goal.returns
returns c =
    levels_read (omega (arith, c.in_ok-head.ensures.fits))
    (part_read Rule.outer Rule.function_head c.in_ok-head.ensures (omega arith)
    (part_read Rule.outer (Rule.body (head_view c.in_ok-head.head.tree)) c.in_ok-body.ensures (omega arith)
    (value_read Rule.outer refl)))
