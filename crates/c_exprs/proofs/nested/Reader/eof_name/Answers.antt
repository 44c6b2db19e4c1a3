use Rattle.std.proofs.Common.{arith}
use Rattle.c_grammar.specs.Rules.{Rule}
use Rattle.c_grammar.proofs.Steps.{deep_read, levels_read, token_read, value_read}
use Rattle.c_exprs.proofs.nested.Reader.eof_name.Goals as goal

pub returns : goal.returns
returns g c =
    levels_read (omega (arith, c.requires.nests.some))
    (token_read Rule.operand Rule.any c.in_ok-first.ensures
    (deep_read Rule.operand (omega (arith, c.requires.nests.some)) (value_read Rule.operand (c.eof_name.ensures))))
