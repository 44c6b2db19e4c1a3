use Rattle.std.proofs.Common.{◌≡◌, drop}
use Rattle.c_grammar.specs.Derivations.{end_from}
use Rattle.c_parser.proofs.parser.end_of.Given as goal

-- the end from here is the end of all
abbrev pub invariant-loop-token : goal.invariant-loop-token
invariant-loop-token l = end_from l.end (drop l.token-index l.tokens) ≡ end_from 0 l.tokens
