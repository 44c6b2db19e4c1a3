use Rattle.std.proofs.Common.{arith, subst, ◌+◌, ◌-◌, ◌≡◌}
use Rattle.c_grammar.specs.Derivations.{Front}
use Rattle.c_grammar.specs.Reads.{Reads}
use Rattle.c_grammar.specs.Rules.{Rule}
use Rattle.c_parser.proofs.Exits.{no_statement}
use Rattle.c_tree.specs.TreeView.{stmt_view}
use Rattle.c_parser.proofs.statements.+read_statement.Goals as goal

pub returns-then-room-eq0 : goal.returns-then-room-eq0
returns-then-room-eq0 t c = no_statement c.if-room-eq0.true

pub returns : goal.returns
returns t c =
    subst (λ n. Reads stmt_view (Front c.args.text.now Rule.statement c.args.tokens.now) n c.statement.result)
    (let e : c.args.room - 1 + 1 ≡ c.args.room = omega (arith, c.if-room-eq0.false) in e) c.statement.ensures
