use Rattle.std.proofs.Common.{refl, sym, ◌∙◌, arith}
use Rattle.c_tree.specs.TreeView.{expr_view}
use Rattle.c_grammar.specs.Rules.{Rule}
use Rattle.c_grammar.specs.Grammar.{unary_as}
use Rattle.c_grammar.specs.Operators.{prefix_at}
use Rattle.c_grammar.proofs.Laws.{by_look, by_rule_read}
use Rattle.c_exprs.proofs.nested.Reader.unary.Goals as goal

pub returns-in-Increment : goal.returns-in-Increment
returns-in-Increment g c =
    by_look c.args.self.now.text.now Rule.unary expr_view unary_as prefix_at c.args.tokens.now _
    (sym c.prefix_at.ensures ∙ c.in-Increment.is) c.before-in-Increment.result c.before-in-Increment.ensures

pub returns-in-Operator : goal.returns-in-Operator
returns-in-Operator g c =
    by_look c.args.self.now.text.now Rule.unary expr_view unary_as prefix_at c.args.tokens.now _
    (sym c.prefix_at.ensures ∙ c.in-Operator.is) c.signed.result c.signed.ensures

pub returns-in-Absent : goal.returns-in-Absent
returns-in-Absent g c =
    by_look c.args.self.now.text.now Rule.unary expr_view unary_as prefix_at c.args.tokens.now c.args.self.now.room
    (sym c.prefix_at.ensures ∙ c.in-Absent.is) c.postfix.result
    (by_rule_read c.args.self.now.text.now Rule.unary Rule.postfix (λ e. e) expr_view expr_view c.args.tokens.now
    c.args.self.now.room c.args.self.now.room (λ x. refl) (omega arith) (omega arith) c.postfix.result
    c.postfix.ensures)
