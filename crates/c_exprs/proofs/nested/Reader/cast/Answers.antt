use Rattle.std.proofs.Common.{refl, sym, ◌∙◌, arith}
use Rattle.c_tree.specs.TreeView.{expr_view}
use Rattle.c_grammar.specs.Rules.{Rule}
use Rattle.c_grammar.specs.Grammar.{cast_as}
use Rattle.c_grammar.specs.Operators.{cast_at}
use Rattle.c_grammar.proofs.Laws.{by_look, by_rule_read}
use Rattle.c_exprs.proofs.nested.Reader.cast.Goals as goal

pub returns-then-cast_at : goal.returns-then-cast_at
returns-then-cast_at g c =
    by_look c.args.self.now.text.now Rule.cast expr_view cast_as cast_at c.args.tokens.now c.args.self.now.room
    (sym c.cast_at.ensures ∙ c.if-cast_at.true) c.converted.result c.converted.ensures

pub returns-else-cast_at : goal.returns-else-cast_at
returns-else-cast_at g c =
    by_look c.args.self.now.text.now Rule.cast expr_view cast_as cast_at c.args.tokens.now c.args.self.now.room
    (sym c.cast_at.ensures ∙ c.if-cast_at.false) c.unary.result
    (by_rule_read c.args.self.now.text.now Rule.cast Rule.unary (λ e. e) expr_view expr_view c.args.tokens.now
    c.args.self.now.room c.args.self.now.room (λ x. refl) (omega arith) (omega arith) c.unary.result
    c.unary.ensures)
