use Rattle.std.proofs.Common.{sym, ◌∙◌, rules}
use Rattle.std.specs.Int.{w128}
use Rattle.std.proofs.lemmas.Int.{to_z-of_z}
use Rattle.c_tree.specs.TreeView.{expr_view}
use Rattle.c_grammar.specs.Rules.{Rule}
use Rattle.c_grammar.specs.Grammar.{operand_as}
use Rattle.c_grammar.specs.Operators.{operand_at}
use Rattle.c_grammar.specs.declared.begins.Operand.TheVariants as first
use Rattle.c_grammar.specs.Derivations.{By}
use Rattle.c_grammar.specs.Reads.{Reads}
use Rattle.c_grammar.proofs.Moves.{moved1}
use Rattle.c_grammar.proofs.Laws.{by_look}
use Rattle.c_exprs.proofs.OperandLaws.{no_operand}
use Rattle.c_exprs.proofs.nested.Reader.operand.Goals as goal

pub returns-in-Name : goal.returns-in-Name
returns-in-Name g c =
    by_look c.args.self.now.text.now Rule.operand expr_view (operand_as c.args.self.now.text.now) operand_at
    c.args.tokens.now c.args.self.now.room (sym c.operand_at.ensures ∙ c.in-Name.is) c.name.result c.name.ensures

pub returns-in-Number : goal.returns-in-Number
returns-in-Number g c =
    by_look c.args.self.now.text.now Rule.operand expr_view (operand_as c.args.self.now.text.now) operand_at
    c.args.tokens.now c.args.self.now.room (sym c.operand_at.ensures ∙ c.in-Number.is) c.number.result
    (moved1 (λ n. Reads expr_view (By c.args.self.now.text.now Rule.operand
    (operand_as c.args.self.now.text.now (first.Number n c.in-Number.number_type)) c.args.tokens.now)
    c.args.self.now.room c.number.result) (sym (to_z-of_z w128 c.in-Number.number (search rules))) c.number.ensures)

pub returns-in-EofName : goal.returns-in-EofName
returns-in-EofName g c =
    by_look c.args.self.now.text.now Rule.operand expr_view (operand_as c.args.self.now.text.now) operand_at
    c.args.tokens.now c.args.self.now.room (sym c.operand_at.ensures
    ∙ c.in-EofName.is) c.eof_name.result c.eof_name.ensures

pub returns-in-Paren : goal.returns-in-Paren
returns-in-Paren g c =
    by_look c.args.self.now.text.now Rule.operand expr_view (operand_as c.args.self.now.text.now) operand_at
    c.args.tokens.now c.args.self.now.room (sym c.operand_at.ensures ∙ c.in-Paren.is) c.paren.result c.paren.ensures

pub returns-in-Call : goal.returns-in-Call
returns-in-Call g c =
    by_look c.args.self.now.text.now Rule.operand expr_view (operand_as c.args.self.now.text.now) operand_at
    c.args.tokens.now c.args.self.now.room (sym c.operand_at.ensures ∙ c.in-Call.is) c.call.result c.call.ensures

pub returns-in-Index : goal.returns-in-Index
returns-in-Index g c =
    by_look c.args.self.now.text.now Rule.operand expr_view (operand_as c.args.self.now.text.now) operand_at
    c.args.tokens.now c.args.self.now.room (sym c.operand_at.ensures ∙ c.in-Index.is) c.index.result c.index.ensures

pub returns-in-Absent : goal.returns-in-Absent
returns-in-Absent g c = no_operand _ _ _ _ (sym c.operand_at.ensures ∙ c.in-Absent.is)
