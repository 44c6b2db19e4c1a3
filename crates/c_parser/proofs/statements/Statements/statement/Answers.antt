use Rattle.std.proofs.Common.{sym, ◌+◌}
use Rattle.c_grammar.proofs.Laws.{by_look}
use Rattle.c_grammar.specs.Forms.{form_at}
use Rattle.c_grammar.specs.Rules.{Rule}
use Rattle.c_tree.specs.TreeView.{stmt_view}
use Rattle.c_grammar.specs.Grammar as grammar
use Rattle.c_parser.proofs.statements.Statements.statement.Goals as goal

pub returns-in-Block : goal.returns-in-Block
returns-in-Block g c =
    by_look c.args.self.now.text.now Rule.statement stmt_view grammar.statement_as
    form_at c.args.tokens.now (c.args.self.now.room + 1)
    (sym c.in-Block.ensures) c.block.result
    c.block.ensures

pub returns-in-If : goal.returns-in-If
returns-in-If g c =
    by_look c.args.self.now.text.now Rule.statement stmt_view grammar.statement_as
    form_at c.args.tokens.now (c.args.self.now.room + 1)
    (sym c.in-If.ensures) c.if_.result
    c.if_.ensures

pub returns-in-While : goal.returns-in-While
returns-in-While g c =
    by_look c.args.self.now.text.now Rule.statement stmt_view grammar.statement_as
    form_at c.args.tokens.now (c.args.self.now.room + 1)
    (sym c.in-While.ensures) c.while_.result
    c.while_.ensures

pub returns-in-Do : goal.returns-in-Do
returns-in-Do g c =
    by_look c.args.self.now.text.now Rule.statement stmt_view grammar.statement_as
    form_at c.args.tokens.now (c.args.self.now.room + 1)
    (sym c.in-Do.ensures) c.do_.result
    c.do_.ensures

pub returns-in-For : goal.returns-in-For
returns-in-For g c =
    by_look c.args.self.now.text.now Rule.statement stmt_view grammar.statement_as
    form_at c.args.tokens.now (c.args.self.now.room + 1)
    (sym c.in-For.ensures) c.for_.result
    c.for_.ensures

pub returns-in-Switch : goal.returns-in-Switch
returns-in-Switch g c =
    by_look c.args.self.now.text.now Rule.statement stmt_view grammar.statement_as
    form_at c.args.tokens.now (c.args.self.now.room + 1)
    (sym c.in-Switch.ensures) c.switch.result
    c.switch.ensures

pub returns-in-Break : goal.returns-in-Break
returns-in-Break g c =
    by_look c.args.self.now.text.now Rule.statement stmt_view grammar.statement_as
    form_at c.args.tokens.now (c.args.self.now.room + 1)
    (sym c.in-Break.ensures) c.break_.result
    c.break_.ensures

pub returns-in-Continue : goal.returns-in-Continue
returns-in-Continue g c =
    by_look c.args.self.now.text.now Rule.statement stmt_view grammar.statement_as
    form_at c.args.tokens.now (c.args.self.now.room + 1)
    (sym c.in-Continue.ensures) c.continue_.result
    c.continue_.ensures

pub returns-in-Return : goal.returns-in-Return
returns-in-Return g c =
    by_look c.args.self.now.text.now Rule.statement stmt_view grammar.statement_as
    form_at c.args.tokens.now (c.args.self.now.room + 1)
    (sym c.in-Return.ensures) c.return_.result
    c.return_.ensures

pub returns-in-Value : goal.returns-in-Value
returns-in-Value g c =
    by_look c.args.self.now.text.now Rule.statement stmt_view grammar.statement_as
    form_at c.args.tokens.now (c.args.self.now.room + 1)
    (sym c.in-Value.ensures) c.value.result
    c.value.ensures
