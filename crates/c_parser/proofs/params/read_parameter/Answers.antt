use Rattle.std.proofs.Common.{ap, sym, ◌∙◌}
use Rattle.c_grammar.proofs.Laws.{refused_behind, refused_lacking, refused_look}
use Rattle.c_grammar.proofs.Steps.{look_read, look_refused, passed, token_read, value_read}
use Rattle.c_grammar.specs.Forms.{first_start, nameless_param}
use Rattle.c_grammar.specs.Reads.{Refuses}
use Rattle.c_grammar.specs.Rules.{Rule}
use Rattle.c_grammar.specs.Words.{name_at}
use Rattle.c_parser.proofs.Exits.{next_read}
use Rattle.c_tree.specs.TreeView.{param_view}
use Rattle.c_grammar.specs.Grammar as grammar
use Rattle.c_parser.proofs.params.read_parameter.Goals as goal

pub returns-in_err-base : goal.returns-in_err-base
returns-in_err-base c =
    passed param_view c.from_residual.result c.from_residual.ensures.1
    (refused_look {text = c.args.text.now} {r = Rule.parameter} {ts = c.args.tokens.now}
    (refused_lacking Rule.parameter Rule.type_name c.in_err-base.ensures))

pub returns-then-not-name_at : goal.returns-then-not-name_at
returns-then-not-name_at c =
    next_read {text = c.args.text.now} {r = Rule.parameter} {ts = c.args.tokens.now}
    (token_read Rule.parameter Rule.type_name c.in_ok-base.ensures
    (look_read Rule.parameter (grammar.named_as c.args.text.now c.in_ok-base.base.tree
    (first_start c.args.tokens.now)) name_at (sym c.if-not-name_at.ensures)
    (value_read Rule.parameter
    (c.nameless_param.ensures ∙ ap (nameless_param c.in_ok-base.base.tree) c.first_start.ensures))))

pub returns-in_err-name : goal.returns-in_err-name
returns-in_err-name c =
    passed param_view c.from_residual-in_err-name.result c.from_residual-in_err-name.ensures.1
    (refused_look {text = c.args.text.now} {r = Rule.parameter} {ts = c.args.tokens.now}
    (refused_behind Rule.parameter Rule.type_name c.in_ok-base.ensures.1
    (look_refused Rule.parameter (grammar.named_as c.args.text.now c.in_ok-base.base.tree
    (first_start c.args.tokens.now)) name_at (sym c.if-not-name_at.ensures)
    (refused_lacking Rule.parameter Rule.any c.in_err-name.ensures))))

pub returns-in_err-named_param : goal.returns-in_err-named_param
returns-in_err-named_param c =
    passed param_view c.from_residual-in_err-named_param.result c.from_residual-in_err-named_param.ensures.1
    Refuses.no_memory

pub returns : goal.returns
returns c =
    next_read {text = c.args.text.now} {r = Rule.parameter} {ts = c.args.tokens.now}
    (token_read Rule.parameter Rule.type_name c.in_ok-base.ensures
    (look_read Rule.parameter (grammar.named_as c.args.text.now c.in_ok-base.base.tree
    (first_start c.args.tokens.now)) name_at (sym c.if-not-name_at.ensures)
    (token_read Rule.parameter Rule.any c.in_ok-name.ensures
    (value_read Rule.parameter c.in_ok-named_param.ensures))))
