use Rattle.std.proofs.Common.{ap, arith, map, refl, sym}
use Rattle.c_grammar.proofs.Laws.{by_look, by_rule_read}
use Rattle.c_grammar.proofs.Steps.{look_read, value_read}
use Rattle.c_grammar.specs.Forms.{params_at}
use Rattle.c_grammar.specs.Rules.{Listed, Rule}
use Rattle.c_tree.specs.TreeView.{param_view}
use Rattle.c_grammar.specs.Grammar as grammar
use Rattle.c_parser.proofs.params.read_parameters.Goals as goal

pub returns-in-Empty : goal.returns-in-Empty
returns-in-Empty c =
    look_read Rule.parameters grammar.parameters_as params_at (sym c.in-Empty.ensures)
    (value_read Rule.parameters (ap (map param_view) c.new.ensures))

pub returns-in-OnlyVoid : goal.returns-in-OnlyVoid
returns-in-OnlyVoid c =
    by_look c.args.text.now Rule.parameters (map param_view) grammar.parameters_as params_at c.args.tokens.now 0
    (sym c.in-OnlyVoid.ensures) c.read_void.result c.read_void.ensures

pub returns-in-Listed : goal.returns-in-Listed
returns-in-Listed c =
    by_look c.args.text.now Rule.parameters (map param_view) grammar.parameters_as params_at c.args.tokens.now 0
    (sym c.in-Listed.ensures) c.read_listed.result
    (by_rule_read c.args.text.now Rule.parameters (Rule.list Listed.parameters) (λ ps. ps) (map param_view)
    (map param_view)
    c.args.tokens.now 0 0 (λ x. refl) (omega arith) (omega arith) c.read_listed.result c.read_listed.ensures)
