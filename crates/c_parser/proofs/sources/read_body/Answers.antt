use Rattle.std.proofs.Common.{ap, false, map, subst, sym, true, ◌∙◌}
use Rattle.c_grammar.proofs.Laws.{by_look, refused_none}
use Rattle.c_grammar.specs.Derivations.{By}
use Rattle.c_grammar.specs.Forms.{all_named}
use Rattle.c_grammar.specs.Reads.{Reads, Refuses}
use Rattle.c_grammar.specs.Rules.{Rule}
use Rattle.c_grammar.specs.Words.{next_is}
use Rattle.c_tree.specs.TreeView.{head_view, outer_view, param_view}
use Rattle.c_tokens.specs.declared.token.Punct.TheVariants as mark
use Rattle.c_grammar.specs.Grammar as grammar
use Rattle.cov_base.specs.declared.refusal.Refusal.TheVariants as refusal
use Rattle.c_grammar.specs.declared.fault.ParseFault.TheVariants as fault
use Rattle.c_grammar.proofs.Steps.{look_refused}
use Rattle.c_parser.proofs.sources.read_body.Goals as goal

pub returns-then-next_is : goal.returns-then-next_is
returns-then-next_is c =
    by_look c.args.text.now (Rule.body (head_view c.args.head)) outer_view (grammar.body_as (head_view c.args.head))
    (next_is mark.Semicolon) c.args.tokens.now c.args.room {o = true}
    (sym c.if-next_is.ensures) c.read_prototype.result
    (c.read_prototype.ensures c.args.room)

pub returns-then-all_named : goal.returns-then-all_named
returns-then-all_named c =
    by_look c.args.text.now (Rule.body (head_view c.args.head)) outer_view (grammar.body_as (head_view c.args.head))
    (next_is mark.Semicolon) c.args.tokens.now c.args.room {o = false}
    (sym c.if-next_is.ensures) c.read_definition.result
    (subst (λ b. Reads outer_view (By c.args.text.now (Rule.body (head_view c.args.head)) (grammar.definition
    (head_view c.args.head) b) c.args.tokens.now) c.args.room c.read_definition.result)
    (c.if-all_named.ensures ∙ ap (λ ps. all_named (map param_view ps)) c.as_slice.ensures) c.read_definition.ensures)

pub returns : goal.returns
returns c =
    look_refused (Rule.body (head_view c.args.head)) (grammar.body_as (head_view c.args.head))
    (next_is mark.Semicolon) {o = false} (sym c.if-next_is.ensures)
    (subst (λ b. Refuses (By c.args.text.now (Rule.body (head_view c.args.head)) (grammar.definition
    (head_view c.args.head) b) c.args.tokens.now) c.args.room (refusal.Refused (fault.Syntax c.place_at.result)))
    (c.if-all_named.ensures ∙ ap (λ ps. all_named (map param_view ps)) c.as_slice.ensures)
    (refused_none {text = c.args.text.now} {r = (Rule.body
    (head_view c.args.head))} {room = c.args.room} {place = c.place_at.result} {ts = c.args.tokens.now}))
