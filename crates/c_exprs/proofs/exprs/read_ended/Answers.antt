use Rattle.std.proofs.Common.{Some, option_map, refl, sym, ap, ◌∙◌, arith}
use Rattle.c_tokens.specs.declared.token.TokenKind.TheVariants as kind
use Rattle.c_tree.specs.TreeView.{expr_view}
use Rattle.c_grammar.specs.Words.{next_is}
use Rattle.c_grammar.specs.Rules.{Rule}
use Rattle.c_grammar.specs.Grammar.{ended_as}
use Rattle.c_grammar.specs.Reads.{Refuses}
use Rattle.c_grammar.proofs.Laws.{refused_lacking, refused_part}
use Rattle.c_grammar.proofs.Steps.{look_read, look_refused, levels_read, part_read, passed, token_read, value_read}
use Rattle.c_exprs.proofs.exprs.read_ended.Goals as goal

pub returns-in_err-close : goal.returns-in_err-close
returns-in_err-close c =
    let m = c.args.mark in
    passed (option_map expr_view) c.from_residual.result c.from_residual.ensures.1
    (look_refused (Rule.ended m) (ended_as m) (next_is m) (sym c.next_is.ensures ∙ c.if-next_is.true)
    (refused_lacking (Rule.ended m) (Rule.token (kind.Mark m)) c.in_err-close.ensures))

pub returns-then-next_is : goal.returns-then-next_is
returns-then-next_is c =
    let m = c.args.mark in
    look_read (Rule.ended m) (ended_as m) (next_is m) (sym c.next_is.ensures ∙ c.if-next_is.true)
    (token_read (Rule.ended m) (Rule.token (kind.Mark m)) c.in_ok-close.ensures (value_read (Rule.ended m) refl))

pub returns-in_err-found : goal.returns-in_err-found
returns-in_err-found c =
    let m = c.args.mark in
    passed (option_map expr_view) c.from_residual-in_err-found.result c.from_residual-in_err-found.ensures.1
    (look_refused (Rule.ended m) (ended_as m) (next_is m) (sym c.next_is.ensures ∙ c.if-next_is.false)
    (refused_part (Rule.ended m) (Rule.closed m) c.in_err-found.ensures (omega arith)))

pub returns-in_err-new : goal.returns-in_err-new
returns-in_err-new c =
    passed (option_map expr_view) c.from_residual-in_err-new.result c.from_residual-in_err-new.ensures.1
    Refuses.no_memory

pub returns : goal.returns
returns c =
    let m = c.args.mark in
    look_read (Rule.ended m) (ended_as m) (next_is m) (sym c.next_is.ensures ∙ c.if-next_is.false)
    (levels_read (omega arith)
    (part_read (Rule.ended m) (Rule.closed m) c.in_ok-found.ensures (omega arith)
    (value_read (Rule.ended m) (ap (λ e. Some (expr_view e)) c.in_ok-new.ensures))))
