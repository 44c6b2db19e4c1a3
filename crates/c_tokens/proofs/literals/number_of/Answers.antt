use Rattle.std.proofs.Common.{◌+◌, ◌^◌, ◌<◌, ℕ, Option, get_or, drop, subst, sym, ◌∙◌, arith}
use Rattle.std.specs.Option.{SomeIff}
use Rattle.std.proofs.lemmas.List.{at_drop_more}
use Rattle.c_tokens.specs.Literals.{number_from}
use Rattle.c_tokens.proofs.LiteralLaws.{number_from-too_big}
use Rattle.c_tokens.proofs.literals.number_of.Goals as goal

pub returns-in_err-number : goal.returns-in_err-number
returns-in_err-number c =
    let r = c.args.radix in
    let digits = c.args.digits.now in
    let at = c.loop-digit.digit-index in
    let total = number_from r 0 digits in
    let goes = at_drop_more (number_from r c.loop-digit.number) digits at 0 (omega arith) in
    subst (λ (o : Option ℕ). SomeIff o (total < 2 ^ 64) total) (sym c.from_residual.ensures)
    (number_from-too_big r c.loop-digit.number (get_or digits at 0) total (drop (at + 1) digits) c.requires c.in_err-number.ensures (sym goes ∙ c.loop-digit.invariant.0))
