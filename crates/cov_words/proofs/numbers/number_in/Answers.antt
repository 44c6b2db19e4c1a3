use Rattle.std.proofs.Common.{◌≡◌, ◌∙◌, ◌<◌, ◌^◌, true, sym, arith, rules}
use Rattle.cov_words.specs.Numbers.{is_number}
use Rattle.cov_words.proofs.NumberLaws.{too_long}
use Rattle.cov_words.proofs.numbers.number_in.Goals as goal

pub returns-in_default-clause-number : goal.returns-in_default-clause-number
returns-in_default-clause-number c =
    let yes : c.is_number.result ≡ true = search (rules, c.if-not-is_number.false) in
    let small : c.args.most < 2 ^ 64 = omega arith in
    sym (too_long c.args.least c.args.most c.args.text.now c.in_default.field-0 small (sym c.is_number.ensures ∙ yes)
    c.in_default.ensures.value.0)
