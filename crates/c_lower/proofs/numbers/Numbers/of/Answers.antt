use Rattle.std.proofs.Common.{◌≡◌, ◌∙◌, ◌+◌, sym, ap, List, length, arith}
use Rattle.std.proofs.lemmas.List.{drop_all}
use Rattle.c_lower.specs.Lowered.{Named}
use Rattle.c_lower.specs.Numbers.{number_at, number_or}
use Rattle.c_lower.proofs.NumberLaws.{number_or-behind}
use Rattle.c_lower.proofs.numbers.Numbers.of.Goals as goal

pub returns : goal.returns
returns c l =
    let number = c.loop-block.number in
    let all = c.loop-block-test.false in
    let within = c.loop-block.auto.block-index-end in
    let counted = c.loop-block.invariant.number in
    let none = drop_all c.loop-block.block-index c.args.blocks.now all in
    let last : number ≡ 2 + length c.args.blocks.now = omega (arith, all, within, counted) in
    ap (λ (bs : List Named). number_at c.loop-block.rows l (number_or number bs l number)) (sym none)
    ∙ c.loop-block.invariant.numbers l number
    ∙ ap (number_or 2 c.args.blocks.now l) last
    ∙ number_or-behind 2 c.args.blocks.now l
