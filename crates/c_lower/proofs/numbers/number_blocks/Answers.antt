use Rattle.std.proofs.Common.{◌∙◌, ap, List}
use Rattle.c_lower.specs.Items.{Name}
use Rattle.c_lower.specs.Lowered.{Named, number_from}
use Rattle.c_lower.specs.Numbers.{number_at}
use Rattle.c_lower.proofs.NumberLaws.{same_blocks}
use Rattle.c_lower.proofs.numbers.number_blocks.Goals as goal

pub returns : goal.returns
returns c =
    let numbers = c.in_ok-numbers.numbers in
    c.in_ok-blocks.ensures
    ∙ same_blocks (λ (l : Name). number_at numbers.rows l numbers.behind) (number_from 2 c.args.named.items)
    (λ l. c.in_ok-numbers.ensures l ∙ ap (λ (bs : List Named). number_from 2 bs l) c.deref.ensures.value)
    c.args.named.items
