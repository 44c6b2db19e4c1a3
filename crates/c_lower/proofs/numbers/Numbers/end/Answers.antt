use Rattle.std.proofs.Common.{◌∙◌, ap, sym, ℕ}
use Rattle.c_lower.specs.Items.{Name}
use Rattle.c_lower.specs.CloseView.{close_view}
use Rattle.c_lower.specs.Lowered.{numbered}
use Rattle.c_lower.specs.Numbers.{number_at}
use Rattle.c_lower.proofs.NumberLaws.{switch_numbered, renumbered}
use Rattle.c_lower.proofs.numbers.Numbers.end.Goals as goal

pub returns-in_ok-cases-in-Select : goal.returns-in_ok-cases-in-Select
returns-in_ok-cases-in-Select c =
    let f : Name → ℕ = λ (l : Name). number_at c.args.self.now.rows l c.args.self.now.behind in
    switch_numbered f c.in-Select.cases.items c.in_ok-cases-in-Select.cases.items c.in-Select.default
    c.number-in-Select.result
    (c.in_ok-cases-in-Select.ensures ∙ ap (renumbered f) c.deref.ensures.value) c.number-in-Select.ensures
    ∙ ap (λ e. numbered f (close_view e)) (sym c.in-Select.is)
