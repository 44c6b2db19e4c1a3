use Rattle.std.proofs.Common.{◌≡◌, ◌∙◌, refl, subst, cond, ℕ, Some, OnOk}
use Rattle.c_lower.specs.declared.numbers.Entry.{Entry}
use Rattle.c_lower.specs.Items.{Name}
use Rattle.c_lower.specs.Lowered.{is_name}
use Rattle.c_lower.specs.Numbers.{number_at}
use Rattle.c_lower.proofs.NumberLaws.{number_added, number_reached}
use Rattle.c_lower.proofs.PutsLaws.{on_ok}
use Rattle.c_lower.proofs.numbers.Rows.add.Goals as goal

pub returns : goal.returns
returns c =
    let name : Name = record { node = c.name.inside.node; part = c.name.inside.part } in
    let entry : Entry = record { part = c.name.inside.part; number = c.args.number } in
    subst (λ (m : Name). OnOk c.push.result ((l : Name) (other : ℕ) → number_at c.push.new.self l other
    ≡ number_at c.args.self.now l (cond (is_name l (Some m)) c.args.number other)))
    c.name.view_is
    (on_ok c.push.result _ _ (λ e l other.
    number_added c.reach.new.self c.push.new.self name entry c.in_ok-reach.ensures.within refl e l other
    ∙ number_reached c.reach.new.self c.args.self.now c.in_ok-reach.ensures.same l
    (cond (is_name l (Some name)) c.args.number other)) c.push.ensures)
