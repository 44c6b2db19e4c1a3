use Rattle.std.proofs.Common.{◌∙◌, ap, ℕ, List, Vec, Global, Err, arith}
use Rattle.cov_base.specs.Net.{NetValue}
use Rattle.gcno_format.specs.Layout.{LinesValue, LayoutValue}
use Rattle.gcno_format.specs.Values.{lists_from}
use Rattle.gcno_format.proofs.ValueLaws.{full_refused, lists_few}
use Rattle.gcno_format.proofs.values.with_lines.Goals as goal

pub new-requires-clause-lines_fit : goal.new-requires-clause-lines_fit
new-requires-clause-lines_fit c =
    let e = lists_few (λ (v : Vec ℕ Global). v.items) c.in_ok-lists.lists.items 0 c.blocks-2.result c.deref.result.now
    c.in_ok-lists.ensures in
    let t = c.blocks-2.type_inv in omega (arith, e, t)

pub unreachable-requires : goal.unreachable-requires
unreachable-requires c =
    full_refused c.args.layout.now _ c.new.result c.in-Err-Refused.field-0-0 c.requires.holds
    (c.blocks-3.ensures.value ∙ ap (λ (n : NetValue). n.blocks) c.requires.net)
    (c.in_ok-arcs.ensures.items ∙ (c.arcs.ensures.value ∙ ap (λ (n : NetValue). n.arcs) c.requires.net))
    (c.in_ok-lists.ensures ∙ (ap (λ b. lists_from 0 b c.deref.result.now)
    (c.blocks-2.ensures.value ∙ ap (λ (n : NetValue). n.blocks) c.requires.net)
    ∙ ap (λ (rs : List LinesValue). lists_from 0 c.args.layout.now.blocks rs)
    (c.deref.ensures.value ∙ ap (λ (l : LayoutValue). l.lines) c.layout.view_is)))
    c.new.ensures (c.in-Err-Refused.is ∙ ap Err c.in-Err-Refused.field-0-is)
