use Rattle.std.proofs.Common.{◌∙◌, ap, ℕ, Vec, Global, Err, rules, arith}
use Rattle.gcov_records.specs.declared.fault.FileFault.TheVariants as fault
use Rattle.gcno_format.specs.Layout.{LayoutValue}
use Rattle.gcno_format.proofs.ValueLaws.{plain_ok, plain_refused, few_arcs, lists_few}
use Rattle.gcno_format.proofs.values.plain_net.Goals as goal

pub returns-then-len-gt-ARC_LIMIT : goal.returns-then-len-gt-ARC_LIMIT
returns-then-len-gt-ARC_LIMIT c = (
  ap (λ (l : LayoutValue). fault.Net l.place) c.layout.view_is,
  λ n. (let few = few_arcs c.args.layout.now c.in_ok-arcs.arcs.items (search rules) n in
      let t = c.if-len-gt-ARC_LIMIT.true in omega (arith, few, t)),
)

pub new-requires-clause-lines_fit : goal.new-requires-clause-lines_fit
new-requires-clause-lines_fit c =
    let e = lists_few (λ (v : Vec ℕ Global). v.items) c.in_ok-lists.lists.items 0 c.layout.inside.blocks _
    c.in_ok-lists.ensures in
    let t = c.if-layout-gt-BLOCK_LIMIT.false in omega (arith, e, t)

pub returns-in-Ok : goal.returns-in-Ok
returns-in-Ok c =
    plain_ok c.args.layout.now _ c.in-Ok.net c.new.result (search rules) (search rules) (search rules) c.new.ensures
    c.in-Ok.is

pub returns-in-Err-Refused : goal.returns-in-Err-Refused
returns-in-Err-Refused c = (
  ap (λ (l : LayoutValue). fault.Net l.place) c.layout.view_is,
  plain_refused c.args.layout.now _ c.new.result c.in-Err-Refused.field-0-0 (search rules) (search rules) (search rules)
      c.new.ensures (c.in-Err-Refused.is ∙ ap Err c.in-Err-Refused.field-0-is),
)
