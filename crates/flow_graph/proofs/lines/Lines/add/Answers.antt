use Rattle.flow_graph.proofs.LineLaws.{kept_whole, placed-ascends}
use Rattle.flow_graph.proofs.lines.Lines.add.Goals as goal

pub invariant_of-self-in-Err : goal.invariant_of-self-in-Err
invariant_of-self-in-Err c =
    placed-ascends c.deref.result.now c.self.inside.items.items c.insert.new.self.items c.args.line c.in-Err.at
    c.self.invariant c.deref.ensures.value c.in-Err.ensures c.in_ok-insert-in-Err.ensures.items

pub returns-in-Ok-clause-ok : goal.returns-in-Ok-clause-ok
returns-in-Ok-clause-ok c =
    kept_whole c.deref.result.now c.self.inside.items.items c.args.self.now c.args.line c.in-Ok.field-0
    c.self.invariant c.deref.ensures.value c.self.view_is c.in-Ok.ensures
