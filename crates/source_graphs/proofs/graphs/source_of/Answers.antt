use Rattle.source_graphs.proofs.GraphLaws.{not_typed}
use Rattle.source_graphs.proofs.graphs.source_of.Goals as goal

pub returns-in-Err-Refused-clause-err : goal.returns-in-Err-Refused-clause-err
returns-in-Err-Refused-clause-err c =
    not_typed c.in_ok-tree.ensures.ok c.in-Err-Refused.field-0-is c.in-Err-Refused.ensures.exact
