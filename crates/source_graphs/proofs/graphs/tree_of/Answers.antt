use Rattle.source_graphs.proofs.GraphLaws.{not_parsed}
use Rattle.source_graphs.proofs.graphs.tree_of.Goals as goal

pub returns-in-Err-Refused-parse-clause-err : goal.returns-in-Err-Refused-parse-clause-err
returns-in-Err-Refused-parse-clause-err c =
    not_parsed c.in-Ok.ensures.ok c.deref.ensures.value c.in-Err-Refused-parse.field-0-is c.in-Err-Refused-parse.ensures.err
