use Rattle.front_rows.proofs.TextTreeLaws.{not_parsed}
use Rattle.front_rows.proofs.text_tree.tree_of_text.Goals as goal

pub returns-in-Err-Refused-parse-clause-err : goal.returns-in-Err-Refused-parse-clause-err
returns-in-Err-Refused-parse-clause-err c =
    not_parsed c.in-Ok.ensures.ok c.deref.ensures.value c.in-Err-Refused-parse.field-0-is c.in-Err-Refused-parse.ensures.err
