use Rattle.type_rows.proofs.TypedTextLaws.{not_read, not_typed}
use Rattle.type_rows.proofs.typed_text.typed_of_text.Goals as goal

pub returns-in-Err-Refused-clause-err : goal.returns-in-Err-Refused-clause-err
returns-in-Err-Refused-clause-err c =
    not_read c.in-Err-Refused.field-0-is c.in-Err-Refused.fault-is c.in-Err-Refused.ensures.err

pub returns-in-Err-Refused-check-clause-err : goal.returns-in-Err-Refused-check-clause-err
returns-in-Err-Refused-check-clause-err c =
    not_typed c.in-Ok.ensures.ok c.in-Err-Refused-check.field-0-is c.in-Err-Refused-check.ensures.exact
