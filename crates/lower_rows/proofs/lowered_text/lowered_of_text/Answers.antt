use Rattle.lower_rows.proofs.LoweredTextLaws.{not_lowered, not_typed}
use Rattle.lower_rows.proofs.lowered_text.lowered_of_text.Goals as goal

pub returns-in-Err-Refused-clause-err : goal.returns-in-Err-Refused-clause-err
returns-in-Err-Refused-clause-err c =
    not_typed c.in-Err-Refused.field-0-is c.in-Err-Refused.fault-is c.in-Err-Refused.ensures.err

pub returns-in-Err-Refused-lower-clause-err : goal.returns-in-Err-Refused-lower-clause-err
returns-in-Err-Refused-lower-clause-err c =
    not_lowered c.in-Ok.ensures.ok c.in-Err-Refused-lower.field-0-is c.in-Err-Refused-lower.ensures.exact
