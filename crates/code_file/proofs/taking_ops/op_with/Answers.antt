use Rattle.std.proofs.Common.{◌≤◌, sym, arith}
use Rattle.std.proofs.lemmas.Option.{slice_get_past}
use Rattle.code_file.specs.Reading.{operations}
use Rattle.code_file.proofs.taking_ops.op_with.Goals as goal

pub returns-in_default : goal.returns-in_default
returns-in_default c =
    let past : 47 ≤ c.args.code = omega arith in sym (slice_get_past operations c.args.code past)
