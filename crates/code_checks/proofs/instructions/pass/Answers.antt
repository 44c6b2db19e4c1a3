use Rattle.std.proofs.Common.{◌∙◌, sym}
use Rattle.code_checks.specs.DepthTable.{leds}
use Rattle.code_checks.proofs.PassLaws.{rule_table, goes_table}
use Rattle.code_checks.proofs.instructions.pass.Goals as goal

pub returns-in-Some : goal.returns-in-Some
returns-in-Some c =
    let r = c.in-Some.ensures in
    rule_table c.args.code.now c.args.function.now c.args.at c.args.op.now c.args.before c.args.table.now
    c.with_before-led.result c.with_before-led.ensures ∙ sym r

pub returns : goal.returns
returns c =
    let k = c.in_default.ensures in
    goes_table c.args.code.now c.args.function.now c.args.at c.args.op.now c.args.before c.args.table.now
    c.with_before-led.result (leds c.note.new.table) c.before_next.result c.later.result c.depth_of-depth.result
    c.left_by.result c.with_before-led.ensures k c.depth_of-depth.ensures c.before_next.ensures c.later.ensures
    c.left_by.ensures c.note.ensures
