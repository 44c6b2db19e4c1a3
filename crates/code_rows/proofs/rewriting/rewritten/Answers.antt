use Rattle.std.proofs.Common.{arith}
use Rattle.code_rows.proofs.RewritingLaws.{same_bytes}
use Rattle.code_rows.proofs.rewriting.rewritten.Goals as goal

pub returns-in_ok-write_code-in-Ok : goal.returns-in_ok-write_code-in-Ok
returns-in_ok-write_code-in-Ok c =
    same_bytes c.args.bytes.now c.in_ok-write_code-in-Ok.field-0.items c.in-Ok.checked c.code.result.now
    (λ i. omega (arith, c.type_inv.bytes i)) c.in-Ok.ensures c.code.ensures.value
    c.in_ok-write_code-in-Ok.ensures.spelled
