use Rattle.std.proofs.Common.{◌≡◌, ap, arith, length-drop, ◌∙◌, max, drop, length, ◌+◌}
use Rattle.gcov_records.specs.declared.fault.FileFault.TheVariants as fault
use Rattle.gcov_records.proofs.taking.short.Goals as goal

pub returns : goal.returns
returns c = let p = c.place.ensures in let e = c.end.ensures in let m = c.max.ensures in
    let l = length-drop c.args.reader.now.at c.args.reader.now.bytes in
    ap (λ n. fault.Short n) (omega (arith, p, e, m, l))
