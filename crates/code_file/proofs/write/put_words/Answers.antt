use Rattle.std.proofs.Common.{arith}
use Rattle.std.proofs.lemmas.List.{get_or_default}
use Rattle.code_file.proofs.write.put_words.Goals as goal

pub returns-clause-fit : goal.returns-clause-fit
returns-clause-fit c = λ k d lt.
    let same = get_or_default c.args.words.now k d 0 lt in
    let small = c.type_inv.words k in
    omega (arith, same, small)
