use Rattle.std.proofs.Common.{arith}
use Rattle.gcno_format.proofs.ExactLaws.{exactly}
use Rattle.gcno_format.proofs.reading.read_notes.Goals as goal

pub returns-in_err-file-clause-exact : goal.returns-in_err-file-clause-exact
returns-in_err-file-clause-exact c = exactly c.args.bytes.now (λ i. omega (arith, c.type_inv.bytes i))

pub returns-in_err-notes-clause-exact : goal.returns-in_err-notes-clause-exact
returns-in_err-notes-clause-exact c = exactly c.args.bytes.now (λ i. omega (arith, c.type_inv.bytes i))

pub returns-clause-exact : goal.returns-clause-exact
returns-clause-exact c = exactly c.args.bytes.now (λ i. omega (arith, c.type_inv.bytes i))
