use Rattle.std.proofs.Common.{arith}
use Rattle.gcda_format.proofs.Laws.{data_exact}
use Rattle.gcda_format.proofs.reading.read_data.Goals as goal

pub returns-in_err-counts-clause-exact : goal.returns-in_err-counts-clause-exact
returns-in_err-counts-clause-exact c = data_exact c.args.bytes.now (λ i. omega (arith, c.type_inv.bytes i))

pub returns-in_err-take_end-clause-exact : goal.returns-in_err-take_end-clause-exact
returns-in_err-take_end-clause-exact c = data_exact c.args.bytes.now (λ i. omega (arith, c.type_inv.bytes i))

pub returns-clause-exact : goal.returns-clause-exact
returns-clause-exact c = data_exact c.args.bytes.now (λ i. omega (arith, c.type_inv.bytes i))
