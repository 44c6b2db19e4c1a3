use Rattle.std.proofs.Common.{arith}
use Rattle.notes_end.proofs.Told.{exactly}
use Rattle.notes_end.proofs.laws.extra_is_behind.Goals as goal

pub returns : goal.returns
returns c = exactly c.args.bytes.now (λ i. omega (arith, c.type_inv.bytes i))
