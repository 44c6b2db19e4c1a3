-- Over objects without faults no count of faults rises; what is told is known, so what is said of it is said of the
-- bytes.
use Rattle.std.proofs.Common.{arith, ap, inl, inr}
use Rattle.std.proofs.lemmas.Option.{same_Some}
use Rattle.cov_outside.specs.Memory.{sure_written}
use Rattle.cov_outside.specs.Outside.{Rose}
use Rattle.cov_rows.proofs.sure.perform_surely.Goals as goal

-- a count that stays 0 hasn't risen
never_risen : Rose 0 0 → ⊥
never_risen (inl less) = omega arith
never_risen (inr full) = omega arith

pub returns-clause-answers : goal.returns-clause-answers
returns-clause-answers c = c.perform.ensures.performs.acts.answers

pub returns-clause-meant : goal.returns-clause-meant
returns-clause-meant c = c.perform.ensures.performs.meant

pub returns-clause-complete : goal.returns-clause-complete
returns-clause-complete c = c.perform.ensures.performs.complete

pub returns-clause-writes : goal.returns-clause-writes
returns-clause-writes c blamed = never_risen (c.perform.ensures.performs.acts.write_fault.risen blamed)

pub returns-clause-loads : goal.returns-clause-loads
returns-clause-loads c blamed = never_risen (c.perform.ensures.performs.acts.folder_fault.risen blamed)

pub returns-clause-reads : goal.returns-clause-reads
returns-clause-reads c blamed = never_risen (c.perform.ensures.performs.acts.read_fault.risen blamed)

pub returns-clause-leaves : goal.returns-clause-leaves
returns-clause-leaves c = c.perform.ensures.stands.leaves

pub returns-clause-silent : goal.returns-clause-silent
returns-clause-silent c silent = ap sure_written (c.perform.ensures.stands.silent silent)

pub returns-clause-told : goal.returns-clause-told
returns-clause-told c no_want = same_Some _ _ (c.perform.ensures.performs.line.whole never_risen no_want)
