use Rattle.lower_agrees.proofs.Whole.{agree}
use Rattle.lower_agrees.proofs.Targets.{targets_stand}
use Rattle.lower_agrees.proofs.Lines.{lines_stand}
use Rattle.lower_agrees.proofs.Bounded.{runs_within}
use Rattle.lower_agrees.proofs.laws.agreement.Goals as goal

pub returns-clause-agrees : goal.returns-clause-agrees
returns-clause-agrees c = agree

pub returns-clause-targets : goal.returns-clause-targets
returns-clause-targets c = targets_stand

pub returns-clause-lines : goal.returns-clause-lines
returns-clause-lines c = lines_stand

pub returns-clause-short : goal.returns-clause-short
returns-clause-short c = runs_within
