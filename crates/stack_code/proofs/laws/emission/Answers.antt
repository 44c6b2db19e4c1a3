use Rattle.stack_code.proofs.Deep.{counted_enough}
use Rattle.stack_code.proofs.Followed.{emitted_follows, laid_emits, laid_passes}
use Rattle.stack_code.proofs.ArcMarks.{modes_mark, marks_there}
use Rattle.stack_code.proofs.LaidLaws.{laid_out}
use Rattle.stack_code.proofs.Sounding.{laid_sound}
use Rattle.stack_code.proofs.CoveredPasses.{covered_passes}
use Rattle.stack_code.proofs.PassLaws.{plain_passes}
use Rattle.stack_code.proofs.Sizes.{laid_short}
use Rattle.stack_code.proofs.laws.emission.Goals as goal

pub returns-clause-follows : goal.returns-clause-follows
returns-clause-follows c = emitted_follows

pub returns-clause-laid : goal.returns-clause-laid
returns-clause-laid c = laid_out

pub returns-clause-emits : goal.returns-clause-emits
returns-clause-emits c = laid_emits

pub returns-clause-passes : goal.returns-clause-passes
returns-clause-passes c = laid_passes

pub returns-clause-short : goal.returns-clause-short
returns-clause-short c = laid_short

pub returns-clause-modes : goal.returns-clause-modes
returns-clause-modes c = modes_mark

pub returns-clause-there : goal.returns-clause-there
returns-clause-there c = marks_there

pub returns-clause-depth : goal.returns-clause-depth
returns-clause-depth c = counted_enough

pub returns-clause-sound : goal.returns-clause-sound
returns-clause-sound c = laid_sound

pub returns-clause-plain : goal.returns-clause-plain
returns-clause-plain c = plain_passes

pub returns-clause-covered : goal.returns-clause-covered
returns-clause-covered c = covered_passes
