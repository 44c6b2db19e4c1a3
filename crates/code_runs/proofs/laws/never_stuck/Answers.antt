use Rattle.code_runs.proofs.CodeLaws.{checked_is_sound}
use Rattle.code_runs.proofs.NeverStuck.{first_fits, keeps, never_stuck}
use Rattle.code_runs.proofs.laws.never_stuck.Goals as goal

pub returns-clause-sound : goal.returns-clause-sound
returns-clause-sound c = checked_is_sound

pub returns-clause-first : goal.returns-clause-first
returns-clause-first c = first_fits

pub returns-clause-stay : goal.returns-clause-stay
returns-clause-stay c = keeps

pub returns-clause-stuck : goal.returns-clause-stuck
returns-clause-stuck c = never_stuck
