use Rattle.headline.proofs.CountedRuns.{runs_meant}
use Rattle.headline.proofs.laws.runs_are_meant.Goals as goal

pub returns : goal.returns
returns c = record { runs = runs_meant }
