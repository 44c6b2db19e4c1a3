use Rattle.headline.proofs.Files.{reports_meant}
use Rattle.headline.proofs.Ready.{reports_stop}
use Rattle.headline.proofs.laws.reports_are_meant.Goals as goal

pub returns-clause-reports : goal.returns-clause-reports
returns-clause-reports c = reports_meant

pub returns-clause-reported : goal.returns-clause-reported
returns-clause-reported c = reports_stop
