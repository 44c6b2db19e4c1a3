use Rattle.std.proofs.Common.{refl}
use Rattle.file_commands.specs.Report.{ReportSteps}
use Rattle.file_commands.proofs.StopLaws.{report_stops}
use Rattle.file_commands.proofs.ReportLaws.{stopped}
use Rattle.file_commands.proofs.reporting.report.Goals as goal

pub returns-clause-writes : goal.returns-clause-writes
returns-clause-writes g c =
    stopped (ReportSteps (g.F.Folder.files c.args.folder.now) c.args.name.now) _ _ c.in-Err.end c.in-Err.ensures.steps
    (report_stops (g.F.Folder.files c.args.folder.now) c.args.name.now c.in-Err.end c.in-Err.ensures.steps) refl
