use Rattle.std.proofs.Common.{ℕ, Vec}
use Rattle.std.specs.Global.{Global}
use Rattle.file_commands.specs.Report.{FindsData}
use Rattle.file_commands.proofs.StepLaws.{comes_next}
use Rattle.run_command.specs.Ran.{JoinSteps}
use Rattle.run_command.proofs.kept.data_file.Goals as goal

pub returns-clause-steps : goal.returns-clause-steps
returns-clause-steps g c = λ ran shows.
    comes_next (λ (v : Vec ℕ Global). v.items) (FindsData (g.F.Folder.files c.args.folder.now) c.args.name.now)
    (JoinSteps c.args.finished.now.machine.code ran) c.in_ok-found.found _ c.in_ok-found.ensures.told
    (c.joined_file.ensures.steps ran shows)
