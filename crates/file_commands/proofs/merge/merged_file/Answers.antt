use Rattle.std.proofs.Common.{ℕ, Vec}
use Rattle.std.specs.Global.{Global}
use Rattle.command_steps.specs.Files.{DataAt}
use Rattle.file_commands.specs.Merge.{SecondSteps}
use Rattle.file_commands.proofs.StepLaws.{comes_on}
use Rattle.file_commands.proofs.merge.merged_file.Goals as goal

pub returns-clause-steps : goal.returns-clause-steps
returns-clause-steps g c =
    comes_on (λ (v : Vec ℕ Global). v.items) _ _ (DataAt (g.F.Folder.files c.args.folder.now) c.args.first.now)
    (λ files. SecondSteps files c.args.second.now) c.in_ok-counts.counts _ c.in_ok-counts.ensures.files
    c.in_ok-counts.ensures.told c.with_second.ensures.steps
