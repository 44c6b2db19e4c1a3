use Rattle.command_steps.specs.Names.{data_name}
use Rattle.file_commands.specs.Merge.{MergeSteps}
use Rattle.file_commands.proofs.StopLaws.{merge_stops}
use Rattle.file_commands.proofs.MergeLaws.{stopped}
use Rattle.file_commands.proofs.merge.merge_files.Goals as goal

pub returns-clause-replaces : goal.returns-clause-replaces
returns-clause-replaces g c =
    stopped (MergeSteps (g.F.Folder.files c.args.folder.now) c.args.first.now c.args.second.now)
    (data_name c.args.out.now) _ _ c.in-Err.end c.in-Err.ensures.steps
    (merge_stops (g.F.Folder.files c.args.folder.now) c.args.first.now c.args.second.now c.in-Err.end
    c.in-Err.ensures.steps) c.in-Err.ensures.files
