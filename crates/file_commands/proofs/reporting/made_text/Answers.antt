use Rattle.std.proofs.Common.{ℕ, Vec}
use Rattle.std.specs.Global.{Global}
use Rattle.command_steps.specs.Files.{NotesAt}
use Rattle.file_commands.specs.Report.{SourceSteps}
use Rattle.file_commands.proofs.StepLaws.{comes_on}
use Rattle.file_commands.proofs.reporting.made_text.Goals as goal

pub returns-clause-steps : goal.returns-clause-steps
returns-clause-steps g c =
    comes_on (λ (v : Vec ℕ Global). v.items) _ _ (NotesAt (g.F.Folder.files c.args.folder.now) c.args.name.now)
    (λ files. SourceSteps files c.args.name.now) c.in_ok-notes.notes _ c.in_ok-notes.ensures.files
    c.in_ok-notes.ensures.told c.from_notes.ensures.steps
