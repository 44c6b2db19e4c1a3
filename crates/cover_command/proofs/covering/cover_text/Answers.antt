-- The source is loaded, and then compiled and run.
use Rattle.std.proofs.Common.{ℕ, List, Vec, subst, map, string_bytes}
use Rattle.std.specs.Global.{Global}
use Rattle.cov_base.specs.Limits.{source_limit}
use Rattle.command_steps.specs.Files.{LoadsFile}
use Rattle.command_steps.specs.Names.{stem}
use Rattle.command_steps.specs.Steps.{Comes}
use Rattle.file_commands.proofs.StepLaws.{comes_on}
use Rattle.cover_command.specs.Cover.{CompileSteps}
use Rattle.cover_command.proofs.covering.cover_text.Goals as goal

pub returns-clause-steps : goal.returns-clause-steps
returns-clause-steps g c =
    let w = c.args.words in
    let inputs = map string_bytes w.inputs.now in
    comes_on (λ (v : Vec ℕ Global). v.items) _ _
    (LoadsFile (g.F.Folder.files c.args.folder.now) w.source.now source_limit)
    (λ files text. CompileSteps files w.turns w.limit (stem w.source.now) inputs text) c.in_ok-text.text.items _
    c.in_ok-text.ensures.files c.in_ok-text.ensures.loads
    (rw (← c.requires.name, ← c.deref.ensures.value) c.source_text.ensures.steps)
