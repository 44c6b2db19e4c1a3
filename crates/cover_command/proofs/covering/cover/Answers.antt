-- The text is that of the steps; or the command ended at one of them, and nothing was written.
use Rattle.std.proofs.Common.{refl, map, string_bytes}
use Rattle.cov_answers.proofs.WriteLaws.{no_cause}
use Rattle.file_commands.proofs.ReportLaws.{stopped}
use Rattle.cover_command.specs.Cover.{CoverSteps}
use Rattle.cover_command.proofs.StopLaws.{cover_stops, cut, not_write_fault}
use Rattle.cover_command.proofs.covering.cover.Goals as goal

pub returns-clause-writes : goal.returns-clause-writes
returns-clause-writes g c =
    let files = g.F.Folder.files c.args.folder.now in
    let w = c.args.words in
    stopped (CoverSteps files w.turns w.limit w.source.now (map string_bytes w.inputs.now)) _ _ c.in-Err.end
    c.in-Err.ensures.steps
    (cover_stops files w.turns w.limit w.source.now (map string_bytes w.inputs.now) c.in-Err.end c.in-Err.ensures.steps)
    refl

pub returns-in-Ok-clause-writes : goal.returns-in-Ok-clause-writes
returns-in-Ok-clause-writes g c =
    let w = c.args.words in
    cut (CoverSteps (g.F.Folder.files c.args.folder.now) w.turns w.limit w.source.now (map string_bytes w.inputs.now))
    _ _ c.in-Ok.text.items c.in-Err-write_text.end c.in-Ok.ensures.steps c.in-Err-write_text.ensures.kind
    (rw (← c.deref.ensures.value) c.in-Err-write_text.ensures.writes)

pub returns-clause-write_cause : goal.returns-clause-write_cause
returns-clause-write_cause g c =
    let files = g.F.Folder.files c.args.folder.now in
    let w = c.args.words in
    no_cause _ _ (not_write_fault c.in-Err.end
    (cover_stops files w.turns w.limit w.source.now (map string_bytes w.inputs.now) c.in-Err.end c.in-Err.ensures.steps))
