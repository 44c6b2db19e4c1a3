use Rattle.std.proofs.Common.{◌∙◌, sym}
use Rattle.note_rows.proofs.Writable.{writable}
use Rattle.note_rows.proofs.again.written_again.Goals as goal

pub write_notes-requires : goal.write_notes-requires
write_notes-requires c =
    writable c.in_ok-notes.notes (c.in_ok-notes.ensures.exact.ok c.in_ok-notes.notes c.in_ok-notes.ensures.told).0

pub returns-in-Ok : goal.returns-in-Ok
returns-in-Ok c =
    c.in-Ok.ensures
    ∙ sym (c.in_ok-notes.ensures.exact.ok c.in_ok-notes.notes c.in_ok-notes.ensures.told).1
