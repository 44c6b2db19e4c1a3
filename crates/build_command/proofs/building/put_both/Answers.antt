use Rattle.std.proofs.Common.{◌∙◌, ap}
use Rattle.code_file.specs.Reading.{told}
use Rattle.build_command.proofs.PutLaws.{both_put}
use Rattle.build_command.proofs.building.put_both.Goals as goal

pub returns-clause-puts : goal.returns-clause-puts
returns-clause-puts g c =
    both_put c.args.name.now c.args.covered.now (g.F.Folder.files c.args.folder.now)
    (g.F.Folder.files c.put_notes.new.folder) (g.F.Folder.files c.put_code.new.folder) c.put_code.result
    c.deref.result.now c.deref-2.result.now (ap told c.deref-2.ensures.value ∙ c.in_ok-code.ensures.reads)
    (c.deref-2.ensures.value ∙ c.in_ok-code.ensures.spelled) (c.deref.ensures.value ∙ c.in_ok-notes.ensures)
    c.in_ok-put_notes.ensures.puts c.put_code.ensures.puts c.put_code.ensures.kind
