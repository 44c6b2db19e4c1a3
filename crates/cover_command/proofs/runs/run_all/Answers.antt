-- Memory may be wanting before any run.
use Rattle.std.proofs.Common.{map, string_bytes}
use Rattle.std.proofs.lemmas.Result.{err_from_is_err_and}
use Rattle.cover_command.specs.Cover.{untold}
use Rattle.cover_command.proofs.RunLaws.{runs_out}
use Rattle.cover_command.proofs.runs.run_all.Goals as goal

pub returns-in_err-no_counts-clause-steps : goal.returns-in_err-no_counts-clause-steps
returns-in_err-no_counts-clause-steps g c =
    let p = err_from_is_err_and c.from_residual.result c.from_residual.ensures.1 in
    rw (p.1, p.2) (runs_out (g.F.Folder.files c.args.folder.now) c.args.code c.args.turns
    (map string_bytes c.args.inputs.now) (untold c.args.code))

pub returns-in_err-machine-clause-steps : goal.returns-in_err-machine-clause-steps
returns-in_err-machine-clause-steps g c =
    let p = err_from_is_err_and c.from_residual-in_err-machine.result c.from_residual-in_err-machine.ensures.1 in
    rw (p.1, p.2) (runs_out (g.F.Folder.files c.args.folder.now) c.args.code c.args.turns
    (map string_bytes c.args.inputs.now) (untold c.args.code))
