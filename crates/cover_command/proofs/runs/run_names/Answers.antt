-- One run more; or the command ends at this one.
use Rattle.std.proofs.Common.{◌≡◌, ◌<◌, ap, ◌∙◌, length, string_bytes, arith}
use Rattle.std.specs.Prelude.{Ok, Err}
use Rattle.std.proofs.lemmas.Result.{err_from_is_err_and}
use Rattle.cover_command.specs.Gains.{told_by_runs}
use Rattle.cover_command.proofs.RunLaws.{moved, one_more, stops_here, cause_later}
use Rattle.cover_command.proofs.runs.run_names.Goals as goal

pub loop-k-preserved : goal.loop-k-preserved
loop-k-preserved g c =
    let i = c.loop-k.invariant in
    let is = moved (g.F.Folder.files c.args.folder.now) _ c.args.machine.now.code _ c.args.machine.now.turns _ _ _
    (told_by_runs c.loop-k.gained) (Ok (told_by_runs c.run_name.new.gained)) i.files i.code i.turns
    (c.deref.ensures ∙ ap string_bytes c.index-names-k.is) c.in_ok-run_name.ensures.steps in
    record {
      behind = one_more _ _ _ c.loop-k.k c.args.names.now c.index-names-k.result (told_by_runs c.args.gained.now)
          (told_by_runs c.loop-k.gained) (told_by_runs c.run_name.new.gained) c.loop-k-test.true is i.behind;
      fits = c.in_ok-run_name.ensures.data;
      code = c.in_ok-run_name.ensures.code ∙ i.code;
      turns = c.in_ok-run_name.ensures.turns ∙ i.turns;
      files = c.in_ok-run_name.ensures.files ∙ i.files;
      cause = cause_later _ _ _ _ i.cause (record {
        later = c.in_ok-run_name.ensures.cause.later;
        stays = c.in_ok-run_name.ensures.cause.stays;
        risen = λ h. absurd h;
      });
    }

pub returns-in_err-run_name-clause-steps : goal.returns-in_err-run_name-clause-steps
returns-in_err-run_name-clause-steps g c =
    let i = c.loop-k.invariant in
    let p = err_from_is_err_and c.from_residual.result c.from_residual.ensures.1 in
    let is = moved (g.F.Folder.files c.args.folder.now) _ c.args.machine.now.code _ c.args.machine.now.turns _ _ _
    (told_by_runs c.loop-k.gained) (Err c.in_err-run_name.field-0.0) i.files i.code i.turns
    (c.deref.ensures ∙ ap string_bytes c.index-names-k.is) c.in_err-run_name.ensures.steps in
    rw (p.1, p.2) (stops_here (g.F.Folder.files c.args.folder.now) c.args.machine.now.code c.args.machine.now.turns
    c.loop-k.k c.args.names.now c.index-names-k.result (told_by_runs c.args.gained.now)
    (told_by_runs c.loop-k.gained) c.in_err-run_name.field-0.0 c.loop-k-test.true is i.behind)
