-- The pieces put one after another are all the bytes.
use Rattle.std.proofs.Common.{subst, ◌∙◌, take}
use Rattle.std.specs.Prelude.{Ok, Err}
use Rattle.std.proofs.lemmas.Result.{err_from_is_err_and}
use Rattle.cov_outside.specs.FileCalls.{Appends, Told}
use Rattle.cov_outside.proofs.Causes.{HasCause-join}
use Rattle.cov_outside.proofs.Whole.{fits_more, rest_from}
use Rattle.cov_outside.proofs.FileLaws.{Told-join, AppendsAll-more, AppendsAll-fault}
use Rattle.cov_outside.proofs.whole_files.append_all.Goals as goal

pub returns-in_err-at-clause-appends : goal.returns-in_err-at-clause-appends
returns-in_err-at-clause-appends g c =
    let n = g.C.FileCalls.name_of c.args.file.now in
    let p = err_from_is_err_and c.from_residual.result c.from_residual.ensures.1 in
    let now = g.C.FileCalls.files c.loop-at.calls in
    let after = g.C.FileCalls.files c.write_again.new.calls in
    let none : Told (Appends n (Err c.in_err-at.field-0.0) (rest_from c.loop-at.at c.args.bytes.now)) now after = subst (λ m. Told (Appends m (Err c.in_err-at.field-0.0) (rest_from c.loop-at.at c.args.bytes.now)) now after) c.loop-at.invariant.1 c.in_err-at.ensures.appends in
    rw (p.1) (Told-join _ _ _ (AppendsAll-fault n c.args.bytes.now (take c.loop-at.at c.args.bytes.now) (rest_from c.loop-at.at c.args.bytes.now) c.in_err-at.field-0.0 p.0) _ now after c.loop-at.invariant.2 none)

pub loop-at-preserved : goal.loop-at-preserved
loop-at-preserved g c =
    let n = g.C.FileCalls.name_of c.args.file.now in
    let now = g.C.FileCalls.files c.loop-at.calls in
    let after = g.C.FileCalls.files c.write_again.new.calls in
    let more : Told (Appends n (Ok c.in_ok-at.field-0) (rest_from c.loop-at.at c.args.bytes.now)) now after = subst (λ m. Told (Appends m (Ok c.in_ok-at.field-0) (rest_from c.loop-at.at c.args.bytes.now)) now after) c.loop-at.invariant.1 c.in_ok-at.ensures.appends in (
      fits_more c.loop-at.at _ c.args.bytes.now c.loop-at.invariant.0 c.in_ok-at.ensures.fits,
      c.write_again.ensures.named ∙ c.loop-at.invariant.1,
      Told-join _ _ _ (AppendsAll-more n c.args.bytes.now c.loop-at.at c.in_ok-at.field-0) _ now after c.loop-at.invariant.2 more,
      HasCause-join _ _ _ ⊥ _ ⊥ c.loop-at.invariant.3 c.write_again.ensures.cause (λ h. absurd h),
    )
