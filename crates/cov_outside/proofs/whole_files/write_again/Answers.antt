-- What a write put after interrupted ones is what they put together.
use Rattle.std.proofs.Common.{rules, subst, ◌∙◌, inr}
use Rattle.std.specs.Prelude.{Err}
use Rattle.cov_outside.specs.FileCalls.{Appends, Told}
use Rattle.cov_outside.specs.declared.faults.CallFault.TheVariants.{Interrupted}
use Rattle.cov_outside.proofs.Causes.{HasCause-join}
use Rattle.cov_outside.proofs.FileLaws.{Told-join, Appends-again}
use Rattle.cov_outside.proofs.whole_files.write_again.Goals as goal

pub loop-preserved : goal.loop-preserved
loop-preserved g c =
    let n = g.C.FileCalls.name_of c.args.file.now in
    let piece = c.args.piece.now in
    let before = g.C.FileCalls.files c.args.calls.now in
    let now = g.C.FileCalls.files c.loop.calls in
    let after = g.C.FileCalls.files c.write-answer-in-loop.new.self in
    let none : Told (Appends n (Err Interrupted) piece) before now = search rules in
    let more : Told (Appends n c.write-answer-in-loop.result piece) now after = subst (λ m. Told (Appends m c.write-answer-in-loop.result piece) now after) c.loop.invariant.2 c.write-answer-in-loop.ensures.appends in (
      c.write-answer-in-loop.ensures.fits,
      c.write-answer-in-loop.ensures.goes,
      c.write-answer-in-loop.ensures.named ∙ c.loop.invariant.2,
      Told-join _ _ _ (Appends-again n piece Interrupted c.write-answer-in-loop.result) before now after none more,
      HasCause-join _ _ _ _ _ _ c.loop.invariant.4 c.write-answer-in-loop.ensures.cause (λ h. inr h),
    )
