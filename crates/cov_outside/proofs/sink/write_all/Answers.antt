use Rattle.cov_outside.proofs.Causes.{HasCause-join}
use Rattle.cov_outside.proofs.Whole.{fits_more, Wrote-more}
use Rattle.cov_outside.proofs.sink.write_all.Goals as goal

pub loop-at-preserved : goal.loop-at-preserved
loop-at-preserved g c = (
  fits_more c.loop-at.at _ c.args.bytes.now c.loop-at.invariant.0 c.in_ok-at.ensures.fits,
  Wrote-more (g.K.Sink.written c.args.sink.now) (g.K.Sink.written c.loop-at.sink) _ c.loop-at.at c.in_ok-at.field-0 c.args.bytes.now c.loop-at.invariant.1 c.in_ok-at.ensures.writes,
  HasCause-join (g.K.Sink.faults c.args.sink.now) (g.K.Sink.faults c.loop-at.sink) _ ⊥ _ ⊥ c.loop-at.invariant.2 c.write.ensures.cause (λ h. absurd h),
  HasCause-join (g.K.Sink.wants c.args.sink.now) (g.K.Sink.wants c.loop-at.sink) _ ⊥ _ ⊥ c.loop-at.invariant.3 c.write.ensures.want (λ h. absurd h),
)
