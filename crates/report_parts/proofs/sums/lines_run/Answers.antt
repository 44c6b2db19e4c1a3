use Rattle.std.proofs.Common.{◌≡◌, ℕ, ◌+◌, Bool, cond, ap, ◌∙◌, refl, arith}
use Rattle.report_parts.specs.CountSteps.{count_at}
use Rattle.report_parts.specs.Summary.{is_run}
use Rattle.report_parts.proofs.NumberLaws.{count_step}
use Rattle.report_parts.proofs.sums.lines_run.Goals as goal

pub loop-line-preserved : goal.loop-line-preserved
loop-line-preserved c =
    let counts = c.args.counts.now in
    let k = c.loop-line.line in
    let one : c.one_if-run.result ≡ cond {A = ℕ} (is_run (count_at counts k)) 1 0 =
    c.one_if-run.ensures.value ∙ ap (λ (t : Bool). cond {A = ℕ} t 1 0)
    (c.is_run.ensures ∙ ap is_run c.count_of.ensures) in
    record {
      left = count_step (λ line. is_run (count_at counts line)) k (c.args.lines + 1) c.loop-line.run _ c.one_if-run.result _
          (omega (arith, c.loop-line-test.true)) refl one c.loop-line.invariant.left;
      few = omega (arith, c.loop-line.invariant.few, c.one_if-run.ensures.most);
    }
