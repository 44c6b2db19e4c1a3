use Rattle.std.proofs.Common.{◌≡◌, ℕ, Bool, cond, ap, ◌∙◌, refl, arith}
use Rattle.report_parts.specs.Shown.{has_bit}
use Rattle.report_parts.specs.Summary.{listed}
use Rattle.report_parts.proofs.NumberLaws.{count_step}
use Rattle.report_parts.proofs.sums.paths_covered.Goals as goal

pub loop-k-preserved : goal.loop-k-preserved
loop-k-preserved c =
    let f = c.args.function.now in
    let k = c.loop-k.k in
    let one : c.one_if-covered.result ≡ cond {A = ℕ} (has_bit f.bits k) 1 0 =
    c.one_if-covered.ensures.value ∙ ap (λ (t : Bool). cond {A = ℕ} t 1 0) c.covers.ensures in
    record {
      left = count_step (has_bit f.bits) k (listed f.listing) c.loop-k.covered _ c.one_if-covered.result _
          (omega (arith, c.loop-k-test.true, c.listed-k-end.ensures)) refl one c.loop-k.invariant.left;
      few = omega (arith, c.loop-k.invariant.few, c.one_if-covered.ensures.most);
    }
