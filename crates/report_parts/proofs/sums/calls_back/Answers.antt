use Rattle.std.proofs.Common.{◌≡◌, ℕ, Bool, cond, ap, ◌∙◌, refl, arith}
use Rattle.report_parts.specs.Summary.{is_call_back}
use Rattle.report_parts.proofs.NumberLaws.{count_step}
use Rattle.report_parts.proofs.sums.calls_back.Goals as goal

pub loop-block-preserved : goal.loop-block-preserved
loop-block-preserved c =
    let f = c.args.function.now in
    let b = c.loop-block.block in
    let one : c.one_if-calls.result ≡ cond {A = ℕ} (is_call_back f b) 1 0 =
    c.one_if-calls.ensures.value ∙ ap (λ (t : Bool). cond {A = ℕ} t 1 0) c.is_call_back.ensures in
    record {
      left = count_step (is_call_back f) b f.net.blocks c.loop-block.calls _ c.one_if-calls.result _
          (omega (arith, c.loop-block-test.true, c.blocks-block-end.ensures)) refl one c.loop-block.invariant.left;
      few = omega (arith, c.loop-block.invariant.few, c.one_if-calls.ensures.most);
    }
