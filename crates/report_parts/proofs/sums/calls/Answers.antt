use Rattle.std.proofs.Common.{◌≡◌, ℕ, Bool, cond, ap, ◌∙◌, refl, arith}
use Rattle.report_parts.specs.Summary.{is_call}
use Rattle.report_parts.proofs.NumberLaws.{count_step}
use Rattle.report_parts.proofs.sums.calls.Goals as goal

pub loop-block-preserved : goal.loop-block-preserved
loop-block-preserved c =
    let net = c.args.function.now.net in
    let b = c.loop-block.block in
    let one : c.one_if-calls.result ≡ cond {A = ℕ} (is_call net.arcs b) 1 0 =
    c.one_if-calls.ensures.value ∙ ap (λ (t : Bool). cond {A = ℕ} t 1 0)
    (c.is_call.ensures ∙ ap (λ arcs. is_call arcs b) c.arcs.ensures.value) in
    record {
      left = count_step (is_call net.arcs) b net.blocks c.loop-block.calls _ c.one_if-calls.result _
          (omega (arith, c.loop-block-test.true, c.blocks-block-end.ensures)) refl one c.loop-block.invariant.left;
      few = omega (arith, c.loop-block.invariant.few, c.one_if-calls.ensures.most);
    }
