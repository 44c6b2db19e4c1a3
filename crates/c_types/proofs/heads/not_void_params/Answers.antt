use Rattle.std.proofs.Common.{arith, sym, subst, ◌∙◌, []}
use Rattle.std.proofs.lemmas.Result.{err_from_is_err_and}
use Rattle.c_values.specs.Checks.{Stands}
use Rattle.c_values.proofs.ListLaws.{refused_at, ended}
use Rattle.c_types.proofs.HeadLaws.{valued, void_params_are}
use Rattle.c_types.proofs.heads.not_void_params.Goals as goal

pub returns-in_err-not_void : goal.returns-in_err-not_void
returns-in_err-not_void c =
    let ps = c.args.params.now in
    let p = err_from_is_err_and c.from_residual.result c.from_residual.ensures.1 in
    rw (p.1) (subst (λ fs. Stands fs (p.0)) (void_params_are 0 ps)
    (refused_at valued [] 0 0 ps c.loop-p.p-index c.p-item.result [] (p.0) (omega (arith, c.loop-p-test.true))
    c.p-item.is c.loop-p.invariant (rw (p.2) (c.in_err-not_void.ensures))))

pub returns : goal.returns
returns c =
    let ps = c.args.params.now in
    let w = ended valued [] 0 0 ps c.loop-p.p-index [] (omega (arith, c.loop-p-test.false)) c.loop-p.invariant in
    sym (void_params_are 0 ps) ∙ w.fine
