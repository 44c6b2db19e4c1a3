use Rattle.std.proofs.Common.{arith, sym, subst, ◌∙◌, []}
use Rattle.std.proofs.lemmas.Result.{err_from_is_err_and}
use Rattle.c_values.specs.Checks.{Stands}
use Rattle.c_values.proofs.ListLaws.{refused_at, ended}
use Rattle.c_types.proofs.HeadLaws.{parameters, params_faults_are, params_end}
use Rattle.c_types.proofs.heads.parameters.Goals as goal

pub returns-in_err-parameter : goal.returns-in_err-parameter
returns-in_err-parameter c =
    let h = c.args.names.now in
    let ps = c.args.params.now in
    let p = err_from_is_err_and c.from_residual.result c.from_residual.ensures.1 in
    rw (p.1) (subst (λ fs. Stands fs (p.0)) (params_faults_are h ps)
    (refused_at parameters [] h c.loop-p.names ps c.loop-p.p-index c.p-item.result [] (p.0)
    (omega (arith, c.loop-p-test.true)) c.p-item.is c.loop-p.invariant (rw (p.2) (c.in_err-parameter.ensures))))

pub returns : goal.returns
returns c =
    let h = c.args.names.now in
    let ps = c.args.params.now in
    let w = ended parameters [] h c.loop-p.names ps c.loop-p.p-index [] (omega (arith, c.loop-p-test.false))
    c.loop-p.invariant in
    (sym (params_faults_are h ps) ∙ w.fine, w.ends ∙ params_end h ps)
