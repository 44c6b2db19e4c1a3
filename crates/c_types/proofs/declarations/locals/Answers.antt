use Rattle.std.proofs.Common.{arith, sym, ap, subst, ◌∙◌, [], map}
use Rattle.std.proofs.lemmas.Result.{err_from_is_err_and}
use Rattle.c_tree.specs.TypedView.{typed_var_view}
use Rattle.c_values.specs.Checks.{Stands}
use Rattle.c_values.proofs.ListLaws.{refused_at, ended}
use Rattle.c_types.proofs.DeclLaws.{locals, local_faults_are, locals_are, locals_end}
use Rattle.c_types.proofs.declarations.locals.Goals as goal

pub returns-in_err-v : goal.returns-in_err-v
returns-in_err-v c =
    let h = c.args.names.now in
    let vs = c.args.vars.now in
    let p = err_from_is_err_and c.from_residual.result c.from_residual.ensures.1 in
    rw (p.1) (subst (λ fs. Stands fs (p.0)) (local_faults_are h vs)
    (refused_at locals [] h c.loop-v.names vs c.loop-v.v-index c.v-item.result (map typed_var_view c.loop-v.made) (p.0)
    (omega (arith, c.loop-v-test.true)) c.v-item.is c.loop-v.invariant (rw (p.2) (c.in_err-v.ensures))))

pub returns : goal.returns
returns c =
    let h = c.args.names.now in
    let vs = c.args.vars.now in
    let w = ended locals [] h c.loop-v.names vs c.loop-v.v-index (map typed_var_view c.loop-v.made)
    (omega (arith, c.loop-v-test.false)) c.loop-v.invariant in
    (sym (local_faults_are h vs) ∙ w.fine, w.made ∙ locals_are h vs, w.ends ∙ locals_end h vs)
