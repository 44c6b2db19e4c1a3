use Rattle.std.proofs.Common.{arith, sym, subst, ◌∙◌, [], drop, map}
use Rattle.std.proofs.lemmas.Result.{err_from_is_err_and}
use Rattle.c_tree.specs.TypedView.{typed_expr_view}
use Rattle.c_values.specs.Checks.{Stands}
use Rattle.c_values.proofs.ListLaws.{refused_at, ended}
use Rattle.c_types.proofs.DeclLaws.{initialisers, init_faults_are, inits_are}
use Rattle.c_types.proofs.declarations.initialisers.Goals as goal

pub returns-in_err-e : goal.returns-in_err-e
returns-in_err-e c =
    let n = c.args.names.now.scopes in
    let es = c.args.es.now in
    let p = err_from_is_err_and c.from_residual.result c.from_residual.ensures.1 in
    rw (p.1) (subst (λ fs. Stands fs (p.0)) (init_faults_are c.args.t n es)
    (refused_at (initialisers c.args.t) [] n n es c.loop-e.e-index c.e-item.result (map typed_expr_view c.loop-e.made) (p.0)
    (omega (arith, c.loop-e-test.true)) c.e-item.is c.loop-e.invariant (rw (p.2) (c.in_err-e.ensures))))

pub returns : goal.returns
returns c =
    let n = c.args.names.now.scopes in
    let es = c.args.es.now in
    let w = ended (initialisers c.args.t) [] n n es c.loop-e.e-index (map typed_expr_view c.loop-e.made)
    (omega (arith, c.loop-e-test.false)) c.loop-e.invariant in
    (sym (init_faults_are c.args.t n es) ∙ w.fine, w.made ∙ inits_are c.args.t n es)
