use Rattle.std.proofs.Common.{arith, sym, ap, subst, ◌∙◌, ◌++◌}
use Rattle.std.proofs.lemmas.Result.{err_from_is_err_and}
use Rattle.c_values.specs.Checks.{Stands}
use Rattle.c_values.proofs.ListLaws.{refused_at, ended}
use Rattle.c_types.proofs.DeclLaws.{constants, constant_faults_are, constants_are}
use Rattle.c_types.proofs.declarations.listed_numbers.Goals as goal

pub returns-in_err-n : goal.returns-in_err-n
returns-in_err-n c =
    let n = c.args.names.now.scopes in
    let es = c.args.es.now in
    let p = err_from_is_err_and c.from_residual.result c.from_residual.ensures.1 in
    rw (p.1) (subst (λ fs. Stands fs (p.0)) (constant_faults_are c.args.t c.args.place n es)
    (refused_at (constants c.args.t c.args.place) c.args.numbers.now n n es c.loop-e.e-index c.e-item.result c.loop-e.numbers (p.0)
    (omega (arith, c.loop-e-test.true)) c.e-item.is c.loop-e.invariant (rw (p.2) (c.in_err-n.ensures))))

pub returns : goal.returns
returns c =
    let n = c.args.names.now.scopes in
    let es = c.args.es.now in
    let w = ended (constants c.args.t c.args.place) c.args.numbers.now n n es c.loop-e.e-index c.loop-e.numbers
    (omega (arith, c.loop-e-test.false)) c.loop-e.invariant in (
      sym (constant_faults_are c.args.t c.args.place n es) ∙ w.fine,
      w.made ∙ ap (λ xs. c.args.numbers.now ++ xs) (constants_are c.args.t c.args.place n es),
    )
