use Rattle.std.proofs.Common.{arith, sym, ap, subst, ◌∙◌, ◌++◌}
use Rattle.std.proofs.lemmas.Result.{err_from_is_err_and}
use Rattle.c_values.specs.Checks.{Stands}
use Rattle.c_values.proofs.ListLaws.{refused_at, ended}
use Rattle.c_types.proofs.DeclLaws.{globals, global_faults_are, numbers_are, globals_end}
use Rattle.c_types.proofs.declarations.globals.Goals as goal

pub returns-in_err-global : goal.returns-in_err-global
returns-in_err-global c =
    let h = c.args.names.now in
    let vs = c.args.vars.now in
    let p = err_from_is_err_and c.from_residual.result c.from_residual.ensures.1 in
    rw (p.1) (subst (λ fs. Stands fs (p.0)) (global_faults_are h vs)
    (refused_at globals c.args.numbers.now h c.loop-v.names vs c.loop-v.v-index c.v-item.result c.loop-v.numbers (p.0)
    (omega (arith, c.loop-v-test.true)) c.v-item.is c.loop-v.invariant (rw (p.2) (c.in_err-global.ensures))))

pub returns : goal.returns
returns c =
    let h = c.args.names.now in
    let vs = c.args.vars.now in
    let w = ended globals c.args.numbers.now h c.loop-v.names vs c.loop-v.v-index c.loop-v.numbers
    (omega (arith, c.loop-v-test.false)) c.loop-v.invariant in (
      sym (global_faults_are h vs) ∙ w.fine,
      w.made ∙ ap (λ xs. c.args.numbers.now ++ xs) (numbers_are h vs),
      w.ends ∙ globals_end h vs,
    )
