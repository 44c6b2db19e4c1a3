use Rattle.std.proofs.Common.{arith, sym, ap, subst, ◌∙◌, [], ◌++◌, length, map}
use Rattle.std.proofs.lemmas.Result.{err_from_is_err_and}
use Rattle.c_tree.specs.TreeView.{outer_view}
use Rattle.c_tree.specs.TypedView.{function_view}
use Rattle.c_typing.specs.Sources.{File, typed_functions}
use Rattle.c_values.specs.Checks.{Stands}
use Rattle.c_values.proofs.ListLaws.{refused_at, ended}
use Rattle.c_types.proofs.SourceLaws.{functions, numbers, outers_faults_are, functions_are, numbers_are}
use Rattle.c_types.proofs.sources.parts.Goals as goal

pub returns-in_err-part : goal.returns-in_err-part
returns-in_err-part c =
    let defs = c.args.functions.now in
    let start : File = record { here = c.args.names.now; made = 0 } in
    let here : File = record { here = c.loop-outer.names; made = length c.loop-outer.made } in
    let os = c.args.outers.now in
    let p = err_from_is_err_and c.from_residual.result c.from_residual.ensures.1 in
    rw (p.1) (subst (λ fs. Stands fs (p.0)) (outers_faults_are defs start os)
    (refused_at (functions defs) [] start here os c.loop-outer.outer-index c.outer-item.result
    (map function_view c.loop-outer.made) (p.0) (omega (arith, c.loop-outer-test.true)) c.outer-item.is
    c.loop-outer.invariant.made (rw (p.2) (c.in_err-part.ensures.moves))))

pub returns : goal.returns
returns c =
    let defs = c.args.functions.now in
    let start : File = record { here = c.args.names.now; made = 0 } in
    let here : File = record { here = c.loop-outer.names; made = length c.loop-outer.made } in
    let os = c.args.outers.now in
    let past = c.loop-outer-test.false in
    let w = ended (functions defs) [] start here os c.loop-outer.outer-index (map function_view c.loop-outer.made)
    (omega (arith, past)) c.loop-outer.invariant.made in
    let v = ended (numbers defs) c.args.numbers.now start here os c.loop-outer.outer-index c.loop-outer.numbers
    (omega (arith, past)) c.loop-outer.invariant.numbers in (
      sym (outers_faults_are defs start os) ∙ w.fine,
      ap (λ x. (x, c.loop-outer.numbers)) (w.made ∙ functions_are defs start os)
          ∙ ap (λ y. (typed_functions defs start (map outer_view os), y))
          (v.made ∙ ap (λ ns. c.args.numbers.now ++ ns) (numbers_are defs start os)),
    )
