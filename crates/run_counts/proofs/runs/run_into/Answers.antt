use Rattle.std.proofs.Common.{◌≤◌, length, subst, sym, ap, ap₂, ◌∙◌, arith, ℕ, List, ◌++◌}
use Rattle.std.proofs.lemmas.Result.{err_from_is_err_and}
use Rattle.run_merge.specs.Merging.{HasFew}
use Rattle.run_counts.specs.Texts.{run_text}
use Rattle.run_counts.proofs.FewLaws.{code_few}
use Rattle.run_counts.proofs.MergeLaws.{run_few}
use Rattle.run_counts.proofs.RunLaws.{data_is, tells_ok, tells_err}
use Rattle.run_counts.proofs.runs.run_into.Goals as goal

pub merge_closed-requires-clause-functions : goal.merge_closed-requires-clause-functions
merge_closed-requires-clause-functions c =
    let few : length c.args.machine.now.code.functions ≤ 1048576 =
    (code_few c.args.machine.now.code c.requires.checked).0 in
    rw c.run-ending.ensures.code (omega (arith, few))

pub merge_closed-requires-clause-run_few : goal.merge_closed-requires-clause-run_few
merge_closed-requires-clause-run_few c =
    let code = c.args.machine.now.code in
    let h = c.run-ending.ensures.ran in
    subst HasFew (sym (data_is code h.0 c.run-ending.new.self c.run-ending.result c.run-ending.ensures.code h.2))
    (run_few code c.requires.checked c.args.input.now c.args.machine.now.turns h.0 h.1)

pub returns-in_err-merge_closed-clause-only : goal.returns-in_err-merge_closed-clause-only
returns-in_err-merge_closed-clause-only c = λ ran run.
    let back = c.from_residual-in_err-merge_closed in
    let p = err_from_is_err_and back.result back.ensures.1 in
    rw (p.1, p.2)
    (tells_err c.args.machine.now.code c.args.name.now ran c.run-ending.new.self c.run-ending.result c.args.counts.now
    c.merge_closed.new.counts c.args.text.now.items _ c.in_err-merge_closed.field-0.0 c.run-ending.ensures.code
    (c.run-ending.ensures.only ran run) c.in_err-merge_closed.ensures.merged c.in_ok-reserve.ensures.items)

pub returns-clause-only : goal.returns-clause-only
returns-clause-only c = λ ran run.
    tells_ok c.args.machine.now.code c.args.name.now ran c.run-ending.new.self c.run-ending.result c.args.counts.now
    c.merge_closed.new.counts c.args.text.now.items c.in_ok-told.told.items _ c.run-ending.ensures.code
    (c.run-ending.ensures.only ran run) c.in_ok-merge_closed.ensures.merged.0 c.in_ok-merge_closed.ensures.merged.1
    (c.in_ok-told.ensures
    ∙ ap (λ (o : List ℕ). run_text c.args.name.now c.run-ending.result o) c.output.ensures)
    (c.in_ok-extend_from_slice.ensures.items
    ∙ ap₂ (λ (xs ys : List ℕ). xs ++ ys) c.in_ok-reserve.ensures.items c.deref.ensures.value)
