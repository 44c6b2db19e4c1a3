use Rattle.std.proofs.Common.{◌≤◌, length, arith, ap, ◌∙◌, inl}
use Rattle.std.proofs.lemmas.Result.{err_from_is_err_and}
use Rattle.stack_ops.specs.Code.{CodeValue}
use Rattle.run_counts.specs.Counts.{counts_of}
use Rattle.run_counts.proofs.FewLaws.{code_few}
use Rattle.run_command.specs.Ran.{past_in, start_of}
use Rattle.run_command.proofs.KeepLaws.{joins_err}
use Rattle.run_command.proofs.kept.joined_file.Goals as goal

pub past_in-past-requires : goal.past_in-past-requires
past_in-past-requires c =
    let code = c.args.finished.now.machine.code in
    let few : length code.functions ≤ 1048576 = (code_few code c.requires.checked).0 in
    rw c.code.ensures (omega (arith, few))

pub returns-in_err-join-clause-steps : goal.returns-in_err-join-clause-steps
returns-in_err-join-clause-steps c = λ ran shows.
    let code = c.args.finished.now.machine.code in
    let found = c.args.found in
    let back = c.from_residual-in_err-join in
    let p = err_from_is_err_and back.result back.ensures.1 in
    rw (p.1, p.2)
    (inl (joins_err (past_in code found) _ (counts_of code ran.tally) (start_of code found) _ c.in_err-join.field-0.0
    (c.past_in-past.ensures ∙ ap (λ (x : CodeValue). past_in x found) c.code.ensures)
    (c.in_ok-counts.ensures.start ∙ ap (λ (x : CodeValue). start_of x found) c.code-2.ensures)
    (c.in_err-join.ensures.joins ran shows)))
