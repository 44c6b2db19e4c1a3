use Rattle.std.proofs.Common.{◌∙◌, ◌-◌, ◌+◌, sym, ap, drop}
use Rattle.code_runs.specs.Tables.{rows_fault}
use Rattle.code_runs.specs.CodeChecks.{of_table}
use Rattle.code_checks.proofs.TableLaws.{rows_left}
use Rattle.code_checks.proofs.tables.rows_fault.Goals as goal

pub returns-in-Err : goal.returns-in-Err
returns-in-Err c =
    let t = drop c.loop.at c.args.table.now in
    sym (c.in-Err.ensures (λ at rest. rows_fault c.args.words (c.args.passes - (c.loop.counter + 1)) at rest))
    ∙ ap of_table (sym (rows_left c.args.words c.args.passes c.loop.counter c.loop.at t c.loop-test.true)
    ∙ c.loop.invariant.told)

pub loop-preserved : goal.loop-preserved
loop-preserved c =
    let t = drop c.loop.at c.args.table.now in
    record {
      within = c.in-Ok.ensures.0;
      told = sym (c.in-Ok.ensures.1 (λ at rest. rows_fault c.args.words (c.args.passes - (c.loop.counter + 1)) at rest))
          ∙ (sym (rows_left c.args.words c.args.passes c.loop.counter c.loop.at t c.loop-test.true)
          ∙ c.loop.invariant.told);
    }
