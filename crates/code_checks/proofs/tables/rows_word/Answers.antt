use Rattle.std.proofs.Common.{◌≡◌, ◌≤◌, ◌∙◌, ◌-◌, ◌+◌, ◌*◌, sym, ap, subst, drop, length, get_or, None, ℕ, Option}
use Rattle.std.specs.Option.{option_or}
use Rattle.code_runs.specs.Tables.{rows_fault, rows_word}
use Rattle.code_checks.proofs.TableLaws.{row_of, row_over, words_left}
use Rattle.code_checks.proofs.tables.rows_word.Goals as goal

pub word_fault-requires-clause-row : goal.word_fault-requires-clause-row
word_fault-requires-clause-row c =
    row_of c.args.words c.args.passes c.loop.counter c.loop.at c.args.table.now c.requires.words c.loop.invariant.within
    c.loop-test.true c.loop.invariant.layout

pub row_end-at-requires : goal.row_end-at-requires
row_end-at-requires c =
    row_of c.args.words c.args.passes c.loop.counter c.loop.at c.args.table.now c.requires.words c.loop.invariant.within
    c.loop-test.true c.loop.invariant.layout

pub returns-in-Some : goal.returns-in-Some
returns-in-Some c =
    let t = c.args.table.now in
    let next = c.loop.at + 1 + 4 * get_or t c.loop.at 0 in
    let e = c.in-Some.ensures in
    ap (λ (o : Option ℕ). option_or o (rows_word c.args.words (c.args.passes - (c.loop.counter + 1)) next (drop next t))) e
    ∙ (sym (words_left c.args.words c.args.passes c.loop.counter c.loop.at t c.loop-test.true) ∙ c.loop.invariant.told)

pub loop-preserved : goal.loop-preserved
loop-preserved c =
    let t = c.args.table.now in
    let next = c.loop.at + 1 + 4 * get_or t c.loop.at 0 in
    let e = c.in_default.ensures in
    let over = row_over c.args.words c.args.passes c.loop.counter c.loop.at t c.loop.invariant.within c.loop-test.true
    c.loop.invariant.layout in
    record {
      within = subst (λ n. n ≤ length t) (sym c.row_end-at.ensures) over.0;
      layout = subst (λ n. rows_fault c.args.words (c.args.passes - (c.loop.counter + 1)) n (drop n t) ≡ None)
          (sym c.row_end-at.ensures) over.1;
      told = subst (λ n. rows_word c.args.words (c.args.passes - (c.loop.counter + 1)) n (drop n t)
          ≡ rows_word c.args.words c.args.passes c.args.start (drop c.args.start t)) (sym c.row_end-at.ensures)
          (ap (λ (o : Option ℕ). option_or o
          (rows_word c.args.words (c.args.passes - (c.loop.counter + 1)) next (drop next t))) e
          ∙ (sym (words_left c.args.words c.args.passes c.loop.counter c.loop.at t c.loop-test.true)
          ∙ c.loop.invariant.told));
    }
