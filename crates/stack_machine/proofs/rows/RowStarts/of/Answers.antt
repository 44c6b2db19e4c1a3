use Rattle.std.proofs.Common.{◌∙◌, ◌+◌, ◌<◌, ◌≤◌, ℕ, List, length, drop, vec_capacity, ap, sym, subst, refl, arith}
use Rattle.std.proofs.lemmas.List.{length_push}
use Rattle.stack_ops.specs.Code.{FunctionValue}
use Rattle.code_runs.specs.Tables.{row_length, behind_row, words_in}
use Rattle.stack_machine.specs.Tables.{BeginFits}
use Rattle.stack_machine.proofs.RowStartLaws.{From, from-more, here-more, row-fits}
use Rattle.stack_machine.proofs.rows.RowStarts.of.Goals as goal

pub loop-init : goal.loop-init
loop-init c =
    let f : FunctionValue = c.args.f.now in
    let paths = ap (λ (v : FunctionValue). v.paths) c.f.view_is in
    let passes = ap (λ (v : FunctionValue). v.passes) c.f.view_is in
    let is = c.as_slice-table.ensures.value ∙ ap (λ (v : FunctionValue). v.table) c.f.view_is in
    let n = c.if-f-eq0.false in
    let some : 0 < f.paths = omega (arith, paths, n) in
    let fit : BeginFits (words_in f.paths) f.table = c.requires.begin some in
    let items = c.in_ok-places.ensures.items in
    record {
      long = ap (λ l. length l) items;
      room = subst (λ n. n ≤ vec_capacity c.in_ok-places.places) passes c.in_ok-places.ensures.capacity;
      within = subst (λ (l : List ℕ). row_length 3 l ≤ length l) (sym is) fit.1;
      here = refl;
      starts = λ w lt. absurd (omega (arith, lt));
    }

pub next_row-at-requires-clause-there : goal.next_row-at-requires-clause-there
next_row-at-requires-clause-there c =
    let f : FunctionValue = c.args.f.now in
    let paths = ap (λ (v : FunctionValue). v.paths) c.f.view_is in
    let passes = ap (λ (v : FunctionValue). v.passes) c.f.view_is in
    let n = c.if-f-eq0.false in
    let t = c.loop-test.true in
    let is = c.as_slice-table.ensures.value ∙ ap (λ (v : FunctionValue). v.table) c.f.view_is in
    (row-fits f c.requires c.loop.counter c.as_slice-table.result.now (drop c.loop.at c.as_slice-table.result.now)
    (omega (arith, paths, n)) (omega (arith, passes, t)) is c.loop.invariant.here).0

pub next_row-at-requires-clause-whole : goal.next_row-at-requires-clause-whole
next_row-at-requires-clause-whole c =
    let f : FunctionValue = c.args.f.now in
    let paths = ap (λ (v : FunctionValue). v.paths) c.f.view_is in
    let passes = ap (λ (v : FunctionValue). v.passes) c.f.view_is in
    let n = c.if-f-eq0.false in
    let t = c.loop-test.true in
    let is = c.as_slice-table.ensures.value ∙ ap (λ (v : FunctionValue). v.table) c.f.view_is in
    (row-fits f c.requires c.loop.counter c.as_slice-table.result.now (drop c.loop.at c.as_slice-table.result.now)
    (omega (arith, paths, n)) (omega (arith, passes, t)) is c.loop.invariant.here).1

pub loop-preserved : goal.loop-preserved
loop-preserved c =
    let table : List ℕ = c.as_slice-table.result.now in
    let e = c.push_reserved.ensures.items in
    let i = c.loop.invariant in
    record {
      long = rw e (length_push c.loop.places.items c.loop.at ∙ ap (λ n. n + 1) i.long);
      room = subst (λ n. c.args.f.now.passes ≤ n) (sym c.push_reserved.ensures.capacity) i.room;
      within = c.next_row-at.ensures.within;
      here = here-more c.loop.counter (c.loop.counter + 1) (drop c.loop.at table) (drop c.next_row-at.result table)
          (behind_row 3 table) refl i.here c.next_row-at.ensures.behind;
      starts = subst (λ (l : List ℕ). (w : ℕ) → w < c.loop.counter + 1 → From table l w) (sym e)
          (from-more table c.loop.places.items c.loop.counter c.loop.at i.long i.starts i.here);
    }

pub returns : goal.returns
returns c = λ some w lt.
    let is = c.as_slice-table.ensures.value ∙ ap (λ (v : FunctionValue). v.table) c.f.view_is in
    let passes = ap (λ (v : FunctionValue). v.passes) c.f.view_is in
    let end = c.loop-test.false in
    subst (λ (l : List ℕ). From l c.loop.places.items w) is (c.loop.invariant.starts w (omega (arith, passes, end, lt)))
