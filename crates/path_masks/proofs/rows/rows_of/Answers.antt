use Rattle.std.proofs.Common.{rules, ◌≡◌, ◌<◌, sym, ap, subst, [], List, Option, length, map, drop, arith}
use Rattle.std.proofs.lemmas.List.{drop_all}
use Rattle.cov_base.specs.declared.net.FlowArc.{FlowArc}
use Rattle.word_rules.specs.WordRules.{begin_spelled}
use Rattle.path_masks.specs.Masks.{row_of_start}
use Rattle.path_masks.specs.Tables.{row_of, laid, AreNumbers}
use Rattle.path_masks.specs.declared.rows.RowSpan.{RowSpan}
use Rattle.path_masks.proofs.TableLaws.{laid_are, laid_table, row_end, span_end, spans_few}
use Rattle.path_masks.proofs.rows.rows_of.Goals as goal

pub numbers_of-requires : goal.numbers_of-requires
numbers_of-requires c =
    let past = c.loop-arc-test.false in
    let long = ap (λ (l : List FlowArc). length l) c.arcs-arc-items.ensures.value in
    let none : drop c.loop-arc.arc-index c.args.net.now.arcs ≡ [] =
    drop_all c.loop-arc.arc-index c.args.net.now.arcs (omega (arith, past, long)) in
    subst (λ (l : List (Option RowSpan)). length l < 4294967296) (sym c.deref.ensures.value)
    (spans_few c.args.net.now c.args.paths.now c.len-begin.result c.loop-arc.spans.items c.arcs-arc-items.ensures.net
    (span_end c.args.paths.now (drop c.loop-arc.arc-index c.args.net.now.arcs)
    (length c.loop-arc.table.items) c.loop-arc.spans.items _ none c.loop-arc.invariant.spans))

pub invariant_of-result : goal.invariant_of-result
invariant_of-result c =
    let past = c.loop-arc-test.false in
    let long = ap (λ (l : List FlowArc). length l) c.arcs-arc-items.ensures.value in
    let none : drop c.loop-arc.arc-index c.args.net.now.arcs ≡ [] =
    drop_all c.loop-arc.arc-index c.args.net.now.arcs (omega (arith, past, long)) in
    let begin : c.len-begin.result ≡ length (begin_spelled (row_of_start 2 c.args.paths.now)) = search rules in
    let spans : c.loop-arc.spans.items ≡ laid c.len-begin.result (map (row_of c.args.paths.now) c.args.net.now.arcs) =
    span_end c.args.paths.now (drop c.loop-arc.arc-index c.args.net.now.arcs)
    (length c.loop-arc.table.items) c.loop-arc.spans.items _ none c.loop-arc.invariant.spans in (
      laid_table (begin_spelled (row_of_start 2 c.args.paths.now)) c.loop-arc.table.items c.len-begin.result
          c.loop-arc.spans.items (map (row_of c.args.paths.now) c.args.net.now.arcs)
          (row_end c.args.paths.now c.args.net.now.arcs
          (drop c.loop-arc.arc-index c.args.net.now.arcs) c.loop-arc.table.items _ none c.loop-arc.invariant.table)
          begin spans,
      subst (λ (l : List (Option RowSpan)). AreNumbers l c.in_ok-numbers.numbers.items) c.deref.ensures.value
          c.in_ok-numbers.ensures,
      spans_few c.args.net.now c.args.paths.now c.len-begin.result c.loop-arc.spans.items
          c.arcs-arc-items.ensures.net spans,
    )

pub returns : goal.returns
returns c =
    let past = c.loop-arc-test.false in
    let long = ap (λ (l : List FlowArc). length l) c.arcs-arc-items.ensures.value in
    let none : drop c.loop-arc.arc-index c.args.net.now.arcs ≡ [] =
    drop_all c.loop-arc.arc-index c.args.net.now.arcs (omega (arith, past, long)) in
    let begin : c.len-begin.result ≡ length (begin_spelled (row_of_start 2 c.args.paths.now)) = search rules in
    laid_are c.args.paths.now c.args.net.now.arcs c.width.result c.loop-arc.table.items c.len-begin.result
    c.loop-arc.spans.items
    c.width.ensures
    (row_end c.args.paths.now c.args.net.now.arcs
    (drop c.loop-arc.arc-index c.args.net.now.arcs) c.loop-arc.table.items _ none c.loop-arc.invariant.table)
    begin
    (span_end c.args.paths.now (drop c.loop-arc.arc-index c.args.net.now.arcs)
    (length c.loop-arc.table.items) c.loop-arc.spans.items _ none c.loop-arc.invariant.spans)
