use Rattle.std.proofs.Common.{◌≤◌, sym, ap, subst, ◌∙◌, length, get_or, List, ℕ, Some, None, slice_range}
use Rattle.path_masks.specs.Tables.{RowsValue}
use Rattle.path_masks.proofs.TableLaws.{row_placed, row_found, span_there}
use Rattle.path_masks.proofs.rows.Rows.pass_row.Goals as goal

pub part-requires-clause-order : goal.part-requires-clause-order
part-requires-clause-order c =
    let there = span_there c.self.inside.table.items c.self.inside.spans.items c.args.self.now.passes c.args.arc
    c.index.result.now c.in-Some.span
    (ap (λ (r : RowsValue). r.passes) c.self.view_is) c.requires.there c.index.ensures c.in-Some.is in
    (row_placed c.self.inside.table.items c.self.inside.begin c.self.inside.spans.items c.self.invariant.0 c.args.arc
    c.in-Some.span there.1).0

pub part-requires-clause-within : goal.part-requires-clause-within
part-requires-clause-within c =
    let there = span_there c.self.inside.table.items c.self.inside.spans.items c.args.self.now.passes c.args.arc
    c.index.result.now c.in-Some.span
    (ap (λ (r : RowsValue). r.passes) c.self.view_is) c.requires.there c.index.ensures c.in-Some.is in
    subst (λ (l : List ℕ). c.in-Some.span.to ≤ length l) (sym c.deref.ensures.value)
    (row_placed c.self.inside.table.items c.self.inside.begin c.self.inside.spans.items c.self.invariant.0 c.args.arc
    c.in-Some.span there.1).1

pub returns-in-Some : goal.returns-in-Some
returns-in-Some c =
    let there = span_there c.self.inside.table.items c.self.inside.spans.items c.args.self.now.passes c.args.arc
    c.index.result.now c.in-Some.span
    (ap (λ (r : RowsValue). r.passes) c.self.view_is) c.requires.there c.index.ensures c.in-Some.is in
    ap (λ (r : List ℕ). Some r) (c.part.ensures
    ∙ ap (λ (l : List ℕ). slice_range l c.in-Some.span.from c.in-Some.span.to) c.deref.ensures.value)
    ∙ row_found c.self.inside.table.items c.self.inside.spans.items c.args.arc c.in-Some.span there.0 there.1
    ∙ ap (λ (r : RowsValue). get_or r.passes c.args.arc None) c.self.view_is
