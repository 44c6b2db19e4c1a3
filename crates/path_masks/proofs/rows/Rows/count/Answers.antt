use Rattle.std.proofs.Common.{rules, ◌≡◌, ap, ◌∙◌, slice_range}
use Rattle.std.specs.List.{count_by}
use Rattle.std.specs.Option.{is_some}
use Rattle.path_masks.specs.Tables.{RowsValue, rows_in}
use Rattle.path_masks.specs.declared.rows.RowSpan.{RowSpan}
use Rattle.path_masks.proofs.NumberLaws.{rows_counted}
use Rattle.path_masks.proofs.rows.Rows.count.Goals as goal

pub returns : goal.returns
returns c =
    let e : c.count.result ≡ count_by (is_some {T = RowSpan}) c.self.inside.spans.items = search rules in
    e ∙ rows_counted (λ (s : RowSpan). slice_range c.self.inside.table.items s.from s.to) c.self.inside.spans.items
    ∙ ap (λ (r : RowsValue). rows_in r.passes) c.self.view_is
