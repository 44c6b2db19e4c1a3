use Rattle.std.proofs.Common.{rules, ◌≡◌, ap, ◌∙◌, get_or, None, slice_range}
use Rattle.path_masks.specs.Tables.{RowsValue, number_at}
use Rattle.path_masks.specs.declared.rows.RowSpan.{RowSpan}
use Rattle.path_masks.proofs.NumberLaws.{number_mapped}
use Rattle.path_masks.proofs.rows.Rows.row_number.Goals as goal

pub returns-in-Some : goal.returns-in-Some
returns-in-Some c =
    let e : c.in-Some.number.now ≡ get_or c.self.inside.numbers.items c.args.arc None = search rules in
    e ∙ c.self.invariant.1 c.args.arc
    ∙ number_mapped (λ (s : RowSpan). slice_range c.self.inside.table.items s.from s.to) c.self.inside.spans.items
    c.args.arc
    ∙ ap (λ (r : RowsValue). number_at r.passes c.args.arc) c.self.view_is

pub returns-in-None : goal.returns-in-None
returns-in-None c =
    let e : None ≡ get_or c.self.inside.numbers.items c.args.arc None = search rules in
    e ∙ c.self.invariant.1 c.args.arc
    ∙ number_mapped (λ (s : RowSpan). slice_range c.self.inside.table.items s.from s.to) c.self.inside.spans.items
    c.args.arc
    ∙ ap (λ (r : RowsValue). number_at r.passes c.args.arc) c.self.view_is
