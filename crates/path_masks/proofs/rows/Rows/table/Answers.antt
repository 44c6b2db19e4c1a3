use Rattle.std.proofs.Common.{ap, ◌∙◌}
use Rattle.path_masks.specs.Tables.{RowsValue, table_seen}
use Rattle.path_masks.proofs.TableLaws.{view_table}
use Rattle.path_masks.proofs.rows.Rows.table.Goals as goal

pub returns : goal.returns
returns c = c.deref.ensures.value
    ∙ view_table c.self.inside.table.items c.self.inside.begin c.self.inside.spans.items c.self.invariant.0
    ∙ ap (λ (r : RowsValue). table_seen r) c.self.view_is
