use Rattle.std.proofs.Common.{rules, ◌≡◌, ap, ◌∙◌, ◌/◌, ◌++◌, List, ℕ, length, true}
use Rattle.path_masks.specs.Masks.{row_of_move}
use Rattle.path_masks.proofs.TableLaws.{spelled_pass, row_some, table_some}
use Rattle.path_masks.proofs.rows.put_arc.Goals as goal

pub returns-clause-table : goal.returns-clause-table
returns-clause-table c =
    let e : c.len.result ≡ length c.in_ok-longs.longs.items = search rules in
    let has : c.has_row.result ≡ true = search rules in
    table_some c.args.paths.now c.args.arc.now c.args.table.now.items c.extend_from_slice.new.self.items
    (row_some c.args.paths.now c.args.arc.now c.has_row.result c.has_row.ensures has)
    (spelled_pass c.args.table.now.items c.extend_from_slice.new.self.items c.in_ok-longs.longs.items
    c.push-2.new.self.items
    (c.len.result / 4) (row_of_move c.args.arc.now.from c.args.arc.now.to c.args.paths.now) c.in_ok-longs.ensures
    (ap (λ n. n / 4) e) c.in_ok-push-2.ensures.items
    (c.in_ok-extend_from_slice.ensures.items ∙ ap (λ (l : List ℕ). c.push-2.new.self.items ++ l) c.deref.ensures.value))
