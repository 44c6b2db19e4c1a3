use Rattle.std.proofs.Common.{rules, ◌≡◌, ap, ◌∙◌, ◌/◌, ◌++◌, List, ℕ, length}
use Rattle.path_masks.specs.Masks.{row_of_start}
use Rattle.path_masks.proofs.TableLaws.{spelled_begin}
use Rattle.path_masks.proofs.rows.put_begin.Goals as goal

pub returns : goal.returns
returns c =
    let e : c.len.result ≡ length c.in_ok-longs.longs.items = search rules in
    spelled_begin c.args.table.now.items c.extend_from_slice.new.self.items c.in_ok-longs.longs.items
    c.push.new.self.items
    (c.len.result / 3) (row_of_start 2 c.args.paths.now) c.in_ok-longs.ensures
    (ap (λ n. n / 3) e) c.in_ok-push.ensures.items
    (c.in_ok-extend_from_slice.ensures.items ∙ ap (λ (l : List ℕ). c.push.new.self.items ++ l) c.deref.ensures.value)
