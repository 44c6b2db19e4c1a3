use Rattle.std.proofs.Common.{◌∙◌, ap, List, [], ◌∷◌, ◌++◌, get_or, slice_set, length, arith}
use Rattle.std.proofs.lemmas.List.{length-map}
use Rattle.c_lower.specs.declared.numbers.Entry.{Entry}
use Rattle.c_lower.proofs.NumberLaws.{row_pushed}
use Rattle.c_lower.proofs.numbers.Rows.push.Goals as goal

pub returns : goal.returns
returns c =
    let same = ap length c.self.view_is in
    let long = length-map c.self.inside.rows.items (λ v. v.items) in
    row_pushed (λ v. v.items) c.self.inside.rows.items c.args.node c.index_mut-row.result.now c.push.new.self
    c.args.entry (omega (arith, same, long, c.requires)) c.index_mut-row.ensures.value c.in_ok-push.ensures.items
    ∙ ap (λ (rows : List (List Entry)). slice_set rows c.args.node (get_or rows c.args.node [] ++ c.args.entry ∷ []))
    c.self.view_is
