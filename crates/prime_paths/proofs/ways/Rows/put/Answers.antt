use Rattle.std.proofs.Common.{ap, ◌∙◌, ◌<◌, length, List, ℕ, arith}
use Rattle.std.proofs.lemmas.List.{length-map}
use Rattle.prime_paths.specs.Ways.{with_end}
use Rattle.prime_paths.proofs.WaysLaws.{with_end_set}
use Rattle.prime_paths.proofs.ways.Rows.put.Goals as goal

pub returns-in_ok-push-clause-put : goal.returns-in_ok-push-clause-put
returns-in_ok-push-clause-put c =
    let long = length-map c.self.inside.rows.items (λ r. r.items) in
    let same = ap length c.self.view_is in
    let h = c.requires in
    let within : c.args.near < length c.self.inside.rows.items = omega (arith, long, same, h) in
    with_end_set (λ r. r.items) c.self.inside.rows.items c.args.near c.args.far c.index_mut.result.now c.push.new.self
    c.args.real
    within c.index_mut.ensures.value c.in_ok-push.ensures.items c.if-real.true c.if-far-ge2.true
    ∙ ap (λ (rows : List (List ℕ)). with_end c.args.real c.args.near c.args.far rows) c.self.view_is
