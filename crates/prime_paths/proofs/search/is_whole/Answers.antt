use Rattle.std.proofs.Common.{ap, ap₂, ◌∙◌, ◌&&◌, not, Bool}
use Rattle.std.specs.List.{list_any}
use Rattle.prime_paths.specs.Lister.{is_prime}
use Rattle.prime_paths.specs.Search.{is_open}
use Rattle.prime_paths.specs.Ways.{prior_blocks}
use Rattle.prime_paths.proofs.Growing.{whole_test, whole_no, whole_then, open_row}
use Rattle.prime_paths.proofs.search.is_whole.Goals as goal

pub returns-then-any_open : goal.returns-then-any_open
returns-then-any_open c =
    let last : Bool = list_any (is_open c.args.trail.now.blocks c.last-last.result)
    (prior_blocks c.args.ways.now c.first-first.result) in
    whole_no c.any_open.result last (is_prime c.args.ways.now c.args.trail.now.blocks) c.if-any_open.true
    (ap (λ (a : Bool). not a && not last)
    (open_row c.args.trail.now.blocks c.next.result.now _ c.first-first.result c.any_open.result c.any_open.ensures
    c.next.ensures.value)
    ∙ whole_test c.args.ways.now c.args.trail.now.blocks c.first-first.result c.last-last.result c.requires.simple
    c.first-first.ensures.apart c.first-first.ensures.value c.last-last.ensures.value)

pub returns : goal.returns
returns c =
    whole_then c.any_open.result c.any_open-2.result (is_prime c.args.ways.now c.args.trail.now.blocks)
    c.if-any_open.false
    (ap₂ (λ (a b : Bool). not a && not b)
    (open_row c.args.trail.now.blocks c.next.result.now _ c.first-first.result c.any_open.result c.any_open.ensures
    c.next.ensures.value)
    (open_row c.args.trail.now.blocks c.prior.result.now _ c.last-last.result c.any_open-2.result c.any_open-2.ensures
    c.prior.ensures)
    ∙ whole_test c.args.ways.now c.args.trail.now.blocks c.first-first.result c.last-last.result c.requires.simple
    c.first-first.ensures.apart c.first-first.ensures.value c.last-last.ensures.value)
