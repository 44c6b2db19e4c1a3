use Rattle.prime_paths.proofs.WaysLaws.{ends_known, ways_known}
use Rattle.prime_paths.proofs.ways.Ways.of.Goals as goal

pub next_of-requires : goal.next_of-requires
next_of-requires c = ends_known c.args.net.now c.blocks-2.result c.arcs.result.now c.arcs.ensures.net
    c.blocks-2.ensures.value c.arcs.ensures.value

pub prior_of-requires : goal.prior_of-requires
prior_of-requires c = ends_known c.args.net.now c.blocks-3.result c.arcs-2.result.now c.arcs-2.ensures.net
    c.blocks-3.ensures.value c.arcs-2.ensures.value

pub invariant_of-result : goal.invariant_of-result
invariant_of-result c = ways_known c.args.net.now c.blocks-2.result c.blocks-3.result c.arcs.result.now
    c.arcs-2.result.now
    c.in_ok-next.next c.in_ok-prior.prior c.arcs.ensures.net c.blocks-2.ensures.value c.arcs.ensures.value
    c.blocks-3.ensures.value c.arcs-2.ensures.value c.in_ok-next.ensures c.in_ok-prior.ensures
