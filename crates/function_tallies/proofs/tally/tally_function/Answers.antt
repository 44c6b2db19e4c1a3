use Rattle.std.proofs.Common.{refl, sym}
use Rattle.function_tallies.proofs.Shapes.{no_shape}
use Rattle.function_tallies.proofs.tally.tally_function.Goals as goal

pub returns-then-not-has_shape-clause-tally : goal.returns-then-not-has_shape-clause-tally
returns-then-not-has_shape-clause-tally c = (
  refl,
  no_shape c.args.limit c.args.checksum c.args.net.now c.args.counts.now c.in-Ok.parts.counters
      c.in-Ok.parts.listing c.in-Ok.ensures.lists c.in-Ok.ensures.counters (sym c.if-not-has_shape.ensures),
)
