use Rattle.std.proofs.Common.{drop}
use Rattle.prime_paths.specs.Ways.{AreFilled}
use Rattle.prime_paths.proofs.WaysLaws.{from_of, to_of}
use Rattle.prime_paths.proofs.ways.prior_of.Given as goal

abbrev pub invariant-loop-arc : goal.invariant-loop-arc
invariant-loop-arc l = AreFilled to_of from_of l.blocks l.arcs (drop l.arc-index l.arcs) l.rows
