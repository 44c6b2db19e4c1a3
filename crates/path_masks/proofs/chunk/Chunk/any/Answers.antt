use Rattle.std.proofs.Common.{rules, ap, List, ℕ, []}
use Rattle.std.specs.List.{list_any}
use Rattle.path_masks.specs.PathTests.{passes}
use Rattle.path_masks.proofs.ChunkLaws.{any_step, any_found, any_end}
use Rattle.path_masks.proofs.chunk.Chunk.any.Goals as goal

pub loop-k-init : goal.loop-k-init
loop-k-init c = ap (λ (qs : List (List ℕ)). list_any (passes c.args.test) qs) c.self.view_is

pub returns-then-passes : goal.returns-then-passes
returns-then-passes c = any_found (passes c.args.test) c.self.inside.paths.now c.loop-k.k c.self.inside.to []
    c.path.result.now c.passes.result
    (list_any (passes c.args.test) c.args.self.now)
    (search rules) c.self.invariant.within c.path.ensures c.passes.ensures c.if-passes.true c.loop-k.invariant

pub loop-k-preserved : goal.loop-k-preserved
loop-k-preserved c = any_step (passes c.args.test) c.self.inside.paths.now c.loop-k.k c.self.inside.to []
    c.path.result.now c.passes.result
    (list_any (passes c.args.test) c.args.self.now)
    (search rules) c.self.invariant.within c.path.ensures c.passes.ensures c.if-passes.false c.loop-k.invariant

pub returns : goal.returns
returns c = any_end (passes c.args.test) c.self.inside.paths.now c.loop-k.k c.self.inside.to
    (list_any (passes c.args.test) c.args.self.now)
    (search rules) c.loop-k.invariant
