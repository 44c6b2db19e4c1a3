use Rattle.std.proofs.Common.{rules, ◌∙◌, [], ◌∷◌}
use Rattle.prime_paths.specs.Lister.{grow, simple_paths}
use Rattle.prime_paths.specs.Search.{visits}
use Rattle.prime_paths.proofs.Growing.{start_one, start_stop, comes_residual}
use Rattle.prime_paths.proofs.search.search.Goals as goal

pub loop-block-preserved : goal.loop-block-preserved
loop-block-preserved g c = record {
  blocks = c.in_ok-start.ensures.blocks;
  room = c.in_ok-start.ensures.room ∙ c.loop-block.invariant.room;
  told = start_one c.args.ways.now c.loop-block.block c.loop-block.found c.start.new.found
      (visits c.args.ways.now (simple_paths c.args.ways.now) c.args.found.now) (search rules) (search rules)
      c.in_ok-start.ensures.found c.loop-block.invariant.told;
  steps = c.start.ensures.steps ∙ c.loop-block.invariant.steps;
}

pub returns-in_err-start-clause-found : goal.returns-in_err-start-clause-found
returns-in_err-start-clause-found g c =
    comes_residual (visits c.args.ways.now (grow c.args.ways.now c.args.ways.now.blocks
    (c.loop-block.block ∷ [])) c.loop-block.found)
    (visits c.args.ways.now (simple_paths c.args.ways.now) c.args.found.now)
    c.start.new.found c.from_residual-in_err-start.result c.in_err-start.field-0.0
    c.from_residual-in_err-start.ensures.1
    (start_stop c.args.ways.now c.loop-block.block c.loop-block.found
    (visits c.args.ways.now (simple_paths c.args.ways.now) c.args.found.now)
    (search rules) (search rules) c.loop-block.invariant.told) c.in_err-start.ensures.found
