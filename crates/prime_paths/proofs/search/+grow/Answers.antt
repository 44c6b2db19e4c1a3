use Rattle.std.proofs.Common.{rules, refl, sym, subst, ap, ◌∙◌, ◌+◌, ◌-◌, get_or}
use Rattle.prime_paths.specs.Search.{Comes, charged, from_path, visits}
use Rattle.prime_paths.specs.Lister.{grown_by}
use Rattle.prime_paths.proofs.Growing.{goes_closed, goes_nowhere, goes_charged, goes_stopped, back_ok, grow_start, grow_one, grow_stop, comes_residual}
use Rattle.prime_paths.proofs.search.+grow.Goals as goal

pub grow_by-returns-then-block-first-clause-found : goal.grow_by-returns-then-block-first-clause-found
grow_by-returns-then-block-first-clause-found g t c =
    subst (λ o. Comes o c.close.new.found c.close.result)
    (sym (goes_closed c.args.ways.now c.args.fuel c.args.trail.now.blocks c.args.block c.args.found.now
    c.requires.simple c.first.ensures.apart
    c.requires.way c.requires.inner (c.if-block-first.true ∙ c.first.ensures.value))) c.close.ensures.found

pub grow_by-returns-then-holds-clause-found : goal.grow_by-returns-then-holds-clause-found
grow_by-returns-then-holds-clause-found g t c =
    goes_nowhere c.args.ways.now c.args.fuel c.args.trail.now.blocks c.args.block c.args.found.now c.requires.simple
    (λ e. c.if-block-first.false (e ∙ sym c.first.ensures.value)) (sym c.holds.ensures ∙ c.if-holds.true)

pub grow_by-returns-in_err-extend-clause-found : goal.grow_by-returns-in_err-extend-clause-found
grow_by-returns-in_err-extend-clause-found g t c =
    comes_residual (charged c.args.found.now) (visits c.args.ways.now
    (grown_by c.args.ways.now c.args.fuel c.args.trail.now.blocks c.args.block) c.args.found.now)
    c.extend.new.self c.from_residual.result c.in_err-extend.field-0.0 c.from_residual.ensures.1
    (goes_stopped c.args.ways.now c.args.fuel c.args.trail.now.blocks c.args.block c.args.found.now c.requires.simple
    c.first.ensures.apart c.requires.way c.requires.inner (sym c.holds.ensures
    ∙ c.if-holds.false)) c.in_err-extend.ensures.found

pub grow_by-returns-clause-blocks : goal.grow_by-returns-clause-blocks
grow_by-returns-clause-blocks g t c =
    back_ok c.grow_from-grown.result c.args.trail.now.blocks c.grow_from-grown.new.trail.blocks c.push.new.self.blocks
    c.pop.new.self.blocks c.args.block c.grow_from-grown.ensures.blocks c.in_ok-push.ensures.blocks c.pop.ensures.blocks

pub grow_by-returns-clause-found : goal.grow_by-returns-clause-found
grow_by-returns-clause-found g t c =
    subst (λ o. Comes o c.grow_from-grown.new.found c.grow_from-grown.result)
    (goes_charged c.args.ways.now c.args.fuel c.args.trail.now.blocks c.push.new.self.blocks c.args.block
    c.args.found.now c.extend.new.self
    c.requires.simple c.first.ensures.apart c.requires.way c.requires.inner (sym c.holds.ensures ∙ c.if-holds.false)
    c.in_ok-extend.ensures.found c.in_ok-push.ensures.blocks) c.grow_from-grown.ensures.found

pub grow_from-loop-block-init : goal.grow_from-loop-block-init
grow_from-loop-block-init g t c = record {
  blocks = refl;
  room = refl;
  told = grow_start c.args.ways.now c.args.fuel c.args.trail.now.blocks c.next-row.result.now c.last.result
      c.args.found.now c.note.new.found
      (search rules) c.requires.simple c.next-row.ensures.value c.last.ensures.value c.in_ok-note.ensures.found;
  steps = ap (λ n. c.args.steps.now + n) c.note.ensures.left;
}

pub grow_from-returns-in_err-grow_by-clause-found : goal.grow_from-returns-in_err-grow_by-clause-found
grow_from-returns-in_err-grow_by-clause-found g t c =
    comes_residual (visits c.args.ways.now (grown_by c.args.ways.now (c.args.fuel - 1) c.loop-block.trail.blocks
    (get_or c.next-row.result.now c.loop-block.block-index 0)) c.loop-block.found)
    (from_path c.args.ways.now c.args.fuel c.args.trail.now.blocks c.args.found.now)
    c.grow_by.new.found c.from_residual-in_err-grow_by.result c.in_err-grow_by.field-0.0
    c.from_residual-in_err-grow_by.ensures.1
    (grow_stop c.args.ways.now (c.args.fuel - 1) c.args.trail.now.blocks c.loop-block.trail.blocks c.next-row.result.now
    c.loop-block.block-index 0
    c.loop-block.found (from_path c.args.ways.now c.args.fuel c.args.trail.now.blocks c.args.found.now)
    c.loop-block-test.true c.loop-block.invariant.blocks c.loop-block.invariant.told) c.in_err-grow_by.ensures.found

pub grow_from-loop-block-preserved : goal.grow_from-loop-block-preserved
grow_from-loop-block-preserved g t c = record {
  blocks = c.in_ok-grow_by.ensures.blocks ∙ c.loop-block.invariant.blocks;
  room = c.in_ok-grow_by.ensures.room ∙ c.loop-block.invariant.room;
  told = grow_one c.args.ways.now (c.args.fuel - 1) c.args.trail.now.blocks c.loop-block.trail.blocks
      c.next-row.result.now c.loop-block.block-index 0
      c.loop-block.found c.grow_by.new.found (from_path c.args.ways.now c.args.fuel c.args.trail.now.blocks
      c.args.found.now)
      c.loop-block-test.true c.loop-block.invariant.blocks c.in_ok-grow_by.ensures.found c.loop-block.invariant.told;
  steps = c.grow_by.ensures.steps ∙ c.loop-block.invariant.steps;
}
