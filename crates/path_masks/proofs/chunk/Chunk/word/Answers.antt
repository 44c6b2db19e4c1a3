use Rattle.std.proofs.Common.{ap, ◌∙◌, ◌≡◌, ◌-◌, List, ℕ, [], take, drop, arith}
use Rattle.path_masks.specs.Masks.{word_of}
use Rattle.path_masks.specs.PathTests.{passes}
use Rattle.path_masks.proofs.ChunkLaws.{word_step, word_first, word_room}
use Rattle.path_masks.proofs.chunk.Chunk.word.Goals as goal

pub loop-k-init : goal.loop-k-init
loop-k-init c = record {
  low = c.self.invariant.order;
  high = omega arith;
  told = word_first (passes c.args.test) c.self.inside.paths.now c.self.inside.to;
}

pub path-requires : goal.path-requires
path-requires c =
    let h = c.loop-k.invariant.high in
    let w = c.self.invariant.within in
    let t = c.loop-k-test.true in
    omega (arith, h, w, t)

pub overflow_mul-word : goal.overflow_mul-word
overflow_mul-word c =
    let t = c.loop-k-test.true in
    let f = c.self.invariant.few in
    let r = word_room (passes c.args.test) c.self.inside.paths.now c.loop-k.k c.self.inside.to c.loop-k.word
    (omega (arith, t, f)) c.self.invariant.within c.loop-k.invariant.told in
    omega (arith, r)

pub overflow_add-word : goal.overflow_add-word
overflow_add-word c =
    let t = c.loop-k-test.true in
    let f = c.self.invariant.few in
    let r = word_room (passes c.args.test) c.self.inside.paths.now c.loop-k.k c.self.inside.to c.loop-k.word
    (omega (arith, t, f)) c.self.invariant.within c.loop-k.invariant.told in
    let b = c.bit.ensures.most in
    omega (arith, r, b)

pub loop-k-preserved : goal.loop-k-preserved
loop-k-preserved c =
    let l = c.loop-k.invariant.low in
    let h = c.loop-k.invariant.high in
    let t = c.loop-k-test.true in
    record {
      low = omega (arith, l, t);
      high = omega (arith, h);
      told = word_step (passes c.args.test) c.self.inside.paths.now c.loop-k.k c.self.inside.to [] c.path.result.now
          c.loop-k.word c.bit.result c.passes.result
          (omega (arith, t)) h c.self.invariant.within c.path.ensures c.passes.ensures c.bit.ensures.value
          c.loop-k.invariant.told;
    }

pub returns : goal.returns
returns c =
    let l = c.loop-k.invariant.low in
    let t = c.loop-k-test.false in
    let same : c.loop-k.k ≡ c.self.inside.from = omega (arith, l, t) in
    c.loop-k.invariant.told ∙ ap (λ (n : ℕ). word_of (passes c.args.test)
    (take (c.self.inside.to - n) (drop n c.self.inside.paths.now))) same
    ∙ ap (λ (qs : List (List ℕ)). word_of (passes c.args.test) qs) c.self.view_is
