use Rattle.std.proofs.Common.{◌≡◌, ◌+◌, ◌∙◌, length, arith}
use Rattle.stack_machine.proofs.BitLaws.{bits-more, bits-begun}
use Rattle.stack_machine.proofs.bits.PathBits.begin.Goals as goal

pub loop-preserved : goal.loop-preserved
loop-preserved c =
    let i = c.loop.invariant in (
      c.push_reserved.ensures.items
          ∙ bits-more c.self.inside.words.items c.loop.self-inside.words.items c.loop.counter (c.loop.counter + 1) i.0 (omega arith),
      i.1,
      i.2,
      (let h = c.push_reserved.ensures.capacity in let e = i.3 in cc),
    )

pub returns : goal.returns
returns c =
    let i = c.loop.invariant in
    let n : c.self.inside.words.len ≡ length c.self.inside.words.items = c.self.inside.words.ok.0 in
    let k : c.loop.counter ≡ c.args.words = (let a = c.loop.auto.counter-end in let b = c.loop-test.false in omega (arith, a, b)) in
    rw i.2 (bits-begun c.self.inside.words.items c.loop.self-inside.words.items c.self.inside.base c.self.inside.room c.args.words
    c.loop.self-inside.base c.args.self.now c.self.view_is (rw k at i.0) (i.1 ∙ (c.len-self-inside.ensures ∙ n)))
