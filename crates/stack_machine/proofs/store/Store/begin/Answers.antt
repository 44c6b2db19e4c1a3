use Rattle.std.proofs.Common.{◌≡◌, ◌-◌, ◌+◌, ◌≤◌, ◌∙◌, length, replicate, pos, refl, length-append, arith}
use Rattle.std.proofs.lemmas.List.{length-replicate}
use Rattle.stack_machine.proofs.StoreLaws.{seen-begun, zero-more, operands-within}
use Rattle.stack_machine.proofs.store.Store.begin.Goals as goal

pub loop-preserved : goal.loop-preserved
loop-preserved c =
    let i = c.loop.invariant in (
      c.push_reserved.ensures.items ∙ zero-more c.self.inside.numbers.items c.loop.self-inside.numbers.items (c.loop.counter - c.args.params) (c.loop.counter + 1 - c.args.params) i.0 (omega (arith, c.loop.auto.counter)),
      i.1,
      i.2,
      i.3,
      (let h = c.push_reserved.ensures.capacity in let e = i.4 in cc),
    )

pub returns : goal.returns
returns c =
    let i = c.loop.invariant in
    let n : c.self.inside.numbers.len ≡ length c.self.inside.numbers.items = c.self.inside.numbers.ok.0 in
    let m : c.loop.self-inside.numbers.len ≡ length c.loop.self-inside.numbers.items = c.loop.self-inside.numbers.ok.0 in
    let k : c.loop.counter ≡ c.args.cells = (let a = c.loop.auto.counter-end c.requires.cells in let b = c.loop-test.false in omega (arith, a, b)) in
    let z : c.loop.self-inside.numbers.items ≡ _ = rw k at i.0 in
    let size : length c.loop.self-inside.numbers.items ≡ length c.self.inside.numbers.items + (c.args.cells - c.args.params) =
    rw (z, length-append c.self.inside.numbers.items (replicate (c.args.cells - c.args.params) (pos 0)), length-replicate (c.args.cells - c.args.params) (pos 0)) refl in
    let p : c.args.params ≤ length c.self.inside.numbers.items = operands-within c.self.inside.numbers.items c.self.inside.base c.self.inside.floor c.self.inside.room c.args.params c.args.self.now c.self.view_is c.requires.params in
    rw i.3 (seen-begun c.self.inside.numbers.items c.loop.self-inside.numbers.items c.self.inside.base c.self.inside.floor c.self.inside.room c.args.params c.args.cells
    c.loop.self-inside.base c.len-self-inside.result c.args.self.now c.self.view_is c.self.invariant.0 (rw n at c.self.invariant.1) c.requires.params c.requires.cells z
    (let e = i.1 in let f = c.len.ensures in omega (arith, e, f, n, p)) (c.len-self-inside.ensures ∙ (m ∙ size)))
