use Rattle.std.proofs.Common.{arith, ◌≡◌, sym, subst, length, map, List, ℕ}
use Rattle.std.specs.Prelude.{take}
use Rattle.c_tree.specs.TreeView.{outer_view}
use Rattle.c_typing.specs.Sources.{defined}
use Rattle.c_types.specs.Functions.{AreNumbers}
use Rattle.c_types.proofs.FunctionLaws.{defined_more}
use Rattle.c_types.proofs.functions.numbers_of.Goals as goal

pub loop-outer-preserved : goal.loop-outer-preserved
loop-outer-preserved c =
    let before = defined (map outer_view (take c.loop-outer.outer-index c.args.outers.now)) in
    let i = c.loop-outer.invariant in
    let more = defined_more c.args.outers.now c.loop-outer.outer-index c.outer-item.result
    (omega (arith, c.loop-outer-test.true)) c.outer-item.is in
    subst (λ names. AreNumbers names c.add_part.new.numbers.entries × (length names ≡ c.in_ok-count.count)) (sym more)
    (c.in_ok-count.ensures before (i.1) (i.0))
