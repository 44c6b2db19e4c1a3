use Rattle.std.proofs.Common.{◌≡◌, ◌<◌, ◌-◌, suc, get_or, drop, subst, sym, arith}
use Rattle.c_tree.specs.Sound.{Each}
use Rattle.flow_graph.proofs.LineLaws.{has_place, each_from}
use Rattle.flow_graph.proofs.lines.find.Goals as goal

pub returns-then-last-line-2 : goal.returns-then-last-line-2
returns-then-last-line-2 c =
    has_place c.args.line c.loop-at.at c.args.lines.now c.requires c.loop-at.invariant.within c.loop-at.invariant.above
    (λ j e. subst (λ k. get_or c.args.lines.now k 0 < c.args.line) (omega (arith, e)) c.if-last-line-2.true)

pub loop-at-preserved : goal.loop-at-preserved
loop-at-preserved c = record {
  within = search (arith, c.loop-at.invariant.within);
  above = each_from (λ m. c.args.line < m) c.args.lines.now c.loop-at.at (c.loop-at.at - 1)
      (omega (arith, c.loop-at-test.true))
      c.loop-at.invariant.within (grind (arith, c.if-last-line.false, c.if-last-line-2.false))
      c.loop-at.invariant.above;
}

pub returns : goal.returns
returns c =
    let none : c.loop-at.at ≡ 0 = omega (arith, c.loop-at-test.false) in
    has_place c.args.line 0 c.args.lines.now c.requires (omega arith)
    (subst (λ k. Each (λ m. c.args.line < m) (drop k c.args.lines.now)) none c.loop-at.invariant.above)
    (λ j e. absurd (omega (arith, e)))
