use Rattle.std.proofs.Common.{sym, ◌∙◌, ap, arith}
use Rattle.std.proofs.lemmas.Bool.{cond-true, cond-false, and_left, and_right, and_from, le-ltb, lt-ltb}
use Rattle.cov_base.specs.Net.{suits}
use Rattle.cov_base.proofs.ListLaws.{first_wrong_list_more}
use Rattle.cov_base.proofs.faults.first_wrong_list.Goals as goal

pub returns-then-block-blocks-clause-value : goal.returns-then-block-blocks-clause-value
returns-then-block-blocks-clause-value c =
    let i = c.loop-block.block in
    let step = first_wrong_list_more (λ v. v.items) c.args.lines.now i c.args.blocks c.index-lines-block.result (omega arith) in
    sym (cond-false _ _ _ (and_left _ _ (le-ltb i c.args.blocks (omega arith)))) ∙ sym step ∙ c.loop-block.invariant

pub returns-then-not-suits-clause-value : goal.returns-then-not-suits-clause-value
returns-then-not-suits-clause-value c =
    let i = c.loop-block.block in
    let step = first_wrong_list_more (λ v. v.items) c.args.lines.now i c.args.blocks c.index-lines-block.result (omega arith) in
    let told = sym (ap (λ v. suits i v.items) c.index-lines-block.is) ∙ ap (suits i) (sym c.deref.ensures.value) ∙ sym c.suits.ensures ∙ c.if-not-suits.true in
    sym (cond-false _ _ _ (and_right _ _ told)) ∙ sym step ∙ c.loop-block.invariant

pub loop-block-preserved : goal.loop-block-preserved
loop-block-preserved c =
    let i = c.loop-block.block in
    let step = first_wrong_list_more (λ v. v.items) c.args.lines.now i c.args.blocks c.index-lines-block.result (omega arith) in
    let told = sym (ap (λ v. suits i v.items) c.index-lines-block.is) ∙ ap (suits i) (sym c.deref.ensures.value) ∙ sym c.suits.ensures ∙ c.if-not-suits.false in
    sym (cond-true _ _ _ (and_from _ _ (lt-ltb i c.args.blocks (omega arith)) told)) ∙ sym step ∙ c.loop-block.invariant
