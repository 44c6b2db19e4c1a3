use Rattle.std.proofs.Common.{sym, subst, ◌∙◌}
use Rattle.c_tokens.specs.declared.items.ItemFront.{ItemFront}
use Rattle.c_tokens.specs.Finds.{Finds}
use Rattle.c_tokens.proofs.items.item_at.Goals as goal

pub returns-in-BlockComment-clause-finds : goal.returns-in-BlockComment-clause-finds
returns-in-BlockComment-clause-finds c =
    subst (λ (f : ItemFront). Finds f c.args.starts_line c.args.text.now c.args.place c.block_comment.result) (sym c.in-BlockComment.is ∙ c.front_of.ensures.front)
    (c.block_comment.ensures.finds c.args.starts_line)

pub returns-in-Number-clause-finds : goal.returns-in-Number-clause-finds
returns-in-Number-clause-finds c =
    subst (λ (f : ItemFront). Finds f c.args.starts_line c.args.text.now c.args.place c.number_item.result) (sym c.in-Number.is ∙ c.front_of.ensures.front)
    (c.number_item.ensures.finds c.args.starts_line)

pub returns-in-Word-clause-finds : goal.returns-in-Word-clause-finds
returns-in-Word-clause-finds c =
    subst (λ (f : ItemFront). Finds f c.args.starts_line c.args.text.now c.args.place c.word_item.result) (sym c.in-Word.is ∙ c.front_of.ensures.front)
    (c.word_item.ensures.finds c.args.starts_line)

pub returns-in-Character-clause-finds : goal.returns-in-Character-clause-finds
returns-in-Character-clause-finds c =
    subst (λ (f : ItemFront). Finds f c.args.starts_line c.args.text.now c.args.place c.character_item.result) (sym c.in-Character.is ∙ c.front_of.ensures.front)
    (c.character_item.ensures.finds c.args.starts_line)

pub returns-in-Mark-clause-finds : goal.returns-in-Mark-clause-finds
returns-in-Mark-clause-finds c =
    subst (λ (f : ItemFront). Finds f c.args.starts_line c.args.text.now c.args.place c.mark_item.result) (sym c.in-Mark.is ∙ c.front_of.ensures.front)
    (c.mark_item.ensures.finds c.args.starts_line)
