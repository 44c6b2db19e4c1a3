use Rattle.gcov_items.proofs.ReadLaws.{no_body}
use Rattle.gcov_items.proofs.reader.text_of.Goals as goal

pub returns-then-contains-clause-none : goal.returns-then-contains-clause-none
returns-then-contains-clause-none c =
    no_body c.args.body.now c.in_ok-last.text.now c.in_ok-last.last.now c.if-contains.ensures.cases.0
    c.in_ok-last.ensures.cases.0 c.if-contains.ensures.cases.1 c.if-contains.ensures.cases.2
