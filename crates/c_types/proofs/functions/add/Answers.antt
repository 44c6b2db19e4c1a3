use Rattle.std.proofs.Common.{sym, ap, ◌∙◌, bytes_eq}
use Rattle.indexmap.specs.IndexMap.{insert_entry}
use Rattle.c_types.proofs.FunctionLaws.{again, numbered}
use Rattle.c_types.proofs.functions.add.Goals as goal

pub returns-then-contains_key : goal.returns-then-contains_key
returns-then-contains_key c = λ names long are.
    again names c.args.numbers.now.entries c.args.name.now (sym c.contains_key.ensures ∙ c.if-contains_key.true) are

pub returns : goal.returns
returns c = λ names long are.
    numbered names c.args.numbers.now.entries c.insert.new.self.entries c.args.name.now c.args.number
    (sym c.contains_key.ensures ∙ c.if-contains_key.false)
    (c.in_ok-insert.ensures.entries ∙ ap (λ k. insert_entry bytes_eq c.args.numbers.now.entries k c.args.number)
    (c.in_ok-name.ensures ∙ c.bytes.ensures)) long are
