use Rattle.stack_machine.proofs.RowStartLaws.{next-within, next-behind}
use Rattle.stack_machine.proofs.rows.next_row.Goals as goal

pub returns-clause-within : goal.returns-clause-within
returns-clause-within c = next-within c.args.table.now c.args.at c.requires.there c.requires.whole

pub returns-clause-behind : goal.returns-clause-behind
returns-clause-behind c = next-behind c.args.table.now c.args.at
