use Rattle.std.proofs.Common.{◌∙◌, sym, length, get_or}
use Rattle.code_checks.proofs.TableLaws.{word_stop, word_on, room_on}
use Rattle.code_checks.proofs.tables.word_fault.Goals as goal

pub returns-then-not-is_next : goal.returns-then-not-is_next
returns-then-not-is_next c =
    let n = get_or c.args.table.now c.args.at 0 in
    sym (word_stop c.args.size c.args.words n c.loop.counter c.loop.least c.loop.entry c.args.table.now c.loop-test.true
    (sym c.is_next.ensures ∙ c.if-not-is_next.true)) ∙ c.loop.invariant.told

pub loop-preserved : goal.loop-preserved
loop-preserved c =
    let n = get_or c.args.table.now c.args.at 0 in
    record {
      told = sym (word_on c.args.size c.args.words n c.loop.counter c.loop.least c.loop.entry c.args.table.now
          c.loop-test.true (sym c.is_next.ensures ∙ c.if-not-is_next.false)) ∙ c.loop.invariant.told;
      room = room_on c.args.size n c.loop.counter c.loop.entry (length c.args.table.now) c.loop-test.true
          c.loop.invariant.room;
    }
