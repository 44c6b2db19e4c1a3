use Rattle.std.proofs.Common.{rules, ◌∙◌, length, refl, sym, arith, replicate}
use Rattle.std.specs.List.{fold}
use Rattle.word_rules.specs.WordRules.{words_of, begun, begin_row}
use Rattle.word_rules.proofs.RowLaws.{begin_step, begin_within, begin_end}
use Rattle.word_rules.proofs.words.begin.Goals as goal

pub begin_word-requires-clause-within : goal.begin_word-requires-clause-within
begin_word-requires-clause-within c =
    (begin_within c.args.row.now c.loop-at.at (length c.loop-at.bits) (length c.loop-at.bits) c.loop-at-test.true refl
    c.loop-at.invariant.within).0

pub loop-at-preserved : goal.loop-at-preserved
loop-at-preserved c = record {
  place = (let h = c.loop-at-test.true in omega (arith, h));
  bits = c.begin_word.ensures.bits ∙ c.loop-at.invariant.bits;
  seen = search rules;
  within = (begin_within c.args.row.now c.loop-at.at (length c.begin_word.new.bits) (length c.loop-at.bits)
      c.loop-at-test.true c.begin_word.ensures.bits c.loop-at.invariant.within).1;
  words = begin_step c.args.row.now c.loop-at.at (words_of c.loop-at.bits c.loop-at.seen)
      (words_of c.begin_word.new.bits c.begin_word.new.seen)
      (fold begun (words_of (replicate (length c.args.bits.now) 0) c.args.seen.now) (begin_row c.args.row.now))
      c.loop-at-test.true (sym c.begin_word.ensures.words) c.loop-at.invariant.words;
}

pub returns : goal.returns
returns c = begin_end c.args.row.now c.loop-at.at (words_of c.loop-at.bits c.loop-at.seen)
    (fold begun (words_of (replicate (length c.args.bits.now) 0) c.args.seen.now) (begin_row c.args.row.now))
    (let h = c.loop-at-test.false in omega (arith, h)) c.loop-at.invariant.words
