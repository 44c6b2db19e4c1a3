use Rattle.std.proofs.Common.{rules, ◌∙◌, length, refl, sym, arith}
use Rattle.std.specs.List.{fold}
use Rattle.word_rules.specs.WordRules.{words_of, passed, pass_row}
use Rattle.word_rules.proofs.RowLaws.{pass_step, pass_within, pass_end}
use Rattle.word_rules.proofs.words.pass.Goals as goal

pub pass_word-requires-clause-within : goal.pass_word-requires-clause-within
pass_word-requires-clause-within c =
    (pass_within c.args.row.now c.loop-at.at (length c.loop-at.bits) (length c.loop-at.bits) c.loop-at-test.true refl
    c.loop-at.invariant.within).0

pub loop-at-preserved : goal.loop-at-preserved
loop-at-preserved c = record {
  place = (let h = c.loop-at-test.true in omega (arith, h));
  bits = c.pass_word.ensures.bits ∙ c.loop-at.invariant.bits;
  seen = search rules;
  within = (pass_within c.args.row.now c.loop-at.at (length c.pass_word.new.bits) (length c.loop-at.bits)
      c.loop-at-test.true c.pass_word.ensures.bits c.loop-at.invariant.within).1;
  words = pass_step c.args.row.now c.loop-at.at (words_of c.loop-at.bits c.loop-at.seen)
      (words_of c.pass_word.new.bits c.pass_word.new.seen)
      (fold passed (words_of c.args.bits.now c.args.seen.now) (pass_row c.args.row.now))
      c.loop-at-test.true (sym c.pass_word.ensures.words) c.loop-at.invariant.words;
}

pub returns : goal.returns
returns c = pass_end c.args.row.now c.loop-at.at (words_of c.loop-at.bits c.loop-at.seen)
    (fold passed (words_of c.args.bits.now c.args.seen.now) (pass_row c.args.row.now))
    (let h = c.loop-at-test.false in omega (arith, h)) c.loop-at.invariant.words
