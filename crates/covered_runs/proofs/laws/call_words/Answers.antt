use Rattle.covered_runs.proofs.WordLaws.{words_are_marks, tallies_are_whole}
use Rattle.covered_runs.proofs.laws.call_words.Goals as goal

pub returns-clause-words : goal.returns-clause-words
returns-clause-words c = words_are_marks

pub returns-clause-whole : goal.returns-clause-whole
returns-clause-whole c = tallies_are_whole
