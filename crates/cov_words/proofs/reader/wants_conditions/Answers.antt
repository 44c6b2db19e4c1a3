use Rattle.std.proofs.Common.{◌∙◌}
use Rattle.cov_words.specs.Reading.{is_conditions}
use Rattle.cov_words.proofs.ReadingLaws.{any_mapped}
use Rattle.cov_words.proofs.reader.wants_conditions.Goals as goal

pub returns : goal.returns
returns c = c.some_conditions.ensures ∙ any_mapped is_conditions c.args.words.now
