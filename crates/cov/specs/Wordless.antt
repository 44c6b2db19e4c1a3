-- The answers that come before the top call.
use Rattle.cov_answers.specs.declared.answers.End.{End}
use Rattle.cov_answers.specs.declared.answers.End.TheVariants as answer

-- the answer comes where there are no words to ask with: they aren't text, or memory ran out
abbrev pub IsWordless : End → Type 0
IsWordless (answer.Usage fault) = Unit {0}
IsWordless answer.NoMemory = Unit {0}
IsWordless _ = ⊥
