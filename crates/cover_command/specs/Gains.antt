-- What runs leave in the texts and counts that they add to.
use Rattle.std.specs.Prelude.{Result, Ok, Err}
use Rattle.run_counts.specs.Runs.{Told}
use Rattle.cov_answers.specs.declared.answers.End.{End}
use Rattle.cover_command.specs.declared.runs.Gained.{Gained}

-- the texts and counts, as they are seen
abbrev pub told_by_runs : Gained → Told
told_by_runs gained = record { counts = gained.counts; text = gained.text.items }

-- steps that leave this, or with which the command ends
abbrev pub Leaves : {A T : Type 0} → (Result A End → Type 0) → A → Result T End → Type 0
Leaves steps after (Ok done) = steps (Ok after)
Leaves steps after (Err end) = steps (Err end)
