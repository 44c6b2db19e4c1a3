-- Reports that are made and written.
use Rattle.std.proofs.Common.{◌≡◌, inl, ℕ, List}
use Rattle.std.specs.Prelude.{Option, Result, Err}
use Rattle.cov_answers.specs.declared.answers.End.{End}
use Rattle.cov_answers.specs.declared.answers.End.TheVariants as answer
use Rattle.command_steps.specs.Puts.{Writes}
use Rattle.file_commands.proofs.StopLaws.{Stops}

-- a command that ended at a step wrote nothing
pub stopped : (steps : Result (List ℕ) End → Type 0) (before after : Option (List ℕ)) (end : End) → steps (Err end)
    → Stops end → after ≡ before → Writes steps before after end
stopped steps before after answer.Done s e h = absurd e
stopped steps before after answer.WriteFault s e h = absurd e
stopped steps before after answer.NoMemory s e h = inl h
stopped steps before after _ s e h = (s, h)
