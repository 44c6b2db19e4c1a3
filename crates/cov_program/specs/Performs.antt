-- What the top call does with the words and the outside.
use Rattle.std.specs.Prelude.{◌≡◌, ◌⊎◌, true, IfSome}
use Rattle.clap.specs.Kinds.{IsAmong}
use Rattle.clap.specs.declared.error.kind.ErrorKind.{ErrorKind}
use Rattle.cov_outside.specs.Outside.{HasCause, Rose}
use Rattle.cov_words.specs.declared.command.UsageFault.TheVariants as usage
use Rattle.cov_words.specs.declared.command.WordsFault.{WordsFault}
use Rattle.cov_words.specs.declared.command.WordsFault.TheVariants as fault
use Rattle.cov_words.specs.Reading.{Reading, Reads, Faults, Misfits}
use Rattle.cov_answers.specs.declared.answers.End.{End}
use Rattle.cov_answers.specs.declared.answers.End.TheVariants as answer
use Rattle.cov_answers.specs.Answers.{IsTold, line_of, is_silent}
use Rattle.cov_program.specs.Outside.{Outside, Observed}
use Rattle.cov_program.specs.Commands.{Does, LeavesInput, LeavesOutput, ChangesNothing}
use Rattle.cov_program.specs.Meant.{IsMeant, IsComplete}

-- the answer to words with this fault
abbrev pub answer_of : WordsFault → End
answer_of fault.ConditionCoverage = answer.ConditionCoverage
answer_of (fault.Usage found) = answer.Usage found

-- The answer to these words: that of the command that they are; or to their fault, or of a kind by which `clap` refuses
-- them, and then nothing changes. Memory may be wanting.
abbrev pub Answers : Reading → Outside → Outside → End → Type 0
Answers (Reads command) before after end =
    Does command before after end ⊎ ((end ≡ answer.NoMemory) × ChangesNothing before after)
Answers (Faults found) before after end =
    ((end ≡ answer_of found) ⊎ (end ≡ answer.NoMemory)) × ChangesNothing before after
Answers (Misfits kinds) before after end =
    (((kind : ErrorKind) × IsAmong kind kinds × (end ≡ answer.Usage (usage.Words kind))) ⊎ (end ≡ answer.NoMemory))
    × ChangesNothing before after

-- The call on words that say this, with the outside before and after it, has this answer. The outside is blamed only
-- where its count of faults rose, and no count falls.
pub record Acts (reading : Reading) (before after : Outside) (end : End) : Type 0 where
  pub answers : Answers reading before after end
  pub read_fault : HasCause before.input_faults after.input_faults (end ≡ answer.ReadFault)
  pub write_fault : HasCause before.output_faults after.output_faults (end ≡ answer.WriteFault)
  pub folder_fault : HasCause before.folder_faults after.folder_faults (end ≡ answer.FolderFault)
  pub output_wants : HasCause before.output_wants after.output_wants ⊥

-- The call acts so; what a cover has written is what its source means, and it is done where nothing keeps it from that;
-- and the call tells the line of its answer, whole but for a fault of the error output or a want of memory there, whose
-- counts never fall.
pub record Performs (reading : Reading) (before after : Observed) (end : End) : Type 0 where
  pub acts : Acts reading before.outside after.outside end
  pub meant : IsMeant reading before.outside after.outside end
  pub complete : IsComplete reading before.outside end
  pub line : IfSome before.errors (λ errors. IsTold (line_of end) errors after.errors
      (Rose before.error_faults after.error_faults) (Rose before.error_wants after.error_wants))
  pub error_faults : HasCause before.error_faults after.error_faults ⊥
  pub error_wants : HasCause before.error_wants after.error_wants ⊥

-- What stands after words that say this, of the objects themselves: standard input and the output where the command
-- leaves them with this answer, and all of them where the words are no command.
abbrev pub Leaves : {S K F : Type 0} → Reading → End → S → S → K → K → F → F → Type 0
Leaves (Reads command) end input input' output output' folder folder' =
    (LeavesInput command end → input' ≡ input) × (LeavesOutput command end → output' ≡ output)
Leaves (Faults found) end input input' output output' folder folder' =
    (input' ≡ input) × (output' ≡ output) × (folder' ≡ folder)
Leaves (Misfits kinds) end input input' output output' folder folder' =
    (input' ≡ input) × (output' ≡ output) × (folder' ≡ folder)

-- What stands after the call: what stands after its words, and the error output where the answer has no line.
pub record Stands {S K E F : Type 0} (reading : Reading) (end : End) (input input' : S) (output output' : K)
    (errors errors' : E) (folder folder' : F) : Type 0 where
  pub leaves : Leaves reading end input input' output output' folder folder'
  pub silent : is_silent end ≡ true → errors' ≡ errors
