-- How the command ends.
use Rattle.std.proofs.Common.{◌≡◌, sym, ap, subst, ◌∙◌, ℕ, List}
use Rattle.std.specs.Prelude.{Option, IfSome, Err}
use Rattle.cov_outside.specs.Outside.{Files}
use Rattle.stack_ops.specs.Code.{CodeValue}
use Rattle.code_runs.specs.CodeRun.{Ran}
use Rattle.cov_answers.specs.Answers.{IsFront}
use Rattle.cov_answers.specs.declared.answers.End.{End}
use Rattle.command_steps.specs.Puts.{told, IsUntold}
use Rattle.run_command.specs.declared.finished.Finished.{Finished}
use Rattle.run_command.specs.Run.{Keeps, Ends, Runs, ProgramSteps}
use Rattle.run_command.specs.Shown.{ShowsRun}

-- the output of a run is written
pub told_whole : (files files_after : Option Files) (turns : ℕ) (name : List ℕ) (code : CodeValue) (ran : Ran)
    (before after : Option (List ℕ)) (text shown : List ℕ) (end : End) → text ≡ shown → shown ≡ ran.output
    → after ≡ told text before → Keeps files turns name code ran files_after end
    → Ends files turns name code ran before after files_after end
told_whole files files_after turns name code ran before after text shown end text_is output_is writes keeps =
    subst (λ a. Ends files turns name code ran before a files_after end)
    (sym (writes ∙ ap (λ (t : List ℕ). told t before) (text_is ∙ output_is))) (Ends.shown keeps)

-- or couldn't be written whole
pub told_cut : (files : Option Files) (turns : ℕ) (name : List ℕ) (code : CodeValue) (ran : Ran)
    (before after : Option (List ℕ)) (text shown : List ℕ) (end : End) → text ≡ shown → shown ≡ ran.output
    → IsUntold end → IfSome before (λ b. IsFront text b after) → Ends files turns name code ran before after files end
told_cut files turns name code ran before after text shown end text_is output_is kind front =
    Ends.cut kind (subst (λ (t : List ℕ). IfSome before (λ b. IsFront t b after)) (text_is ∙ output_is) front)

-- a run of the program, which a machine shows, ends so
pub went_shown : (files mid files_after : Option Files) (input : Option (List ℕ)) (turns : ℕ) (name : List ℕ)
    (before after : Option (List ℕ)) (f : Finished) (end : End) → mid ≡ files → (h : ShowsRun files input turns name f)
    → Ends mid turns name f.machine.code h.ran before after files_after end
    → Runs files input turns name before after files_after end
went_shown files mid files_after input turns name before after f end same h ends =
    Runs.went h.begun h.ran h.run
    (subst (λ code. Ends files turns name code h.ran before after files_after end) h.code
    (subst (λ fs. Ends fs turns name f.machine.code h.ran before after files_after end) same ends))

-- the command ended at a step before the run
pub stopped_before : (files after : Option Files) (input : Option (List ℕ)) (turns : ℕ) (name : List ℕ)
    (output : Option (List ℕ)) (end : End) → after ≡ files → ProgramSteps files input name (Err end)
    → Runs files input turns name output output after end
stopped_before files after input turns name output end same steps =
    subst (λ fs. Runs files input turns name output output fs end) (sym same) (Runs.stopped steps)
