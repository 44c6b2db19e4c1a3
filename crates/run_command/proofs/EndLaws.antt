-- Ends of the command where nothing outside fails.
use Rattle.std.proofs.Common.{◌≡◌, refl, sym, ap, subst, ◌∙◌, ℕ, ◌<◌, ◌≤◌, inl, inr, List, length, arith}
use Rattle.std.specs.Prelude.{Option, Some, Ok, Err}
use Rattle.std.proofs.lemmas.Option.{same_Some, none-some}
use Rattle.cov_base.specs.Limits.{file_limit}
use Rattle.cov_outside.specs.Outside.{Files}
use Rattle.stack_ops.specs.Code.{CodeValue}
use Rattle.code_runs.specs.CodeRun.{Ran, CodeRun}
use Rattle.code_file.specs.Reading.{told, File}
use Rattle.code_file.proofs.FileLaws.{same_file, no_file}
use Rattle.cov_answers.specs.declared.answers.End.{End}
use Rattle.cov_answers.specs.declared.answers.End.TheVariants as answer
use Rattle.command_steps.specs.Names.{code_name}
use Rattle.command_steps.specs.Puts.{IsUntold, IsUnput}
use Rattle.command_steps.specs.Steps.{Then, Makes}
use Rattle.command_steps.specs.Files.{LoadsFile, ReadsCode, CodeAt}
use Rattle.run_command.specs.Run.{Begun, ReadsInput, ProgramSteps, Ends, Runs}
use Rattle.run_command.specs.Laws.{IsOutside, IsReady, RunsWhole, ReadyIsRun}

-- want of memory is outside
pub memory_outside : (end : End) → end ≡ answer.NoMemory → IsOutside end
memory_outside end h = subst IsOutside (sym h) tt

untold_outside : (end : End) → IsUntold end → IsOutside end
untold_outside answer.WriteFault h = tt
untold_outside answer.NoMemory h = tt
untold_outside _ h = absurd h

pub unput_outside : (end : End) → IsUnput end → IsOutside end
unput_outside answer.FolderFault h = tt
unput_outside answer.NoMemory h = tt
unput_outside _ h = absurd h

-- a file that is there and short enough is loaded, but for what is outside
loads_outside : (files : Files) (name file : List ℕ) (end : End) → files name ≡ Some file → length file ≤ file_limit
    → LoadsFile (Some files) name file_limit (Err end) → IsOutside end
loads_outside files name file (answer.Missing m) there short h = absurd (none-some file (sym h.1 ∙ there))
loads_outside files name file (answer.TooLong l) there short h =
    let long : file_limit < length file =
    subst (λ (bs : List ℕ). file_limit < length bs) (same_Some _ _ (sym h.1.there ∙ there)) h.1.long in
    absurd (omega (arith, long, short))
loads_outside files name file answer.FolderFault there short h = tt
loads_outside files name file answer.NoMemory there short h = tt
loads_outside files name file _ there short h = absurd h

-- bytes that are read as a code are read, but for what is outside
reads_outside : (bytes : List ℕ) (code : CodeValue) (end : End) → told bytes ≡ File code → ReadsCode bytes (Err end)
    → IsOutside end
reads_outside bytes code (answer.BadCode f) is h = absurd (no_file code f (sym is ∙ h))
reads_outside bytes code answer.NoMemory is h = tt
reads_outside bytes code _ is h = absurd h

-- an input that is short enough is read, but for what is outside
input_outside : (input : List ℕ) (end : End) → length input ≤ file_limit → ReadsInput (Some input) (Err end)
    → IsOutside end
input_outside input (answer.TooLong l) few h = absurd (omega (arith, few, h.1))
input_outside input answer.ReadFault few h = tt
input_outside input answer.NoMemory few h = tt
input_outside input _ few h = absurd h

-- all that is ready is read as it is
code_outside : (files : Files) (input name : List ℕ) (code : CodeValue) (end : End) → IsReady files input name code
    → CodeAt (Some files) name (Err end) → IsOutside end
code_outside files input name code end r (inl h) = loads_outside files (code_name name) r.file end r.there r.short h
code_outside files input name code end r (inr h) =
    reads_outside h.0 code end
    (subst (λ bs. told bs ≡ File code) (same_Some _ _ (sym r.there ∙ h.1.0)) r.reads) h.2

code_ready : (files : Files) (input name : List ℕ) (code found : CodeValue) → IsReady files input name code
    → CodeAt (Some files) name (Ok found) → found ≡ code
code_ready files input name code found r h =
    same_file found code (sym h.2 ∙ ap told (same_Some _ _ (sym h.1.0 ∙ r.there)) ∙ r.reads)

begun_ready : (files : Files) (input name : List ℕ) (code : CodeValue) (begun : Begun) → IsReady files input name code
    → ProgramSteps (Some files) (Some input) name (Ok begun) → begun ≡ record { code = code; input = input }
begun_ready files input name code begun r h =
    h.2.2 ∙ ap (λ (c : CodeValue). record { code = c; input = h.2.0 }) (code_ready files input name code h.0 r h.1)
    ∙ ap (λ (bs : List ℕ). record { code = code; input = bs }) h.2.1.0

begun_outside : (input : List ℕ) (code : CodeValue) (end : End) → length input ≤ file_limit
    → Then {B = Begun} (ReadsInput (Some input)) (λ bytes. Makes (record { code = code; input = bytes })) (Err end)
    → IsOutside end
begun_outside input code end few (inl h) = input_outside input end few h
begun_outside input code end few (inr h) = memory_outside end h.2

steps_outside : (files : Files) (input name : List ℕ) (code : CodeValue) (end : End) → IsReady files input name code
    → ProgramSteps (Some files) (Some input) name (Err end) → IsOutside end
steps_outside files input name code end r (inl h) = code_outside files input name code end r h
steps_outside files input name code end r (inr h) = begun_outside input h.0 end r.few h.2

-- the output of a run is written whole, but for what is outside
whole : (files : Files) (input : List ℕ) (turns : ℕ) (name : List ℕ) (code : CodeValue) (ran : Ran) (before : List ℕ)
    (after : Option (List ℕ)) (files_after : Option Files) (end : End) → CodeRun code input turns ran
    → (IsOutside end → ⊥) → Ends (Some files) turns name code ran (Some before) after files_after end
    → RunsWhole files input turns name code before after files_after end
whole files input turns name code ran before _ _ end comes inside (Ends.cut kind front) =
    absurd (inside (untold_outside end kind))
whole files input turns name code ran before _ files_after end comes inside (Ends.shown keeps) =
    record { ran = ran; comes = comes; writes = refl; keeps = keeps }

went_ready : (files : Files) (input : List ℕ) (turns : ℕ) (name : List ℕ) (code : CodeValue) (before : List ℕ)
    (after : Option (List ℕ)) (files_after : Option Files) (end : End) (begun : Begun) (ran : Ran)
    → (IsOutside end → ⊥) → begun ≡ record { code = code; input = input } → CodeRun begun.code begun.input turns ran
    → Ends (Some files) turns name begun.code ran (Some before) after files_after end
    → RunsWhole files input turns name code before after files_after end
went_ready files input turns name code before after files_after end begun ran inside is comes ends =
    whole files input turns name code ran before after files_after end
    (subst (λ (b : Begun). CodeRun b.code b.input turns ran) is comes) inside
    (subst (λ (b : Begun). Ends (Some files) turns name b.code ran (Some before) after files_after end) is ends)

-- where all is ready the program is run
pub ready_is_run : ReadyIsRun
ready_is_run files input turns name code before _ _ end r inside (Runs.stopped steps) =
    absurd (inside (steps_outside files input name code end r steps))
ready_is_run files input turns name code before after files_after end r inside (Runs.went begun ran run ends) =
    went_ready files input turns name code before after files_after end begun ran inside
    (begun_ready files input name code begun r run.begins) run.comes ends
