-- What a run adds to data that were found.
use Rattle.std.proofs.Common.{◌≡◌, refl, sym, ap, ap₂, subst, ◌∙◌, ℕ, ◌≤◌, ◌&&◌, min, true, false, List, [], ◌∷◌}
use Rattle.std.proofs.Common.{length, drop, Option, None, inl, inr, arith}
use Rattle.std.specs.Prelude.{Bool, Result, Ok, Err}
use Rattle.std.proofs.lemmas.Bool.{cases_lt}
use Rattle.std.proofs.lemmas.List.{drop_all}
use Rattle.cov_base.specs.declared.refusal.Refusal.{Refusal}
use Rattle.cov_outside.specs.Outside.{Files}
use Rattle.stack_ops.specs.Code.{FunctionValue, CodeValue}
use Rattle.stack_ops.specs.declared.endings.Outcome.{Outcome}
use Rattle.code_runs.specs.CodeRun.{Ran}
use Rattle.stack_machine.specs.Machine.{MachineValue, Shows}
use Rattle.gcda_format.specs.Data.{FunctionDataValue, DataValue}
use Rattle.run_merge.specs.declared.merging.MergeFault.{MergeFault}
use Rattle.run_counts.specs.Counts.{data_of, counts_of}
use Rattle.run_counts.specs.Runs.{MergesWhere}
use Rattle.run_counts.specs.Texts.{is_closed}
use Rattle.run_counts.proofs.RunLaws.{data_is}
use Rattle.cov_answers.specs.declared.answers.End.{End}
use Rattle.command_steps.specs.Names.{data_name}
use Rattle.command_steps.specs.Puts.{put, IsUnput}
use Rattle.run_command.specs.Ran.{end_of, is_counted, past_paths, Joins, DataSteps}
use Rattle.run_command.specs.Run.{Keeps}

past_nil : (k : ℕ) (fs : List FunctionValue) → past_paths k fs [] ≡ None
past_nil k [] = refl
past_nil k (f ∷ fs) = refl

-- behind the shorter list no bits go past the paths
pub past_done : (k n : ℕ) (fs : List FunctionValue) (ds : List FunctionDataValue) (total : Option ℕ)
    → min (length fs) (length ds) ≤ n → past_paths k (drop n fs) (drop n ds) ≡ total → None ≡ total
past_done k n fs ds total le h = elim (cases_lt n (length fs)) [
  | inl l ↦
      sym (ap (λ (r : List FunctionDataValue). past_paths k (drop n fs) r) (drop_all n ds (omega (arith, le, l)))
      ∙ past_nil k (drop n fs)) ∙ h
  | inr past ↦ sym (ap (λ (r : List FunctionValue). past_paths k r (drop n ds)) (drop_all n fs past)) ∙ h
]

-- what was merged of a machine's last run, which is closed, is merged of the run that it shows
pub merged_shown : {T : Type 0} → (ran : Ran) (m : MachineValue) (ending : Outcome) (old new : DataValue)
    (result : Result T (Refusal MergeFault)) → is_closed ending ≡ true → Shows ran ending m
    → MergesWhere (is_closed ending) old (data_of m.code m.counters m.words) new result
    → MergesWhere true old (counts_of m.code ran.tally) new result
merged_shown ran m ending old new result closed s h =
    subst (λ b. MergesWhere b old (counts_of m.code ran.tally) new result) closed
    (subst (λ d. MergesWhere (is_closed ending) old d new result) (data_is m.code ran m ending refl s) h)

-- why the counts of a run can't be added to others, where these are the same
pub joins_err : (past now : Option ℕ) (run old begun : DataValue) (end : End) → now ≡ past → begun ≡ old
    → Joins now run begun (Err end) → Joins past run old (Err end)
joins_err past now run old begun end past_is old_is h =
    subst (λ p. Joins p run old (Err end)) past_is (subst (λ d. Joins now run d (Err end)) old_is h)

-- a run that a machine shows is counted, or not, by its ending
counted_by : (code : CodeValue) (ran : Ran) (ending : Outcome) (b : Bool) → ending ≡ ran.ending
    → (code.covered && is_closed ending) ≡ b → is_counted code ran ≡ b
counted_by code ran ending b is h = subst (λ e. (code.covered && is_closed e) ≡ b) is h

counted : (code : CodeValue) (ran : Ran) (ending : Outcome) → ending ≡ ran.ending → code.covered ≡ true
    → is_closed ending ≡ true → is_counted code ran ≡ true
counted code ran ending is covers closed =
    counted_by code ran ending true is (ap₂ (λ (a b : Bool). a && b) covers closed)

-- the data of a run that isn't counted stand
pub ends_shown : (files : Option Files) (turns : ℕ) (name : List ℕ) (code : CodeValue) (ran : Ran) (ending : Outcome)
    (end : End) → ending ≡ ran.ending → (code.covered && is_closed ending) ≡ false → end ≡ end_of turns ending
    → Keeps files turns name code ran files end
ends_shown files turns name code ran ending end is h e =
    subst (Keeps files turns name code ran files) (sym (e ∙ ap (end_of turns) is))
    (Keeps.ended (counted_by code ran ending false is h))

-- those of a run that is counted stand where a step to them fails
pub refused_shown : (files after : Option Files) (turns : ℕ) (name : List ℕ) (code : CodeValue) (ran : Ran)
    (ending : Outcome) (end : End) → ending ≡ ran.ending → code.covered ≡ true → is_closed ending ≡ true
    → DataSteps files name code ran (Err end) → after ≡ files → Keeps files turns name code ran after end
refused_shown files after turns name code ran ending end is covers closed steps same =
    subst (λ fs. Keeps files turns name code ran fs end) (sym same)
    (Keeps.refused (counted code ran ending is covers closed) steps)

-- and where they couldn't be replaced
pub unput_shown : (files mid after : Option Files) (turns : ℕ) (name : List ℕ) (code : CodeValue) (ran : Ran)
    (ending : Outcome) (bytes : List ℕ) (end : End) → ending ≡ ran.ending → code.covered ≡ true
    → is_closed ending ≡ true → DataSteps files name code ran (Ok bytes) → IsUnput end → mid ≡ files → after ≡ mid
    → Keeps files turns name code ran after end
unput_shown files mid after turns name code ran ending bytes end is covers closed steps unput same stays =
    subst (λ fs. Keeps files turns name code ran fs end) (sym (stays ∙ same))
    (Keeps.without_data bytes (counted code ran ending is covers closed) steps unput)

-- or they are replaced
pub kept_shown : (files mid after : Option Files) (turns : ℕ) (name : List ℕ) (code : CodeValue) (ran : Ran)
    (ending : Outcome) (bytes given : List ℕ) (end : End) → ending ≡ ran.ending → code.covered ≡ true
    → is_closed ending ≡ true → DataSteps files name code ran (Ok bytes) → given ≡ bytes → mid ≡ files
    → after ≡ put (data_name name) given mid → end ≡ end_of turns ending → Keeps files turns name code ran after end
kept_shown files mid after turns name code ran ending bytes given end is covers closed steps same_bytes same puts e =
    subst (λ fs. Keeps files turns name code ran fs end)
    (sym (puts ∙ ap₂ (λ bs fs. put (data_name name) bs fs) same_bytes same))
    (subst (Keeps files turns name code ran (put (data_name name) bytes files)) (sym (e ∙ ap (end_of turns) is))
    (Keeps.kept bytes (counted code ran ending is covers closed) steps))
