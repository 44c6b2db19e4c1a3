-- What ends a cover early where the source is accepted and all is there.
use Rattle.std.proofs.Common.{◌≡◌, refl, sym, subst, ◌∙◌, ℕ, ◌+◌, Bool, true, false, cond, inl, inr}
use Rattle.std.proofs.Common.{List, [], ◌∷◌, ◌++◌, map, Some, None}
use Rattle.std.specs.Prelude.{nat_lt, Option, Ok, Err}
use Rattle.std.specs.Option.{option_map, option_or}
use Rattle.std.proofs.lemmas.Option.{same_Some}
use Rattle.cov_base.specs.Limits.{source_limit, file_limit}
use Rattle.cov_base.specs.Walks.{Walk}
use Rattle.cov_base.specs.declared.refusal.Refusal.TheVariants as refusal
use Rattle.cov_outside.specs.Outside.{Files}
use Rattle.stack_ops.specs.Code.{CodeValue}
use Rattle.stack_code.specs.declared.shape.EmitFault.TheVariants as emit_fault
use Rattle.code_runs.specs.CodeRun.{Ran}
use Rattle.gcda_format.specs.Data.{DataValue, FunctionDataValue, word_limit}
use Rattle.gcno_format.specs.Notes.{NotesValue}
use Rattle.run_merge.specs.Merging.{count_passed, merge_fault, passed}
use Rattle.run_merge.specs.declared.merging.MergeFault.{MergeFault}
use Rattle.run_merge.specs.declared.merging.MergeFault.TheVariants as fault
use Rattle.path_report.specs.Tallies.{IsFirstFault}
use Rattle.covered_code.specs.RendersCovered.{IsCovered, RefusesCovered, RendersCovered}
use Rattle.covered_code.specs.declared.covered.CodeFault.{CodeFault}
use Rattle.covered_code.specs.declared.covered.CodeFault.TheVariants as code_fault
use Rattle.covered_code.specs.declared.covered.Covered.{Covered}
use Rattle.run_counts.specs.Counts.{counts_of}
use Rattle.run_counts.specs.Runs.{Told, fault_where}
use Rattle.run_counts.specs.Texts.{is_closed}
use Rattle.walk_counts.specs.WalkData.{IsDataOf}
use Rattle.walk_counts.proofs.Adding.{runs_merge}
use Rattle.walk_counts.proofs.Tallying.{tallies_so}
use Rattle.cov_answers.specs.declared.answers.End.{End}
use Rattle.cov_answers.specs.declared.answers.End.TheVariants as answer
use Rattle.cov_answers.specs.declared.answers.SourceFault.TheVariants as source_fault
use Rattle.command_steps.specs.Merged.{answer_of}
use Rattle.command_steps.specs.Names.{stem}
use Rattle.file_commands.specs.Laws.{IsOutside}
use Rattle.file_commands.specs.Tallied as tallied
use Rattle.file_commands.proofs.Complete.{loads_there, some_once}
use Rattle.build_command.specs.Compiled.{Compiles}
use Rattle.cover_command.specs.Cover.{CompileSteps, ReportSteps, RunSteps, RunsAll, RunsInto, untold}
use Rattle.headline.specs.CoverText.{HoldInputs, MayStop, with_turns}
use Rattle.headline.specs.Laws.{IsRunOf, ReadyIsCovered}
use Rattle.headline.specs.SourceRuns.{Asked, closed_runs, closed_walks, notes_for}
use Rattle.headline.proofs.CountedRuns.{no_run, runs_meant}
use Rattle.headline.proofs.Covering.{nets_of}
use Rattle.headline.proofs.RunTexts.{from_none, one_more, runs_leave}
use Rattle.headline.proofs.SourceWalks.{all_go}

pub outside : (end : End) → IsOutside end → MayStop end
outside end (inl e) = subst MayStop (sym e) tt
outside end (inr e) = subst MayStop (sym e) tt

-- ---- one run

-- a sum above the limit is told as this
passed_so : (k : ℕ) (ds es : List FunctionDataValue) (found : MergeFault) → count_passed k ds es ≡ Some found
    → MayStop (answer_of found)
passed_so k [] es found e = absurd (cc)
passed_so k (d ∷ ds) [] found e = absurd (cc)
passed_so k (d ∷ ds) (x ∷ es) found e = by (passed_so (k + 1) ds es found) (passed 0 d.counters x.counters) e
  where
    by : (count_passed (k + 1) ds es ≡ Some found → MayStop (answer_of found)) → (o : Option ℕ)
        → option_or (option_map (λ c. fault.CountPassed k c) o) (count_passed (k + 1) ds es) ≡ Some found
        → MayStop (answer_of found)
    by rest None h = rest h
    by rest (Some c) h = subst (λ (f : MergeFault). MayStop (answer_of f)) (same_Some (fault.CountPassed k c) found h) tt

-- data of walks in one program aren't refused for another reason
pub merged_so : (notes : NotesValue) (m n : ℕ) (walks others : List Walk) (a b : DataValue)
    (found : MergeFault) → IsDataOf notes m walks a → IsDataOf notes n others b → merge_fault a b ≡ Some found
    → MayStop (answer_of found)
merged_so notes m n walks others a b found h k e =
    by (nat_lt word_limit (m + n)) (sym (runs_merge notes m n walks others a b h k) ∙ e)
  where
    by : (z : Bool) → option_or (cond z (Some fault.RunsPassed) None) (count_passed 0 a.functions b.functions) ≡ Some found
        → MayStop (answer_of found)
    by true s = subst (λ (f : MergeFault). MayStop (answer_of f)) (same_Some fault.RunsPassed found s) tt
    by false s = passed_so 0 a.functions b.functions found s

module _ (limit : ℕ) (text : List ℕ) (code : CodeValue) (renders : RendersCovered text limit code) (files : Files)
    (turns : ℕ) where
  abbrev notes : NotesValue
  notes = notes_for limit text renders.source

  run_stops : (name input : List ℕ) (m : ℕ) (walks : List Walk) (before : Told) (end : End)
      → IsDataOf notes m walks before.counts → RunsInto code turns name input before (Err end) → MayStop end
  run_stops name input m walks before end data_are (inl e) = subst MayStop (sym e) tt
  run_stops name input m walks before end data_are (inr h) =
      subst MayStop (sym h.4) (by (is_closed h.0.ending) refl h.3)
    where
      by : (z : Bool) → is_closed h.0.ending ≡ z
          → fault_where z before.counts (counts_of code h.0.tally) ≡ Some h.2 → MayStop (answer_of h.2)
      by true e s =
          let run = runs_meant limit text code renders (with_turns turns input) h.0 h.1 in
          merged_so notes m 1 walks run.walked.walks before.counts (counts_of code h.0.tally) h.2 data_are
          (run.counts e) s
      by false e s = absurd (cc)

  runs_stop : (names inputs : List (List ℕ)) (m : ℕ) (walks : List Walk) (before : Told) (end : End)
      → IsDataOf notes m walks before.counts → HoldInputs files names inputs
      → RunsAll (Some files) code turns names before (Err end) → MayStop end
  runs_stop [] inputs m walks before end data_are hold h = subst MayStop (sym h) tt
  runs_stop (name ∷ names) [] m walks before end data_are hold h = absurd hold
  runs_stop (name ∷ names) (input ∷ inputs) m walks before end data_are hold (inl (inl h)) =
      outside end (loads_there files name file_limit input end hold.0 hold.1 h)
  runs_stop (name ∷ names) (input ∷ inputs) m walks before end data_are hold (inl (inr h)) =
      run_stops name h.0 m walks before end data_are h.2
  runs_stop (name ∷ names) (input ∷ inputs) m walks before end data_are hold (inr h) =
      let given : List ℕ = h.1.0 in
      let ran : Ran = h.1.2.0 in
      let asked : Asked = with_turns turns given in
      let run : IsRunOf limit text renders.source code asked ran =
      runs_meant limit text code renders asked ran h.1.2.1 in
      let n : ℕ = cond (is_closed run.walked.ending) 1 0 in
      let own : List Walk = cond (is_closed run.walked.ending) run.walked.walks [] in
      let mid : IsDataOf notes (m + n) (walks ++ own) h.0.counts =
      subst (λ (t : Told). IsDataOf notes (m + n) (walks ++ own) t.counts) (sym h.1.2.3)
      (one_more limit text renders.source code asked ran m walks before.counts data_are run) in
      runs_stop names inputs (m + n) (walks ++ own) h.0 end mid hold.2 h.2

-- ---- a cover

-- an accepted source is compiled, but for want of memory
compiles : (text : List ℕ) (limit : ℕ) (end : End)
    → ((found : CodeFault) → RefusesCovered text limit (refusal.Refused found) → ⊥) → Compiles text limit (Err end)
    → MayStop end
compiles text limit (answer.SourceRefused (source_fault.NotAccepted found)) accepted h =
    absurd (accepted (code_fault.Source found) h)
compiles text limit (answer.SourceRefused (source_fault.TablesTooLarge n)) accepted h =
    absurd (accepted (code_fault.Emit (emit_fault.TablesTooLarge n)) h)
compiles text limit answer.NoMemory accepted h = tt
compiles text limit _ accepted h = absurd h

module _ (text : List ℕ) (limit : ℕ) (covered : Covered) (is : IsCovered text limit covered) (files : Files)
    (turns : ℕ) where
  -- the data of all runs have a tally
  tallies : (names : List (List ℕ)) (told : Told) (end : End)
      → RunsAll (Some files) covered.code turns names (untold covered.code) (Ok told)
      → tallied.IsTallied covered.notes (Some told.counts) (Err end) → MayStop end
  tallies names told end runs (inl e) = subst MayStop (sym e) tt
  tallies names told end runs (inr h) =
      let left = runs_leave limit text covered.code is.renders files turns names 0 [] (untold covered.code) told
      (no_run limit text covered.code is.renders) runs in
      let whole = tallies_so (notes_for limit text is.renders.source) (closed_runs left.walked)
      (closed_walks left.walked) (all_go limit text is.renders.source is.renders.is_source.sound
      (nets_of text limit covered is) (map (with_turns turns) left.inputs) left.walked left.are) told.counts
      (from_none limit text is.renders.source files turns names (untold covered.code) told left) in
      absurd (whole.sound h.0 (subst (λ (n : NotesValue). IsFirstFault n told.counts h.0) is.notes_are h.1))

  reports : (name : List ℕ) (names : List (List ℕ)) (told : Told) (end : End)
      → RunsAll (Some files) covered.code turns names (untold covered.code) (Ok told)
      → ReportSteps name text covered told (Err end) → MayStop end
  reports name names told end runs (inl h) = tallies names told end runs h
  reports name names told end runs (inr h) = subst MayStop (sym h.2) tt

  runs : (name : List ℕ) (names inputs : List (List ℕ)) (end : End) → HoldInputs files names inputs
      → RunSteps (Some files) turns name text names covered (Err end) → MayStop end
  runs name names inputs end hold (inl h) =
      runs_stop limit text covered.code is.renders files turns names inputs 0 [] (untold covered.code) end
      (no_run limit text covered.code is.renders) hold h
  runs name names inputs end hold (inr h) = reports name names h.0 end h.1 h.2

compiled : (files : Files) (turns limit : ℕ) (text name : List ℕ) (names inputs : List (List ℕ)) (end : End)
    → ((found : CodeFault) → RefusesCovered text limit (refusal.Refused found) → ⊥) → HoldInputs files names inputs
    → CompileSteps (Some files) turns limit name names text (Err end) → MayStop end
compiled files turns limit text name names inputs end accepted hold (inl h) = compiles text limit end accepted h
compiled files turns limit text name names inputs end accepted hold (inr h) =
    runs text limit h.0 h.1 files turns name names inputs end hold h.2

pub ready_is_covered : ReadyIsCovered
ready_is_covered files turns limit source names end ready (inl h) =
    outside end (loads_there files source source_limit ready.source_text end ready.there ready.short h)
ready_is_covered files turns limit source names end ready (inr h) =
    let same : h.0 ≡ ready.source_text = some_once (files source) ready.source_text h.0 ready.there h.1.0 in
    compiled files turns limit ready.source_text (stem source) names ready.inputs end ready.accepted ready.hold
    (subst (λ (t : List ℕ). CompileSteps (Some files) turns limit (stem source) names t (Err end)) same h.2)
