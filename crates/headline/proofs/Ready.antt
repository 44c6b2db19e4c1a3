-- What ends `run`, `merge` and `report` early where all that they read is there.
use Rattle.std.proofs.Common.{◌≡◌, refl, sym, ap, subst, ◌∙◌, ℕ, suc, ◌+◌, ◌⊎◌, inl, inr, Bool, true, false, cond}
use Rattle.std.proofs.Common.{List, [], ◌∷◌, length, map, Some, None}
use Rattle.std.specs.Prelude.{nat_le, Option, Ok, Err}
use Rattle.std.specs.List.{list_any}
use Rattle.std.proofs.lemmas.Option.{none-some}
use Rattle.cov_base.specs.Walks.{Walk}
use Rattle.cov_outside.specs.Outside.{Files}
use Rattle.c_tree.specs.Typed.{Typed}
use Rattle.flow_graph.specs.Graph.{Graph}
use Rattle.flow_graph.specs.Nets.{net_of}
use Rattle.prime_paths.proofs.AllPaths.{one_list}
use Rattle.path_masks.specs.Masks.{bits_of, contains}
use Rattle.stack_ops.specs.Code.{CodeValue, FunctionValue}
use Rattle.code_runs.specs.CodeRun.{Ran, CodeRun}
use Rattle.covered_runs.specs.CoveredWalks.{walks_of}
use Rattle.source_graphs.specs.SourceGraphs.{IsSourceOf}
use Rattle.covered_code.specs.RendersCovered.{RendersCovered}
use Rattle.covered_code.specs.Shapes.{count_within}
use Rattle.covered_code.specs.UnitNotes.{function_of}
use Rattle.gcda_format.specs.Data.{DataValue, FunctionDataValue}
use Rattle.gcno_format.specs.Notes.{NotesValue}
use Rattle.gcno_format.specs.Reading.{laid_out}
use Rattle.run_merge.specs.Merging.{merge_fault}
use Rattle.run_merge.specs.declared.merging.MergeFault.{MergeFault}
use Rattle.run_merge.specs.declared.merging.MergeFault.TheVariants as fault
use Rattle.function_tallies.specs.Tallies.{ends_below}
use Rattle.path_report.specs.Tally.{TallyValue}
use Rattle.run_counts.specs.Counts.{counts_of}
use Rattle.run_counts.specs.Texts.{is_closed}
use Rattle.walk_counts.specs.WalkData.{AreFunctionDataOf, bits_within}
use Rattle.walk_counts.proofs.Tallying.{tallies_so}
use Rattle.walk_counts.proofs.WordShapes.{ends}
use Rattle.cov_answers.specs.declared.answers.End.{End}
use Rattle.cov_answers.specs.declared.answers.End.TheVariants as answer
use Rattle.command_steps.specs.Merged.{answer_of}
use Rattle.command_steps.specs.Puts.{IsUnput}
use Rattle.file_commands.specs.Laws.{HasCounts, HasData}
use Rattle.file_commands.specs.Merge.{AddSteps, SecondSteps}
use Rattle.file_commands.specs.Tallied.{IsTallied}
use Rattle.file_commands.proofs.Complete.{data_once, data_there, find_once, find_there, report_succeeds}
use Rattle.file_commands.proofs.TallyOnce as read_notes
use Rattle.run_command.specs.Laws.{IsOutside, RunsWhole}
use Rattle.run_command.specs.Ran.{DataSteps, JoinSteps, answer_in, end_of, past_in, past_paths, start_of}
use Rattle.run_command.specs.Run.{Keeps}
use Rattle.run_command.proofs.EndLaws as run
use Rattle.headline.specs.CoverText.{MayStop}
use Rattle.headline.specs.Laws.{FoundFor, IsRunOf, MayEndRun, ReadyIsMerged, ReadyIsReported, ReadyIsRun}
use Rattle.headline.specs.SourceRuns.{Asked, StandFor, closed_runs, closed_walks, notes_for}
use Rattle.headline.proofs.CountedRuns.{AreCovered, covered, graphs, runs_meant}
use Rattle.headline.proofs.Files.{nets_at, run_stands, start_stands}
use Rattle.headline.proofs.NoRun.{no_run_tallied}
use Rattle.headline.proofs.RunFiles.{both_true}
use Rattle.headline.proofs.SourceWalks.{all_go}
use Rattle.headline.proofs.Stopping.{merged_so, outside}

-- ---- `merge`

add_stops : (limit : ℕ) (text : List ℕ) (source : Typed) (asked others : List Asked) (first second : DataValue)
    (end : End) → StandFor limit text source asked first → StandFor limit text source others second
    → AddSteps first second (Err end) → MayStop end
add_stops limit text source asked others first second end stands stand (inl h) =
    subst MayStop (sym h.2) (merged_so (notes_for limit text source) (closed_runs stands.walked)
    (closed_runs stand.walked) (closed_walks stands.walked) (closed_walks stand.walked) first second h.0
    stands.data_are stand.data_are h.1)
add_stops limit text source asked others first second end stands stand (inr h) = subst MayStop (sym h.2) tt

second_stops : (limit : ℕ) (text : List ℕ) (source : Typed) (files : Files) (b : List ℕ) (first second : DataValue)
    (asked others : List Asked) (end : End) → HasData files b second → StandFor limit text source asked first
    → StandFor limit text source others second → SecondSteps (Some files) b first (Err end) → MayStop end
second_stops limit text source files b first second asked others end other stands stand (inl h) =
    outside end (data_there files b second end other h)
second_stops limit text source files b first second asked others end other stands stand (inr h) =
    add_stops limit text source asked others first second end stands stand
    (subst (λ (d : DataValue). AddSteps first d (Err end)) (data_once files b second h.0 other h.1) h.2)

pub merges_stop : ReadyIsMerged
merges_stop limit text source files a b first second asked others end one other stands stand (inl h) =
    outside end (data_there files a first end one h)
merges_stop limit text source files a b first second asked others end one other stands stand (inr h) =
    second_stops limit text source files b first second asked others end other stands stand
    (subst (λ (d : DataValue). SecondSteps (Some files) b d (Err end)) (data_once files a first h.0 one h.1) h.2)

-- ---- `report`

-- what was found has a tally
tallied_there : (limit : ℕ) (text : List ℕ) (source : Typed) → IsSourceOf text source
    → read_notes.HaveNets (notes_for limit text source).functions → (found : Option DataValue) (asked : List Asked)
    → FoundFor limit text source asked found
    → (tally : TallyValue) × IsTallied (notes_for limit text source) found (Ok tally)
tallied_there limit text source is nets None asked e = no_run_tallied (notes_for limit text source)
tallied_there limit text source is nets (Some counts) asked stands =
    (tallies_so (notes_for limit text source) (closed_runs stands.walked) (closed_walks stands.walked)
    (all_go limit text source is.sound (nets_at (notes_for limit text source).functions nets) asked stands.walked
    stands.are) counts stands.data_are).there

pub reports_stop : ReadyIsReported
reports_stop limit text source is files name found asked end noted given has stands h =
    let notes : NotesValue = notes_for limit text source in
    let tallied = tallied_there limit text source is (read_notes.nets_told (laid_out noted.bytes) notes noted.reads)
    found asked stands in
    report_succeeds files name text notes found tallied.0 end noted given has tallied.1 h

-- ---- `run`

-- the bits of data of walks don't go past the paths
within : (limit : ℕ) (ps walks : List (List ℕ))
    → ends_below (count_within limit (length ps)) (bits_within limit ps walks) ≡ true
within limit ps walks = by (nat_le (length ps) limit)
  where
    by : (z : Bool) → ends_below (cond z (length ps) 0) (cond z (bits_of ps walks) []) ≡ true
    by true = ends (λ p. list_any (λ w. contains w p) walks) ps
    by false = refl

none_past : (limit k i : ℕ) (gs : List Graph) (fs : List FunctionValue) (walks : List Walk)
    (ds : List FunctionDataValue) → AreCovered limit gs fs → AreFunctionDataOf limit i (map function_of gs) walks ds
    → past_paths k fs ds ≡ None
none_past limit k i gs [] walks ds is h = refl
none_past limit k i gs (f ∷ fs) walks [] is h = refl
none_past limit k i [] (f ∷ fs) walks (d ∷ ds) is h = absurd is
none_past limit k i (g ∷ gs) (f ∷ fs) walks (d ∷ ds) is h =
    by (ends_below f.paths d.bits) here (none_past limit (k + 1) (suc i) gs fs walks ds is.1 h.1)
  where
    same : h.0.primes ≡ is.0.primes
    same = one_list (net_of g) h.0.primes h.0.primes_are ∙ sym (one_list (net_of g) is.0.primes is.0.primes_are)

    here : ends_below f.paths d.bits ≡ true
    here =
        ap (λ (n : ℕ). ends_below n d.bits) is.0.paths
        ∙ ap (λ (bits : List ℕ). ends_below (count_within limit (length is.0.primes)) bits) h.0.bits
        ∙ ap (λ (ps : List (List ℕ)). ends_below (count_within limit (length is.0.primes))
        (bits_within limit ps (walks_of i walks))) same
        ∙ within limit is.0.primes (walks_of i walks)

    by : (z : Bool) → z ≡ true → past_paths (k + 1) fs ds ≡ None → cond z (past_paths (k + 1) fs ds) (Some k) ≡ None
    by true e rest = rest
    by false e rest = absurd (cc)

-- answers are told as those of merging where no bits go past the paths
answers_so : (found : MergeFault) → MayStop (answer_of found) → MayStop (answer_in None found)
answers_so (fault.OtherBuild a b) h = absurd h
answers_so (fault.OtherShape function) h = absurd h
answers_so fault.RunsPassed h = tt
answers_so (fault.CountPassed function counter) h = tt

-- an answer blames the outside, or it doesn't
outside_or : (end : End) → IsOutside end ⊎ (IsOutside end → ⊥)
outside_or answer.ReadFault = inl tt
outside_or answer.WriteFault = inl tt
outside_or answer.FolderFault = inl tt
outside_or answer.NoMemory = inl tt
outside_or _ = inr (λ h. h)

module _ (limit : ℕ) (text : List ℕ) (code : CodeValue) (renders : RendersCovered text limit code) (files : Files)
    (one : Asked) (name : List ℕ) (found : Option DataValue) (asked : List Asked) (has : HasCounts files name found)
    (stands : FoundFor limit text renders.source asked found) (ran : Ran) (comes : CodeRun code one.input one.turns ran)
  where
    run_is : IsRunOf limit text renders.source code one ran
    run_is = runs_meant limit text code renders one ran comes

    not_past : past_in code found ≡ None
    not_past = by found stands
      where
        by : (o : Option DataValue) → FoundFor limit text renders.source asked o → past_in code o ≡ None
        by None e = refl
        by (Some counts) s =
            none_past limit 0 0 (graphs limit text code renders) code.functions (closed_walks s.walked)
            counts.functions (covered limit text code renders) s.data_are.functions

    joins_stop : (end : End) → is_closed ran.ending ≡ true → JoinSteps code ran found (Err end) → MayStop end
    joins_stop end closed (inl (inl e)) = subst MayStop (sym e) tt
    joins_stop end closed (inl (inr (inl h))) =
        let old = start_stands limit text code renders found asked stands in
        let new = run_stands limit text code renders one ran run_is closed in
        let stops : MayStop (answer_of h.0) =
        merged_so (notes_for limit text renders.source) (closed_runs old.walked) (closed_runs new.walked)
        (closed_walks old.walked) (closed_walks new.walked) (start_of code found) (counts_of code ran.tally) h.0
        old.data_are new.data_are h.1 in
        subst MayStop (sym (h.2 ∙ ap (λ (p : Option ℕ). answer_in p h.0) not_past)) (answers_so h.0 stops)
    joins_stop end closed (inl (inr (inr h))) = absurd (none-some h.0 (sym not_past ∙ h.1))
    joins_stop end closed (inr h) = subst MayStop (sym h.2) tt

    steps_stop : (end : End) → is_closed ran.ending ≡ true → DataSteps (Some files) name code ran (Err end)
        → MayStop end
    steps_stop end closed (inl h) = outside end (find_there files name found end has h)
    steps_stop end closed (inr h) =
        joins_stop end closed (subst (λ (o : Option DataValue). JoinSteps code ran o (Err end))
        (find_once files name found h.0 has h.1) h.2)

    unput_stops : (end : End) → IsUnput end → MayStop end
    unput_stops answer.FolderFault h = tt
    unput_stops answer.NoMemory h = tt
    unput_stops _ h = absurd h

    pub ends_so : (files_after : Option Files) (end : End) → Keeps (Some files) one.turns name code ran files_after end
        → MayEndRun renders.source one end
    ends_so _ _ (Keeps.ended h) = inl (ap (λ e. end_of one.turns e) run_is.ending)
    ends_so _ end (Keeps.refused c steps) =
        inr (inr (steps_stop end (both_true code.covered (is_closed ran.ending) c) steps))
    ends_so _ end (Keeps.without_data bytes c steps unput) = inr (inr (unput_stops end unput))
    ends_so _ _ (Keeps.kept bytes c steps) = inl (ap (λ e. end_of one.turns e) run_is.ending)

pub ready_is_run : ReadyIsRun
ready_is_run limit text code renders files one name found asked before after files_after end ready has stands h =
    elim (outside_or end) [
      | inl blamed ↦ inr (inl blamed)
      | inr free ↦
          (let whole : RunsWhole files one.input one.turns name code before after files_after end =
          run.ready_is_run files one.input one.turns name code before after files_after end ready free h in
          ends_so limit text code renders files one name found asked has stands whole.ran whole.comes files_after end
          whole.keeps)
    ]
