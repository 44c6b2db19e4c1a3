-- A cover writes the text that the source means.
use Rattle.std.proofs.Common.{ap, subst, ◌∙◌, ℕ, List, [], ◌++◌, map}
use Rattle.std.specs.Prelude.{Ok}
use Rattle.std.proofs.lemmas.Option.{get_or_from_slice_get, slice_get_within}
use Rattle.gcno_format.specs.Notes.{NotesValue}
use Rattle.gcno_format.specs.Spelling.{IsFunctionNotes, IsNotes}
use Rattle.path_report.specs.Report.{report_text}
use Rattle.path_report.specs.Tallies.{Tallies}
use Rattle.path_report.specs.Tally.{TallyValue}
use Rattle.covered_code.specs.RendersCovered.{IsCovered}
use Rattle.covered_code.specs.declared.covered.Covered.{Covered}
use Rattle.run_counts.specs.Runs.{Told}
use Rattle.walk_counts.proofs.Tallying.{tallies_so}
use Rattle.command_steps.specs.Names.{stem}
use Rattle.cover_command.specs.Cover.{untold}
use Rattle.headline.specs.CoverText.{meant_texts, with_turns}
use Rattle.headline.specs.Laws.{CoversAreMeant}
use Rattle.headline.specs.SourceRuns.{closed_runs, closed_walks, notes_for}
use Rattle.headline.proofs.CountedRuns.{no_run}
use Rattle.headline.proofs.RunTexts.{Leave, from_none, runs_leave}
use Rattle.headline.proofs.SourceWalks.{HaveNets, all_go}

-- the functions of notes as they stand in a file have nets
pub nets_stand : (notes : NotesValue) → IsNotes notes → HaveNets notes
nets_stand notes stand i f at =
    (subst IsFunctionNotes (get_or_from_slice_get notes.functions i f f at)
    (stand.functions i f (slice_get_within notes.functions i f at))).net

-- so have those of a covered source
pub nets_of : (text : List ℕ) (limit : ℕ) (covered : Covered) (is : IsCovered text limit covered)
    → HaveNets (notes_for limit text is.renders.source)
nets_of text limit covered is = subst HaveNets is.notes_are (nets_stand covered.notes is.stand)

pub covers_meant : CoversAreMeant
covers_meant files turns limit source_name names text h =
    let source_text : List ℕ = h.0 in
    let covered : Covered = h.2.0 in
    let is : IsCovered source_text limit covered = h.2.1 in
    let source = is.renders.source in
    let notes : NotesValue = notes_for limit source_text source in
    let told : Told = h.2.2.0 in
    let left : Leave limit source_text source files turns names 0 [] (untold covered.code) told =
    runs_leave limit source_text covered.code is.renders files turns names 0 [] (untold covered.code) told
    (no_run limit source_text covered.code is.renders) h.2.2.1 in
    let tally : TallyValue = h.2.2.2.0 in
    record {
      source_text = source_text;
      there = h.1.0;
      source = source;
      is_source = is.renders.is_source;
      inputs = left.inputs;
      hold = left.hold;
      tally = tally;
      tells = record {
        walked = left.walked;
        are = left.are;
        tells = ((tallies_so notes (closed_runs left.walked) (closed_walks left.walked)
            (all_go limit source_text source is.renders.is_source.sound (nets_of source_text limit covered is)
            (map (with_turns turns) left.inputs) left.walked left.are) told.counts
            (from_none limit source_text source files turns names (untold covered.code) told left)).tally tally).0
            (subst (λ (n : NotesValue). Tallies n told.counts (Ok tally)) is.notes_are h.2.2.2.1);
      };
      text_is = h.2.2.2.2
          ∙ ap (λ (t : List ℕ). t ++ report_text (stem source_name) source_text covered.notes tally) left.text_is
          ∙ ap (λ (n : NotesValue). meant_texts source turns names left.inputs
          ++ report_text (stem source_name) source_text n tally) is.notes_are;
    }
