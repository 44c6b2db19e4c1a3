-- Runs add up in files of data, and reports tell of all of them.
use Rattle.std.proofs.Common.{◌≡◌, refl, sym, ap, ap₂, subst, ◌∙◌, ℕ, zero, suc, ◌+◌, true, cond, arith}
use Rattle.std.proofs.Common.{List, [], ◌∷◌, ◌++◌, append_assoc, append-nil, Some, None}
use Rattle.std.specs.Prelude.{Option, Ok, slice_get}
use Rattle.std.proofs.lemmas.Option.{none-some, same_Some}
use Rattle.cov_base.specs.Net.{IsNet}
use Rattle.cov_base.specs.Walks.{Walk}
use Rattle.c_tree.specs.Typed.{Typed}
use Rattle.flow_graph.specs.WalkRun.{Walked}
use Rattle.stack_ops.specs.Code.{CodeValue}
use Rattle.code_runs.specs.CodeRun.{Ran}
use Rattle.gcda_format.specs.Data.{DataValue}
use Rattle.gcno_format.specs.Notes.{FunctionNotesValue, NotesValue}
use Rattle.gcno_format.specs.Reading.{laid_out}
use Rattle.run_merge.specs.Merging.{added}
use Rattle.path_report.specs.Report.{report_text}
use Rattle.path_report.specs.Tally.{TallyValue}
use Rattle.source_graphs.specs.SourceGraphs.{IsSourceOf}
use Rattle.covered_code.specs.RendersCovered.{RendersCovered}
use Rattle.run_counts.specs.Counts.{counts_of, no_counts}
use Rattle.run_counts.specs.Texts.{is_closed}
use Rattle.walk_counts.proofs.Adding.{runs_add}
use Rattle.walk_counts.proofs.Tallying.{tallies_so}
use Rattle.file_commands.proofs.Complete.{data_once, find_once, notes_once, source_once}
use Rattle.file_commands.proofs.TallyOnce as read_notes
use Rattle.file_commands.specs.Report.{SourceAt}
use Rattle.file_commands.specs.Tallied.{IsTallied}
use Rattle.run_command.specs.Ran.{start_of}
use Rattle.headline.specs.Laws.{FoundFor, IsRunOf, MergesAddUp, ReportsAreMeant, RunsAddUp}
use Rattle.headline.specs.SourceRuns.{Asked, AreWalked, StandFor, TellsOf, closed_runs, closed_walks, notes_for}
use Rattle.headline.proofs.CountedRuns.{no_run, runs_meant}
use Rattle.headline.proofs.NoRun.{no_run_told}
use Rattle.headline.proofs.RunTexts.{told_so}
use Rattle.headline.proofs.SourceWalks.{all_go}

-- ---- runs and further runs

walked_together : (source : Typed) (asked others : List Asked) (ws vs : List Walked) → AreWalked source asked ws
    → AreWalked source others vs → AreWalked source (asked ++ others) (ws ++ vs)
walked_together source [] others [] vs h k = k
walked_together source [] others (w ∷ ws) vs h k = absurd h
walked_together source (a ∷ asked) others [] vs h k = absurd h
walked_together source (a ∷ asked) others (w ∷ ws) vs h k =
    (h.0, walked_together source asked others ws vs h.1 k)

runs_together : (ws vs : List Walked) → closed_runs (ws ++ vs) ≡ closed_runs ws + closed_runs vs
runs_together [] vs = omega arith
runs_together (w ∷ ws) vs = omega (arith, runs_together ws vs)

walks_together : (ws vs : List Walked) → closed_walks (ws ++ vs) ≡ closed_walks ws ++ closed_walks vs
walks_together [] vs = refl
walks_together (w ∷ ws) vs =
    ap (λ (l : List Walk). cond (is_closed w.ending) w.walks [] ++ l) (walks_together ws vs)
    ∙ sym (append_assoc (cond (is_closed w.ending) w.walks []) (closed_walks ws) (closed_walks vs))

-- data of both stand for the runs of both
stand_together : (limit : ℕ) (text : List ℕ) (source : Typed) (asked others : List Asked) (a b : DataValue)
    → StandFor limit text source asked a → StandFor limit text source others b
    → StandFor limit text source (asked ++ others) (added a b)
stand_together limit text source asked others a b h k = record {
  walked = h.walked ++ k.walked;
  are = walked_together source asked others h.walked k.walked h.are k.are;
  data_are = told_so limit text source (closed_runs h.walked + closed_runs k.walked)
      (closed_runs (h.walked ++ k.walked)) (closed_walks h.walked ++ closed_walks k.walked)
      (closed_walks (h.walked ++ k.walked)) (added a b) (sym (runs_together h.walked k.walked))
      (sym (walks_together h.walked k.walked))
      (runs_add (notes_for limit text source) (closed_runs h.walked) (closed_runs k.walked) (closed_walks h.walked)
      (closed_walks k.walked) a b h.data_are k.data_are);
}

-- ---- `run`

-- what was found, or nothing, stands for the runs before
pub start_stands : (limit : ℕ) (text : List ℕ) (code : CodeValue) (renders : RendersCovered text limit code)
    (found : Option DataValue) (before : List Asked) → FoundFor limit text renders.source before found
    → StandFor limit text renders.source before (start_of code found)
start_stands limit text code renders None before e =
    subst (λ (l : List Asked). StandFor limit text renders.source l (no_counts code)) (sym e)
    (record { walked = []; are = tt; data_are = no_run limit text code renders })
start_stands limit text code renders (Some counts) before h = h

-- one run that returned or exited
pub run_stands : (limit : ℕ) (text : List ℕ) (code : CodeValue) (renders : RendersCovered text limit code)
    (asked : Asked) (ran : Ran) → IsRunOf limit text renders.source code asked ran → is_closed ran.ending ≡ true
    → StandFor limit text renders.source (asked ∷ []) (counts_of code ran.tally)
run_stands limit text code renders asked ran run closed =
    let same : is_closed run.walked.ending ≡ true =
    subst (λ e. is_closed e ≡ true) run.ends_so closed in
    record {
      walked = run.walked ∷ [];
      are = (run.walks, tt);
      data_are = told_so limit text renders.source 1 (cond (is_closed run.walked.ending) 1 0 + 0) run.walked.walks
          (cond (is_closed run.walked.ending) run.walked.walks [] ++ []) (counts_of code ran.tally)
          (ap (λ z. cond z 1 0 + 0) (sym same))
          (sym (append-nil run.walked.walks)
          ∙ ap (λ z. cond z run.walked.walks [] ++ []) (sym same)) (run.counts closed);
    }

pub runs_add_up : RunsAddUp
runs_add_up limit text code renders files name found before asked ran bytes has stands comes closed h =
    let run = runs_meant limit text code renders asked ran comes in
    let same : h.0 ≡ found = find_once files name found h.0 has h.1 in
    let both : DataValue = h.2.0 in
    let is : both ≡ added (start_of code found) (counts_of code ran.tally) =
    h.2.1.2 ∙ ap (λ (o : Option DataValue). added (start_of code o) (counts_of code ran.tally)) same in
    record {
      counts = both;
      stands = subst (λ (d : DataValue). StandFor limit text renders.source (before ++ asked ∷ []) d) (sym is)
          (stand_together limit text renders.source before (asked ∷ []) (start_of code found)
          (counts_of code ran.tally) (start_stands limit text code renders found before stands)
          (run_stands limit text code renders asked ran run closed));
      spelled = h.2.2;
    }

-- ---- `merge`

pub merges_add_up : MergesAddUp
merges_add_up limit text source files a b first second asked others bytes one other stands stand h =
    let left : h.0 ≡ first = data_once files a first h.0 one h.1 in
    let right : h.2.0 ≡ second = data_once files b second h.2.0 other h.2.1 in
    let both : DataValue = h.2.2.0 in
    let is : both ≡ added first second = h.2.2.1.1 ∙ ap₂ (λ (x y : DataValue). added x y) left right in
    record {
      counts = both;
      stands = subst (λ (d : DataValue). StandFor limit text source (asked ++ others) d) (sym is)
          (stand_together limit text source asked others first second stands stand);
      spelled = h.2.2.2;
    }

-- ---- `report`

pub nets_at : (fs : List FunctionNotesValue) → read_notes.HaveNets fs → (i : ℕ) (f : FunctionNotesValue)
    → slice_get fs i ≡ Some f → IsNet f.net
nets_at [] h i f at = absurd (none-some f at)
nets_at (g ∷ fs) h zero f at = subst (λ (x : FunctionNotesValue). IsNet x.net) (same_Some g f at) h.0
nets_at (g ∷ fs) h (suc i) f at = nets_at fs h.1 i f at

-- the tally of what was found tells of the runs that it stands for
pub tells_so : (limit : ℕ) (text : List ℕ) (source : Typed) → IsSourceOf text source
    → read_notes.HaveNets (notes_for limit text source).functions → (found : Option DataValue) (asked : List Asked)
    (tally : TallyValue) → FoundFor limit text source asked found
    → IsTallied (notes_for limit text source) found (Ok tally) → TellsOf limit text source asked tally
tells_so limit text source is nets None asked tally e told =
    subst (λ (l : List Asked). TellsOf limit text source l tally) (sym e) (no_run_told limit text source tally told)
tells_so limit text source is nets (Some counts) asked tally stands told = record {
  walked = stands.walked;
  are = stands.are;
  tells = ((tallies_so (notes_for limit text source) (closed_runs stands.walked) (closed_walks stands.walked)
      (all_go limit text source is.sound (nets_at (notes_for limit text source).functions nets) asked stands.walked
      stands.are) counts stands.data_are).tally tally).0 told;
}

pub reports_meant : ReportsAreMeant
reports_meant limit text source is files name found asked report noted given has stands h =
    let notes : NotesValue = notes_for limit text source in
    let read : h.0 ≡ notes = notes_once files name notes h.0 noted h.1 in
    let same : h.2.0 ≡ text = source_once files name notes text h.2.0 given
    (subst (λ (n : NotesValue). SourceAt (Some files) name n (Ok h.2.0)) read h.2.1) in
    let once : h.2.2.0 ≡ found = find_once files name found h.2.2.0 has h.2.2.1 in
    let tally : TallyValue = h.2.2.2.0 in
    record {
      tally = tally;
      tells = tells_so limit text source is
          (read_notes.nets_told (laid_out noted.bytes) notes noted.reads) found asked tally stands
          (subst (λ (o : Option DataValue). IsTallied notes o (Ok tally)) once
          (subst (λ (n : NotesValue). IsTallied n h.2.2.0 (Ok tally)) read h.2.2.2.1));
      report_is = h.2.2.2.2
          ∙ ap₂ (λ (t : List ℕ) (n : NotesValue). report_text name t n tally) same read;
    }
