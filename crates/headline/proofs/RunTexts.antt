-- What runs of a code that renders a source leave in their texts and counts.
use Rattle.std.proofs.Common.{◌≡◌, refl, sym, ap, ap₂, subst, ◌∙◌, ℕ, ◌+◌, Bool, true, false, cond, arith}
use Rattle.std.proofs.Common.{List, [], ◌∷◌, ◌++◌, map, append_assoc, append-nil, Some}
use Rattle.std.specs.Prelude.{Ok}
use Rattle.cov_base.specs.Walks.{Walk}
use Rattle.cov_outside.specs.Outside.{Files}
use Rattle.c_tree.specs.Typed.{Typed}
use Rattle.flow_graph.specs.WalkRun.{Walked}
use Rattle.stack_ops.specs.Code.{CodeValue}
use Rattle.stack_ops.specs.declared.endings.Outcome.{Outcome}
use Rattle.code_runs.specs.CodeRun.{Ran}
use Rattle.gcda_format.specs.Data.{DataValue}
use Rattle.covered_code.specs.RendersCovered.{RendersCovered}
use Rattle.run_counts.specs.Counts.{counts_of}
use Rattle.run_counts.specs.Runs.{Told, added_where}
use Rattle.run_counts.specs.Texts.{is_closed, run_text}
use Rattle.walk_counts.specs.WalkData.{IsDataOf}
use Rattle.walk_counts.proofs.Adding.{runs_add}
use Rattle.cover_command.specs.Cover.{RunsAll}
use Rattle.headline.specs.CoverText.{HoldInputs, meant_texts, with_turns}
use Rattle.headline.specs.Laws.{IsRunOf}
use Rattle.headline.specs.SourceRuns.{Asked, AreWalked, closed_runs, closed_walks, notes_for}
use Rattle.headline.proofs.CountedRuns.{runs_meant}

-- Counts with those of one run are data of its walks too, where it returned or exited.
pub one_more : (limit : ℕ) (text : List ℕ) (source : Typed) (code : CodeValue) (asked : Asked) (ran : Ran) (m : ℕ)
    (walks : List Walk) (before : DataValue) → IsDataOf (notes_for limit text source) m walks before
    → (run : IsRunOf limit text source code asked ran)
    → IsDataOf (notes_for limit text source) (m + cond (is_closed run.walked.ending) 1 0)
    (walks ++ cond (is_closed run.walked.ending) run.walked.walks [])
    (added_where (is_closed ran.ending) before (counts_of code ran.tally))
one_more limit text source code asked ran m walks before data_are run =
    subst (λ (e : Outcome). IsDataOf (notes_for limit text source) (m + cond (is_closed e) 1 0)
    (walks ++ cond (is_closed e) run.walked.walks [])
    (added_where (is_closed ran.ending) before (counts_of code ran.tally))) run.ends_so
    (by (is_closed ran.ending) refl)
  where
    by : (z : Bool) → is_closed ran.ending ≡ z → IsDataOf (notes_for limit text source) (m + cond z 1 0)
        (walks ++ cond z run.walked.walks []) (added_where z before (counts_of code ran.tally))
    by true e =
        runs_add (notes_for limit text source) m 1 walks run.walked.walks before (counts_of code ran.tally) data_are
        (run.counts e)
    by false e =
        subst (λ (n : ℕ). IsDataOf (notes_for limit text source) n (walks ++ []) before)
        (let same : m ≡ m + 0 = omega arith in same)
        (subst (λ (l : List Walk). IsDataOf (notes_for limit text source) m l before) (sym (append-nil walks)) data_are)

-- Runs on the inputs of these names leave this.
pub record Leave (limit : ℕ) (text : List ℕ) (source : Typed) (files : Files) (turns : ℕ) (names : List (List ℕ))
    (m : ℕ) (walks : List Walk) (before after : Told) : Type 0 where
  pub inputs : List (List ℕ)
  pub hold : HoldInputs files names inputs
  pub walked : List Walked
  pub are : AreWalked source (map (with_turns turns) inputs) walked
  pub counts : IsDataOf (notes_for limit text source) (m + closed_runs walked) (walks ++ closed_walks walked) after.counts
  pub text_is : after.text ≡ before.text ++ meant_texts source turns names inputs

-- data of so many runs and walks, told in another way
pub told_so : (limit : ℕ) (text : List ℕ) (source : Typed) (m n : ℕ) (walks others : List Walk) (counts : DataValue)
    → m ≡ n → walks ≡ others → IsDataOf (notes_for limit text source) m walks counts
    → IsDataOf (notes_for limit text source) n others counts
told_so limit text source m n walks others counts e f h =
    subst (λ (k : ℕ). IsDataOf (notes_for limit text source) k others counts) e
    (subst (λ (l : List Walk). IsDataOf (notes_for limit text source) m l counts) f h)

module _ (limit : ℕ) (text : List ℕ) (code : CodeValue) (renders : RendersCovered text limit code) (files : Files)
    (turns : ℕ) where
  pub runs_leave : (names : List (List ℕ)) (m : ℕ) (walks : List Walk) (before after : Told)
      → IsDataOf (notes_for limit text renders.source) m walks before.counts
      → RunsAll (Some files) code turns names before (Ok after)
      → Leave limit text renders.source files turns names m walks before after
  runs_leave [] m walks before after data_are h = record {
    inputs = [];
    hold = tt;
    walked = [];
    are = tt;
    counts = told_so limit text renders.source m (m + 0) walks (walks ++ []) after.counts
        (let same : m ≡ m + 0 = omega arith in same) (sym (append-nil walks))
        (subst (λ (t : Told). IsDataOf (notes_for limit text renders.source) m walks t.counts) (sym h) data_are);
    text_is = ap (λ (t : Told). t.text) h ∙ sym (append-nil before.text);
  }
  runs_leave (name ∷ names) m walks before after data_are h =
      let input : List ℕ = h.1.0 in
      let ran : Ran = h.1.2.0 in
      let asked : Asked = with_turns turns input in
      let run : IsRunOf limit text renders.source code asked ran =
      runs_meant limit text code renders asked ran h.1.2.1 in
      let n : ℕ = cond (is_closed run.walked.ending) 1 0 in
      let own : List Walk = cond (is_closed run.walked.ending) run.walked.walks [] in
      let mid : IsDataOf (notes_for limit text renders.source) (m + n) (walks ++ own) h.0.counts =
      subst (λ (t : Told). IsDataOf (notes_for limit text renders.source) (m + n) (walks ++ own) t.counts)
      (sym h.1.2.3) (one_more limit text renders.source code asked ran m walks before.counts data_are run) in
      let rest = runs_leave names (m + n) (walks ++ own) h.0 after mid h.2 in
      record {
        inputs = input ∷ rest.inputs;
        hold = (h.1.1.0, h.1.1.1, rest.hold);
        walked = run.walked ∷ rest.walked;
        are = (run.walks, rest.are);
        counts = told_so limit text renders.source ((m + n) + closed_runs rest.walked)
            (m + (n + closed_runs rest.walked)) ((walks ++ own) ++ closed_walks rest.walked)
            (walks ++ (own ++ closed_walks rest.walked)) after.counts
            (let same : (m + n) + closed_runs rest.walked ≡ m + (n + closed_runs rest.walked) = omega arith in same)
            (append_assoc walks own (closed_walks rest.walked)) rest.counts;
        text_is = rest.text_is
            ∙ ap (λ (t : Told). t.text ++ meant_texts renders.source turns names rest.inputs) h.1.2.3
            ∙ append_assoc before.text (run_text name ran.ending ran.output)
            (meant_texts renders.source turns names rest.inputs)
            ∙ ap₂ (λ (e : Outcome) (o : List ℕ). before.text
            ++ (run_text name e o ++ meant_texts renders.source turns names rest.inputs)) run.ending run.output;
      }

-- What runs leave of no counts is data of just their walks.
pub from_none : (limit : ℕ) (text : List ℕ) (source : Typed) (files : Files) (turns : ℕ) (names : List (List ℕ))
    (before after : Told) (left : Leave limit text source files turns names 0 [] before after)
    → IsDataOf (notes_for limit text source) (closed_runs left.walked) (closed_walks left.walked) after.counts
from_none limit text source files turns names before after left =
    told_so limit text source (0 + closed_runs left.walked) (closed_runs left.walked) (closed_walks left.walked)
    (closed_walks left.walked) after.counts
    (let same : 0 + closed_runs left.walked ≡ closed_runs left.walked = omega arith in same) refl left.counts
