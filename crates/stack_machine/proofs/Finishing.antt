-- A run that is under way, and one instruction of it.
use Rattle.std.proofs.Common.{◌≡◌, sym, ap, subst, ◌∙◌, ℕ, suc, ◌<◌, ◌≤◌, ◌^◌, List, length, Option, Some, None, arith}
use Rattle.std.specs.Prelude.{slice_get, slice_index_or}
use Rattle.std.proofs.lemmas.Option.{same_Some, slice_get_within, slice_get-get_or}
use Rattle.stack_ops.specs.declared.endings.Outcome.{Outcome}
use Rattle.stack_ops.specs.declared.operation.Op.{Op}
use Rattle.stack_ops.specs.Code.{FunctionValue, CodeValue}
use Rattle.code_runs.specs.CodeRun.{Point, Ran, Goes_on, Over, Marked, move, does, first}
use Rattle.code_runs.specs.Counts.{weight}
use Rattle.stack_machine.specs.Tables.{StartsAt}
use Rattle.stack_machine.specs.declared.run.Run.{Run}
use Rattle.stack_machine.specs.Points.{Ghosts, counters_of, words_of, point, told, with_bytes, after, Keeps}
use Rattle.stack_machine.specs.Ready.{Ready}
use Rattle.stack_machine.specs.Held.{Sized, Roomy, RowsStart, Begins, at_start}
use Rattle.stack_machine.proofs.CodeFacts.{FunctionFacts, CodeFacts}
use Rattle.stack_machine.proofs.Holding.{Holds, EndsSo, Under, WentOn, there, at-there, ready, move-is, ends-on, ends-now, sized-end, roomy-end, went-on, after-with, nothing}
use Rattle.stack_machine.proofs.Holding.{start-weight, holds-start}

-- a run is under way at its start
pub starts : (c : CodeValue) (r : Run) (input output : List ℕ) → CodeFacts c → Roomy c r → Begins c r → r.turns ≤ 2 ^ 40 → output ≡ List.[]
    → Under c input output r (first c input r.turns)
starts c r input output facts roomy begins few none =
    let s : Ghosts = at_start c input in
    let e : with_bytes input output s ≡ s = ap (λ (l : List ℕ). with_bytes input l s) none in (
      s,
      0,
      subst (λ (v : Ghosts). Holds c 0 r v) (sym e) (holds-start c r input facts roomy begins),
      (let w = start-weight c r nothing facts few begins.frames in omega (arith, w)),
      λ ran h. subst (λ (p : Point). EndsSo c p ran) (begins.started input) (subst (λ (v : Ghosts). EndsSo c (point r v) ran) e h),
    )

-- what comes of an instruction on which the run goes on
pub record Further (c : CodeValue) (input output : List ℕ) (r n : Run) (start : Point) : Type 0 where
  pub under : Under c input output n start
  pub lighter : weight c (point n nothing) < weight c (point r nothing)

module _ (c : CodeValue) (facts : CodeFacts c) (input output : List ℕ) (r : Run) (start : Point) (u : Under c input output r start) where
  abbrev here : Ghosts
  here = with_bytes input output u.0

  pub function-there : r.function < length c.functions
  function-there = there c facts u.1 r here u.2

  pub rows-there : (rows : List (List ℕ)) (f : FunctionValue) → RowsStart c rows → slice_get c.functions r.function ≡ Some f → r.function < length rows
  rows-there rows f held is = let a = held r.function f is in slice_get_within rows r.function a.0 a.1

  module _ (f : FunctionValue) (is : slice_get c.functions r.function ≡ Some f) where
    pub op-there : r.at < length f.ops
    op-there = at-there c facts u.1 r here u.2 f is

    pub few-ops : length f.ops ≤ 1048576
    few-ops = let known : FunctionFacts f = facts.functions r.function f is in known.ops

    pub op-read : (ops : List Op) (d : Op) → ops ≡ f.ops → slice_get f.ops r.at ≡ Some (slice_index_or ops r.at d)
    op-read ops d e = rw e (slice_get-get_or f.ops r.at d op-there)

    module _ (o : Op) (at : slice_get f.ops r.at ≡ Some o) where
      pub is-ready : (rows : List (List ℕ)) (places : List ℕ) → RowsStart c rows → slice_get rows r.function ≡ Some places → Ready c f places o r
      is-ready rows places held got =
          let a = held r.function f is in
          let starts-at : StartsAt f places = subst (λ (l : List ℕ). StartsAt f l) (same_Some a.0 places (sym a.1 ∙ got)) a.2 in
          let few = u.3 in
          ready c facts u.1 r here u.2 f o places is at starts-at (omega (arith, few))

      module _ (result : Option Outcome) (n : Run) (input' output' : List ℕ)
          (effect : (s : Ghosts) → does c f o (point r (with_bytes input output s)) ≡ told result (point n (after o result (with_bytes input' output' s))))
          (kept : Keeps r n) where
        abbrev behind : Ghosts
        behind = with_bytes input' output' (after o result u.0)

        moved : move c (point r here) ≡ told result (point n behind)
        moved =
            move-is c facts u.1 r here u.2 f o is at
            ∙ (effect u.0 ∙ ap (λ (v : Ghosts). told result (point n v)) (after-with o result u.0 input' output'))

        pub goes-further : result ≡ None → Further c input' output' r n start
        goes-further e =
            let on-it : move c (point r here) ≡ Goes_on (point n behind) = moved ∙ ap (λ v. told v (point n behind)) e in
            let on : WentOn c u.1 r n behind = went-on c facts u.1 r here u.2 n behind kept u.3 on-it in
            record {
              under = (
                after o result u.0,
                suc u.1,
                on.holds,
                on.few,
                λ ran h. u.4 ran (ends-on c facts u.1 r here u.2 n behind ran on-it h),
              );
              lighter = on.lighter;
            }

        module _ (ending : Outcome) (e : result ≡ Some ending) where
          abbrev ran : Ran
          ran = record {
            output = output';
            ending = ending;
            tally = record { counters = counters_of n.counts.items; words = words_of n.counts.items; marks = (after o result u.0).marks };
          }

          is-over : move c (point r here) ≡ Over ran
          is-over = moved ∙ ap (λ v. told v (point n behind)) e

          pub comes-so : (marks : List Marked)
              × EndsSo c start (record {
                output = output';
                ending = ending;
                tally = record { counters = counters_of n.counts.items; words = words_of n.counts.items; marks = marks };
              })
          comes-so = ((after o result u.0).marks, u.4 ran (ends-now c facts u.1 r here u.2 ran is-over))

          pub sized-so : Sized c (counters_of n.counts.items) (words_of n.counts.items)
          sized-so = sized-end c facts u.1 r here u.2 ran is-over

        pub roomy-so : Roomy c n
        roomy-so = roomy-end c u.1 r here u.2 n kept
