use Rattle.std.proofs.Common.{sym, ap₂, subst, ◌∙◌, ℕ, List, map}
use Rattle.std.specs.Prelude.{ℤ}
use Rattle.flow_graph.specs.Ascending.{Ascends}
use Rattle.stack_code.specs.Modes.{shape_marks}
use Rattle.stack_code.specs.Places.{stubs_from, stubs_end}
use Rattle.stack_code.proofs.LedBlocks.{goals_ascend}
use Rattle.stack_code.proofs.switches.put_switch.Goals as goal

pub put_tests-requires : goal.put_tests-requires
put_tests-requires c =
    let m = shape_marks c.args.marks.now c.args.from in
    let h = c.in_ok-stubs.ensures in
    record {
      ascend = subst Ascends (sym (h.goals ∙ c.in_ok-goals.ensures))
          (goals_ascend (map (λ (c : ℤ × ℕ). (c.0, c.1)) c.args.cases.now));
      places_are = h.places ∙ ap₂ (λ (q : ℕ) (ts : List ℕ). stubs_from m q ts) (sym h.first) (sym h.goals);
      end_is = h.end ∙ ap₂ (λ (q : ℕ) (ts : List ℕ). stubs_end m q ts) (sym h.first) (sym h.goals);
    }
