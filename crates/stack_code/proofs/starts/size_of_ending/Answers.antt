use Rattle.std.proofs.Common.{◌≡◌, ◌+◌, ◌<◌, sym, ap, subst, ◌∙◌, suc, length, map, List, IfOk, arith}
use Rattle.std.specs.Prelude.{ℤ, ℕ}
use Rattle.flow_graph.specs.GraphView.{ending_view}
use Rattle.stack_code.specs.Laying.{goals, stubs}
use Rattle.stack_code.specs.Modes.{shape_marks}
use Rattle.stack_code.specs.Places.{end_size}
use Rattle.stack_code.proofs.StartLaws.{switch_long}
use Rattle.stack_code.proofs.starts.size_of_ending.Goals as goal

pub size_of_switch-requires : goal.size_of_switch-requires
size_of_switch-requires c =
    let m = shape_marks c.args.marks.now c.args.from in
    let all = switch_long m (suc c.args.from) (map (λ (c : ℤ × ℕ). (c.0, c.1)) c.in-Switch.cases.items)
    c.in-Switch.default in
    let small = subst (λ e. end_size m (suc c.args.from) (ending_view e) < 4294967296) c.in-Switch.is
    c.requires.small in
    record {
      small = subst (λ (l : List (ℤ × ℕ)). length (map (λ (c : ℤ × ℕ). (c.0, c.1)) l)
          + suc (length (m c.in-Switch.default) + 1
          + length (stubs m (λ x. 0) (goals (map (λ (c : ℤ × ℕ). (c.0, c.1)) l)))) < 4294967296)
          (sym c.deref.ensures.value) (omega (arith, all, small));
    }

pub returns-in-Switch : goal.returns-in-Switch
returns-in-Switch c =
    let m = shape_marks c.args.marks.now c.args.from in
    subst (λ (x : ℕ). IfOk c.size_of_switch.result (λ n. n ≡ x))
    (ap (λ (l : List (ℤ × ℕ)). length (map (λ (c : ℤ × ℕ). (c.0, c.1)) l)
    + suc (length (m c.in-Switch.default) + 1
    + length (stubs m (λ x. 0) (goals (map (λ (c : ℤ × ℕ). (c.0, c.1)) l))))) c.deref.ensures.value
    ∙ sym (switch_long m (suc c.args.from) (map (λ (c : ℤ × ℕ). (c.0, c.1)) c.in-Switch.cases.items)
    c.in-Switch.default)
    ∙ ap (λ e. end_size m (suc c.args.from) (ending_view e)) (sym c.in-Switch.is))
    c.size_of_switch.ensures
