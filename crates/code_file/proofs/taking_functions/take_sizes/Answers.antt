use Rattle.std.proofs.Common.{◌∙◌, refl, ℕ, ◌&&◌}
use Rattle.std.specs.Prelude.{nat_le}
use Rattle.cov_base.specs.Limits.{parameter_limit}
use Rattle.code_runs.specs.Limits.{cell_limit, depth_limit}
use Rattle.code_file.specs.declared.numbers.Sizes.{Sizes}
use Rattle.code_file.specs.Reading.{with_field}
use Rattle.code_file.specs.Taking.{with_sizes}
use Rattle.code_file.proofs.Chains.{from_params, behind_params, behind_cells, behind_depth}
use Rattle.code_file.proofs.TakeLaws.{stops}
use Rattle.code_file.proofs.taking_functions.take_sizes.Goals as goal

pub returns-in_err-params : goal.returns-in_err-params
returns-in_err-params c =
    stops (λ (s : Sizes). s) (λ (n : ℕ). n) with_sizes (with_field (λ n. nat_le n parameter_limit))
    from_params c.args.reader.now c.args.reader.now c.take_at_most.new.reader c.in_err-params.field-0.0
    c.from_residual.result c.from_residual.ensures.1 (λ then. refl) c.in_err-params.ensures

pub returns-in_err-cells : goal.returns-in_err-cells
returns-in_err-cells c =
    stops (λ (s : Sizes). s) (λ (n : ℕ). n) with_sizes (with_field (λ n. nat_le c.in_ok-params.params n && nat_le n cell_limit))
    (behind_params c.in_ok-params.params) c.args.reader.now c.take_at_most.new.reader c.take_between.new.reader c.in_err-cells.field-0.0
    c.from_residual-in_err-cells.result c.from_residual-in_err-cells.ensures.1 (λ then. c.in_ok-params.ensures (from_params then)) c.in_err-cells.ensures

pub returns-in_err-depth : goal.returns-in_err-depth
returns-in_err-depth c =
    stops (λ (s : Sizes). s) (λ (n : ℕ). n) with_sizes (with_field (λ n. nat_le n depth_limit))
    (behind_cells c.in_ok-params.params c.in_ok-cells.cells) c.args.reader.now c.take_between.new.reader c.take_at_most-2.new.reader c.in_err-depth.field-0.0
    c.from_residual-in_err-depth.result c.from_residual-in_err-depth.ensures.1 (λ then. c.in_ok-params.ensures (from_params then) ∙ (c.in_ok-cells.ensures (behind_params c.in_ok-params.params then))) c.in_err-depth.ensures

pub returns-in_err-gives : goal.returns-in_err-gives
returns-in_err-gives c =
    stops (λ (s : Sizes). s) (λ (n : ℕ). n) with_sizes (with_field (λ n. nat_le n 1))
    (behind_depth c.in_ok-params.params c.in_ok-cells.cells c.in_ok-depth.depth) c.args.reader.now c.take_at_most-2.new.reader c.take_at_most-3.new.reader c.in_err-gives.field-0.0
    c.from_residual-in_err-gives.result c.from_residual-in_err-gives.ensures.1 (λ then. c.in_ok-params.ensures (from_params then) ∙ (c.in_ok-cells.ensures (behind_params c.in_ok-params.params then) ∙ (c.in_ok-depth.ensures (behind_cells c.in_ok-params.params c.in_ok-cells.cells then)))) c.in_err-gives.ensures

pub returns : goal.returns
returns c = λ then. c.in_ok-params.ensures (from_params then) ∙ (c.in_ok-cells.ensures (behind_params c.in_ok-params.params then) ∙ (c.in_ok-depth.ensures (behind_cells c.in_ok-params.params c.in_ok-cells.cells then) ∙ (c.in_ok-gives.ensures (behind_depth c.in_ok-params.params c.in_ok-cells.cells c.in_ok-depth.depth then))))
