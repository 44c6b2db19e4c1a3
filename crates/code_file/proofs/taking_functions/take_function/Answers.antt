use Rattle.std.proofs.Common.{◌∙◌, refl, ℕ, Vec, Global, ap, sym}
use Rattle.stack_ops.specs.declared.operation.Op.{Op}
use Rattle.gcov_items.specs.Items.{left}
use Rattle.stack_ops.specs.Code.{FunctionValue}
use Rattle.code_file.specs.declared.numbers.Sizes.{Sizes}
use Rattle.code_file.specs.declared.numbers.Counts.{Counts}
use Rattle.code_file.specs.Reading.{with_function, with_table}
use Rattle.code_file.specs.Taking.{PlacesValue, placed, with_sizes, with_counts, with_size, with_placed_ops}
use Rattle.code_file.proofs.Chains.{from_sizes, behind_sizes, behind_counts, behind_size, behind_ops, function_of}
use Rattle.code_file.proofs.TakeLaws.{stops}
use Rattle.code_file.proofs.taking_functions.take_function.Goals as goal

pub returns-in_err-sizes-clause-value : goal.returns-in_err-sizes-clause-value
returns-in_err-sizes-clause-value c =
    stops (λ (x : FunctionValue × PlacesValue). placed x.0 x.1) (λ (s : Sizes). s) (with_function c.args.covered c.args.numbers c.args.start) with_sizes
    (from_sizes c.args.covered c.args.numbers c.args.start) c.args.reader.now c.args.reader.now c.take_sizes.new.reader c.in_err-sizes.field-0.0
    c.from_residual.result c.from_residual.ensures.1 (λ then. refl) c.in_err-sizes.ensures

pub returns-in_err-counts-clause-value : goal.returns-in_err-counts-clause-value
returns-in_err-counts-clause-value c =
    stops (λ (x : FunctionValue × PlacesValue). placed x.0 x.1) (λ (s : Counts). s) (with_function c.args.covered c.args.numbers c.args.start) (with_counts c.args.covered c.args.numbers)
    (behind_sizes c.args.start c.in_ok-sizes.sizes) c.args.reader.now c.take_sizes.new.reader c.take_counts.new.reader c.in_err-counts.field-0.0
    c.from_residual-in_err-counts.result c.from_residual-in_err-counts.ensures.1 (λ then. c.in_ok-sizes.ensures (from_sizes c.args.covered c.args.numbers c.args.start then)) c.in_err-counts.ensures.value

pub returns-in_err-size-clause-value : goal.returns-in_err-size-clause-value
returns-in_err-size-clause-value c =
    stops (λ (x : FunctionValue × PlacesValue). placed x.0 x.1) (λ (n : ℕ). n) (with_function c.args.covered c.args.numbers c.args.start) (with_size c.args.start)
    (behind_counts c.in_ok-sizes.sizes c.in_ok-counts.counts) c.args.reader.now c.take_counts.new.reader c.take_size.new.reader c.in_err-size.field-0.0
    c.from_residual-in_err-size.result c.from_residual-in_err-size.ensures.1 (λ then. c.in_ok-sizes.ensures (from_sizes c.args.covered c.args.numbers c.args.start then) ∙ (c.in_ok-counts.ensures.value (behind_sizes c.args.start c.in_ok-sizes.sizes then))) c.in_err-size.ensures.value

pub returns-in_err-ops-clause-value : goal.returns-in_err-ops-clause-value
returns-in_err-ops-clause-value c =
    stops (λ (x : FunctionValue × PlacesValue). placed x.0 x.1) (λ (x : Vec Op Global × Vec ℕ Global). (x.0.items, x.1.items)) (with_function c.args.covered c.args.numbers c.args.start) (with_placed_ops c.in_ok-size.size)
    (behind_size c.in_ok-sizes.sizes c.in_ok-counts.counts) c.args.reader.now c.take_size.new.reader c.take_ops.new.reader c.in_err-ops.field-0.0
    c.from_residual-in_err-ops.result c.from_residual-in_err-ops.ensures.1 (λ then. c.in_ok-sizes.ensures (from_sizes c.args.covered c.args.numbers c.args.start then) ∙ (c.in_ok-counts.ensures.value (behind_sizes c.args.start c.in_ok-sizes.sizes then) ∙ (c.in_ok-size.ensures.value (behind_counts c.in_ok-sizes.sizes c.in_ok-counts.counts then)))) c.in_err-ops.ensures.value

pub returns-in_err-table-clause-value : goal.returns-in_err-table-clause-value
returns-in_err-table-clause-value c =
    stops (λ (x : FunctionValue × PlacesValue). placed x.0 x.1) (λ (v : Vec ℕ Global). v.items) (with_function c.args.covered c.args.numbers c.args.start) (with_table c.in_ok-counts.counts.paths c.in_ok-counts.counts.passes)
    (behind_ops c.in_ok-sizes.sizes c.in_ok-counts.counts c.in_ok-ops.ops.items c.in_ok-ops.places.items c.take_ops.new.reader.at) c.args.reader.now c.take_ops.new.reader c.take_table.new.reader c.in_err-table.field-0.0
    c.from_residual-in_err-table.result c.from_residual-in_err-table.ensures.1 (λ then. c.in_ok-sizes.ensures (from_sizes c.args.covered c.args.numbers c.args.start then) ∙ (c.in_ok-counts.ensures.value (behind_sizes c.args.start c.in_ok-sizes.sizes then) ∙ (c.in_ok-size.ensures.value (behind_counts c.in_ok-sizes.sizes c.in_ok-counts.counts then) ∙ (c.in_ok-ops.ensures.value (behind_size c.in_ok-sizes.sizes c.in_ok-counts.counts then))))) c.in_err-table.ensures

pub returns-clause-value : goal.returns-clause-value
returns-clause-value c = λ then. (c.in_ok-sizes.ensures (from_sizes c.args.covered c.args.numbers c.args.start then) ∙ (c.in_ok-counts.ensures.value (behind_sizes c.args.start c.in_ok-sizes.sizes then) ∙ (c.in_ok-size.ensures.value (behind_counts c.in_ok-sizes.sizes c.in_ok-counts.counts then) ∙ (c.in_ok-ops.ensures.value (behind_size c.in_ok-sizes.sizes c.in_ok-counts.counts then) ∙ (c.in_ok-table.ensures (behind_ops c.in_ok-sizes.sizes c.in_ok-counts.counts c.in_ok-ops.ops.items c.in_ok-ops.places.items c.take_ops.new.reader.at then))))))
    ∙ ap (λ a. then (record {
      function = function_of c.in_ok-sizes.sizes c.in_ok-counts.counts c.in_ok-ops.ops.items c.in_ok-table.table.items;
      places = c.in_ok-ops.places.items;
      table = a;
    }) (left c.take_table.new.reader) c.take_table.new.reader.at) (sym c.place-begins.ensures)
