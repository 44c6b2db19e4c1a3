use Rattle.std.proofs.Common.{◌∙◌, refl, ℕ, ◌&&◌, ◌||◌, ◌==◌}
use Rattle.std.specs.Prelude.{nat_lt, nat_le}
use Rattle.cov_base.specs.Limits.{arc_limit}
use Rattle.code_file.specs.declared.numbers.Counts.{Counts}
use Rattle.code_file.specs.Reading.{counted_only, with_field}
use Rattle.code_file.specs.Taking.{paths_there, with_counts}
use Rattle.code_file.proofs.Chains.{from_checksum, behind_checksum, behind_counters, behind_paths}
use Rattle.code_file.proofs.TakeLaws.{stops}
use Rattle.code_file.proofs.taking_functions.take_counts.Goals as goal

pub returns-in_err-checksum-clause-value : goal.returns-in_err-checksum-clause-value
returns-in_err-checksum-clause-value c =
    stops (λ (s : Counts). s) (λ (n : ℕ). n) (with_counts c.args.covered c.args.numbers) (with_field (counted_only c.args.covered))
    (from_checksum c.args.covered c.args.numbers) c.args.reader.now c.args.reader.now c.take_checksum.new.reader c.in_err-checksum.field-0.0
    c.from_residual.result c.from_residual.ensures.1 (λ then. refl) c.in_err-checksum.ensures

pub returns-in_err-counters-clause-value : goal.returns-in_err-counters-clause-value
returns-in_err-counters-clause-value c =
    stops (λ (s : Counts). s) (λ (n : ℕ). n) (with_counts c.args.covered c.args.numbers) (with_field (λ n. counted_only c.args.covered n && nat_le n arc_limit))
    (behind_checksum c.args.covered c.args.numbers c.in_ok-checksum.checksum) c.args.reader.now c.take_checksum.new.reader c.take_counters.new.reader c.in_err-counters.field-0.0
    c.from_residual-in_err-counters.result c.from_residual-in_err-counters.ensures.1 (λ then. c.in_ok-checksum.ensures (from_checksum c.args.covered c.args.numbers then)) c.in_err-counters.ensures.value

pub returns-in_err-paths-clause-value : goal.returns-in_err-paths-clause-value
returns-in_err-paths-clause-value c =
    stops (λ (s : Counts). s) (λ (n : ℕ). n) (with_counts c.args.covered c.args.numbers) (with_field (paths_there c.args.covered c.args.numbers c.in_ok-counters.counters))
    (behind_counters c.in_ok-checksum.checksum c.in_ok-counters.counters) c.args.reader.now c.take_counters.new.reader c.take_paths.new.reader c.in_err-paths.field-0.0
    c.from_residual-in_err-paths.result c.from_residual-in_err-paths.ensures.1 (λ then. c.in_ok-checksum.ensures (from_checksum c.args.covered c.args.numbers then) ∙ (c.in_ok-counters.ensures.value (behind_checksum c.args.covered c.args.numbers c.in_ok-checksum.checksum then))) c.in_err-paths.ensures.value

pub returns-in_err-passes-clause-value : goal.returns-in_err-passes-clause-value
returns-in_err-passes-clause-value c =
    stops (λ (s : Counts). s) (λ (n : ℕ). n) (with_counts c.args.covered c.args.numbers) (with_field (λ n. nat_le n arc_limit && (nat_lt 0 c.in_ok-paths.paths || n == 0)))
    (behind_paths c.in_ok-checksum.checksum c.in_ok-counters.counters c.in_ok-paths.paths) c.args.reader.now c.take_paths.new.reader c.take_passes.new.reader c.in_err-passes.field-0.0
    c.from_residual-in_err-passes.result c.from_residual-in_err-passes.ensures.1 (λ then. c.in_ok-checksum.ensures (from_checksum c.args.covered c.args.numbers then) ∙ (c.in_ok-counters.ensures.value (behind_checksum c.args.covered c.args.numbers c.in_ok-checksum.checksum then) ∙ (c.in_ok-paths.ensures.value (behind_counters c.in_ok-checksum.checksum c.in_ok-counters.counters then)))) c.in_err-passes.ensures

pub returns-clause-value : goal.returns-clause-value
returns-clause-value c = λ then. c.in_ok-checksum.ensures (from_checksum c.args.covered c.args.numbers then) ∙ (c.in_ok-counters.ensures.value (behind_checksum c.args.covered c.args.numbers c.in_ok-checksum.checksum then) ∙ (c.in_ok-paths.ensures.value (behind_counters c.in_ok-checksum.checksum c.in_ok-counters.counters then) ∙ (c.in_ok-passes.ensures (behind_paths c.in_ok-checksum.checksum c.in_ok-counters.counters c.in_ok-paths.paths then))))
