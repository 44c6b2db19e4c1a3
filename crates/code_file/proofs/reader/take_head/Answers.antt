use Rattle.std.proofs.Common.{◌∙◌, refl, ℕ}
use Rattle.std.specs.Prelude.{nat_le}
use Rattle.cov_base.specs.Limits.{array_limit}
use Rattle.code_file.specs.declared.head.Head.{Head}
use Rattle.code_file.specs.Spelling.{magic, version}
use Rattle.code_file.specs.Reading.{with_word, with_field}
use Rattle.code_file.specs.Taking.{with_head_here, with_magic, with_version, with_main}
use Rattle.code_file.proofs.Chains.{from_magic, behind_magic, behind_version, behind_stamp, behind_covered, behind_main}
use Rattle.code_file.proofs.TakeLaws.{stops}
use Rattle.code_file.proofs.reader.take_head.Goals as goal

pub returns-in_err-take_magic : goal.returns-in_err-take_magic
returns-in_err-take_magic c =
    stops (λ (h : Head). h) (λ (x : Unit {0}). magic) with_head_here with_magic
    from_magic c.args.reader.now c.args.reader.now c.take_magic.new.reader c.in_err-take_magic.field-0.0
    c.from_residual.result c.from_residual.ensures.1 (λ then. refl) c.in_err-take_magic.ensures

pub returns-in_err-take_version : goal.returns-in_err-take_version
returns-in_err-take_version c =
    stops (λ (h : Head). h) (λ (x : Unit {0}). version) with_head_here with_version
    behind_magic c.args.reader.now c.take_magic.new.reader c.take_version.new.reader c.in_err-take_version.field-0.0
    c.from_residual-in_err-take_version.result c.from_residual-in_err-take_version.ensures.1 (λ then. c.in_ok-take_magic.ensures (from_magic then)) c.in_err-take_version.ensures

pub returns-in_err-stamp : goal.returns-in_err-stamp
returns-in_err-stamp c =
    stops (λ (h : Head). h) (λ (n : ℕ). n) with_head_here with_word
    behind_version c.args.reader.now c.take_version.new.reader c.take_word.new.reader c.in_err-stamp.field-0.0
    c.from_residual-in_err-stamp.result c.from_residual-in_err-stamp.ensures.1 (λ then. c.in_ok-take_magic.ensures (from_magic then) ∙ (c.in_ok-take_version.ensures (behind_magic then))) c.in_err-stamp.ensures

pub returns-in_err-covered : goal.returns-in_err-covered
returns-in_err-covered c =
    stops (λ (h : Head). h) (λ (n : ℕ). n) with_head_here (with_field (λ n. nat_le n 1))
    (behind_stamp c.in_ok-stamp.stamp) c.args.reader.now c.take_word.new.reader c.take_at_most.new.reader c.in_err-covered.field-0.0
    c.from_residual-in_err-covered.result c.from_residual-in_err-covered.ensures.1 (λ then. c.in_ok-take_magic.ensures (from_magic then) ∙ (c.in_ok-take_version.ensures (behind_magic then) ∙ (c.in_ok-stamp.ensures (behind_version then)))) c.in_err-covered.ensures

pub returns-in_err-main : goal.returns-in_err-main
returns-in_err-main c =
    stops (λ (h : Head). h) (λ (x : ℕ × ℕ). x) with_head_here with_main
    (behind_covered c.in_ok-stamp.stamp c.in_ok-covered.covered) c.args.reader.now c.take_at_most.new.reader c.take_main.new.reader c.in_err-main.field-0.0
    c.from_residual-in_err-main.result c.from_residual-in_err-main.ensures.1 (λ then. c.in_ok-take_magic.ensures (from_magic then) ∙ (c.in_ok-take_version.ensures (behind_magic then) ∙ (c.in_ok-stamp.ensures (behind_version then) ∙ (c.in_ok-covered.ensures (behind_stamp c.in_ok-stamp.stamp then))))) c.in_err-main.ensures

pub returns-in_err-globals : goal.returns-in_err-globals
returns-in_err-globals c =
    stops (λ (h : Head). h) (λ (n : ℕ). n) with_head_here (with_field (λ n. nat_le n array_limit))
    (behind_main c.in_ok-stamp.stamp c.in_ok-covered.covered c.in_ok-main.main) c.args.reader.now c.take_main.new.reader c.take_at_most-2.new.reader c.in_err-globals.field-0.0
    c.from_residual-in_err-globals.result c.from_residual-in_err-globals.ensures.1 (λ then. c.in_ok-take_magic.ensures (from_magic then) ∙ (c.in_ok-take_version.ensures (behind_magic then) ∙ (c.in_ok-stamp.ensures (behind_version then) ∙ (c.in_ok-covered.ensures (behind_stamp c.in_ok-stamp.stamp then) ∙ (c.in_ok-main.ensures (behind_covered c.in_ok-stamp.stamp c.in_ok-covered.covered then)))))) c.in_err-globals.ensures

pub returns : goal.returns
returns c = λ then. c.in_ok-take_magic.ensures (from_magic then) ∙ (c.in_ok-take_version.ensures (behind_magic then) ∙ (c.in_ok-stamp.ensures (behind_version then) ∙ (c.in_ok-covered.ensures (behind_stamp c.in_ok-stamp.stamp then) ∙ (c.in_ok-main.ensures (behind_covered c.in_ok-stamp.stamp c.in_ok-covered.covered then) ∙ (c.in_ok-globals.ensures (behind_main c.in_ok-stamp.stamp c.in_ok-covered.covered c.in_ok-main.main then))))))
