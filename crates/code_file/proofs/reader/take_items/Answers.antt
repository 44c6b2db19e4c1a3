use Rattle.std.proofs.Common.{◌∙◌, refl, ℕ, ℤ, Vec, Global, ap}
use Rattle.gcov_items.specs.Items.{left}
use Rattle.code_file.specs.Told.{Items}
use Rattle.code_file.proofs.PlaceLaws.{items_made}
use Rattle.stack_ops.specs.declared.machine_code.FunctionCode.{FunctionCode}
use Rattle.code_file.specs.declared.head.Head.{Head}
use Rattle.code_file.specs.declared.reader.FileItems.{FileItems}
use Rattle.code_file.specs.declared.taking_functions.Places.{Places}
use Rattle.code_file.specs.Reading.{with_word}
use Rattle.code_file.specs.Taking.{all_placed, items_in, with_head_here, with_items_here, with_first_globals}
use Rattle.code_file.specs.Taking.{with_all_functions}
use Rattle.code_file.proofs.Chains.{from_head, behind_head, behind_globals, behind_count}
use Rattle.code_file.proofs.TakeLaws.{stops}
use Rattle.code_file.proofs.reader.take_items.Goals as goal

pub returns-in_err-head-clause-value : goal.returns-in_err-head-clause-value
returns-in_err-head-clause-value c =
    stops (λ (i : FileItems). items_in i.code i.main_at i.places.items) (λ (h : Head). h) with_items_here with_head_here
    from_head c.args.reader.now c.args.reader.now c.take_head.new.reader c.in_err-head.field-0.0
    c.from_residual.result c.from_residual.ensures.1 (λ then. refl) c.in_err-head.ensures

pub returns-in_err-globals-clause-value : goal.returns-in_err-globals-clause-value
returns-in_err-globals-clause-value c =
    stops (λ (i : FileItems). items_in i.code i.main_at i.places.items) (λ (v : Vec ℤ Global). v.items) with_items_here (with_first_globals c.in_ok-head.head.globals)
    (behind_head c.in_ok-head.head) c.args.reader.now c.take_head.new.reader c.take_globals.new.reader c.in_err-globals.field-0.0
    c.from_residual-in_err-globals.result c.from_residual-in_err-globals.ensures.1 (λ then. c.in_ok-head.ensures (from_head then)) c.in_err-globals.ensures

pub returns-in_err-count-clause-value : goal.returns-in_err-count-clause-value
returns-in_err-count-clause-value c =
    stops (λ (i : FileItems). items_in i.code i.main_at i.places.items) (λ (n : ℕ). n) with_items_here with_word
    (behind_globals c.in_ok-head.head c.in_ok-globals.globals.items) c.args.reader.now c.take_globals.new.reader c.take_word.new.reader c.in_err-count.field-0.0
    c.from_residual-in_err-count.result c.from_residual-in_err-count.ensures.1 (λ then. c.in_ok-head.ensures (from_head then) ∙ (c.in_ok-globals.ensures (behind_head c.in_ok-head.head then))) c.in_err-count.ensures

pub returns-in_err-functions-clause-value : goal.returns-in_err-functions-clause-value
returns-in_err-functions-clause-value c =
    stops (λ (i : FileItems). items_in i.code i.main_at i.places.items) (λ (x : Vec FunctionCode Global × Vec Places Global). all_placed x.0.items x.1.items) with_items_here (with_all_functions c.in_ok-count.count c.in_ok-head.head.covered)
    (behind_count c.in_ok-head.head c.in_ok-globals.globals.items) c.args.reader.now c.take_word.new.reader c.take_functions.new.reader c.in_err-functions.field-0.0
    c.from_residual-in_err-functions.result c.from_residual-in_err-functions.ensures.1 (λ then. c.in_ok-head.ensures (from_head then) ∙ (c.in_ok-globals.ensures (behind_head c.in_ok-head.head then) ∙ (c.in_ok-count.ensures (behind_globals c.in_ok-head.head c.in_ok-globals.globals.items then)))) c.in_err-functions.ensures.value

pub returns-clause-value : goal.returns-clause-value
returns-clause-value c = λ then. (c.in_ok-head.ensures (from_head then) ∙ (c.in_ok-globals.ensures (behind_head c.in_ok-head.head then) ∙ (c.in_ok-count.ensures (behind_globals c.in_ok-head.head c.in_ok-globals.globals.items then) ∙ (c.in_ok-functions.ensures.value (behind_count c.in_ok-head.head c.in_ok-globals.globals.items then)))))
    ∙ ap (λ (i : Items). then i (left c.take_functions.new.reader) c.take_functions.new.reader.at)
    (items_made c.in_ok-head.head c.in_ok-globals.globals.items c.in_ok-functions.functions.items
    c.in_ok-functions.places.items c.in_ok-functions.ensures.places)
