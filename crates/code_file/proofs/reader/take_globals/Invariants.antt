use Rattle.std.proofs.Common.{◌≡◌, ℤ, ◌-◌, List, []}
use Rattle.gcov_items.specs.Items.{left}
use Rattle.code_file.specs.Reading.{with_globals}
use Rattle.code_file.proofs.Outcomes.{Then}
use Rattle.code_file.proofs.reader.take_globals.Given as goal

abbrev pub invariant-loop : goal.invariant-loop
invariant-loop l =
    (then : Then (List ℤ)) → with_globals (l.count - l.counter) l.globals.items (left l.reader) l.reader.at then
    ≡ with_globals l.count [] (left l.fn.reader) l.fn.reader.at then
