use Rattle.std.proofs.Common.{◌≡◌, ◌-◌, ◌≤◌, List, []}
use Rattle.gcov_items.specs.Items.{left}
use Rattle.code_runs.specs.Limits.{number_limit, instruction_limit}
use Rattle.code_file.specs.Reading.{Placed, with_functions}
use Rattle.code_file.specs.Taking.{all_placed, HavePlaces}
use Rattle.code_file.proofs.Outcomes.{Then}
use Rattle.code_file.proofs.taking_functions.take_functions.Given as goal

abbrev pub invariant-loop : goal.invariant-loop
invariant-loop l = record {
  told : (then : Then (List Placed))
      → with_functions (l.count - l.counter) l.covered l.numbers l.start
      (all_placed l.functions.items l.places.items) (left l.reader) l.reader.at then
      ≡ with_functions l.count l.covered 0 0 [] (left l.fn.reader) l.fn.reader.at then;
  places : HavePlaces l.functions.items l.places.items;
  numbers : l.numbers ≤ number_limit;
  start : l.start ≤ instruction_limit;
}
