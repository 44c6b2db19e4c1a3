use Rattle.std.proofs.Common.{◌≡◌, ◌-◌, ◌++◌, pos, replicate}
use Rattle.stack_machine.proofs.store.Store.begin.Given as goal

abbrev pub invariant-loop : goal.invariant-loop
invariant-loop l =
    (l.self-inside.numbers.items ≡ l.initial.self-inside.numbers.items ++ replicate (l.counter - l.initial.counter) (pos 0))
    × (l.self-inside.base ≡ l.initial.self-inside.base) × (l.self-inside.floor ≡ l.initial.self-inside.floor) × (l.self-inside.room ≡ l.initial.self-inside.room)
    × (l.self-inside.numbers.cap ≡ l.initial.self-inside.numbers.cap)
