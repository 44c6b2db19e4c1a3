use Rattle.std.proofs.Common.{◌≡◌, ◌++◌, replicate}
use Rattle.stack_machine.proofs.bits.PathBits.begin.Given as goal

abbrev pub invariant-loop : goal.invariant-loop
invariant-loop l =
    (l.self-inside.words.items ≡ l.initial.self-inside.words.items ++ replicate l.counter 0)
    × (l.self-inside.base ≡ l.initial.self-inside.base) × (l.self-inside.room ≡ l.initial.self-inside.room)
    × (l.self-inside.words.cap ≡ l.initial.self-inside.words.cap)
