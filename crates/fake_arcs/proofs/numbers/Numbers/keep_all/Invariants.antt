use Rattle.std.proofs.Common.{◌≡◌, ◌++◌, drop}
use Rattle.fake_arcs.specs.Numbers.{number_by, kept_by}
use Rattle.fake_arcs.proofs.numbers.Numbers.keep_all.Given as goal

abbrev pub invariant-loop-place : goal.invariant-loop-place
invariant-loop-place l = l.kept.items ++ kept_by (number_by l.self) (drop l.place l.self) (drop l.place l.blocks)
    ≡ kept_by (number_by l.self) l.self l.blocks
