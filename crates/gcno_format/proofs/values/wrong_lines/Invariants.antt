use Rattle.std.proofs.Common.{◌≡◌, drop}
use Rattle.gcno_format.specs.Values.{wrong_lines}
use Rattle.gcno_format.proofs.values.wrong_lines.Given as goal

abbrev pub invariant-loop-told : goal.invariant-loop-told
invariant-loop-told l = wrong_lines l.blocks (drop l.told-index l.records) ≡ wrong_lines l.blocks l.records
