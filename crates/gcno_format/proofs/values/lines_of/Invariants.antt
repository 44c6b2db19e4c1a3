use Rattle.std.proofs.Common.{◌≡◌, drop}
use Rattle.gcno_format.specs.Values.{lines_of}
use Rattle.gcno_format.proofs.values.lines_of.Given as goal

abbrev pub invariant-loop-told : goal.invariant-loop-told
invariant-loop-told l = lines_of l.block (drop l.told-index l.records) ≡ lines_of l.block l.records
