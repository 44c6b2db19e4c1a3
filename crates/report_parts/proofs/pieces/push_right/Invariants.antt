use Rattle.std.proofs.Common.{◌≡◌, ◌++◌, replicate}
use Rattle.report_parts.proofs.pieces.push_right.Given as goal

-- so many spaces stand behind what was there
abbrev pub invariant-loop-place : goal.invariant-loop-place
invariant-loop-place l = l.out.items ≡ l.initial.out.items ++ replicate l._place 32
