use Rattle.std.proofs.Common.{◌≡◌, ◌-◌, ◌≤◌, length, take}
use Rattle.c_tokens.specs.Scans.{Reaches}
use Rattle.c_tokens.specs.Tokens.{line_after}
use Rattle.c_tokens.proofs.scanner.scan.Given as goal

abbrev pub invariant-loop-place : goal.invariant-loop-place
invariant-loop-place l =
    (l.place.at ≤ length l.text) × (l.place.line ≡ line_after (take l.place.at l.text)) × Reaches l.text l.place.at l.tokens.items

abbrev pub decreases-loop-place : goal.decreases-loop-place
decreases-loop-place l = length l.text - l.place.at
