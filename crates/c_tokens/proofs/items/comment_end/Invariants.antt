use Rattle.std.proofs.Common.{ℕ, ◌<◌, ◌≤◌}
use Rattle.c_tokens.specs.Items.{EndsComment}
use Rattle.c_tokens.proofs.items.comment_end.Given as goal

abbrev pub invariant-loop-place : goal.invariant-loop-place
invariant-loop-place l = (k : ℕ) → 2 ≤ k → k < l.place → EndsComment l.text k → ⊥
