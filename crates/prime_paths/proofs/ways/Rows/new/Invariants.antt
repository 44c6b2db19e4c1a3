use Rattle.std.proofs.Common.{◌≡◌, [], map, replicate}
use Rattle.prime_paths.proofs.ways.Rows.new.Given as goal

abbrev pub invariant-loop : goal.invariant-loop
invariant-loop l = map (λ r. r.items) l.rows.items ≡ replicate l.counter []
