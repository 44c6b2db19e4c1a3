use Rattle.std.proofs.Common.{◌≡◌, ◌∷◌, [], map, take}
use Rattle.fake_arcs.proofs.nets.lines_of.Given as goal

abbrev pub invariant-loop-block : goal.invariant-loop-block
invariant-loop-block l = map (λ x. x.items) l.lines.items ≡ [] ∷ [] ∷ map (λ b. b.lines) (take l.block-index l.blocks)
