use Rattle.std.proofs.Common.{◌≡◌, ℕ, List, ◌<◌, true, sym, ap, subst, ◌∙◌}
use Rattle.std.specs.List.{All}
use Rattle.cov_base.specs.Net.{NetValue}
use Rattle.prime_paths.specs.Paths.{leads, is_inner}
use Rattle.prime_paths.specs.Ways.{next_blocks}
use Rattle.prime_paths.proofs.WaysLaws.{next_each}
use Rattle.prime_paths.proofs.ways.Ways.next.Goals as goal

pub returns-clause-each : goal.returns-clause-each
returns-clause-each c =
    subst (λ (row : List ℕ). All (λ b. (leads c.args.self.now c.args.block b ≡ true)
    × (is_inner c.args.self.now b ≡ true)) row)
    (sym (c.row.ensures
    ∙ c.self.invariant.next c.args.block (subst (λ (n : NetValue). c.args.block < n.blocks)
    (sym c.self.view_is) c.requires)
    ∙ ap (λ (n : NetValue). next_blocks n c.args.block) c.self.view_is)) (next_each c.args.self.now c.args.block)
