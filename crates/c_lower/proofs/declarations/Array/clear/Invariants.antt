use Rattle.std.proofs.Common.{◌≡◌, ◌-◌, Bool, List}
use Rattle.c_lower.specs.Items.{Item, zeros}
use Rattle.c_lower.specs.Building.{made}
use Rattle.c_lower.proofs.declarations.Array.clear.Given as goal

abbrev pub invariant-loop-index : goal.invariant-loop-index
invariant-loop-index l = (gives : Bool) (rest : List Item)
    → made gives l.out (zeros (l.self.count - l.index) l.self.first l.self.count l.index l.line rest)
    ≡ made gives l.fn.out (zeros (l.self.count - l.from) l.self.first l.self.count l.from l.fn.line rest)

abbrev pub decreases-loop-index : goal.decreases-loop-index
decreases-loop-index l = l.self.count - l.index
