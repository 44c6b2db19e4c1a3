use Rattle.std.proofs.Common.{length}
use Rattle.c_exprs.proofs.ListLaws.{Reached}
use Rattle.c_exprs.proofs.lists.read_list.Given as goal

-- these members were read, and the list goes on
abbrev pub invariant-loop-members : goal.invariant-loop-members
invariant-loop-members g l =
    Reached l.text l.room (λ text ts. goal.F-post g l.read_member l.fn.alloc text ts l.kind l.room) l.following
    l.fn.tokens l.rest l.members l.levels

-- what is left gets shorter
abbrev pub decreases-loop-members : goal.decreases-loop-members
decreases-loop-members g l = length l.rest
