-- The arcs of a net with their flags, and which of them leave the same block.
use Rattle.std.specs.Prelude.{ℕ, ◌+◌, ◌/◌, ◌%◌, ◌==◌, not, Bool, if◌then◌else◌, List, [], ◌∷◌, take}
use Rattle.cov_base.specs.Falls.{is_real, falls}
use Rattle.cov_base.specs.Net.{NetValue}
use Rattle.cov_base.specs.declared.net.ArcKind.{ArcKind}
use Rattle.cov_base.specs.declared.net.ArcKind.TheVariants.{Real, CallExit}
use Rattle.cov_base.specs.declared.net.FlowArc.{FlowArc}
use Rattle.span_tree.specs.declared.arrival.Arrival.{Arrival}
use Rattle.span_tree.specs.Tree.{arrivals, is_linked}
use Rattle.gcno_format.specs.declared.marks.Marked.{Marked}

-- a flag that is set or not
abbrev pub flag : Bool → ℕ → ℕ
flag set value = if set then value else 0

-- the flags of an arc: 1 where it is on the tree, 2 where it is a call-exit arc, 4 where control falls along it
abbrev pub flags_of : Bool → FlowArc → ℕ
flags_of on arc = flag on 1 + flag (not (is_real arc.kind)) 2 + flag (falls arc) 4

-- an arc with its flags
abbrev pub mark_of : Bool → FlowArc → Marked
mark_of on arc = record { from = arc.from; to = arc.to; flags = flags_of on arc }

-- arcs with their flags, of which the first has this index
abbrev pub marked_from : List Arrival → ℕ → List FlowArc → List Marked
marked_from came i [] = []
marked_from came i (arc ∷ arcs) = mark_of (is_linked came i) arc ∷ marked_from came (i + 1) arcs

-- the arcs of a net with their flags
abbrev pub marked : NetValue → List Marked
marked net = marked_from (arrivals net) 0 net.arcs

-- the kind that flags tell
abbrev pub kind_of : ℕ → ArcKind
kind_of flags = if flags / 2 % 2 == 1 then CallExit else Real

-- the arc without its flags
abbrev pub arc_of : Marked → FlowArc
arc_of m = record { from = m.from; to = m.to; kind = kind_of m.flags }

-- a block, and the arcs that leave it
pub record Leaving : Type 0 where
  pub block : ℕ
  pub arcs : List Marked

-- an arc before others, which are told by the block that they leave
abbrev pub joined : Marked → List Leaving → List Leaving
joined m [] = record { block = m.from; arcs = m ∷ [] } ∷ []
joined m (l ∷ more) =
    if l.block == m.from then record { block = l.block; arcs = m ∷ l.arcs } ∷ more
    else record { block = m.from; arcs = m ∷ [] } ∷ l ∷ more

-- each block with arcs that leave it, in order
abbrev pub leavings : List Marked → List Leaving
leavings [] = []
leavings (m ∷ more) = joined m (leavings more)

-- the block that the first of arcs leaves
abbrev pub block_of : List Marked → ℕ
block_of [] = 0
block_of (m ∷ more) = m.from

-- an arc leaves another block
abbrev pub leaves_other : ℕ → Marked → Bool
leaves_other b m = not (m.from == b)

-- the first of arcs, so many, which leave the same block
abbrev pub front_leaving : ℕ → List Marked → Leaving
front_leaving n arcs = record { block = block_of arcs; arcs = take n arcs }
