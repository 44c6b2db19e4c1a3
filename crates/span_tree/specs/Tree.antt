-- The spanning tree of a net, by breadth-first search from the exit: its blocks in order of arrival, and the arcs by
-- which they came. Arcs have no direction here.
use Rattle.std.specs.Prelude.{ℕ, zero, suc, ◌==◌, ◌||◌, Bool, false, cond, List, [], ◌∷◌, ◌++◌, map, length}
use Rattle.std.specs.Prelude.{Option, Some, None, slice_get}
use Rattle.std.specs.List.{list_any}
use Rattle.cov_base.specs.Net.{NetValue}
use Rattle.cov_base.specs.declared.net.FlowArc.{FlowArc}
use Rattle.span_tree.specs.declared.arrival.Arrival.{Arrival}

-- the block has come
abbrev pub is_there : List Arrival → ℕ → Bool
is_there came b = list_any (λ a. a.block == b) came

-- a block comes by an arc, if it isn't there yet
abbrev pub with_block : Option ℕ → ℕ → List Arrival → List Arrival
with_block link b there = cond (is_there there b) there (there ++ record { block = b; link = link } ∷ [])

-- From a block the arc of index i is looked at: if it touches the block, its other end comes.
abbrev pub look : ℕ → ℕ → FlowArc → List Arrival → List Arrival
look block i arc there = cond (arc.from == block)
    (with_block (Some i) arc.to there)
    (cond (arc.to == block) (with_block (Some i) arc.from there) there)

-- these arcs, of which the first has the index i, are looked at in order
abbrev pub look_along : ℕ → ℕ → List FlowArc → List Arrival → List Arrival
look_along block i [] there = there
look_along block i (arc ∷ arcs) there = look_along block (suc i) arcs (look block i arc there)

-- a block is taken: from the exit the unwritten arc to the entry is looked at first, and then all arcs in order
abbrev pub after_block : List FlowArc → ℕ → List Arrival → List Arrival
after_block arcs block there = look_along block 0 arcs (cond (block == 1) (with_block None 0 there) there)

-- the block of an arrival is taken, if there is one
abbrev pub after_arrival : List FlowArc → Option Arrival → List Arrival → List Arrival
after_arrival arcs None there = there
after_arrival arcs (Some a) there = after_block arcs a.block there

-- so many blocks are taken in order of arrival, from the one at this place on
abbrev pub after_blocks : List FlowArc → ℕ → ℕ → List Arrival → List Arrival
after_blocks arcs zero at there = there
after_blocks arcs (suc n) at there = after_blocks arcs n (suc at) (after_arrival arcs (slice_get there at) there)

-- the exit is there first
abbrev pub exit_alone : List Arrival
exit_alone = record { block = 1; link = None } ∷ []

-- The tree of a net: all blocks that come from the exit on, in order of arrival.
abbrev pub arrivals : NetValue → List Arrival
arrivals net = after_blocks net.arcs net.blocks 0 exit_alone

-- the blocks in order of arrival
abbrev pub order_of : List Arrival → List ℕ
order_of came = map (λ a. a.block) came

-- the arc by which a block came
abbrev pub link_of : List Arrival → ℕ → Option ℕ
link_of [] b = None
link_of (a ∷ came) b = cond (a.block == b) a.link (link_of came b)

-- the link is the arc of this index
abbrev pub is_link : Option ℕ → ℕ → Bool
is_link None i = false
is_link (Some k) i = k == i

-- some block came by the arc of this index
abbrev pub is_linked : List Arrival → ℕ → Bool
is_linked [] i = false
is_linked (a ∷ came) i = is_link a.link i || is_linked came i

-- the arc of this index is on the tree of the net
abbrev pub on_tree : NetValue → ℕ → Bool
on_tree net i = is_linked (arrivals net) i

-- of so many arcs, the first of which has the index i, the indices of those that no block came by
abbrev pub off_from : List Arrival → ℕ → ℕ → List ℕ
off_from came i zero = []
off_from came i (suc n) = cond (is_linked came i) (off_from came (suc i) n) (i ∷ off_from came (suc i) n)

-- the arcs off the tree of the net, in order
abbrev pub off : NetValue → List ℕ
off net = off_from (arrivals net) 0 (length net.arcs)
