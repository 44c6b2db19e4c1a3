-- How the numbers are found. The number of a counter is put on its arc, added to the surplus of the block that the arc
-- enters and taken from that of the block that it leaves; the surplus of a block stands in the place of the arc by
-- which
-- it came. Then the blocks are taken from the last that came to the first: the arc by which the block came takes up its
-- surplus, which passes to the arc's other end.
use Rattle.std.specs.Prelude.{ℕ, suc, ◌==◌, cond, ℤ, pos, ◌+ℤ◌, neg_ℤ, List, [], ◌∷◌, get_or, set, drop}
use Rattle.std.specs.Prelude.{Option, Some, None, slice_get}
use Rattle.cov_base.specs.declared.net.FlowArc.{FlowArc}
use Rattle.span_tree.specs.declared.arrival.Arrival.{Arrival}
use Rattle.span_tree.specs.Tree.{link_of, is_linked}

-- a number is added in the place of an arc, if there is one
abbrev pub add_to : Option ℕ → ℤ → List ℤ → List ℤ
add_to None n numbers = numbers
add_to (Some i) n numbers = set numbers i (get_or numbers i (pos 0) +ℤ n)

-- a number is added to the surplus of a block
abbrev pub add_at : List Arrival → ℕ → ℤ → List ℤ → List ℤ
add_at came block n numbers = add_to (link_of came block) n numbers

-- a number goes along the arc of index i
abbrev pub put_along : List Arrival → ℕ → FlowArc → ℤ → List ℤ → List ℤ
put_along came i arc n numbers = add_at came arc.from (neg_ℤ n) (add_at came arc.to n (set numbers i n))

-- the number of the first counter goes along the arc, if there is one
abbrev pub put_first : List Arrival → ℕ → FlowArc → List ℕ → List ℤ → List ℤ
put_first came i arc [] numbers = numbers
put_first came i arc (n ∷ given) numbers = put_along came i arc (pos n) numbers

-- the numbers with that of an arc, which has none where it is on the tree
abbrev pub numbers_with : List Arrival → ℕ → FlowArc → List ℕ → List ℤ → List ℤ
numbers_with came i arc given numbers = cond (is_linked came i) numbers (put_first came i arc given numbers)

-- the counters behind that of an arc
abbrev pub counters_behind : List Arrival → ℕ → List ℕ → List ℕ
counters_behind came i given = cond (is_linked came i) given (drop 1 given)

-- the numbers with those of these arcs, of which the first has index i
abbrev pub spread : List Arrival → ℕ → List FlowArc → List ℕ → List ℤ → List ℤ
spread came i [] given numbers = numbers
spread came i (arc ∷ arcs) given numbers =
    spread came (suc i) arcs (counters_behind came i given) (numbers_with came i arc given numbers)

-- the arc of index i, by which the block came, takes up the surplus of the block, which passes to the other end
abbrev pub take_up : List Arrival → ℕ → ℕ → Option FlowArc → List ℤ → List ℤ
take_up came block i None numbers = numbers
take_up came block i (Some arc) numbers = cond (arc.to == block)
    (add_at came arc.from (get_or numbers i (pos 0)) (set numbers i (neg_ℤ (get_or numbers i (pos 0)))))
    (add_at came arc.to (get_or numbers i (pos 0)) numbers)

-- the arc by which a block came takes up its surplus, if it came by one
abbrev pub settled_by : List FlowArc → List Arrival → ℕ → Option ℕ → List ℤ → List ℤ
settled_by arcs came block None numbers = numbers
settled_by arcs came block (Some i) numbers = take_up came block i (slice_get arcs i) numbers

-- a block is taken
abbrev pub settled : List FlowArc → List Arrival → ℕ → List ℤ → List ℤ
settled arcs came block numbers = settled_by arcs came block (link_of came block) numbers

-- these blocks are taken, the last first
abbrev pub gathered : List FlowArc → List Arrival → List ℕ → List ℤ → List ℤ
gathered arcs came [] numbers = numbers
gathered arcs came (block ∷ blocks) numbers = settled arcs came block (gathered arcs came blocks numbers)
