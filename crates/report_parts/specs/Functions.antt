-- The text of a function: its blocks, its arcs and its paths.
use Rattle.std.specs.Prelude.{ℕ, zero, suc, ◌+◌, ◌*◌, ◌/◌, ◌==◌, ◌&&◌, not, Bool, if◌then◌else◌, List, [], ◌∷◌, ◌++◌}
use Rattle.std.specs.Prelude.{codes, slice_index_or}
use Rattle.std.specs.Fmt.{decimal}
use Rattle.std.specs.List.{flat_map}
use Rattle.cov_base.specs.Falls.{is_real, falls}
use Rattle.cov_base.specs.Net.{joins}
use Rattle.cov_base.specs.declared.net.FlowArc.{FlowArc}
use Rattle.prime_paths.specs.Lister.{inner_blocks}
use Rattle.prime_paths.specs.declared.listing.Listing.{Listing}
use Rattle.prime_paths.specs.declared.listing.Listing.TheVariants as listing
use Rattle.report_parts.specs.Shown.{ShownValue, total, block_count, is_branch, has_bit}

-- each number after a blank
abbrev pub spaced : List ℕ → List ℕ
spaced [] = []
spaced (n ∷ numbers) = 32 ∷ (decimal n ++ spaced numbers)

-- a number behind a word
unfoldable pub field : List ℕ → ℕ → List ℕ
field word n = word ++ decimal n

-- the arc is real and enters the exit
abbrev pub is_return : FlowArc → Bool
is_return arc = is_real arc.kind && (arc.to == 1)

-- the arc is a call-exit arc
abbrev pub is_call_exit : FlowArc → Bool
is_call_exit arc = not (is_real arc.kind)

-- the function's name, and how often it was called, returned, and was left by an exit
unfoldable pub function_line : ShownValue → List ℕ
function_line f =
    codes "function " ++ (f.name
    ++ (field (codes " called ") (total (joins 0 2) f.net.arcs f.counts)
    ++ (field (codes " returned ") (total is_return f.net.arcs f.counts)
    ++ (field (codes " exited ") (total is_call_exit f.net.arcs f.counts) ++ codes "\n"))))

-- a block, how often it was entered, and its lines
unfoldable pub block_line : ShownValue → ℕ → List ℕ
block_line f block =
    field (codes "block ") block
    ++ (field (codes " count ") (block_count f block)
    ++ (codes " lines" ++ (spaced (slice_index_or f.net.lines block []) ++ codes "\n")))

-- the kind of an arc in words
unfoldable pub kind_text : FlowArc → List ℕ
kind_text arc = if is_real arc.kind then (if falls arc then codes "fall" else codes "jump") else codes "callexit"

-- how much of the passages of its block a branch took, in percent rounded down, or that the block was never entered
unfoldable pub share_text : ℕ → ℕ → List ℕ
share_text count zero = codes " branch never"
share_text count (suc n) = codes " branch " ++ (decimal (100 * count / suc n) ++ codes "%")

-- the share of an arc that is marked as a branch
abbrev pub branch_text : ShownValue → FlowArc → ℕ → List ℕ
branch_text f arc count = if is_branch f.net.arcs arc then share_text count (block_count f arc.from) else []

-- an arc, its kind and its count, and its share where it is a branch
unfoldable pub arc_line : ShownValue → FlowArc → ℕ → List ℕ
arc_line f arc count =
    field (codes "arc ") arc.from
    ++ (field (codes "-") arc.to
    ++ (codes " " ++ (kind_text arc
    ++ (field (codes " ") count ++ (branch_text f arc count ++ codes "\n")))))

-- these arcs of the function with their counts
abbrev pub arc_lines : ShownValue → List FlowArc → List ℕ → List ℕ
arc_lines f [] counts = []
arc_lines f (arc ∷ arcs) [] = []
arc_lines f (arc ∷ arcs) (count ∷ counts) = arc_line f arc count ++ arc_lines f arcs counts

-- whether a path was covered, in words
abbrev pub cover_text : Bool → List ℕ
cover_text covered = if covered then codes "path covered" else codes "path missed"

-- a path, and whether it was covered
unfoldable pub path_line : List ℕ → Bool → List ℕ
path_line path covered = cover_text covered ++ (spaced path ++ codes "\n")

-- these paths, of which the first has the index k
abbrev pub path_lines : List ℕ → ℕ → List (List ℕ) → List ℕ
path_lines bits k [] = []
path_lines bits k (path ∷ paths) = path_line path (has_bit bits k) ++ path_lines bits (k + 1) paths

-- that there are more paths than the limit
unfoldable pub more_line : ℕ → List ℕ
more_line limit = codes "paths more than " ++ (decimal limit ++ codes "\n")

-- the paths, or that there are more than the limit
abbrev pub paths_text : ℕ → List ℕ → Listing → List ℕ
paths_text limit bits (listing.All paths) = path_lines bits 0 paths
paths_text limit bits listing.LimitPassed = more_line limit

-- a function, its blocks from 2 up, its arcs, and its paths
unfoldable pub function_text : ℕ → ShownValue → List ℕ
function_text limit f =
    function_line f
    ++ (flat_map (block_line f) (inner_blocks f.net)
    ++ (arc_lines f f.net.arcs f.counts
    ++ paths_text limit f.bits f.listing))
