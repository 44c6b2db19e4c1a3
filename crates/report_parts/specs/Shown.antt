-- What a report shows of a function, and sums over its arcs.
use Rattle.std.specs.Prelude.{◌≡◌, ℕ, ◌+◌, ◌/◌, ◌%◌, ◌≤◌, ◌^◌, ◌==◌, ◌&&◌, not, nat_le, Bool}
use Rattle.std.specs.Prelude.{if◌then◌else◌, List, [], ◌∷◌, length, slice_index_or}
use Rattle.std.specs.Int.{bit_at}
use Rattle.std.specs.List.{All, count_by}
use Rattle.cov_base.specs.Falls.{is_real}
use Rattle.cov_base.specs.Net.{NetValue, IsNet}
use Rattle.cov_base.specs.declared.net.FlowArc.{FlowArc}
use Rattle.prime_paths.specs.declared.listing.Listing.{Listing}

-- a function as a report shows it: its name, its net, how often each arc was passed, its prime paths, and the bits that
-- tell which of them were covered
pub record ShownValue : Type 0 where
  pub name : List ℕ
  pub net : NetValue
  pub counts : List ℕ
  pub listing : Listing
  pub bits : List ℕ

-- the sum of the counts of the arcs that pass the test
abbrev pub total : (FlowArc → Bool) → List FlowArc → List ℕ → ℕ
total test [] counts = 0
total test (arc ∷ arcs) [] = 0
total test (arc ∷ arcs) (count ∷ counts) = (if test arc then count else 0) + total test arcs counts

-- the arc enters the block
abbrev pub enters : ℕ → FlowArc → Bool
enters block arc = arc.to == block

-- the arc is real and leaves the block
abbrev pub is_way_out : ℕ → FlowArc → Bool
is_way_out block arc = is_real arc.kind && (arc.from == block)

-- the arc is a call-exit arc and leaves the block
abbrev pub is_call_exit_of : ℕ → FlowArc → Bool
is_call_exit_of block arc = not (is_real arc.kind) && (arc.from == block)

-- how often the block was entered: the sum of its arcs in
abbrev pub block_count : ShownValue → ℕ → ℕ
block_count f block = total (enters block) f.net.arcs f.counts

-- the arc is marked as a branch: it is real, and the block that it leaves has two or more real arcs out
abbrev pub is_branch : List FlowArc → FlowArc → Bool
is_branch arcs arc = is_real arc.kind && nat_le 2 (count_by (is_way_out arc.from) arcs)

-- bit k of the words, which is bit k modulo 64 of word k / 64, is set
abbrev pub has_bit : List ℕ → ℕ → Bool
has_bit words k = bit_at (slice_index_or words (k / 64) 0) (k % 64) == 1

-- each arc of the net has a count, and counts are at most 2^80
pub record IsShown (f : ShownValue) : Type 0 where
  pub net : IsNet f.net
  pub long : length f.counts ≡ length f.net.arcs
  pub small : All (λ count. count ≤ 2 ^ 80) f.counts
