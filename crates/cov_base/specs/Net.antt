-- What makes blocks, arcs and lines a net, and the first fault where they make none.
use Rattle.std.specs.Prelude.{
  ◌≡◌,
  ℕ,
  ◌+◌,
  ◌<◌,
  ◌≤◌,
  zero,
  suc,
  Bool,
  true,
  not,
  ◌&&◌,
  ◌||◌,
  ◌==◌,
  if◌then◌else◌,
  nat_lt,
  nat_le,
  ◌⊎◌,
  List,
  [],
  ◌∷◌,
  length,
  Option,
  Some,
  None,
  IsTrue,
  Result,
  Ok,
  Err,
}
use Rattle.std.specs.Option.{option_or, option_map}
use Rattle.std.specs.List.{list_any, position}
use Rattle.std.specs.declared.alloc.AllocError.{AllocError}
use Rattle.cov_base.specs.Falls.{is_real}
use Rattle.cov_base.specs.Limits.{arc_limit, block_limit}
use Rattle.cov_base.specs.declared.net.FlowArc.{FlowArc}
use Rattle.cov_base.specs.declared.net.NetFault.{NetFault}
use Rattle.cov_base.specs.declared.net.NetFault.TheVariants as fault
use Rattle.cov_base.specs.declared.refusal.Refusal.{Refusal}
use Rattle.cov_base.specs.declared.refusal.Refusal.TheVariants as refusal

-- a function's blocks are numbered from 0, its arcs lead from block to block, and each block has a list of lines
pub record NetValue : Type 0 where
  pub blocks : ℕ
  pub arcs : List FlowArc
  pub lines : List (List ℕ)

-- an arc has an end that is no block, or goes into the entry or out of the exit
abbrev pub is_outside : ℕ → FlowArc → Bool
is_outside blocks arc = nat_le blocks arc.from || nat_le blocks arc.to || (arc.to == 0) || (arc.from == 1)

-- an arc is greater by its ends than another
abbrev pub is_above : FlowArc → FlowArc → Bool
is_above arc before = nat_lt before.from arc.from || ((before.from == arc.from) && nat_lt before.to arc.to)

-- of these arcs, the first of which has index i and stands behind another: the index of the first that is not above the
-- one before it
abbrev pub unordered_after : FlowArc → ℕ → List FlowArc → Option ℕ
unordered_after before i [] = None
unordered_after before i (arc ∷ arcs) = if is_above arc before then unordered_after arc (i + 1) arcs else Some i

-- the index of the first arc that is not above the one before it
abbrev pub first_unordered : List FlowArc → Option ℕ
first_unordered [] = None
first_unordered (arc ∷ arcs) = unordered_after arc 1 arcs

-- an arc leads from the one block to the other
abbrev pub joins : ℕ → ℕ → FlowArc → Bool
joins a b arc = (arc.from == a) && (arc.to == b)

-- some arc leads from the one block to the other
abbrev pub has_arc : List FlowArc → ℕ → ℕ → Bool
has_arc arcs a b = list_any (joins a b) arcs

-- an arc leaves the entry for another block than 2, or enters block 2 from another than the entry
abbrev pub is_wrong_entry : FlowArc → Bool
is_wrong_entry arc = if arc.from == 0 then not (arc.to == 2) else arc.to == 2

-- the index of the first arc with a wrong entry, or 0 where no arc leads from the entry to block 2
abbrev pub first_wrong_entry : List FlowArc → Option ℕ
first_wrong_entry arcs = if has_arc arcs 0 2 then position is_wrong_entry arcs else Some 0

-- a call-exit arc enters another block than the exit
abbrev pub is_misplaced : FlowArc → Bool
is_misplaced arc = not (is_real arc.kind) && not (arc.to == 1)

-- the first number is above `low`, and each further one is above the one before it
abbrev pub ascends : ℕ → List ℕ → Bool
ascends low [] = true
ascends low (line ∷ lines) = nat_lt low line && ascends line lines

-- a list has no member
abbrev pub is_bare : List ℕ → Bool
is_bare lines = length lines == 0

-- a list of lines suits the block: it is empty at the entry and the exit, and ascends from above 0 elsewhere
abbrev pub suits : ℕ → List ℕ → Bool
suits block lines = if nat_lt block 2 then is_bare lines else ascends 0 lines

-- of these lists, the first of which is that of `block`: the first block whose list is missing or doesn't suit it, or
-- the number of blocks where a list is too many
abbrev pub first_wrong_list : ℕ → ℕ → List (List ℕ) → Option ℕ
first_wrong_list block blocks [] = if nat_lt block blocks then Some block else None
first_wrong_list block blocks (list ∷ lists) =
    if nat_lt block blocks && suits block list then first_wrong_list (block + 1) blocks lists else Some block

-- the first fault that can be told without following arcs
abbrev pub shape_fault : NetValue → Option NetFault
shape_fault net =
    option_or (if nat_lt net.blocks 3 || nat_lt block_limit net.blocks then Some (fault.Blocks net.blocks) else None)
    (option_or (if nat_lt arc_limit (length net.arcs) then Some (fault.Arcs (length net.arcs)) else None)
    (option_or (option_map fault.Range (position (is_outside net.blocks) net.arcs))
    (option_or (option_map fault.Order (first_unordered net.arcs))
    (option_or (option_map fault.Entry (first_wrong_entry net.arcs))
    (option_or (option_map fault.Kind (position is_misplaced net.arcs))
    (option_map fault.Lines (first_wrong_list 0 net.blocks net.lines)))))))

-- a way of so many arcs leads from block 2 to the block
abbrev pub Leads : List FlowArc → ℕ → ℕ → Type 0
Leads arcs block zero = block ≡ 2
Leads arcs block (suc n) = (before : ℕ) × Leads arcs before n × IsTrue (has_arc arcs before block)

-- some number of arcs lead from block 2 to the block
abbrev pub IsReached : List FlowArc → ℕ → Type 0
IsReached arcs block = (n : ℕ) × Leads arcs block n

-- each block from 2 up is reached
abbrev pub AllReached : ℕ → List FlowArc → Type 0
AllReached blocks arcs = (block : ℕ) → 2 ≤ block → block < blocks → IsReached arcs block

-- the block is the least from 2 up that is not reached
pub record IsLeastApart (blocks : ℕ) (arcs : List FlowArc) (block : ℕ) : Type 0 where
  pub inner : 2 ≤ block
  pub within : block < blocks
  pub apart : IsReached arcs block → ⊥
  pub least : (before : ℕ) → 2 ≤ before → before < block → IsReached arcs before

-- no fault stands: the shape has none, and each block from 2 up is reached
pub record IsNet (net : NetValue) : Type 0 where
  pub shape : shape_fault net ≡ None
  pub reached : AllReached net.blocks net.arcs

-- the fault is Apart, with the least block from 2 up that isn't reached
abbrev pub IsApart : NetValue → NetFault → Type 0
IsApart net (fault.Apart block) = IsLeastApart net.blocks net.arcs block
IsApart net _ = ⊥

-- the fault is the first that stands: one of the shape, or else the least block that is not reached
abbrev pub IsFirstFault : NetValue → NetFault → Type 0
IsFirstFault net found = (shape_fault net ≡ Some found) ⊎ ((shape_fault net ≡ None) × IsApart net found)

-- the search for a fault gives the first, or none where the parts make a net; want of memory says nothing
abbrev pub Finds : NetValue → Result (Option NetFault) AllocError → Type 0
Finds net (Ok None) = IsNet net
Finds net (Ok (Some found)) = IsFirstFault net found
Finds net (Err _) = Unit {0}

-- the parts are made into a net of the same value, or the first fault is told; want of memory says nothing
abbrev pub Makes : NetValue → Result NetValue (Refusal NetFault) → Type 0
Makes net (Ok made) = (made ≡ net) × IsNet net
Makes net (Err (refusal.Refused found)) = IsFirstFault net found
Makes net (Err refusal.NoMemory) = Unit {0}
