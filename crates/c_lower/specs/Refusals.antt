-- What lowering refuses, and what it gives.
use Rattle.std.specs.Prelude.{◌≡◌, ℕ, suc, nat_lt, cond, List, [], ◌∷◌, length, Option, Some, None}
use Rattle.std.specs.Prelude.{Result, Ok, Err}
use Rattle.std.specs.Option.{option_or}
use Rattle.cov_base.specs.Limits.{array_limit}
use Rattle.cov_base.specs.declared.refusal.Refusal.{Refusal}
use Rattle.cov_base.specs.declared.refusal.Refusal.TheVariants as refusal
use Rattle.c_tree.specs.Typed.{Typed, TypedFunction}
use Rattle.flow_graph.specs.Graph.{Graph, GraphUnit}
use Rattle.c_lower.specs.Lowered.{graph_of, unit_of}
use Rattle.c_lower.specs.declared.lowering.LowerFault.{LowerFault}
use Rattle.c_lower.specs.declared.lowering.LowerFault.TheVariants as fault

-- the cells of a function's frame
abbrev pub cell_limit : ℕ
cell_limit = 4096

-- the frame of the function with this number is too large
abbrev pub frame_fault : ℕ → TypedFunction → Option LowerFault
frame_fault k f = cond (nat_lt cell_limit f.cells) (Some (fault.FrameTooLarge k f.cells)) None

-- the first of these functions whose frame is too large; the first of them has the number k
abbrev pub frames_fault : ℕ → List TypedFunction → Option LowerFault
frames_fault k [] = None
frames_fault k (f ∷ fs) = option_or (frame_fault k f) (frames_fault (suc k) fs)

-- the globals have too many cells
abbrev pub globals_fault : ℕ → Option LowerFault
globals_fault n = cond (nat_lt array_limit n) (Some (fault.GlobalsTooLarge n)) None

-- the first fault of a source: its globals, and else the first frame
abbrev pub lower_fault : Typed → Option LowerFault
lower_fault t = option_or (globals_fault (length t.globals)) (frames_fault 0 t.functions)

-- A refusal tells the first fault; want of memory says nothing.
abbrev pub Refuses : Option LowerFault → Refusal LowerFault → Type 0
Refuses first (refusal.Refused found) = first ≡ Some found
Refuses first refusal.NoMemory = Unit {0}

-- the graph of the function with this number, where its frame isn't too large
abbrev pub LowersFunction : ℕ → TypedFunction → Result Graph (Refusal LowerFault) → Type 0
LowersFunction k f (Ok graph) = (graph ≡ graph_of f) × (frame_fault k f ≡ None)
LowersFunction k f (Err e) = Refuses (frame_fault k f) e

-- the graphs of a source, where no fault stands, or else the first fault
abbrev pub Lowers : Typed → Result GraphUnit (Refusal LowerFault) → Type 0
Lowers t (Ok unit) = (unit ≡ unit_of t) × (lower_fault t ≡ None)
Lowers t (Err e) = Refuses (lower_fault t) e
