-- The graphs of a sound source are such that their pruned graphs have nets.
use Rattle.std.proofs.Common.{◌≡◌, refl, ℕ, suc, ◌<◌, ◌≤◌, true, List, [], ◌∷◌, map, arith}
use Rattle.std.specs.Prelude.{Some, nat_lt, slice_get}
use Rattle.std.specs.List.{All}
use Rattle.std.proofs.lemmas.Bool.Decides.{nat_tests}
use Rattle.std.proofs.lemmas.List.Elements.{All-nil, All-cons}
use Rattle.cov_base.specs.Net.{ascends}
use Rattle.c_tree.specs.Typed.{TypedFunction, Typed}
use Rattle.c_tree.specs.Sound.{Each, IsLine, Sound}
use Rattle.flow_graph.specs.Ascending.{Ascends}
use Rattle.flow_graph.specs.Graph.{Block}
use Rattle.c_lower.specs.Lowered.{graph_of, unit_of}
use Rattle.fake_arcs.specs.Tidy.{IsWellMade}
use Rattle.lower_agrees.specs.Agreement.{IsBlockOf}
use Rattle.lower_agrees.proofs.Calls.{graph_found}
use Rattle.lower_agrees.proofs.Lines.{lines_stand}
use Rattle.lower_agrees.proofs.Targets.{targets_stand}

-- what holds of each member at its place holds of all
all_from : {A : Type 0} (P : A → Type 0) (xs : List A) → ((k : ℕ) (x : A) → slice_get xs k ≡ Some x → P x) → All P xs
all_from P [] each = All-nil P
all_from P (x ∷ xs) each = All-cons P x xs (each 0 x refl) (all_from P xs (λ k. each (suc k)))

-- ascending numbers above a bound ascend from it
ascends-from : (lines : List ℕ) (low : ℕ) → Each (λ n. low < n) lines → Ascends lines → ascends low lines ≡ true
ascends-from [] low above up = refl
ascends-from (n ∷ ns) low above up =
    let below : low < n = above.0 in let first : nat_lt low n ≡ true = grind (arith, nat_tests) in
    rw (first, ascends-from ns n up.0 up.1) refl

-- a line is above 0
above_zero : (lines : List ℕ) → Each IsLine lines → Each (λ n. 0 < n) lines
above_zero [] are = tt
above_zero (line ∷ lines) are = (let first : 1 ≤ line = are.0.first in omega arith, above_zero lines are.1)

pub function_made : (source : Typed) → Sound source → (k : ℕ) (f : TypedFunction) → slice_get source.functions k ≡ Some f
    → IsWellMade (graph_of f)
function_made source sound k f at = record {
  some = omega arith;
  aims = λ place target block there among.
      let later = (targets_stand source (graph_of f) block (stands place block there)).stands target among in
      (later.above, later.below);
  lines = all_from (λ b. ascends 0 b.lines ≡ true) (graph_of f).blocks (λ place block there.
      let has = lines_stand source sound (graph_of f) block (stands place block there) in
      ascends-from block.lines 0 (above_zero block.lines has.are_lines) has.ascend);
}
  where
    stands : (place : ℕ) (block : Block) → slice_get (graph_of f).blocks place ≡ Some block
        → IsBlockOf source (graph_of f) block
    stands place block there =
        record { function = k; graph = graph_found source.functions k f at; place = place; block = there }

all_made : (fs : List TypedFunction) → ((k : ℕ) (f : TypedFunction) → slice_get fs k ≡ Some f → IsWellMade (graph_of f))
    → All IsWellMade (map graph_of fs)
all_made [] each = All-nil IsWellMade
all_made (f ∷ fs) each =
    All-cons IsWellMade (graph_of f) (map graph_of fs) (each 0 f refl) (all_made fs (λ k. each (suc k)))

-- The graphs of a sound source are well made.
pub lowered_made : (source : Typed) → Sound source → All IsWellMade (unit_of source).graphs
lowered_made source sound = all_made source.functions (function_made source sound)
