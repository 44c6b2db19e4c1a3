-- The definitions on small graphs.
use Rattle.std.proofs.Common.{◌≡◌, refl, sym, subst, ℕ, zero, suc, ◌-◌, ◌^◌, ◌<◌, true, false, List, [], ◌∷◌, Some}
use Rattle.std.proofs.Common.{arith}
use Rattle.std.specs.Prelude.{pos, negsuc, slice_get}
use Rattle.std.proofs.lemmas.Option.{same_Some}
use Rattle.stack_ops.specs.declared.operation.Op.TheVariants as op
use Rattle.code_runs.specs.CodeChecks.{is_number}
use Rattle.flow_graph.specs.Graph.{Ending, Block, Graph}
use Rattle.flow_graph.specs.Nets.{targets, among}
use Rattle.stack_code.specs.Orderly.{IsEntered}
use Rattle.orderly_units.specs.Laws.{HasCaseNumbers, IsReachedAhead, HasNumbers}

-- the least and the greatest number may be cases, and those beside them are none
widest_cases : HasCaseNumbers (Ending.Switch ((negsuc (2 ^ 63 - 1), 3) ∷ (pos (2 ^ 64 - 1), 4) ∷ []) 5)
widest_cases = (refl, (refl, tt))

below_the_least : is_number (negsuc (2 ^ 63)) ≡ false
below_the_least = refl

above_the_greatest : is_number (pos (2 ^ 64)) ≡ false
above_the_greatest = refl

-- a function of these blocks
abbrev graph : List Block → Graph
graph blocks = record { name = []; line = 1; params = 0; cells = 0; gives = true; blocks = blocks }

abbrev block : Ending → Block
block end = record { ops = op.Push (pos 1) ∷ []; end = end; lines = [] }

-- `while (1) { }` and `return 1;`: the test and the body of the loop, and what follows it
abbrev loop : Graph
loop =
    graph (block (Ending.Jump 3) ∷ block (Ending.Branch 4 5) ∷ block (Ending.Back 3) ∷ block Ending.Return ∷ [])

-- the test is entered from the first block, not from the body
test_is_entered : IsReachedAhead loop 1
test_is_entered = record {
  entered = record {
    from = 0;
    lower = omega arith;
    block = block (Ending.Jump 3);
    there = refl;
    ahead = refl;
    leads = refl;
  };
  is_reached = refl;
}

numbers_there : HasNumbers (block (Ending.Back 3))
numbers_there = record { operations = (refl, tt); cases = tt }

-- the same loop behind a `return`, which nothing enters
abbrev dead_loop : List Block
dead_loop =
    block Ending.Return ∷ block (Ending.Branch 4 5) ∷ block (Ending.Back 3) ∷ block Ending.Return ∷ []

nothing_enters : IsEntered dead_loop 1 → ⊥
nothing_enters e = by e.from e.lower e.block e.there e.leads
  where
    by : (from : ℕ) → from < 1 → (b : Block) → slice_get dead_loop from ≡ Some b
        → among 3 (targets b.end) ≡ true → ⊥
    by zero lower b there leads =
        let same : block Ending.Return ≡ b = same_Some (block Ending.Return) b there in
        let never : among 3 [] ≡ true = subst (λ (b : Block). among 3 (targets b.end) ≡ true) (sym same) leads in cc
    by (suc from) lower b there leads = omega (arith, lower)
