-- Where blocks begin, as a table tells it, and how long the code of an ending is.
use Rattle.std.specs.Prelude.{ℕ, ◌+◌, ◌-◌, nat_lt, cond, List, [], ◌∷◌, length, get_or}
use Rattle.stack_ops.specs.declared.operation.Op.{Op}
use Rattle.flow_graph.specs.Graph.{Ending}
use Rattle.stack_code.specs.Laying.{stub, end_code}

-- the place of a block, where the table has one for each from block 2 on: every other block stands at the end
abbrev pub place_in : List ℕ → ℕ → ℕ → ℕ
place_in places end block = cond (nat_lt block 2) end (get_or places (block - 2) end)

-- no place counts for its length
abbrev pub end_size : (ℕ → List Op) → ℕ → Ending → ℕ
end_size m next end = length (end_code m next (λ x. 0) 0 end)

-- where the stub of each of these blocks stands, the first at q
abbrev pub stubs_from : (ℕ → List Op) → ℕ → List ℕ → List ℕ
stubs_from m q [] = []
stubs_from m q (t ∷ ts) = q ∷ stubs_from m (q + length (stub (m t) 0)) ts

-- where the last of them ends
abbrev pub stubs_end : (ℕ → List Op) → ℕ → List ℕ → ℕ
stubs_end m q [] = q
stubs_end m q (t ∷ ts) = stubs_end m (q + length (stub (m t) 0)) ts
