-- The walks of a function of the made source, and the prime paths that they cover, told number by number.
use Rattle.std.proofs.Common.{◌≡◌, ℕ, List, [], ◌∷◌, map, refl}
use Rattle.cov_base.specs.declared.net.ArcKind.TheVariants.{Real}
use Rattle.cov_base.specs.declared.net.FlowArc.{FlowArc}
use Rattle.word_rules.specs.WordRules.{Words, begin_spelled}
use Rattle.prime_paths.specs.Lister.{listing}
use Rattle.path_masks.specs.Masks.{bits_of, row_of_start}
use Rattle.path_masks.specs.Tables.{RowsValue, row_of}
use Rattle.path_masks.specs.NetWalks.{walked_by}

abbrev real : ℕ → ℕ → FlowArc
real a b = record { from = a; to = b; kind = Real }

abbrev clear : Words
clear = record { bits = 0 ∷ []; seen = 0 ∷ [] }

-- a function of the made source: a loop with an `if` in it, and a return behind it
abbrev made_arcs : List FlowArc
made_arcs = real 0 2 ∷ real 2 3 ∷ real 3 4 ∷ real 3 8 ∷ real 4 5 ∷ real 4 6 ∷ real 5 7 ∷ real 6 7 ∷ real 7 3 ∷ real 8 1 ∷ []

abbrev made_paths : List (List ℕ)
made_paths = (2 ∷ 3 ∷ 4 ∷ 5 ∷ 7 ∷ []) ∷ (2 ∷ 3 ∷ 4 ∷ 6 ∷ 7 ∷ []) ∷ (2 ∷ 3 ∷ 8 ∷ []) ∷ (3 ∷ 4 ∷ 5 ∷ 7 ∷ 3 ∷ [])
    ∷ (3 ∷ 4 ∷ 6 ∷ 7 ∷ 3 ∷ []) ∷ (4 ∷ 5 ∷ 7 ∷ 3 ∷ 4 ∷ []) ∷ (4 ∷ 5 ∷ 7 ∷ 3 ∷ 8 ∷ []) ∷ (4 ∷ 6 ∷ 7 ∷ 3 ∷ 4 ∷ [])
    ∷ (4 ∷ 6 ∷ 7 ∷ 3 ∷ 8 ∷ []) ∷ (5 ∷ 7 ∷ 3 ∷ 4 ∷ 5 ∷ []) ∷ (5 ∷ 7 ∷ 3 ∷ 4 ∷ 6 ∷ []) ∷ (6 ∷ 7 ∷ 3 ∷ 4 ∷ 5 ∷ [])
    ∷ (6 ∷ 7 ∷ 3 ∷ 4 ∷ 6 ∷ []) ∷ (7 ∷ 3 ∷ 4 ∷ 5 ∷ 7 ∷ []) ∷ (7 ∷ 3 ∷ 4 ∷ 6 ∷ 7 ∷ []) ∷ []

made-listing : listing (record { blocks = 9; arcs = made_arcs; lines = [] }) ≡ made_paths
made-listing = refl

abbrev made_rows : RowsValue
made_rows = record {
  width = 1;
  begin = begin_spelled (row_of_start 2 made_paths);
  passes = map (row_of made_paths) made_arcs;
}

-- the walks of its calls with 0 and with 1: the first covers 2 3 8, the second 2 3 4 6 7, 3 4 6 7 3 and 4 6 7 3 8
made-first : (walked_by made_arcs made_rows clear (0 ∷ 2 ∷ 3 ∷ 8 ∷ 1 ∷ [])).seen ≡ 4 ∷ []
made-first = refl

made-second : (walked_by made_arcs made_rows clear (0 ∷ 2 ∷ 3 ∷ 4 ∷ 6 ∷ 7 ∷ 3 ∷ 8 ∷ 1 ∷ [])).seen ≡ 274 ∷ []
made-second = refl

made-bits : bits_of made_paths ((0 ∷ 2 ∷ 3 ∷ 8 ∷ 1 ∷ []) ∷ (0 ∷ 2 ∷ 3 ∷ 4 ∷ 6 ∷ 7 ∷ 3 ∷ 8 ∷ 1 ∷ []) ∷ []) ≡ 278 ∷ []
made-bits = refl
