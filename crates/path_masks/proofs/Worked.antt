-- Bits along walks, and the tables of small nets, told number by number.
use Rattle.std.proofs.Common.{◌≡◌, ℕ, List, [], ◌∷◌, ◌++◌, map, refl, length, Some, None}
use Rattle.cov_base.specs.declared.net.ArcKind.TheVariants.{Real}
use Rattle.cov_base.specs.declared.net.FlowArc.{FlowArc}
use Rattle.word_rules.specs.WordRules.{Words}
use Rattle.prime_paths.specs.Lister.{numbers}
use Rattle.path_masks.specs.Masks.{walks_by, table_of, bits_of, row_of_move}
use Rattle.path_masks.specs.Tables.{row_of, number_at}

abbrev real : ℕ → ℕ → FlowArc
real a b = record { from = a; to = b; kind = Real }

-- the prime paths of a loop of three blocks behind one
abbrev loop_paths : List (List ℕ)
loop_paths = (2 ∷ 3 ∷ 4 ∷ 5 ∷ []) ∷ (3 ∷ 4 ∷ 5 ∷ 3 ∷ []) ∷ (4 ∷ 5 ∷ 3 ∷ 4 ∷ []) ∷ (5 ∷ 3 ∷ 4 ∷ 5 ∷ []) ∷ []

abbrev clear : Words
clear = record { bits = 0 ∷ []; seen = 0 ∷ [] }

once-words : walks_by loop_paths 2 (3 ∷ 4 ∷ 5 ∷ []) clear ≡ record { bits = 15 ∷ []; seen = 1 ∷ [] }
once-words = refl

twice-words : walks_by loop_paths 2 (3 ∷ 4 ∷ 5 ∷ 3 ∷ 4 ∷ 5 ∷ []) clear ≡ record { bits = 14 ∷ []; seen = 15 ∷ [] }
twice-words = refl

twice-bits : bits_of loop_paths ((0 ∷ 2 ∷ 3 ∷ 4 ∷ 5 ∷ 3 ∷ 4 ∷ 5 ∷ 1 ∷ []) ∷ []) ≡ 15 ∷ []
twice-bits = refl

-- a `while` loop has four arcs with a row and a table of 24 numbers
abbrev while_arcs : List FlowArc
while_arcs = real 0 2 ∷ real 2 3 ∷ real 3 4 ∷ real 3 5 ∷ real 4 3 ∷ real 5 1 ∷ []

abbrev while_paths : List (List ℕ)
while_paths = (2 ∷ 3 ∷ 4 ∷ []) ∷ (2 ∷ 3 ∷ 5 ∷ []) ∷ (3 ∷ 4 ∷ 3 ∷ []) ∷ (4 ∷ 3 ∷ 4 ∷ []) ∷ (4 ∷ 3 ∷ 5 ∷ []) ∷ []

while-table : length (table_of while_arcs while_paths) ≡ 24
while-table = refl

-- its arcs into block 2 and into the exit have no row, and the others have theirs in order
while-numbers : map (number_at (map (row_of while_paths) while_arcs)) (numbers 0 7)
    ≡ None ∷ Some 0 ∷ Some 1 ∷ Some 2 ∷ Some 3 ∷ None ∷ None ∷ []
while-numbers = refl

abbrev star_paths : List (List ℕ)
star_paths = map (λ k. 2 ∷ k ∷ 203 ∷ []) (numbers 3 200)

-- the row of the last way's beginning: a path of the last word goes by it
star-last-row : row_of_move 2 202 star_paths
    ≡ record { word = 0; keep = 0; finish = 0; start = 0 } ∷ record { word = 1; keep = 0; finish = 0; start = 0 }
    ∷ record { word = 2; keep = 0; finish = 0; start = 0 } ∷ record { word = 3; keep = 128; finish = 0; start = 0 } ∷ []
star-last-row = refl

-- the row of one way's end
star-row : row_of_move 10 203 star_paths ≡ record { word = 0; keep = 128; finish = 128; start = 0 } ∷ []
star-row = refl

abbrev star_arcs : List FlowArc
star_arcs = real 0 2 ∷ (map (λ k. real 2 k) (numbers 3 200) ++
    (map (λ k. real k 203) (numbers 3 200) ++ real 203 1 ∷ []))

star-table : length (table_of star_arcs star_paths) ≡ 4413
star-table = refl
