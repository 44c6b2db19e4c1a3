-- New numbers of marked blocks.
use Rattle.std.specs.Prelude.{◌≡◌, ℕ, suc, ◌-◌, nat_lt, Bool, true, false, Option, Some, None, cond, List, [], ◌∷◌}
use Rattle.std.specs.Prelude.{get_or}
use Rattle.flow_graph.specs.Graph.{Block}
use Rattle.flow_graph.specs.Nets.{renamed}

-- for each block the number of the next marked one, where the first of those has the number r
abbrev pub numbers_before : ℕ → List Bool → List ℕ
numbers_before r [] = []
numbers_before r (m ∷ marks) = r ∷ numbers_before (cond m (suc r) r) marks

-- the number behind the last marked block
abbrev pub number_behind : ℕ → List Bool → ℕ
number_behind r [] = r
number_behind r (m ∷ marks) = number_behind (cond m (suc r) r) marks

-- The new number of a block: the entry and the exit keep theirs, a marked block has that of the next marked one, and
-- each other the number behind the last.
abbrev pub number_by : List Bool → ℕ → ℕ
number_by marks t = cond (nat_lt t 2) t
    (cond (get_or marks (t - 2) false) (get_or (numbers_before 2 marks) (t - 2) 0) (number_behind 2 marks))

-- the table of numbers and the number behind the last are those of the marks
pub record AreNumbers (marks : List Bool) (numbers : List ℕ) (next : ℕ) : Type 0 where
  pub numbers_are : numbers ≡ numbers_before 2 marks
  pub next_is : next ≡ number_behind 2 marks

-- the marked blocks with their endings renamed
abbrev pub kept_by : (ℕ → ℕ) → List Bool → List Block → List Block
kept_by f [] bs = []
kept_by f (m ∷ marks) [] = []
kept_by f (m ∷ marks) (b ∷ bs) = cond m (record b { end = renamed f b.end } ∷ kept_by f marks bs) (kept_by f marks bs)

-- a block with its ending renamed, if it is there and marked
abbrev pub kept_here : (ℕ → ℕ) → Bool → Option Block → List Block
kept_here f false o = []
kept_here f true None = []
kept_here f true (Some b) = record b { end = renamed f b.end } ∷ []
