-- The numbers of named blocks, held by the node of the name.
use Rattle.std.specs.Prelude.{ℕ, suc, ◌==◌, cond, List, [], ◌∷◌, get_or}
use Rattle.c_lower.specs.declared.numbers.Entry.{Entry}
use Rattle.c_lower.specs.Items.{Name}
use Rattle.c_lower.specs.Lowered.{Named, is_name}

-- the number of a part among the blocks of its node, or else another number
abbrev pub number_in : List Entry → ℕ → ℕ → ℕ
number_in [] part other = other
number_in (e ∷ row) part other = cond (part == e.part) e.number (number_in row part other)

-- the number of a name, or else another number
abbrev pub number_at : List (List Entry) → Name → ℕ → ℕ
number_at rows l other = number_in (get_or rows l.node []) l.part other

-- the number of a name among blocks of which the first has the number n, or else another number
abbrev pub number_or : ℕ → List Named → Name → ℕ → ℕ
number_or n [] l other = other
number_or n (b ∷ bs) l other = cond (is_name l b.name) n (number_or (suc n) bs l other)
