-- How records are spelled.
use Rattle.std.specs.Prelude.{ℕ, ◌+◌, ◌*◌, List, [], ◌∷◌, ◌++◌, length}
use Rattle.gcov_items.specs.Items.{long_bytes, header_bytes}

-- values one behind the other, each spelled with its number, which the first has from here on
abbrev pub spelled_from : {A : Type 0} → ℕ → (ℕ → A → List ℕ) → List A → List ℕ
spelled_from i spell [] = []
spelled_from i spell (x ∷ xs) = spell i x ++ spelled_from (i + 1) spell xs

-- longs
abbrev pub longs_bytes : List ℕ → List ℕ
longs_bytes numbers = spelled_from 0 (λ i. long_bytes) numbers

-- a record of longs: its tag, the number of its bytes, the longs
unfoldable pub long_record : ℕ → List ℕ → List ℕ
long_record tag numbers = header_bytes (tag, 8 * length numbers) ++ longs_bytes numbers
