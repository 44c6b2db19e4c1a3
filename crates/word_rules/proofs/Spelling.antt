-- Rows read back from what spells them.
use Rattle.std.proofs.Common.{◌≡◌, refl, ap, List, [], ◌∷◌}
use Rattle.word_rules.specs.WordRules.{BeginEntry, PassEntry, begin_spelled, pass_spelled, begin_row, pass_row}

pub begin_read : (row : List BeginEntry) → begin_row (begin_spelled row) ≡ row
begin_read [] = refl
begin_read (e ∷ row) = ap (λ (l : List BeginEntry). e ∷ l) (begin_read row)

pub pass_read : (row : List PassEntry) → pass_row (pass_spelled row) ≡ row
pass_read [] = refl
pass_read (e ∷ row) = ap (λ (l : List PassEntry). e ∷ l) (pass_read row)
