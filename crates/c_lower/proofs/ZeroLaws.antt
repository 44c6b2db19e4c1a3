-- Elements that become 0.
use Rattle.std.proofs.Common.{◌≡◌, ap, ℕ, suc, ◌-◌, ◌<◌, ◌≤◌, List, ◌∷◌, Option, None, pos, arith}
use Rattle.stack_ops.specs.declared.operation.Op.TheVariants as op
use Rattle.c_lower.specs.Items.{Item, zeros, plainly}

-- an index below the length is one more element
pub one_more : (first count index : ℕ) (line : Option ℕ) (rest : List Item) → index < count
    → zeros (count - index) first count index line rest
    ≡ plainly (op.Push (pos index)) (plainly (op.Push (pos 0)) (Item.Do (op.StoreLocalAt first count) line
    ∷ plainly op.Drop (zeros (count - suc index) first count (suc index) None rest)))
one_more first count index line rest less =
    let more : count - index ≡ suc (count - suc index) = omega (arith, less) in
    ap (λ n. zeros n first count index line rest) more

-- behind the last element nothing is left
pub no_more : (first count index : ℕ) (line : Option ℕ) (rest : List Item) → count ≤ index
    → zeros (count - index) first count index line rest ≡ rest
no_more first count index line rest all =
    let none : count - index ≡ 0 = omega (arith, all) in
    ap (λ n. zeros n first count index line rest) none
