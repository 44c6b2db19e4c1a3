-- One piece behind another.
use Rattle.std.proofs.Common.{◌∙◌, List, Result, Ok, Err, OnOk}
use Rattle.c_lower.specs.Items.{Item}
use Rattle.c_lower.specs.Building.{Making, Puts}

-- what a call puts behind what stands is put behind the whole
pub then_puts : {T E : Type 0} (r : Result T E) (a b c : Making) (f g : List Item → List Item)
    → Puts a b f → OnOk r (Puts b c g) → OnOk r (Puts a c (λ rest. f (g rest)))
then_puts (Ok x) a b c f g first more = λ gives rest. more gives rest ∙ first gives (g rest)
then_puts (Err e) a b c f g first more = tt

-- what a call says where it succeeds
pub on_ok : {T E : Type 0} (r : Result T E) (P Q : Type 0) → (P → Q) → OnOk r P → OnOk r Q
on_ok (Ok x) P Q then p = then p
on_ok (Err e) P Q then p = tt
