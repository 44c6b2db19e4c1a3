-- The bytes that the writes so far appended.
use Rattle.std.proofs.Common.{◌≡◌, ℕ, ◌≤◌, ◌+◌, ◌-◌, List, ◌++◌, length, take, drop, arith, ap, append_assoc, length-drop}
use Rattle.std.specs.Prelude.{Option, Some, None, Ok}
use Rattle.std.proofs.lemmas.Option.{same_Some}
use Rattle.std.proofs.Math.Seq.{take-add}
use Rattle.std.proofs.lemmas.List.{take_all}
use Rattle.cov_outside.specs.Outside.{Writes}

-- these bytes were appended, where told
abbrev pub Wrote : Option (List ℕ) → Option (List ℕ) → List ℕ → Type 0
Wrote (Some before) after done = after ≡ Some (before ++ done)
Wrote None after done = after ≡ None

-- the bytes from a place on
abbrev pub rest_from : ℕ → List ℕ → List ℕ
rest_from at bytes = take (length bytes - at) (drop at bytes)

pub rest_is : (at : ℕ) (bytes : List ℕ) → rest_from at bytes ≡ drop at bytes
rest_is at bytes = take_all _ _ (omega (arith, length-drop at bytes))

-- the part that a write took stays within the bytes
pub fits_more : (at n : ℕ) (bytes : List ℕ) → at ≤ length bytes → n ≤ length (rest_from at bytes) → at + n ≤ length bytes
fits_more at n bytes fits more = omega (arith, ap length (rest_is at bytes), length-drop at bytes)

-- what a write appends is the next part of the bytes
pub Wrote-more : (first now next : Option (List ℕ)) (at n : ℕ) (bytes : List ℕ) → Wrote first now (take at bytes) → Writes now next (Ok n) (rest_from at bytes) → Wrote first next (take (at + n) bytes)
Wrote-more (Some first) (Some now) next at n bytes so_far more =
    rw (more, rest_is at bytes, same_Some _ _ so_far, take-add at n bytes) (ap Some (append_assoc first (take at bytes) (take n (drop at bytes))))
Wrote-more (Some first) None next at n bytes so_far more = cc
Wrote-more None (Some now) next at n bytes so_far more = cc
Wrote-more None None next at n bytes so_far more = more
