-- What the path bits are seen as when a call begins.
use Rattle.std.proofs.Common.{◌≡◌, refl, sym, ap, ℕ, ◌+◌, List, [], ◌∷◌, ◌++◌, length, take, drop, replicate, append_assoc}
use Rattle.std.proofs.lemmas.List.{take-append-drop, replicate-append-replicate}
use Rattle.std.proofs.Math.Seq.{drop-append_seam, take-append_seam}
use Rattle.stack_machine.specs.Bits.{BitsValue, begun_with}

abbrev pub seen : List ℕ → ℕ → ℕ → BitsValue
seen ws base room = record { below = take base ws; bits = drop base ws; room = room }

pub bits-more : (ws xs : List ℕ) (k n : ℕ) → xs ≡ ws ++ replicate k 0 → n ≡ k + 1 → xs ++ 0 ∷ [] ≡ ws ++ replicate n 0
bits-more ws xs k n e is =
    rw (e, is, append_assoc ws (replicate k 0) (0 ∷ [])) (ap (λ l. ws ++ l) (replicate-append-replicate k 1 0))

pub bits-begun : (ws zs : List ℕ) (base room words low : ℕ) (s : BitsValue)
    → seen ws base room ≡ s → zs ≡ ws ++ replicate words 0
    → low ≡ length ws → seen zs low room ≡ begun_with words s
bits-begun ws zs base room words low s e is l =
    rw (
      sym e,
      is,
      l,
      take-append_seam ws (replicate words 0),
      drop-append_seam ws (replicate words 0),
      take-append-drop base ws,
    ) refl
