-- What stands in a list from a place on.
use Rattle.std.proofs.Common.{◌≡◌, refl, subst, ◌∙◌, ℕ, suc, ◌+◌, List, [], ◌∷◌, ◌++◌}
use Rattle.std.proofs.Common.{length, Some, arith, length-append, append_assoc}
use Rattle.std.specs.Prelude.{slice_get}
use Rattle.stack_code.specs.Emits.{Has}

pub has_join : {A : Type 0} (xs : List A) (at : ℕ) (ys zs : List A) → Has xs at (ys ++ zs)
    → Has xs at ys × Has xs (at + length ys) zs
has_join xs at [] zs h = (tt, subst (λ n. Has xs n zs) (omega arith) h)
has_join xs at (y ∷ ys) zs h =
    let k = has_join xs (suc at) ys zs h.1 in ((h.0, k.0), subst (λ n. Has xs n zs) (omega arith) k.1)

pub at_seam : {A : Type 0} (pre : List A) (x : A) (post : List A) → slice_get (pre ++ (x ∷ post)) (length pre) ≡ Some x
at_seam [] x post = refl
at_seam (p ∷ pre) x post = at_seam pre x post

pub has_within : {A : Type 0} (pre is post : List A) → Has (pre ++ (is ++ post)) (length pre) is
has_within pre [] post = tt
has_within pre (x ∷ is) post = (
  at_seam pre x (is ++ post),
  subst (λ n. Has (pre ++ ((x ∷ is) ++ post)) n is) (length-append pre (x ∷ []) ∙ omega arith)
      (subst (λ l. Has l (length (pre ++ x ∷ [])) is) (append_assoc pre (x ∷ []) (is ++ post))
      (has_within (pre ++ x ∷ []) is post)),
)
