-- Texts behind one another.
use Rattle.std.proofs.Common.{◌≡◌, ℕ, List, ◌++◌, ap, ap₂, ◌∙◌, append_assoc}

-- Four texts that were appended, where two of them are others.
pub four_texts : (out o1 o2 o3 o4 a b c d f g : List ℕ) → o1 ≡ out ++ a → o2 ≡ o1 ++ b → o3 ≡ o2 ++ c → o4 ≡ o3 ++ d
    → b ≡ f → d ≡ g → o4 ≡ out ++ (a ++ (f ++ (c ++ g)))
four_texts out o1 o2 o3 o4 a b c d f g e1 e2 e3 e4 same_b same_d =
    e4 ∙ (ap (λ (l : List ℕ). l ++ d) (e3 ∙ ap (λ (l : List ℕ). l ++ c) (e2 ∙ ap (λ (l : List ℕ). l ++ b) e1))
    ∙ (append_assoc ((out ++ a) ++ b) c d ∙ (append_assoc (out ++ a) b (c ++ d) ∙ (append_assoc out a (b ++ (c ++ d))
    ∙ ap₂ (λ (x y : List ℕ). out ++ (a ++ (x ++ (c ++ y)))) same_b same_d))))
