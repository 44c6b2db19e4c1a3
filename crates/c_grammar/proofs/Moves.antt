-- Facts moved along equations.
use Rattle.std.proofs.Common.{◌≡◌, List, [], ◌∷◌, Option, Some, None, sym, ap, ◌∙◌, subst}

-- a fact of a value is one of its equal
pub moved1 : {A : Type 0} (P : A → Type 0) {x x' : A} → x ≡ x' → P x' → P x
moved1 P h p = subst P (sym h) p

-- a fact of two values is one of their equals
pub moved : {A B : Type 0} (P : A → B → Type 0) {x x' : A} {y y' : B} → (x ≡ x') × (y ≡ y') → P x' y' → P x y
moved P {x = x} {y' = y'} h p = subst (λ v. P x v) (sym h.1) (subst (λ u. P u y') (sym h.0) p)

-- a fact of three values is one of their equals
pub moved3 : {A B C : Type 0} (P : A → B → C → Type 0) {x x' : A} {y y' : B} {z z' : C} → x ≡ x' → (y ≡ y') × (z ≡ z')
    → P x' y' z' → P x y z
moved3 P {x = x} {y' = y'} {z' = z'} g h p = moved (λ v w. P x v w) h (subst (λ u. P u y' z') (sym g) p)

-- two equals of one value
pub joined : {A : Type 0} {a b x : A} → a ≡ x → b ≡ x → a ≡ b
joined e e' = e ∙ sym e'

-- what is made of equal values is equal
pub made1 : {A B : Type 0} (f : A → B) {x x' : A} {a b : B} → x ≡ x' → a ≡ f x → b ≡ f x' → a ≡ b
made1 f p e e' = e ∙ ap f p ∙ sym e'

pub made2 : {A B C : Type 0} (f : A → B → C) {x x' : A} {y y' : B} {a b : C} → x ≡ x' → y ≡ y' → a ≡ f x y → b ≡ f x'
    y' → a ≡ b
made2 f {x' = x'} {y = y} p q e e' = e ∙ ap (λ u. f u y) p ∙ ap (λ v. f x' v) q ∙ sym e'

pub made3 : {A B C D : Type 0} (f : A → B → C → D) {x x' : A} {y y' : B} {z z' : C} {a b : D} → x ≡ x' → y ≡ y' → z ≡ z'
    → a ≡ f x y z → b ≡ f x' y' z' → a ≡ b
made3 f {x' = x'} {y = y} {y' = y'} {z = z} p q r e e' = e ∙ ap (λ u. f u y z) p ∙ ap (λ v. f x' v z) q ∙ ap
    (λ w. f x' y' w) r ∙ sym e'

-- the values of two equal options
pub some_same : {A : Type 0} {x y : A} → Some x ≡ Some y → x ≡ y
some_same {x = x} e = ap (λ o. get x o) e
  where
    get : {A : Type 0} → A → Option A → A
    get x None = x
    get x (Some y) = y

-- the rests of two equal lists
pub rests_same : {A : Type 0} {x y : A} {xs ys : List A} → x ∷ xs ≡ y ∷ ys → xs ≡ ys
rests_same e = ap rest e
  where
    rest : {A : Type 0} → List A → List A
    rest [] = []
    rest (x ∷ xs) = xs

-- the heads of two equal lists
pub heads_same : {A : Type 0} {x y : A} {xs ys : List A} → x ∷ xs ≡ y ∷ ys → x ≡ y
heads_same {x = x} e = ap (first x) e
  where
    first : {A : Type 0} → A → List A → A
    first x [] = x
    first x (y ∷ ys) = y
