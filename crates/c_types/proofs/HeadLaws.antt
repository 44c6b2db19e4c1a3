-- Heads of functions.
use Rattle.std.proofs.Common.{arith, ◌≡◌, refl, ap, ℕ, Bool, true, false, ◌&&◌, List, length, [], ◌∷◌, ◌++◌, Some, map}
use Rattle.c_tree.specs.declared.tree.Param.{Param as ParamHeld}
use Rattle.c_tree.specs.TreeView.{param_view}
use Rattle.c_typing.specs.Names.{Here, is_declared}
use Rattle.c_typing.specs.ExprFaults.{void_value}
use Rattle.c_tree.specs.declared.expr.Base.{Base}
use Rattle.c_typing.specs.TypedForms.{same_base}
use Rattle.c_typing.specs.Sources.{same_bases, param_faults, params_faults, declare_param, declare_params, void_params}
use Rattle.c_types.proofs.DeclLaws.{again}
use Rattle.c_values.proofs.ListLaws.{Walk, faults_in, behind}

-- a parameter without fault has a new name
pub new_param : (h : Here) (name : List ℕ) (place : ℕ) → param_faults h (Some name) place ≡ []
    → is_declared h.scopes name ≡ false
new_param h name place e = again (is_declared h.scopes name) place e

-- parameters that are declared
abbrev pub parameters : Walk ParamHeld ℕ Here
parameters = record {
  faults = λ h p. param_faults h p.name p.place;
  seen = λ h p. [];
  next = λ h p. declare_param h p.name p.base;
}

pub params_faults_are : (h : Here) (ps : List ParamHeld) → faults_in parameters h ps
    ≡ params_faults h (map param_view ps)
params_faults_are h [] = refl
params_faults_are h (p ∷ ps) =
    ap (λ fs. param_faults h p.name p.place ++ fs) (params_faults_are (declare_param h p.name p.base) ps)

pub params_end : (h : Here) (ps : List ParamHeld) → behind parameters h ps ≡ declare_params h (map param_view ps)
params_end h [] = refl
params_end h (p ∷ ps) = params_end (declare_param h p.name p.base) ps

-- parameters of which none is void
abbrev pub valued : Walk ParamHeld ℕ ℕ
valued = record {
  faults = λ h p. void_value p.base p.place;
  seen = λ h p. [];
  next = λ h p. h;
}

pub void_params_are : (h : ℕ) (ps : List ParamHeld) → faults_in valued h ps ≡ void_params (map param_view ps)
void_params_are h [] = refl
void_params_are h (p ∷ ps) = ap (λ fs. void_value p.base p.place ++ fs) (void_params_are h ps)

false_with : (x y : Bool) → false ≡ y → false ≡ (x && y)
false_with true y e = e
false_with false y e = refl

-- other numbers of types differ
pub other_count : (bs : List Base) (ps : List ParamHeld) → (length bs ≡ length ps → ⊥)
    → false ≡ same_bases bs (map (λ p. p.base) (map param_view ps))
other_count [] [] h = absurd (h refl)
other_count [] (p ∷ ps) h = refl
other_count (b ∷ bs) [] h = refl
other_count (b ∷ bs) (p ∷ ps) h =
    false_with (same_base b p.base) (same_bases bs (map (λ p. p.base) (map param_view ps)))
    (other_count bs ps (λ e. h (omega (arith, e))))

-- no types are the same as none
pub none_same : (bs : List Base) → same_bases [] bs ≡ same_bases bs []
none_same [] = refl
none_same (b ∷ bs) = refl
