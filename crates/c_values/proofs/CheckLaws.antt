-- A fault that stands in a part stands in the whole.
use Rattle.std.proofs.Common.{arith, ◌≡◌, refl, sym, subst, ℕ, Result, Bool, true, false, cond, ◌&&◌, List, [], ◌∷◌, ◌++◌}
use Rattle.std.specs.Prelude.{Contains}
use Rattle.std.proofs.lemmas.List.Elements.{Contains-append_left, Contains-append_right}
use Rattle.cov_base.specs.declared.refusal.Refusal.{Refusal}
use Rattle.cov_base.specs.declared.refusal.Refusal.TheVariants as refusal
use Rattle.c_typing.specs.declared.fault.TypeFault.{TypeFault}
use Rattle.c_tree.specs.declared.expr.Base.{Base}
use Rattle.c_typing.specs.TypedForms.{is_void}
use Rattle.c_typing.specs.ExprFaults.{counted, wanted, sides}
use Rattle.c_values.specs.Checks.{Stands, Checks}

pub in_left : (fs gs : List TypeFault) (e : Refusal TypeFault) → Stands fs e → Stands (fs ++ gs) e
in_left fs gs (refusal.Refused f) h = Contains-append_left fs gs f h
in_left fs gs refusal.NoMemory h = tt

pub in_right : (fs gs : List TypeFault) (e : Refusal TypeFault) → Stands gs e → Stands (fs ++ gs) e
in_right fs gs (refusal.Refused f) h = Contains-append_right fs gs f h
in_right fs gs refusal.NoMemory h = tt

-- where the first faults are none, the others are all
pub behind_none : {A V : Type 0} (view : A → V) (fs gs : List TypeFault) (x : V) (r : Result A (Refusal TypeFault))
    → fs ≡ [] → Checks view gs x r → Checks view (fs ++ gs) x r
behind_none view fs gs x r none h = subst (λ f. Checks view (f ++ gs) x r) (sym none) h

pub at_end : (fs : List TypeFault) (f : TypeFault) → Contains (fs ++ f ∷ []) f
at_end fs f = Contains-append_right fs (f ∷ []) f (0, omega arith, refl)

-- a fault of the second or third operand of `?:` stands
pub in_first_side : (fs : List TypeFault) (b : Base) (p : ℕ) (gs : List TypeFault) (c : Base) (q : ℕ)
    (e : Refusal TypeFault) → Stands fs e → Stands (sides fs b p gs c q) e
in_first_side [] b p gs c q (refusal.Refused f) h = absurd (omega (arith, h.1))
in_first_side (f ∷ fs) b p gs c q e h = in_left ((f ∷ fs) ++ []) (wanted gs c q) e (in_left (f ∷ fs) [] e h)
in_first_side [] b p gs c q refusal.NoMemory h = tt

pub in_second_side : (fs : List TypeFault) (b : Base) (p : ℕ) (gs : List TypeFault) (c : Base) (q : ℕ)
    (e : Refusal TypeFault) → Stands gs e → Stands (sides fs b p gs c q) e
in_second_side fs b p [] c q (refusal.Refused f) h = absurd (omega (arith, h.1))
in_second_side fs b p [] c q refusal.NoMemory h = tt
in_second_side fs b p (g ∷ gs) c q e h = by (is_void (counted fs b))
  where
    whole : Stands (wanted fs b p ++ wanted (g ∷ gs) c q) e
    whole = in_right (wanted fs b p) (wanted (g ∷ gs) c q) e (in_left (g ∷ gs) [] e h)

    by : (v : Bool) → Stands (cond (v && false) [] (wanted fs b p ++ wanted (g ∷ gs) c q)) e
    by true = whole
    by false = whole
