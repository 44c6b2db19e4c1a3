-- What the checker and the lowering say of the text.
use Rattle.std.proofs.Common.{◌≡◌, ℕ, List, None, sym, subst}
use Rattle.cov_base.specs.declared.refusal.Refusal.{Refusal}
use Rattle.cov_base.specs.declared.refusal.Refusal.TheVariants as refusal
use Rattle.c_tree.specs.Typed.{Typed}
use Rattle.c_lower.specs.declared.lowering.LowerFault.{LowerFault}
use Rattle.c_lower.specs.Lowered.{unit_of}
use Rattle.c_lower.specs.Refusals.{lower_fault, Refuses}
use Rattle.flow_graph.specs.Graph.{GraphUnit}
use Rattle.type_rows.specs.declared.typed_text.TypedFault.{TypedFault}
use Rattle.type_rows.specs.TypedText.{IsTypedOf, RefusesTyped}
use Rattle.lower_rows.specs.declared.lowered_text.LoweredFault.TheVariants as fault
use Rattle.lower_rows.specs.LoweredText.{IsLoweredOf, RefusesLowered}

-- memory ran out
pub memory : {text : List ℕ} → RefusesLowered text refusal.NoMemory
memory = RefusesLowered.no_memory

-- nothing is too large, and these are the graphs
pub is_lowered : {text : List ℕ} {typed : Typed} {unit : GraphUnit} → IsTypedOf text typed
    → (unit ≡ unit_of typed) × (lower_fault typed ≡ None) → IsLoweredOf text unit
is_lowered {typed = typed} t l = record { typed = typed; is_typed = t; fits = l.1; is = l.0 }

-- the text has no typed form
pub not_typed : {text : List ℕ} {e : Refusal TypedFault} {found told : TypedFault} → e ≡ refusal.Refused found → told ≡ found
    → RefusesTyped text e → RefusesLowered text (refusal.Refused (fault.Typed told))
not_typed {text = text} f t r =
    subst (λ x. RefusesLowered text (refusal.Refused (fault.Typed x))) (sym t)
    (RefusesLowered.no_types (subst (λ x. RefusesTyped text x) f r))

-- the globals or a frame are too large
pub not_lowered : {text : List ℕ} {typed : Typed} {e : Refusal LowerFault} {found : LowerFault} → IsTypedOf text typed
    → e ≡ refusal.Refused found → Refuses (lower_fault typed) e → RefusesLowered text (refusal.Refused (fault.Lower found))
not_lowered {typed = typed} t f r = RefusesLowered.too_large t (subst (λ x. Refuses (lower_fault typed) x) f r)
