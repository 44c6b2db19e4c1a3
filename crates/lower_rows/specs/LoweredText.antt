-- The graphs of a text before they are pruned.
use Rattle.std.specs.Prelude.{◌≡◌, ℕ, List, Some, None}
use Rattle.cov_base.specs.declared.refusal.Refusal.{Refusal}
use Rattle.cov_base.specs.declared.refusal.Refusal.TheVariants as refusal
use Rattle.c_tree.specs.Typed.{Typed}
use Rattle.c_lower.specs.declared.lowering.LowerFault.{LowerFault}
use Rattle.c_lower.specs.Lowered.{unit_of}
use Rattle.c_lower.specs.Refusals.{lower_fault}
use Rattle.flow_graph.specs.Graph.{GraphUnit}
use Rattle.type_rows.specs.declared.typed_text.TypedFault.{TypedFault}
use Rattle.type_rows.specs.TypedText.{IsTypedOf, RefusesTyped}
use Rattle.lower_rows.specs.declared.lowered_text.LoweredFault.{LoweredFault}
use Rattle.lower_rows.specs.declared.lowered_text.LoweredFault.TheVariants as fault

-- The text has a typed form whose globals and frames are within their limits, and these are its graphs.
pub record IsLoweredOf (text : List ℕ) (unit : GraphUnit) : Type 0 where
  pub typed : Typed
  pub is_typed : IsTypedOf text typed
  pub fits : lower_fault typed ≡ None
  pub is : unit ≡ unit_of typed

-- Why a text has no graphs: it has no typed form, or its globals or a frame are too large; or memory ran out.
pub data RefusesLowered (text : List ℕ) : Refusal LoweredFault → Type 0 where
  no_types : {found : TypedFault} → RefusesTyped text (refusal.Refused found)
      → RefusesLowered text (refusal.Refused (fault.Typed found))
  too_large : {typed : Typed} {found : LowerFault} → IsTypedOf text typed → lower_fault typed ≡ Some found
      → RefusesLowered text (refusal.Refused (fault.Lower found))
  no_memory : RefusesLowered text refusal.NoMemory
