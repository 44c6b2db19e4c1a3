-- What the reader and the checker say of the text.
use Rattle.std.proofs.Common.{◌≡◌, ℕ, List, [], sym, subst}
use Rattle.cov_base.specs.declared.refusal.Refusal.{Refusal}
use Rattle.cov_base.specs.declared.refusal.Refusal.TheVariants as refusal
use Rattle.c_tree.specs.Tree.{Tree}
use Rattle.c_tree.specs.Typed.{Typed}
use Rattle.c_typing.specs.declared.fault.TypeFault.{TypeFault}
use Rattle.c_typing.specs.Sources.{type_faults, typed_of}
use Rattle.c_values.specs.Checks.{Stands}
use Rattle.front_rows.specs.declared.text_tree.TextFault.{TextFault}
use Rattle.front_rows.specs.TextTree.{IsTreeOf, RefusesText}
use Rattle.type_rows.specs.declared.typed_text.TypedFault.TheVariants as fault
use Rattle.type_rows.specs.TypedText.{IsTypedOf, RefusesTyped}

-- memory ran out
pub memory : {text : List ℕ} → RefusesTyped text refusal.NoMemory
memory = RefusesTyped.no_memory

-- no fault stands in the tree, and this is its typed form
pub is_typed : {text : List ℕ} {tree : Tree} {typed : Typed} → IsTreeOf text tree
    → (type_faults tree ≡ []) × (typed ≡ typed_of tree) → IsTypedOf text typed
is_typed {tree = tree} t c = record { tree = tree; is_tree = t; fine = c.0; is = c.1 }

-- the text has no tree
pub not_read : {text : List ℕ} {e : Refusal TextFault} {found told : TextFault} → e ≡ refusal.Refused found → told ≡ found
    → RefusesText text e → RefusesTyped text (refusal.Refused (fault.Text told))
not_read {text = text} f t r =
    subst (λ x. RefusesTyped text (refusal.Refused (fault.Text x))) (sym t)
    (RefusesTyped.no_tree (subst (λ x. RefusesText text x) f r))

-- a fault of names or types stands in the tree
pub not_typed : {text : List ℕ} {tree : Tree} {e : Refusal TypeFault} {found : TypeFault} → IsTreeOf text tree
    → e ≡ refusal.Refused found → Stands (type_faults tree) e → RefusesTyped text (refusal.Refused (fault.Types found))
not_typed {tree = tree} t f s = RefusesTyped.no_types t (subst (λ x. Stands (type_faults tree) x) f s)
