-- The typed form of a text.
use Rattle.std.specs.Prelude.{◌≡◌, ℕ, List, [], Contains}
use Rattle.cov_base.specs.declared.refusal.Refusal.{Refusal}
use Rattle.cov_base.specs.declared.refusal.Refusal.TheVariants as refusal
use Rattle.c_tree.specs.Tree.{Tree}
use Rattle.c_tree.specs.Typed.{Typed}
use Rattle.c_typing.specs.declared.fault.TypeFault.{TypeFault}
use Rattle.c_typing.specs.Sources.{type_faults, typed_of}
use Rattle.front_rows.specs.declared.text_tree.TextFault.{TextFault}
use Rattle.front_rows.specs.TextTree.{IsTreeOf, RefusesText}
use Rattle.type_rows.specs.declared.typed_text.TypedFault.{TypedFault}
use Rattle.type_rows.specs.declared.typed_text.TypedFault.TheVariants as fault

-- The text has a tree without faults of names and types, and this is its typed form.
pub record IsTypedOf (text : List ℕ) (typed : Typed) : Type 0 where
  pub tree : Tree
  pub is_tree : IsTreeOf text tree
  pub fine : type_faults tree ≡ []
  pub is : typed ≡ typed_of tree

-- Why a text has no typed form: it has no tree, or a fault of names or types stands in its tree; or memory ran out.
pub data RefusesTyped (text : List ℕ) : Refusal TypedFault → Type 0 where
  no_tree : {found : TextFault} → RefusesText text (refusal.Refused found)
      → RefusesTyped text (refusal.Refused (fault.Text found))
  no_types : {tree : Tree} {found : TypeFault} → IsTreeOf text tree → Contains (type_faults tree) found
      → RefusesTyped text (refusal.Refused (fault.Types found))
  no_memory : RefusesTyped text refusal.NoMemory
