-- Values that are branched on.
use Rattle.std.proofs.Common.{◌≡◌, refl, true, false, ℕ, List, ◌∷◌, Some, None}
use Rattle.c_tree.specs.TypedExpr.{TypedExpr, TypedKind}
use Rattle.c_lower.specs.Items.{Name, Close, Item, ways}
use Rattle.c_lower.specs.Conditions.{is_condition}

-- a value that is no condition by itself is branched on
pub plain_test : (e : TypedExpr) (node : ℕ) (t f : Name) (rest : List Item) → is_condition e ≡ false
    → (ways e node).test t f rest ≡ (ways e node).value (Item.End (Close.Branch t f) None ∷ rest)
plain_test (TypedExpr.At (TypedKind.Name c) b p l) node t f rest h = refl
plain_test (TypedExpr.At (TypedKind.Number n u) b p l) node t f rest h = refl
plain_test (TypedExpr.At TypedKind.EofName b p l) node t f rest h = refl
plain_test (TypedExpr.At (TypedKind.Call c es) b p l) node t f rest h = refl
plain_test (TypedExpr.At (TypedKind.Index c n pl m e) b p l) node t f rest h = refl
plain_test (TypedExpr.At (TypedKind.Convert e) b p l) node t f rest h = refl
plain_test (TypedExpr.At (TypedKind.Plus e) b p l) node t f rest h = refl
plain_test (TypedExpr.At (TypedKind.Minus e) b p l) node t f rest h = refl
plain_test (TypedExpr.At (TypedKind.Complement e) b p l) node t f rest h = refl
plain_test (TypedExpr.At (TypedKind.Not e) b p l) node t f rest h = absurd (let never : true ≡ false = h in cc)
plain_test (TypedExpr.At (TypedKind.Cast u e) b p l) node t f rest h = refl
plain_test (TypedExpr.At (TypedKind.Binary o x y) b p l) node t f rest h = refl
plain_test (TypedExpr.At (TypedKind.AndAlso x y) b p l) node t f rest h = absurd (let never : true ≡ false = h in cc)
plain_test (TypedExpr.At (TypedKind.OrElse x y) b p l) node t f rest h = absurd (let never : true ≡ false = h in cc)
plain_test (TypedExpr.At (TypedKind.Choose c x y) b p l) node t f rest h = refl
plain_test (TypedExpr.At (TypedKind.Assign None x y) b p l) node t f rest h = refl
plain_test (TypedExpr.At (TypedKind.Assign (Some o) x y) b p l) node t f rest h = refl
plain_test (TypedExpr.At (TypedKind.Before o e) b p l) node t f rest h = refl
plain_test (TypedExpr.At (TypedKind.After o e) b p l) node t f rest h = refl
plain_test (TypedExpr.At (TypedKind.Comma x y) b p l) node t f rest h = refl
