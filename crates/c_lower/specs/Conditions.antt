-- Which expressions are conditions by themselves.
use Rattle.std.specs.Prelude.{Bool, true, false}
use Rattle.c_tree.specs.TypedExpr.{TypedExpr, TypedKind}

-- `!`, `&&` and `||` say themselves where they go; any other value is branched on.
abbrev pub is_condition : TypedExpr → Bool
is_condition (TypedExpr.At (TypedKind.Not e) base place line) = true
is_condition (TypedExpr.At (TypedKind.AndAlso l r) base place line) = true
is_condition (TypedExpr.At (TypedKind.OrElse l r) base place line) = true
is_condition (TypedExpr.At kind base place line) = false
