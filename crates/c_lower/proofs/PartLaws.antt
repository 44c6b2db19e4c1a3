-- Parts of typed trees, and how many nodes they have.
use Rattle.std.proofs.Common.{◌≡◌, refl, ap, ℕ, zero, suc, ◌+◌, ◌<◌, ◌≤◌, List, [], ◌∷◌, map, length, get_or, arith}
use Rattle.c_tree.specs.declared.typed_expr.TypedExpr.{TypedExpr as ExprHeld}
use Rattle.c_tree.specs.declared.typed_stmt.TypedStmt.{TypedStmt as StmtHeld}
use Rattle.c_tree.specs.declared.typed_stmt.TypedSwitchItem.{TypedSwitchItem as ItemHeld}
use Rattle.c_tree.specs.TypedStmt.{TypedForHead}
use Rattle.c_tree.specs.TypedView.{typed_expr_view, typed_exprs_of, typed_stmt_view, typed_stmts_of, typed_items_of}
use Rattle.c_lower.specs.Items.{nodes, all_nodes, stmt_nodes, stmts_nodes, item_nodes, items_nodes, other_nodes}
use Rattle.c_lower.specs.PartViews.{item_view}

-- how many nodes the first part of a `for` has
abbrev pub first_of : TypedForHead → ℕ
first_of (TypedForHead.Head first test step) = other_nodes first

-- a member of a list has no more than all members have together
below : {A : Type 0} (weight : A → ℕ) (total : List A → ℕ)
    → ((x : A) (xs : List A) → total (x ∷ xs) ≡ weight x + total xs)
    → (xs : List A) (i : ℕ) (x : A) → i < length xs → x ≡ get_or xs i x → weight x ≤ total xs
below weight total sums [] i x less is = absurd (omega (arith, less))
below weight total sums (y ∷ ys) zero x less is =
    let same = ap weight is in let sum = sums y ys in omega (arith, same, sum)
below weight total sums (y ∷ ys) (suc i) x less is =
    let more = below weight total sums ys i x (omega (arith, less)) is in
    let sum = sums y ys in omega (arith, more, sum)

pub part_below : (es : List ExprHeld) (i : ℕ) (e : ExprHeld) → i < length es → e ≡ get_or es i e
    → nodes (typed_expr_view e) ≤ all_nodes (typed_exprs_of (map typed_expr_view es))
part_below =
    below (λ e. nodes (typed_expr_view e)) (λ es. all_nodes (typed_exprs_of (map typed_expr_view es))) (λ e es. refl)

pub stmt_below : (ss : List StmtHeld) (i : ℕ) (s : StmtHeld) → i < length ss → s ≡ get_or ss i s
    → stmt_nodes (typed_stmt_view s) ≤ stmts_nodes (typed_stmts_of (map typed_stmt_view ss))
stmt_below =
    below (λ s. stmt_nodes (typed_stmt_view s)) (λ ss. stmts_nodes (typed_stmts_of (map typed_stmt_view ss)))
    (λ s ss. refl)

pub item_below : (is : List ItemHeld) (i : ℕ) (item : ItemHeld) → i < length is → item ≡ get_or is i item
    → item_nodes (item_view item) ≤ items_nodes (typed_items_of (map item_view is))
item_below =
    below (λ i. item_nodes (item_view i)) (λ is. items_nodes (typed_items_of (map item_view is))) (λ i is. refl)
