-- What the views of typed expressions are, form by form.
use Rattle.std.proofs.Common.{◌≡◌, ◌∙◌, refl, sym, ap, ℕ, ℤ, List, [], ◌∷◌, map}
use Rattle.int_ops.specs.declared.types.IntType.{IntType}
use Rattle.c_tree.specs.declared.typed_expr.CellAt.{CellAt}
use Rattle.c_tree.specs.declared.typed_expr.Callee.{Callee}
use Rattle.c_tree.specs.declared.typed_expr.TypedKind.{TypedKind as KindHeld}
use Rattle.c_tree.specs.declared.typed_expr.TypedKind.TheVariants as held
use Rattle.c_tree.specs.declared.typed_expr.TypedKind.TheOpen.{TypedKind-F}
use Rattle.c_tree.specs.declared.typed_expr.TypedKind.TheFolds.{fold-TypedExpr, fold-roll-TypedKind, fold_out-TypedExpr}
use Rattle.c_tree.specs.declared.typed_expr.TypedExpr.{TypedExpr as ExprHeld}
use Rattle.c_tree.specs.TypedExpr.{TypedExpr, TypedKind}
use Rattle.c_tree.specs.TypedView.{typed_kind_step, typed_expr_step, typed_kind_view, typed_expr_view, typed_exprs_of}

-- an expression whose form is known
pub form_is : (e : ExprHeld) (k : KindHeld) (v : TypedKind) → e.kind ≡ k → typed_kind_view k ≡ v
    → TypedExpr.At v e.base e.place e.line ≡ typed_expr_view e
form_is e k v h same =
    ap (λ (x : TypedKind). TypedExpr.At x e.base e.place e.line) (sym same)
    ∙ ap (λ (x : KindHeld). TypedExpr.At (typed_kind_view x) e.base e.place e.line) (sym h)

-- what the fold gives of an expression is its view
abbrev expr_fold : ExprHeld → TypedExpr
expr_fold = fold-TypedExpr TypedKind TypedExpr typed_kind_step typed_expr_step

is_fold : (e : ExprHeld) → expr_fold e ≡ typed_expr_view e
is_fold = fold_out-TypedExpr TypedKind TypedExpr typed_kind_step typed_expr_step

are_folds : (es : List ExprHeld) → map expr_fold es ≡ map typed_expr_view es
are_folds [] = refl
are_folds (e ∷ es) =
    ap (λ (x : TypedExpr). x ∷ map expr_fold es) (is_fold e)
    ∙ ap (λ (xs : List TypedExpr). typed_expr_view e ∷ xs) (are_folds es)

pub number_view : (n : ℤ) (t : IntType) → typed_kind_view (held.Number n t) ≡ TypedKind.Number n t
number_view n t =
    ap typed_kind_view (sym (held.rolls-Number n t))
    ∙ fold-roll-TypedKind TypedKind TypedExpr typed_kind_step typed_expr_step (TypedKind-F.Number n t)

pub index_view : (c : CellAt) (n p l : ℕ) (e part : ExprHeld) → part ≡ e
    → typed_kind_view (held.Index c n p l e) ≡ TypedKind.Index c n p l (typed_expr_view part)
index_view c n p l e part same =
    ap typed_kind_view (sym (held.rolls-Index c n p l e))
    ∙ fold-roll-TypedKind TypedKind TypedExpr typed_kind_step typed_expr_step (TypedKind-F.Index c n p l e)
    ∙ ap (TypedKind.Index c n p l) (is_fold e)
    ∙ ap (λ (x : ExprHeld). TypedKind.Index c n p l (typed_expr_view x)) (sym same)

pub call_view : (f : Callee) (es parts : List ExprHeld) → parts ≡ es
    → typed_kind_view (held.Call f es) ≡ TypedKind.Call f (typed_exprs_of (map typed_expr_view parts))
call_view f es parts same =
    ap typed_kind_view (sym (held.rolls-Call f es))
    ∙ fold-roll-TypedKind TypedKind TypedExpr typed_kind_step typed_expr_step (TypedKind-F.Call f es)
    ∙ ap (λ (xs : List TypedExpr). TypedKind.Call f (typed_exprs_of xs)) (are_folds es)
    ∙ ap (λ (xs : List ExprHeld). TypedKind.Call f (typed_exprs_of (map typed_expr_view xs))) (sym same)
