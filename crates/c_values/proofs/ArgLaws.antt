-- Arguments that are checked one behind another.
use Rattle.std.proofs.Common.{arith, ◌≡◌, refl, sym, ap, subst, ◌∙◌, ℕ, ◌+◌, ◌<◌, ◌≤◌, suc, zero, List, [], ◌∷◌, ◌++◌, length, map, drop, Option, Some}
use Rattle.std.specs.Prelude.{get_or}
use Rattle.std.proofs.Math.Nat.{le-max_left, le-max_right}
use Rattle.c_tree.specs.declared.expr.Base.{Base}
use Rattle.c_tree.specs.declared.expr.Expr.{Expr as Held}
use Rattle.c_tree.specs.declared.expr.ExprKind.TheVariants as kind
use Rattle.c_tree.specs.declared.expr.ExprKind.TheFolds.{fold-Expr, fold_out-Expr, fold-roll-ExprKind}
use Rattle.c_tree.specs.declared.expr.ExprKind.TheOpen.{ExprKind-F}
use Rattle.c_tree.specs.Expr.{Expr, Kind}
use Rattle.c_tree.specs.declared.typed_expr.Callee.{Callee}
use Rattle.c_tree.specs.TypedExpr.{TypedExpr, TypedKind, TypedExprs}
use Rattle.c_tree.specs.TypedParts.{base_of}
use Rattle.cov_base.specs.declared.refusal.Refusal.{Refusal}
use Rattle.c_typing.specs.declared.fault.TypeFault.{TypeFault}
use Rattle.c_typing.specs.declared.names.Meaning.{Meaning}
use Rattle.c_typing.specs.declared.names.Meaning.TheVariants as meant
use Rattle.c_tree.specs.TreeView.{kind_step, expr_step, kind_view, expr_view, exprs_of}
use Rattle.c_tree.specs.TypedView.{typed_exprs_of}
use Rattle.c_tree.specs.Levels.{levels, args_levels}
use Rattle.c_typing.specs.Names.{Scope}
use Rattle.c_typing.specs.TypedForms.{typed, typed_args, passed, called}
use Rattle.c_typing.specs.ExprFaults.{at, count, faults, value_faults, call_faults, args_faults, sides, sides_faults}
use Rattle.c_values.specs.Checks.{Stands, passed_first}
use Rattle.c_values.proofs.CheckLaws.{in_left}
use Rattle.c_values.proofs.ListLaws.{Walk, Left, Whole, faults_in, seen_in, refused_at}

one_view : (e : Held) → fold-Expr Kind Expr kind_step expr_step e ≡ expr_view e
one_view e = fold_out-Expr Kind Expr kind_step expr_step e

args_view : (es : List Held) → map (fold-Expr Kind Expr kind_step expr_step) es ≡ map expr_view es
args_view [] = refl
args_view (e ∷ es) =
    ap (λ x. x ∷ map (fold-Expr Kind Expr kind_step expr_step) es) (one_view e)
    ∙ ap (λ xs. expr_view e ∷ xs) (args_view es)

-- what the definitions see of a call
pub call_view : (name : List ℕ) (args : List Held) → kind_view (kind.Call name args)
    ≡ Kind.Call name (exprs_of (map expr_view args))
call_view name args =
    ap kind_view (sym (kind.rolls-Call name args))
    ∙ (fold-roll-ExprKind Kind Expr kind_step expr_step (ExprKind-F.Call name args)
    ∙ ap (λ es. Kind.Call name (exprs_of es)) (args_view args))

-- arguments for parameters of these types
abbrev pub arguments : List Scope → Walk Held TypedExpr (List Base)
arguments n = record {
  faults = λ ps e. value_faults n (expr_view e);
  seen = λ ps e. passed_first ps (typed n (expr_view e)) ∷ [];
  next = λ ps e. drop 1 ps;
}

pub faults_are : (n : List Scope) (ps : List Base) (es : List Held) → faults_in (arguments n) ps es
    ≡ args_faults n (exprs_of (map expr_view es))
faults_are n ps [] = refl
faults_are n ps (e ∷ es) = ap (λ fs. value_faults n (expr_view e) ++ fs) (faults_are n (drop 1 ps) es)

pub passed_are : (n : List Scope) (ps : List Base) (es : List Held) → typed_exprs_of (seen_in (arguments n) ps es)
    ≡ passed ps (typed_args n (exprs_of (map expr_view es)))
passed_are n [] [] = refl
passed_are n (p ∷ ps) [] = refl
passed_are n [] (e ∷ es) = ap (λ vs. TypedExprs.More (typed n (expr_view e)) vs) (passed_are n [] es)
passed_are n (p ∷ ps) (e ∷ es) =
    ap (λ vs. TypedExprs.More (passed_first (p ∷ ps) (typed n (expr_view e))) vs) (passed_are n ps es)

next_suc : (ps : List Base) (i : ℕ) → drop (suc i) ps ≡ drop 1 (drop i ps)
next_suc ps zero = refl
next_suc [] (suc i) = refl
next_suc (p ∷ ps) (suc i) = next_suc ps i

pub next_param : (ps : List Base) (i : ℕ) → drop (i + 1) ps ≡ drop 1 (drop i ps)
next_param ps i = (let e : suc i ≡ i + 1 = omega arith in subst (λ n. drop n ps ≡ drop 1 (drop i ps)) e (next_suc ps i))

pub counted : (es : List Held) → count (exprs_of (map expr_view es)) ≡ length es
counted [] = refl
counted (e ∷ es) = (let h = counted es in omega (arith, h))

-- an argument has no more levels than all of them
pub arg_levels : (es : List Held) (i : ℕ) (e : Held) → i < length es → e ≡ get_or es i e → levels (expr_view e)
    ≤ args_levels (exprs_of (map expr_view es))
arg_levels es i e lt is = rw is (at es i lt)
  where
    at : (es : List Held) (i : ℕ) → i < length es → levels (expr_view (get_or es i e))
        ≤ args_levels (exprs_of (map expr_view es))
    at [] i lt = absurd (omega (arith, lt))
    at (x ∷ es) zero lt = le-max_left (levels (expr_view x)) (args_levels (exprs_of (map expr_view es)))
    at (x ∷ es) (suc i) lt =
        (let a = at es i (omega (arith, lt)) in
        let b = le-max_right (levels (expr_view x)) (args_levels (exprs_of (map expr_view es))) in omega (arith, a, b))

-- a refusal of a call by its name or by the number of its arguments
pub refused_call : (n : List Scope) (m : Option Meaning) (args : List Held) (place : ℕ) (e : Refusal TypeFault)
    → Stands (call_faults m (length args) place) e
    → Stands (call_faults m (count (exprs_of (map expr_view args))) place ++ args_faults n (exprs_of (map expr_view args)))
    e
refused_call n m args place e h =
    in_left (call_faults m (count (exprs_of (map expr_view args))) place) (args_faults n (exprs_of (map expr_view args)))
    e (subst (λ k. Stands (call_faults m k place) e) (sym (counted args)) h)

-- a call without fault
pub call_made : (n : List Scope) (m : Option Meaning) (args : List Held) (made : TypedExprs) (f : Callee) (result : Base)
    (params : List Base) (place line : ℕ) → call_faults m (length args) place ≡ []
    → Some (meant.Function (Some f) result params) ≡ m → args_faults n (exprs_of (map expr_view args)) ≡ []
    → made ≡ passed params (typed_args n (exprs_of (map expr_view args)))
    → (call_faults m (count (exprs_of (map expr_view args))) place ++ args_faults n (exprs_of (map expr_view args)) ≡ [])
    × (TypedExpr.At (TypedKind.Call f made) result place line
    ≡ called m (typed_args n (exprs_of (map expr_view args))) place line)
call_made n m args made f result params place line named means fine is = (
  ap (λ k. call_faults m k place ++ args_faults n (exprs_of (map expr_view args))) (counted args)
      ∙ (ap (λ fs. fs ++ args_faults n (exprs_of (map expr_view args))) named ∙ fine),
  ap (λ xs. TypedExpr.At (TypedKind.Call f xs) result place line) is
      ∙ ap (λ m. called m (typed_args n (exprs_of (map expr_view args))) place line) means,
)

-- arguments without fault
pub all_passed : (n : List Scope) (ps here : List Base) (es : List Held) (done : List TypedExpr)
    → Whole (arguments n) [] ps es here done → (args_faults n (exprs_of (map expr_view es)) ≡ [])
    × (typed_exprs_of done ≡ passed ps (typed_args n (exprs_of (map expr_view es))))
all_passed n ps here es done whole =
    (sym (faults_are n ps es) ∙ whole.fine, ap typed_exprs_of whole.made ∙ passed_are n ps es)

-- a fault of an argument
pub refused_args : (n : List Scope) (ps here : List Base) (es : List Held) (i : ℕ) (x : Held) (done : List TypedExpr)
    (e : Refusal TypeFault) → i < length es → x ≡ get_or es i x → Left (arguments n) [] ps es here (drop i es) done
    → Stands (value_faults n (expr_view x)) e → Stands (args_faults n (exprs_of (map expr_view es))) e
refused_args n ps here es i x done e lt is left h =
    subst (λ fs. Stands fs e) (faults_are n ps es) (refused_at (arguments n) [] ps here es i x done e lt is left h)

-- the types of two operands of `?:` that don't fit each other
pub refused_sides : (n : List Scope) (x y : Expr) (first second : TypedExpr) (e : Refusal TypeFault)
    → (faults n x ≡ []) × (first ≡ typed n x) → (faults n y ≡ []) × (second ≡ typed n y)
    → Stands (sides [] (base_of first) (at x) [] (base_of second) (at y)) e → Stands (sides_faults n x y) e
refused_sides n x y first second e a b h =
    subst (λ fs. Stands (sides fs (base_of (typed n x)) (at x) (faults n y) (base_of (typed n y)) (at y)) e) (sym a.0)
    (subst (λ fs. Stands (sides [] (base_of (typed n x)) (at x) fs (base_of (typed n y)) (at y)) e) (sym b.0)
    (subst (λ t. Stands (sides [] (base_of t) (at x) [] (base_of (typed n y)) (at y)) e) a.1
    (subst (λ t. Stands (sides [] (base_of first) (at x) [] (base_of t) (at y)) e) b.1 h)))
