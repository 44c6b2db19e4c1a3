-- Constant expressions and their values (C17 6.6; what one is built of is told by the C profile).
use Rattle.std.specs.Prelude.{
  Bool,
  true,
  false,
  not,
  cond,
  ◌&&◌,
  ℤ,
  pos,
  negsuc,
  Option,
  Some,
  None,
  option_map,
  option_and_then,
  Ok,
  Err,
}
use Rattle.std.specs.Ordering.{int_eq}
use Rattle.int_ops.specs.declared.types.IntType.{IntType}
use Rattle.int_ops.specs.declared.operators.UnOp.TheVariants as sign
use Rattle.int_ops.specs.Conversion.{convert}
use Rattle.int_ops.specs.Apply.{Answer, binary, unary, truth}
use Rattle.c_tree.specs.declared.expr.Base.TheVariants as base
use Rattle.c_tree.specs.TypedExpr.{TypedExpr, TypedKind}
use Rattle.c_tree.specs.TypedParts.{base_of}
use Rattle.c_typing.specs.TypedForms.{number_type}

abbrev mutual
  -- the expression is built of literals, `EOF`, casts to integer types and the operators but assignment, steps, comma,
  -- calls and indexes
  -- (C17 6.6 paragraphs 3 and 6)
  pub is_constant : TypedExpr → Bool
  is_constant (TypedExpr.At kind b place line) = is_constant_kind kind

  -- its form is
  pub is_constant_kind : TypedKind → Bool
  is_constant_kind (TypedKind.Number n t) = true
  is_constant_kind TypedKind.EofName = true
  is_constant_kind (TypedKind.Convert e) = is_constant e
  is_constant_kind (TypedKind.Plus e) = is_constant e
  is_constant_kind (TypedKind.Minus e) = is_constant e
  is_constant_kind (TypedKind.Complement e) = is_constant e
  is_constant_kind (TypedKind.Not e) = is_constant e
  is_constant_kind (TypedKind.Cast (base.Int t) e) = is_constant e
  is_constant_kind (TypedKind.Binary o l r) = is_constant l && is_constant r
  is_constant_kind (TypedKind.AndAlso l r) = is_constant l && is_constant r
  is_constant_kind (TypedKind.OrElse l r) = is_constant l && is_constant r
  is_constant_kind (TypedKind.Choose c x y) = is_constant c && (is_constant x && is_constant y)
  is_constant_kind _ = false

-- the number, where there is no trap
abbrev pub untrapped : Answer → Option ℤ
untrapped (Ok n) = Some n
untrapped (Err trap) = None

-- the number is 0
abbrev pub is_zero : ℤ → Bool
is_zero n = int_eq n (pos 0)

-- 1 for a number that isn't 0, else 0 (C17 6.5.13 paragraph 3, 6.5.14 paragraph 3)
abbrev pub truth_of : ℤ → ℤ
truth_of n = truth (not (is_zero n))

abbrev mutual
  -- The value of a constant expression, or none where an operand traps that is evaluated (C17 6.6 paragraph 4, 6.5
  -- paragraph 5).
  pub worth : TypedExpr → Option ℤ
  worth (TypedExpr.At kind b place line) = worth_kind kind (number_type b)

  -- each form at its type
  pub worth_kind : TypedKind → IntType → Option ℤ
  worth_kind (TypedKind.Number n u) t = Some (convert u n)
  worth_kind TypedKind.EofName t = Some (negsuc 0)
  worth_kind (TypedKind.Convert e) t = option_map (convert t) (worth e)
  worth_kind (TypedKind.Plus e) t = worth e
  worth_kind (TypedKind.Minus e) t = option_and_then (λ a. untrapped (unary sign.Minus t a)) (worth e)
  worth_kind (TypedKind.Complement e) t = option_and_then (λ a. untrapped (unary sign.Complement t a)) (worth e)
  worth_kind (TypedKind.Not e) t = option_map (λ a. truth (is_zero a)) (worth e)
  worth_kind (TypedKind.Cast to e) t = option_map (convert t) (worth e)
  worth_kind (TypedKind.Binary o l r) t =
      option_and_then (λ a. option_and_then (λ b. untrapped (binary o (number_type (base_of l)) a b)) (worth r))
      (worth l)
  worth_kind (TypedKind.AndAlso l r) t =
      option_and_then (λ a. cond (is_zero a) (Some (pos 0)) (option_map truth_of (worth r))) (worth l)
  worth_kind (TypedKind.OrElse l r) t =
      option_and_then (λ a. cond (is_zero a) (option_map truth_of (worth r)) (Some (pos 1))) (worth l)
  worth_kind (TypedKind.Choose c x y) t =
      option_and_then (λ a. cond (is_zero a) (worth y) (worth x)) (worth c)
  worth_kind _ t = None

-- the value of an expression, where it is constant and doesn't trap
abbrev pub constant : TypedExpr → Option ℤ
constant e = cond (is_constant e) (worth e) None
